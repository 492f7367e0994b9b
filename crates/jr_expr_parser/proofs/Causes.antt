-- What is known of an outcome of reading an expression: what was read is right, and each refusal has its cause.
use Rattle.std.proofs.Common.{◌≡◌, ℕ, suc, ◌+◌, ◌-◌, ◌≤◌, ◌<◌, Bool, true, false, cond, eqb, leb, List, length, Option, Some, None, Result, Ok, Err, refl, sym, ap, ◌∙◌, subst, inl, inr, ◌⊎◌, arith}
use Rattle.std.proofs.lemmas.Bool.{eqb-true}
use Rattle.std.proofs.lemmas.Bool.Decides.{Decides-eqb}
use Rattle.jr_base.specs.declared.number.Span.{Span}
use Rattle.jr_base.specs.declared.refusal.Refusal.{Refusal}
use Rattle.jr_base.specs.declared.refusal.Refusal.TheVariants as refusal
use Rattle.jr_lexer.specs.declared.kind.Kind.{Kind}
use Rattle.jr_lexer.specs.declared.kind.Kind.TheVariants as k
use Rattle.jr_lexer.specs.Token.{Token}
use Rattle.jr_lexer.specs.Reading.{value_at, big_at}
use Rattle.jr_ast.specs.Expressions.{Expr}
use Rattle.jr_expr_parser.specs.declared.operators.Grouping.TheVariants.{Assigns, Chooses, Implies, Once, ToTheLeft}
use Rattle.jr_reading.specs.Seen.{seen}
use Rattle.jr_expr_parser.specs.Operators.{extends, grouping_of}
use Rattle.jr_expr_parser.specs.Nesting.{nesting}
use Rattle.jr_expr_parser.specs.Grammar.{Spells}
use Rattle.jr_reading.specs.LeftOut.{LeftOut}
use Rattle.jr_reading.specs.Outcomes.{Outcome, ◌>>=◌, one_or}
use Rattle.jr_reading.specs.Steps.{same_kind}
use Rattle.jr_reading.specs.Steps as steps
use Rattle.jr_reading.proofs.Told.{Told, told_then, told_to, told_if, told_option, told_expect, refused_at}
use Rattle.jr_reading.proofs.Tokens.{is_same}
use Rattle.jr_expr_parser.specs.BigLiteral.{Unnegated, BigLiteralFrom, frees, is_head}
use Rattle.jr_expr_parser.specs.Reader.{fits, of_level}
use Rattle.jr_expr_parser.specs.Reader as r
use Rattle.jr_expr_parser.proofs.Free.{frees_not, no_head}
use Rattle.jr_expr_parser.proofs.Tokens.{advances}

pub either : (b : Bool) (P : Type 0) → (b ≡ true → P) → (b ≡ false → P) → P
either true P f g = f refl
either false P f g = g refl

module _ (jml : Bool) (ts : List Token) where
  -- nothing at index j is the operand of a unary `-`, nor does a head stand before it, as far as one knows who
  -- reads from i on
  abbrev pub Free : ℕ → ℕ → Type 0
  Free i j = (is_head (seen jml ts (i - 1)) ≡ false → Unnegated jml ts j) × (is_head (seen jml ts (j - 1)) ≡ false)

  -- why a reader refuses that begins at index i, with as many constructs open as leave n - 1
  abbrev pub Cause : ℕ → ℕ → Refusal → Type 0
  Cause n i (refusal.Syntax s) = Unit {0}
  Cause n i (refusal.NotInProfile s) = LeftOut ts i s
  Cause n i (refusal.BigLiteral s) = BigLiteralFrom jml ts i s
  Cause n i (refusal.TooDeep s) = n + i ≤ length ts
  Cause n i _ = ⊥

  -- an outcome that is as P says, or a refusal with its cause
  abbrev pub Good : {A : Type 0} → (A → Type 0) → ℕ → ℕ → Result A Refusal → Type 0
  Good P n i o = Told (Cause n i) P o

  pub left_out_later : (i j : ℕ) (s : Span) → i ≤ j → LeftOut ts j s → LeftOut ts i s
  left_out_later i j s le h = record { at = h.at; behind = omega arith; span = h.span; word = h.word }

  literal_later : (i j : ℕ) (s : Span) → i ≤ j → Free i j → BigLiteralFrom jml ts j s → BigLiteralFrom jml ts i s
  literal_later i j s le free h = record { at = h.at; behind = omega arith; span = h.span; literal = h.literal; number = h.number; before = inr (λ out. go out h.before) }
    where
      go : is_head (seen jml ts (i - 1)) ≡ false → (h.at ≡ j) ⊎ (is_head (seen jml ts (j - 1)) ≡ false → Unnegated jml ts h.at) → Unnegated jml ts h.at
      go out (inl e) = subst (Unnegated jml ts) (sym e) (free.0 out)
      go out (inr f) = f free.1

  later : (m n i j : ℕ) (f : Refusal) → i ≤ j → n + i ≤ m + j → Free i j → Cause m j f → Cause n i f
  later m n i j (refusal.Syntax s) le room free h = tt
  later m n i j (refusal.NotInProfile s) le room free h = left_out_later i j s le h
  later m n i j (refusal.BigLiteral s) le room free h = literal_later i j s le free h
  later m n i j (refusal.TooDeep s) le room free h = omega arith
  later m n i j _ le room free h = absurd h

  pub moved : {A : Type 0} (P : A → Type 0) (m n i j : ℕ) (o : Result A Refusal) → i ≤ j → n + i ≤ m + j → Free i j → Good P m j o → Good P n i o
  moved P m n i j (Ok x) le room free h = h
  moved P m n i j (Err f) le room free h = later m n i j f le room free h

  pub then : {A B : Type 0} (P : A → Type 0) (Q : B → Type 0) (n i : ℕ) (o : Result A Refusal) (f : A → Result B Refusal) → Good P n i o → ((x : A) → P x → Good Q n i (f x)) → Good Q n i (o >>= f)
  then P Q n i o f h go = told_then (Cause n i) P Q o f h go

  pub weaker : {A : Type 0} (P Q : A → Type 0) (n i : ℕ) (o : Result A Refusal) → ((x : A) → P x → Q x) → Good P n i o → Good Q n i o
  weaker P Q n i o f h = told_to (Cause n i) P Q o f h

  pub if_good : {A : Type 0} (P : A → Type 0) (n i : ℕ) (b : Bool) (o p : Result A Refusal) → (b ≡ true → Good P n i o) → (b ≡ false → Good P n i p) → Good P n i (cond b o p)
  if_good P n i b o p f h = told_if (Cause n i) P b o p f h

  pub option_good : {A B : Type 0} (P : B → Type 0) (n i : ℕ) (x : Option A) (o : Result B Refusal) (f : A → Result B Refusal) → (x ≡ None → Good P n i o) → ((y : A) → x ≡ Some y → Good P n i (f y)) → Good P n i (one_or x o f)
  option_good P n i x o f h go = told_option (Cause n i) P x o f h go

  pub refused : (n i j : ℕ) → i ≤ j → Cause n i (steps.refusal_at ts j)
  refused n i j le = refused_at (Cause n i) ts j (λ s. tt) (λ m on h. record { at = m; behind = omega arith; span = refl; word = inl h })

  -- ---- tokens

  pub expect_good : (n i j : ℕ) (a : Kind) → i ≤ j → Good (λ u. seen jml ts j ≡ a) n i (steps.expect jml ts j a)
  expect_good n i j a le = told_expect (Cause n i) jml ts j a (refused n i j le)

  pub free_at : (i p j : ℕ) → frees (seen jml ts p) ≡ true → j ≡ p + 1 → Free i j
  free_at i p j h at =
      let e : p ≡ j - 1 = omega arith in
      (λ out. inl (λ m. frees_not (seen jml ts p) h (ap (seen jml ts) e ∙ m)), subst (λ (p : ℕ). is_head (seen jml ts p) ≡ false) e (no_head (seen jml ts p) h))

  -- behind a token that is no `-` and no head
  pub free_behind : (i p j : ℕ) (a : Kind) → seen jml ts p ≡ a → frees a ≡ true → j ≡ p + 1 → Free i j
  free_behind i p j a h other at = free_at i p j (ap frees h ∙ other) at

  -- ---- nodes within the room

  abbrev pub Spelt : ℕ → ℕ → ℕ → ℕ → Expr × ℕ → Type 0
  Spelt n q l i x = Spells jml ts q l i x.0 x.1 × (nesting x.0 < n)

  fits_by : (room q l i j : ℕ) (s : Span) (a : Expr) (b : Bool) → leb (nesting a) room ≡ b → Spells jml ts q l i a j → Good (Spelt (suc room) q l i) (suc room) i (cond b (Ok a) (Err (refusal.TooDeep s)) >>= λ a. Ok (a, j))
  fits_by room q l i j s a true h x = (x, grind arith)
  fits_by room q l i j s a false h x = let f = advances jml ts x in let low : room < nesting a = grind arith in omega arith

  pub fits_good : (room q l i j : ℕ) (s : Span) (a : Expr) → Spells jml ts q l i a j → Good (Spelt (suc room) q l i) (suc room) i (fits room s a >>= λ a. Ok (a, j))
  unfolding fits
  fits_good room q l i j s a x = fits_by room q l i j s a (leb (nesting a) room) refl x

  fits_as : (room q l i j : ℕ) (s : Span) (a : Expr) (b : Bool) → leb (nesting a) room ≡ b → Spells jml ts q l i a j → Good (λ (x : Expr). (x ≡ a) × (nesting a < suc room)) (suc room) i (cond b (Ok a) (Err (refusal.TooDeep s)))
  fits_as room q l i j s a true h x = (refl, grind arith)
  fits_as room q l i j s a false h x = let f = advances jml ts x in let low : room < nesting a = grind arith in omega arith

  -- for what goes on from the node
  pub fits_is : (room q l i j : ℕ) (s : Span) (a : Expr) → Spells jml ts q l i a j → Good (λ (x : Expr). (x ≡ a) × (nesting a < suc room)) (suc room) i (fits room s a)
  unfolding fits
  fits_is room q l i j s a x = fits_as room q l i j s a (leb (nesting a) room) refl x

  -- ---- what reads what stands inside one construct

  abbrev pub Below : ℕ → (ℕ → ℕ → ℕ → Outcome Expr) → Type 0
  Below room nest = (q l i : ℕ) → l ≤ 16 → i ≤ length ts → Good (Spelt room q l i) room i (nest q l i)

  -- ---- `-` and a big literal, and the levels of the groupings of one level

  pub is_least_by : (i : ℕ) → seen jml ts i ≡ k.Minus → seen jml ts (i + 1) ≡ k.Integer → extends jml (seen jml ts (i + 2)) ≡ false → value_at ts (i + 1) ≡ big_at ts (i + 1) → r.is_least jml ts i ≡ true
  unfolding r.is_least steps.sees
  is_least_by i m n x v = rw (is_same (seen jml ts i) k.Minus m, is_same (seen jml ts (i + 1)) k.Integer n, x, (Decides-eqb (value_at ts (i + 1)) (big_at ts (i + 1))).1 v) refl

  pub level_of_assigns : (l : ℕ) → grouping_of l ≡ Assigns → l ≡ 1
  unfolding grouping_of
  level_of_assigns l h = go (eqb l 1) (eqb l 2) (eqb l 4) (eqb l 12) refl h
    where
      go : (a b c d : Bool) → eqb l 1 ≡ a → cond a Assigns (cond b Chooses (cond c Implies (cond d Once ToTheLeft))) ≡ Assigns → l ≡ 1
      go true b c d h e = eqb-true l 1 h
      go false true c d h e = absurd cc
      go false false true d h e = absurd cc
      go false false false true h e = absurd cc
      go false false false false h e = absurd cc

  pub level_of_chooses : (l : ℕ) → grouping_of l ≡ Chooses → l ≡ 2
  unfolding grouping_of
  level_of_chooses l h = go (eqb l 1) (eqb l 2) (eqb l 4) (eqb l 12) refl h
    where
      go : (a b c d : Bool) → eqb l 2 ≡ b → cond a Assigns (cond b Chooses (cond c Implies (cond d Once ToTheLeft))) ≡ Chooses → l ≡ 2
      go true b c d h e = absurd cc
      go false true c d h e = eqb-true l 2 h
      go false false true d h e = absurd cc
      go false false false true h e = absurd cc
      go false false false false h e = absurd cc

  pub level_of_implies : (l : ℕ) → grouping_of l ≡ Implies → l ≡ 4
  unfolding grouping_of
  level_of_implies l h = go (eqb l 1) (eqb l 2) (eqb l 4) (eqb l 12) refl h
    where
      go : (a b c d : Bool) → eqb l 4 ≡ c → cond a Assigns (cond b Chooses (cond c Implies (cond d Once ToTheLeft))) ≡ Implies → l ≡ 4
      go true b c d h e = absurd cc
      go false true c d h e = absurd cc
      go false false true d h e = eqb-true l 4 h
      go false false false true h e = absurd cc
      go false false false false h e = absurd cc
