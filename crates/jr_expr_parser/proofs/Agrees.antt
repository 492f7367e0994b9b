-- What reading gives where the tokens spell something: that, or that it is too deep.
use Rattle.std.proofs.Common.{◌≡◌, ℕ, suc, ◌≤◌, ◌<◌, Bool, true, false, cond, eqb, leb, List, Option, Some, None, Result, Ok, Err, refl, sym, ap, ◌∙◌, subst, inl, inr, ◌⊎◌, arith}
use Rattle.std.proofs.lemmas.Bool.{eqb-true}
use Rattle.jr_base.specs.declared.number.Span.{Span}
use Rattle.jr_base.specs.declared.refusal.Refusal.{Refusal}
use Rattle.jr_base.specs.declared.refusal.Refusal.TheVariants.{TooDeep}
use Rattle.jr_lexer.specs.declared.kind.Kind.{Kind}
use Rattle.jr_lexer.specs.declared.kind.Kind.TheVariants as k
use Rattle.jr_lexer.specs.Token.{Token}
use Rattle.jr_lexer.specs.Reading.{value_at, big_at}
use Rattle.jr_ast.specs.declared.operator.Prefix.{Prefix}
use Rattle.jr_ast.specs.declared.operator.Postfix.{Postfix}
use Rattle.jr_ast.specs.declared.operator.Infix.{Infix}
use Rattle.jr_ast.specs.declared.operator.AssignOp.{AssignOp}
use Rattle.jr_ast.specs.Expressions.{Expr}
use Rattle.jr_reading.specs.Seen.{seen}
use Rattle.jr_expr_parser.specs.Operators.{prefix_of, postfix_of, infix_of, assignment_of, quantifier_of, reach}
use Rattle.jr_expr_parser.specs.Nesting.{nesting}
use Rattle.jr_expr_parser.specs.Grammar.{Spells}
use Rattle.jr_expr_parser.specs.Grammar as g
use Rattle.jr_reading.specs.Outcomes.{◌>>=◌, one_or}
use Rattle.jr_reading.specs.Steps.{same_kind}
use Rattle.jr_expr_parser.specs.Reader.{fits, of_level}
use Rattle.jr_expr_parser.specs.Reader as r
use Rattle.jr_reading.proofs.Tokens.{is_same}

-- n is the nesting of what is spelled, and less than c nests what is read
abbrev pub Agrees : {A : Type 0} → ℕ → ℕ → Result A Refusal → A → Type 0
Agrees c n (Ok x) y = x ≡ y
Agrees c n (Err (TooDeep s)) y = c ≤ n
Agrees c n (Err _) y = ⊥

pub agrees_as : {A : Type 0} (c n : ℕ) (o p : Result A Refusal) (y : A) → o ≡ p → Agrees c n p y → Agrees c n o y
agrees_as c n o p y e h = subst (λ t. Agrees c n t y) (sym e) h

pub agrees_ok : {A : Type 0} (c n : ℕ) (o : Result A Refusal) (y : A) → o ≡ Ok y → Agrees c n o y
agrees_ok c n o y e = agrees_as c n o (Ok y) y e refl

pub agrees_to : {A : Type 0} (c n : ℕ) (o : Result A Refusal) (x y : A) → x ≡ y → Agrees c n o x → Agrees c n o y
agrees_to c n o x y e h = subst (λ t. Agrees c n o t) e h

-- a bind over what is read, which may nest less
pub on : {A B : Type 0} (b c m n : ℕ) (o : Result A Refusal) (x : A) (f : A → Result B Refusal) (y : B) → (b ≤ m → c ≤ n) → Agrees b m o x → Agrees c n (f x) y → Agrees c n (o >>= f) y
on b c m n (Ok z) x f y le h go = subst (λ t. Agrees c n (f t) y) (sym h) go
on b c m n (Err (TooDeep s)) x f y le h go = le h
on b c m n (Err _) x f y le h go = absurd h

pub on_ok : {A B : Type 0} (c n : ℕ) (o : Result A Refusal) (x : A) (f : A → Result B Refusal) (y : B) → o ≡ Ok x → Agrees c n (f x) y → Agrees c n (o >>= f) y
on_ok c n o x f y e go = agrees_as c n (o >>= f) (f x) y (ap (λ o. o >>= f) e) go

pub if_true : {A : Type 0} (c n : ℕ) (b : Bool) (o p : Result A Refusal) (y : A) → b ≡ true → Agrees c n o y → Agrees c n (cond b o p) y
if_true c n true o p y e h = h
if_true c n false o p y e h = absurd cc

pub if_false : {A : Type 0} (c n : ℕ) (b : Bool) (o p : Result A Refusal) (y : A) → b ≡ false → Agrees c n p y → Agrees c n (cond b o p) y
if_false c n true o p y e h = absurd cc
if_false c n false o p y e h = h

pub or_some : {A B : Type 0} (c n : ℕ) (x : Option A) (z : A) (o : Result B Refusal) (f : A → Result B Refusal) (y : B) → x ≡ Some z → Agrees c n (f z) y → Agrees c n (one_or x o f) y
or_some c n x z o f y e h = agrees_as c n (one_or x o f) (f z) y (ap (λ x. one_or x o f) e) h

pub or_none : {A B : Type 0} (c n : ℕ) (x : Option A) (o : Result B Refusal) (f : A → Result B Refusal) (y : B) → x ≡ None → Agrees c n o y → Agrees c n (one_or x o f) y
or_none c n x o f y e h = agrees_as c n (one_or x o f) o y (ap (λ x. one_or x o f) e) h

pub more : {A : Type 0} (b c m n : ℕ) (o : Result A Refusal) (y : A) → (b ≤ m → c ≤ n) → Agrees b m o y → Agrees c n o y
more b c m n (Ok z) y le h = h
more b c m n (Err (TooDeep s)) y le h = le h
more b c m n (Err _) y le h = h

fits_by : (c : ℕ) (s : Span) (a : Expr) (b : Bool) → leb (nesting a) c ≡ b → Agrees (suc c) (nesting a) (cond b (Ok a) (Err (TooDeep s))) a
fits_by c s a true h = refl
fits_by c s a false h = grind arith

pub fits_agrees : (c : ℕ) (s : Span) (a : Expr) → Agrees (suc c) (nesting a) (fits c s a) a
unfolding fits
fits_agrees c s a = fits_by c s a (leb (nesting a) c) refl

-- the same up to an outcome that is still to be found
abbrev pub Comes : {A : Type 0} → ℕ → ℕ → Result A Refusal → Result A Refusal → Type 0
Comes c n o p = ((c ≤ n) × (s : Span) × (o ≡ Err (TooDeep s))) ⊎ (o ≡ p)

pub comes_then : {A B : Type 0} (b c m n : ℕ) (o : Result A Refusal) (x : A) (f : A → Result B Refusal) → (b ≤ m → c ≤ n) → Agrees b m o x → Comes c n (o >>= f) (f x)
comes_then b c m n (Ok z) x f le h = inr (ap f h)
comes_then b c m n (Err (TooDeep s)) x f le h = inl (le h, s, refl)
comes_then b c m n (Err _) x f le h = absurd h

pub comes_on : {A : Type 0} (c m n : ℕ) (o p q : Result A Refusal) → m ≤ n → Comes c m o p → Comes c n p q → Comes c n o q
comes_on c m n o p q le (inl a) b = inl (omega (arith, a.0), a.1, a.2)
comes_on c m n o p q le (inr e) (inl b) = inl (b.0, b.1, e ∙ b.2)
comes_on c m n o p q le (inr e) (inr f) = inr (e ∙ f)

pub comes_to : {A : Type 0} (c n : ℕ) (o p : Result A Refusal) (y : A) → Comes c n o p → p ≡ Ok y → Agrees c n o y
comes_to c n o p y (inl a) e = agrees_as c n o (Err (TooDeep a.1)) y a.2 a.0
comes_to c n o p y (inr f) e = agrees_ok c n o y (f ∙ e)

pub comes_as : {A : Type 0} (c n : ℕ) (o p q : Result A Refusal) → o ≡ p → Comes c n p q → Comes c n o q
comes_as c n o p q e h = subst (λ t. Comes c n t q) (sym e) h

-- ---- the levels of tokens

some_is : {A : Type 0} (x y : A) → Some x ≡ Some y → x ≡ y
some_is x y e = cc

at_level : (m : ℕ) (op : Infix) (p : ℕ × Infix) → m ≤ 15 → Some (m, op) ≡ Some p → (m ≡ p.0) × (p.0 ≤ 15)
at_level m op p le e = let same : (m, op) ≡ p = some_is (m, op) p e in let z : m ≡ p.0 = ap (λ (x : ℕ × Infix). x.0) same in (z, omega arith)

pub infix_reach : (jml : Bool) (a : Kind) (p : ℕ × Infix) → infix_of jml a ≡ Some p → (reach a ≡ p.0) × (p.0 ≤ 15)
infix_reach true k.Equivalent p e = at_level 3 _ p (omega arith) e
infix_reach true k.NotEquivalent p e = at_level 3 _ p (omega arith) e
infix_reach true k.Implies p e = at_level 4 _ p (omega arith) e
infix_reach true k.ImpliedBy p e = at_level 5 _ p (omega arith) e
infix_reach false k.Equivalent p e = absurd cc
infix_reach false k.NotEquivalent p e = absurd cc
infix_reach false k.Implies p e = absurd cc
infix_reach false k.ImpliedBy p e = absurd cc
infix_reach jml k.OrOr p e = at_level 6 _ p (omega arith) e
infix_reach jml k.AndAnd p e = at_level 7 _ p (omega arith) e
infix_reach jml k.Or p e = at_level 8 _ p (omega arith) e
infix_reach jml k.Caret p e = at_level 9 _ p (omega arith) e
infix_reach jml k.And p e = at_level 10 _ p (omega arith) e
infix_reach jml k.EqualEqual p e = at_level 11 _ p (omega arith) e
infix_reach jml k.NotEqual p e = at_level 11 _ p (omega arith) e
infix_reach jml k.Less p e = at_level 12 _ p (omega arith) e
infix_reach jml k.LessEqual p e = at_level 12 _ p (omega arith) e
infix_reach jml k.Greater p e = at_level 12 _ p (omega arith) e
infix_reach jml k.GreaterEqual p e = at_level 12 _ p (omega arith) e
infix_reach jml k.ShiftLeft p e = at_level 13 _ p (omega arith) e
infix_reach jml k.ShiftRight p e = at_level 13 _ p (omega arith) e
infix_reach jml k.ShiftRightUnsigned p e = at_level 13 _ p (omega arith) e
infix_reach jml k.Plus p e = at_level 14 _ p (omega arith) e
infix_reach jml k.Minus p e = at_level 14 _ p (omega arith) e
infix_reach jml k.Star p e = at_level 15 _ p (omega arith) e
infix_reach jml k.Slash p e = at_level 15 _ p (omega arith) e
infix_reach jml k.Percent p e = at_level 15 _ p (omega arith) e
infix_reach jml _ p e = absurd cc

pub postfix_reach : (jml : Bool) (a : Kind) (op : Postfix) → postfix_of jml a ≡ Some op → reach a ≡ 17
postfix_reach jml k.PlusPlus op e = refl
postfix_reach jml k.MinusMinus op e = refl
postfix_reach jml _ op e = absurd cc

pub assignment_reach : (jml : Bool) (a : Kind) (op : AssignOp) → assignment_of jml a ≡ Some op → reach a ≡ 1
assignment_reach jml k.Equal op e = refl
assignment_reach jml k.PlusEqual op e = refl
assignment_reach jml k.MinusEqual op e = refl
assignment_reach jml k.StarEqual op e = refl
assignment_reach jml k.SlashEqual op e = refl
assignment_reach jml k.PercentEqual op e = refl
assignment_reach jml k.AndEqual op e = refl
assignment_reach jml k.OrEqual op e = refl
assignment_reach jml k.CaretEqual op e = refl
assignment_reach jml k.ShiftLeftEqual op e = refl
assignment_reach jml k.ShiftRightEqual op e = refl
assignment_reach jml k.ShiftRightUnsignedEqual op e = refl
assignment_reach jml _ op e = absurd cc

none_unless : {A : Type 0} (o : Option A) → ((x : A) → o ≡ Some x → ⊥) → o ≡ None
none_unless None f = refl
none_unless (Some x) f = absurd (f x refl)

level_none : (l : ℕ) (o : Option (ℕ × Infix)) → ((p : ℕ × Infix) → o ≡ Some p → p.0 < l) → of_level l o ≡ None
level_none l None f = refl
level_none l (Some p) f = go (eqb p.0 l) refl
  where
    go : (b : Bool) → eqb p.0 l ≡ b → cond b (Some p.1) None ≡ None
    go true e = absurd (omega (arith, f p refl, eqb-true p.0 l e))
    go false e = refl

eqb_self : (n : ℕ) → eqb n n ≡ true
eqb_self n = grind arith

-- the kinds of the tokens that begin an expression
abbrev pub starts : Kind → Bool
starts k.Null = true
starts k.True = true
starts k.False = true
starts k.Integer = true
starts k.This = true
starts k.Name = true
starts k.OpenParen = true
starts k.New = true
starts k.BackslashResult = true
starts k.BackslashOld = true
starts k.BackslashLockset = true
starts k.Minus = true
starts k.Plus = true
starts k.Not = true
starts k.Tilde = true
starts k.PlusPlus = true
starts k.MinusMinus = true
starts _ = false

pub starts_no_quantifier : (a : Kind) → starts a ≡ true → quantifier_of a ≡ None
starts_no_quantifier k.BackslashForall e = absurd cc
starts_no_quantifier k.BackslashExists e = absurd cc
starts_no_quantifier _ e = refl

prefix_starts : (jml : Bool) (a : Kind) (op : Prefix) → prefix_of jml a ≡ Some op → starts a ≡ true
prefix_starts jml k.Minus op e = refl
prefix_starts jml k.Plus op e = refl
prefix_starts jml k.Not op e = refl
prefix_starts jml k.Tilde op e = refl
prefix_starts jml k.PlusPlus op e = refl
prefix_starts jml k.MinusMinus op e = refl
prefix_starts jml _ op e = absurd cc

module _ (jml : Bool) (ts : List Token) where
  pub no_operator : (l j : ℕ) → reach (seen jml ts j) < l → r.operator jml ts l j ≡ None
  unfolding r.operator
  no_operator l j ends = level_none l (infix_of jml (seen jml ts j)) (λ p e. let h = infix_reach jml (seen jml ts j) p e in omega arith)

  pub an_operator : (l : ℕ) (op : Infix) (j : ℕ) → infix_of jml (seen jml ts j) ≡ Some (l, op) → r.operator jml ts l j ≡ Some op
  unfolding r.operator
  an_operator l op j h = ap (of_level l) h ∙ rw (eqb_self l) refl

  pub no_postfix : (j : ℕ) → reach (seen jml ts j) < 17 → r.postfix jml ts j ≡ None
  unfolding r.postfix
  no_postfix j ends = none_unless (postfix_of jml (seen jml ts j)) (λ op e. let h = postfix_reach jml (seen jml ts j) op e in absurd (omega arith))

  pub no_assignment : (j : ℕ) → reach (seen jml ts j) < 1 → r.assignment jml ts j ≡ None
  unfolding r.assignment
  no_assignment j ends = none_unless (assignment_of jml (seen jml ts j)) (λ op e. let h = assignment_reach jml (seen jml ts j) op e in absurd (omega arith))

  pub reach_is : (j : ℕ) (a : Kind) → seen jml ts j ≡ a → reach (seen jml ts j) ≡ reach a
  reach_is j a e = ap reach e

  goes_not_by : (x : Kind) (a : Expr) (j : ℕ) → reach x < 18 → r.goes_on_by jml ts x a j ≡ false
  goes_not_by k.Dot a j ends = absurd (omega arith)
  goes_not_by k.OpenBracket a j ends = absurd (omega arith)
  goes_not_by _ a j ends = refl

  pub goes_not : (a : Expr) (j : ℕ) → reach (seen jml ts j) < 18 → r.goes_on jml ts a j ≡ false
  unfolding r.goes_on
  goes_not a j ends = goes_not_by (seen jml ts j) a j ends

  -- ---- how expressions begin

  pub record Opens (l i : ℕ) : Type 0 where
    pub top : l ≤ 18
    pub start : starts (seen jml ts i) ≡ true
    pub small : seen jml ts i ≡ k.Integer → value_at ts i ≡ big_at ts i → ⊥
    pub bare : 17 ≤ l → prefix_of jml (seen jml ts i) ≡ None

  by_kind : (i : ℕ) (a : Kind) → seen jml ts i ≡ a → starts a ≡ true → same_kind a k.Integer ≡ false → prefix_of jml a ≡ None → Opens 18 i
  by_kind i a h s other p = record {
    top = omega arith;
    start = ap starts h ∙ s;
    small = λ e v. let x : true ≡ false = sym (is_same a k.Integer (sym h ∙ e)) ∙ other in absurd cc;
    bare = λ le. ap (prefix_of jml) h ∙ p;
  }

  by_prefix : (i : ℕ) (op : Prefix) → prefix_of jml (seen jml ts i) ≡ Some op → Opens 16 i
  by_prefix i op h = record {
    top = omega arith;
    start = prefix_starts jml (seen jml ts i) op h;
    small = λ e v. let x : None ≡ Some op = ap (prefix_of jml) (sym e) ∙ h in absurd cc;
    bare = λ le. absurd (omega arith);
  }

  lower : (l m i : ℕ) → m ≤ l → Opens l i → Opens m i
  lower l m i le o = record { top = omega (arith, o.top); start = o.start; small = o.small; bare = λ high. o.bare (omega arith) }

  pub opens : {q l i j : ℕ} {a : Expr} → Spells jml ts q l i a j → Opens l i
  unfolding same_kind
  opens (g.null {i = i} h) = by_kind i k.Null h refl refl refl
  opens (g.truth {i = i} h) = by_kind i k.True h refl refl refl
  opens (g.falsity {i = i} h) = by_kind i k.False h refl refl refl
  opens (g.integer {i = i} h n) = record { top = omega arith; start = ap starts h; small = λ e v. absurd (omega arith); bare = λ le. ap (prefix_of jml) h }
  opens (g.this {i = i} h) = by_kind i k.This h refl refl refl
  opens (g.variable {i = i} h) = by_kind i k.Name h refl refl refl
  opens (g.class_literal {i = i} h d c) = by_kind i k.Name h refl refl refl
  opens (g.bracketed {i = i} h x c) = by_kind i k.OpenParen h refl refl refl
  opens (g.called {i = i} m h o x) = by_kind i k.Name h refl refl refl
  opens (g.new_object {i = i} m h n o x) = by_kind i k.New h refl refl refl
  opens (g.new_array {i = i} m h n o x c) = by_kind i k.New h refl refl refl
  opens (g.result {i = i} m h) = by_kind i k.BackslashResult h refl refl refl
  opens (g.old {i = i} m h o x c) = by_kind i k.BackslashOld h refl refl refl
  opens (g.lockset_has {i = i} m h d n w o x c) = by_kind i k.BackslashLockset h refl refl refl
  opens (g.in_lockset {i = i} m h o x c) = by_kind i k.BackslashLockset h refl refl refl
  opens (g.quantified {i = i} m h qu ty x s low lb x1 e1 aa x2 e2 hb high es s2 body c) = by_kind i k.OpenParen h refl refl refl
  opens (g.field x d n) = opens x
  opens (g.invoked m x d n o y) = opens x
  opens (g.indexed x f o y c) = opens x
  opens (g.with_postfix x h) = opens x
  opens (g.with_prefix {i = i} {op = op} h x) = by_prefix i op h
  opens (g.least_integer {i = i} h n v) = by_prefix i _ (ap (prefix_of jml) h)
  opens (g.to_the_left gr x h y) = opens x
  opens (g.once {l = l} {i = i} gr x h y) = lower (suc l) l i (omega arith) (opens x)
  opens (g.implied {i = i} x f h y f2) = lower 5 4 i (omega arith) (opens x)
  opens (g.chosen {i = i} x h y c z) = lower 3 2 i (omega arith) (opens x)
  opens (g.assigned {i = i} x h y) = lower 2 1 i (omega arith) (opens x)
  opens (g.tighter {l = l} {i = i} x) = lower (suc l) l i (omega arith) (opens x)
