-- From reading to the answers.
use Rattle.std.proofs.Common.{◌≡◌, ℕ, suc, ◌+◌, ◌-◌, ◌≤◌, ◌<◌, Bool, true, false, eqb, ltb, leb, List, Result, Ok, Err, refl, sym, ap, ◌∙◌, subst, arith}
use Rattle.std.proofs.lemmas.Bool.{eqb-true}
use Rattle.jr_base.specs.declared.refusal.Refusal.{Refusal}
use Rattle.jr_base.specs.declared.refusal.Refusal.TheVariants as refusal
use Rattle.jr_lexer.specs.Token.{Token}
use Rattle.jr_ast.specs.Expressions.{Expr}
use Rattle.jr_reading.specs.Seen.{seen}
use Rattle.jr_reading.specs.Limits.{nesting_limit}
use Rattle.jr_expr_parser.specs.Operators.{reach}
use Rattle.jr_expr_parser.specs.Nesting.{nesting}
use Rattle.jr_expr_parser.specs.Grammar.{Stands}
use Rattle.jr_base.specs.declared.refusal.Fail.{Fail}
use Rattle.jr_base.specs.declared.refusal.Fail.TheVariants.{Memory, Refused}
use Rattle.jr_expr_parser.specs.Answers.{Refuses, Fits, OneTree}
use Rattle.jr_reading.specs.Outcomes.{Outcome}
use Rattle.jr_expr_parser.specs.Reader.{standing}
use Rattle.jr_expr_parser.specs.declared.read.Read.{Read}
use Rattle.jr_expr_parser.specs.Nests.{Reads, Fitting, view_read}
use Rattle.jr_expr_parser.specs.Reader as r
use Rattle.jr_expr_parser.proofs.Tokens.{advances}
use Rattle.jr_expr_parser.proofs.Agrees.{Agrees, on, if_true, comes_to, opens}
use Rattle.jr_expr_parser.proofs.Causes.{Good, Cause, Spelt, then, if_good, refused}
use Rattle.jr_expr_parser.proofs.Sound.{read_good}
use Rattle.jr_expr_parser.proofs.Complete.{found, complete, follows_end, stopped, trailed}

module _ (jml : Bool) (ts : List Token) where
  pub record Stood (room l i : ℕ) (x : Expr × ℕ) : Type 0 where
    pub stands : Stands jml ts l i x.0 x.1
    pub shallow : nesting x.0 < room

  standing_good : (room l i : ℕ) → l ≤ 16 → Good jml ts (Stood (suc room) l i) (suc room) i (standing jml ts (suc room) l i)
  unfolding standing
  standing_good room l i low =
      then jml ts (Spelt jml ts (suc room) 2 l i) (Stood (suc room) l i) (suc room) i _ _ (read_good jml ts room 2 l i low)
      (λ x s. let f = advances jml ts s.0 in
      if_good jml ts (Stood (suc room) l i) (suc room) i (ltb (reach (seen jml ts x.1)) l) _ _
      (λ h. let ends : reach (seen jml ts x.1) < l = grind arith in record { stands = record { spelled = s.0; ends = ends }; shallow = s.1 })
      (λ h. refused jml ts (suc room) i x.1 (omega arith)))

  standing_agrees : (room l i j : ℕ) (a : Expr) → l ≤ 16 → Stands jml ts l i a j → Agrees room (nesting a) (standing jml ts room l i) (a, j)
  unfolding standing
  standing_agrees room l i j a low s =
      let ends = s.ends in
      let yes : ltb (reach (seen jml ts j)) l ≡ true = grind arith in
      on room room (nesting a) (nesting a) _ (a, j) _ _ (λ z. z) (complete jml ts s.spelled low ends room) (if_true _ _ _ _ _ _ yes refl)

  -- what is known of an outcome that is known
  good_at : (room l i : ℕ) (o : Outcome Expr) → l ≤ 16 → standing jml ts (suc room) l i ≡ o → Good jml ts (Stood (suc room) l i) (suc room) i o
  good_at room l i o low e = subst (λ (o : Outcome Expr). Good jml ts (Stood (suc room) l i) (suc room) i o) e (standing_good room l i low)

  agrees_at : (room l i j : ℕ) (a : Expr) (o : Outcome Expr) → l ≤ 16 → standing jml ts room l i ≡ o → Stands jml ts l i a j → Agrees room (nesting a) o (a, j)
  agrees_at room l i j a o low e s = subst (λ (o : Outcome Expr). Agrees room (nesting a) o (a, j)) e (standing_agrees room l i j a low s)

  room_of : (depth : ℕ) (l i : ℕ) (o : Outcome Expr) → standing jml ts (nesting_limit - depth + 1) l i ≡ o → standing jml ts (suc (nesting_limit - depth)) l i ≡ o
  room_of depth l i o e = let n : suc (nesting_limit - depth) ≡ nesting_limit - depth + 1 = omega arith in ap (λ n. standing jml ts n l i) n ∙ e

  pub fits : (l i depth : ℕ) (x : Expr × ℕ) → l ≤ 16 → depth ≤ nesting_limit → standing jml ts (nesting_limit - depth + 1) l i ≡ Ok x → Fits jml ts l i depth x.0 x.1
  fits l i depth x low le e =
      let h = good_at (nesting_limit - depth) l i (Ok x) low (room_of depth l i (Ok x) e) in
      let s = h.shallow in
      record { stands = h.stands; shallow = omega arith }

  pub refuses : (l i depth : ℕ) (f : Refusal) → l ≤ 16 → depth ≤ nesting_limit → standing jml ts (nesting_limit - depth + 1) l i ≡ Err f → Refuses jml ts l i depth f
  refuses l i depth f low le e = go f (good_at (nesting_limit - depth) l i (Err f) low (room_of depth l i (Err f) e)) (λ a j s. agrees_at (nesting_limit - depth + 1) l i j a (Err f) low e s)
    where
      go : (f : Refusal) → Cause jml ts (suc (nesting_limit - depth)) i f → ((a : Expr) (j : ℕ) → Stands jml ts l i a j → Agrees {A = Expr × ℕ} (nesting_limit - depth + 1) (nesting a) (Err f) (a, j)) → Refuses jml ts l i depth f
      go (refusal.Syntax s) h agrees = agrees
      go (refusal.NotInProfile s) h agrees = (agrees, h)
      go (refusal.BigLiteral s) h agrees = (agrees, h)
      go (refusal.TooDeep s) h agrees = ((λ a j x fit. let y = agrees a j x in absurd (omega arith)), omega arith)
      go _ h agrees = absurd h

  -- ---- one tree

  same : (c m n : ℕ) (o : Outcome Expr) (x y : Expr × ℕ) → m < c → n < c → Agrees c m o x → Agrees c n o y → x ≡ y
  same c m n (Ok z) x y low high p q = sym p ∙ q
  same c m n (Err (refusal.TooDeep s)) x y low high p q = absurd (omega arith)
  same c m n (Err _) x y low high p q = absurd p

  primary_agrees : (c l i j : ℕ) (a : Expr) → l ≡ 18 → Stands jml ts l i a j → Agrees (suc c) (nesting a) (r.suffixed jml ts c (r.nested jml ts c) 2 i) (a, j)
  primary_agrees c l i j a at s =
      let ends = s.ends in
      let low : reach (seen jml ts j) < 18 = omega arith in
      let t = (found jml ts s.spelled c).trails at (follows_end jml ts j low) in
      comes_to (suc c) (nesting a) _ _ (a, j) t.2 (trailed jml ts c 2 t.0 j a low)

  postfix_agrees : (c l i j : ℕ) (a : Expr) → l ≡ 17 → Stands jml ts l i a j → Agrees (suc c) (nesting a) (r.postfixed jml ts c (r.nested jml ts c) 2 i) (a, j)
  postfix_agrees c l i j a at s =
      let ends = s.ends in
      let low : reach (seen jml ts j) < 17 = omega arith in
      let t = (found jml ts s.spelled c).posts at (omega arith) in
      comes_to (suc c) (nesting a) _ _ (a, j) t.2 (stopped jml ts c t.0 i j a low)

  one_pair : (l i j m : ℕ) (a b : Expr) → Stands jml ts l i a j → Stands jml ts l i b m → ◌≡◌ {A = Expr × ℕ} (a, j) (b, m)
  one_pair l i j m a b s t = go (leb l 16) (eqb l 17) refl refl
    where
      c : ℕ
      c = nesting a + nesting b

      go : (x y : Bool) → leb l 16 ≡ x → eqb l 17 ≡ y → ◌≡◌ {A = Expr × ℕ} (a, j) (b, m)
      go true y h v =
          let low : l ≤ 16 = grind arith in
          same (suc c) (nesting a) (nesting b) _ (a, j) (b, m) (omega arith) (omega arith) (standing_agrees (suc c) l i j a low s) (standing_agrees (suc c) l i m b low t)
      go false true h v =
          let at = eqb-true l 17 v in
          same (suc c) (nesting a) (nesting b) _ (a, j) (b, m) (omega arith) (omega arith) (postfix_agrees c l i j a at s) (postfix_agrees c l i m b at t)
      go false false h v =
          let high : 16 < l = grind arith in
          let other : l ≡ 17 → ⊥ = λ z. let w : eqb l 17 ≡ true = rw z refl in let x : true ≡ false = sym w ∙ v in absurd cc in
          let top = (opens jml ts s.spelled).top in
          let at : l ≡ 18 = omega arith in
          same (suc c) (nesting a) (nesting b) _ (a, j) (b, m) (omega arith) (omega arith) (primary_agrees c l i j a at s) (primary_agrees c l i m b at t)

-- ---- what is answered

pub reads_fit : (jml : Bool) (ts : List Token) (l i depth : ℕ) (r : Result (Read × ℕ) Fail) → l ≤ 16 → depth ≤ nesting_limit → Reads (standing jml ts (nesting_limit - depth + 1) l i) r → Fitting jml ts l i depth r
reads_fit jml ts l i depth (Ok x) low le e = fits jml ts l i depth (view_read x.0, x.1) low le e
reads_fit jml ts l i depth (Err Memory) low le e = tt
reads_fit jml ts l i depth (Err (Refused f)) low le e = refuses jml ts l i depth f low le e

pub one_tree : OneTree
one_tree jml ts l i j m a b s t =
    let e = one_pair jml ts l i j m a b s t in
    (ap (λ (x : Expr × ℕ). x.0) e, ap (λ (x : Expr × ℕ). x.1) e)
