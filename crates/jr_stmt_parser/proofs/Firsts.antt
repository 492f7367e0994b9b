-- What expressions begin with.
use Rattle.std.proofs.Common.{◌≡◌, ℕ, ◌+◌, Bool, true, false, List, Option, Some, None, refl, sym, ap, ◌∙◌, arith}
use Rattle.jr_lexer.specs.declared.kind.Kind.{Kind}
use Rattle.jr_lexer.specs.declared.kind.Kind.TheVariants as k
use Rattle.jr_lexer.specs.Token.{Token}
use Rattle.jr_ast.specs.declared.operator.Prefix.{Prefix}
use Rattle.jr_ast.specs.Expressions.{Expr}
use Rattle.jr_reading.specs.Seen.{seen}
use Rattle.jr_expr_parser.specs.Operators.{prefix_of, infix_of, postfix_of, assignment_of, reach}
use Rattle.jr_expr_parser.specs.Grammar.{Spells, Stands}
use Rattle.jr_expr_parser.specs.Grammar as g
use Rattle.jr_stmt_parser.proofs.Given.{one_tree}

-- the kinds that an expression of code begins with
abbrev pub starts : Kind → Bool
starts k.Null = true
starts k.True = true
starts k.False = true
starts k.Integer = true
starts k.This = true
starts k.Name = true
starts k.OpenParen = true
starts k.New = true
starts k.Minus = true
starts k.Plus = true
starts k.Not = true
starts k.Tilde = true
starts k.PlusPlus = true
starts k.MinusMinus = true
starts _ = false

prefix_starts : (a : Kind) (op : Prefix) → prefix_of false a ≡ Some op → starts a ≡ true
prefix_starts k.Minus op e = refl
prefix_starts k.Plus op e = refl
prefix_starts k.Not op e = refl
prefix_starts k.Tilde op e = refl
prefix_starts k.PlusPlus op e = refl
prefix_starts k.MinusMinus op e = refl
prefix_starts _ op e = absurd cc

module _ (ts : List Token) where
  kind : (i : ℕ) {a : Kind} → seen false ts i ≡ a → starts a ≡ true → starts (seen false ts i) ≡ true
  kind i h s = ap starts h ∙ s

  pub begins : {q l i j : ℕ} {a : Expr} → Spells false ts q l i a j → starts (seen false ts i) ≡ true
  begins (g.null h) = kind _ h refl
  begins (g.truth h) = kind _ h refl
  begins (g.falsity h) = kind _ h refl
  begins (g.integer h n) = kind _ h refl
  begins (g.this h) = kind _ h refl
  begins (g.variable h) = kind _ h refl
  begins (g.class_literal h d c) = kind _ h refl
  begins (g.bracketed h x z) = kind _ h refl
  begins (g.called e h o x) = kind _ h refl
  begins (g.new_object e h n o x) = kind _ h refl
  begins (g.new_array e h t o x z) = kind _ h refl
  begins (g.result e h) = absurd cc
  begins (g.old e h o x z) = absurd cc
  begins (g.lockset_has e h d n t o x z) = absurd cc
  begins (g.in_lockset e h o x z) = absurd cc
  begins (g.quantified e h q t n z x b m y a o w c v u s p r) = absurd cc
  begins (g.field x d n) = begins x
  begins (g.invoked e x d n o y) = begins x
  begins (g.indexed x n o y z) = begins x
  begins (g.with_postfix x h) = begins x
  begins (g.with_prefix {i = i} {op = op} h x) = prefix_starts (seen false ts i) op h
  begins (g.least_integer h n e) = kind _ h refl
  begins (g.to_the_left e x h y) = begins x
  begins (g.once e x h y) = begins x
  begins (g.implied x n h y m) = begins x
  begins (g.chosen x h y c z) = begins x
  begins (g.assigned x h y) = begins x
  begins (g.tighter x) = begins x

  -- an expression does not begin with a token of another kind
  pub begins_not : {q l i j : ℕ} {a : Expr} {b : Kind} → Spells false ts q l i a j → seen false ts i ≡ b → starts b ≡ false → ⊥
  begins_not x h e = let y : true ≡ false = sym (begins x) ∙ (ap starts h ∙ e) in absurd cc

  -- a name before which nothing goes on is an expression of its own
  pub alone : {i j : ℕ} {a : Expr} → seen false ts i ≡ k.Name → reach (seen false ts (i + 1)) ≡ 0 → Stands false ts 1 i a j → j ≡ i + 1
  alone {i = i} {j = j} {a = a} n r s = (one_tree false ts 1 i j (i + 1) a _ s (record { spelled = up 17 (g.variable n); ends = omega (arith, r) })).1
    where
      up : (m : ℕ) {e : Expr} {o : ℕ} → Spells false ts 2 18 i e o → Spells false ts 2 1 i e o
      up m x = g.tighter (g.tighter (g.tighter (g.tighter (g.tighter (g.tighter (g.tighter (g.tighter (g.tighter (g.tighter (g.tighter (g.tighter (g.tighter (g.tighter (g.tighter (g.tighter (g.tighter x))))))))))))))))

  -- of `Name [ ]` no more than the name is an expression
  module _ (i : ℕ) (n : seen false ts i ≡ k.Name) (o : seen false ts (i + 1) ≡ k.OpenBracket) (z : seen false ts (i + 2) ≡ k.CloseBracket) where
    none_at : {A : Type 0} (f : Kind → Option A) (op : A) {j : ℕ} → j ≡ i + 1 → f (seen false ts j) ≡ Some op → f k.OpenBracket ≡ None → ⊥
    none_at f op e h none = let x : None ≡ Some op = sym none ∙ (sym (ap f (ap (seen false ts) e ∙ o)) ∙ h) in absurd cc

    not_at : {a : Kind} {j : ℕ} → j ≡ i + 1 → seen false ts j ≡ a → (k.OpenBracket ≡ a → ⊥) → ⊥
    not_at e h other = other (sym o ∙ (sym (ap (seen false ts) e) ∙ h))

    first_not : {a : Kind} → seen false ts i ≡ a → (k.Name ≡ a → ⊥) → ⊥
    first_not h other = other (sym n ∙ h)

    pub array_type : {q l h j : ℕ} {a : Expr} → Spells false ts q l h a j → h ≡ i → j ≡ i + 1
    array_type (g.null h) e = absurd (first_not (ap (seen false ts) (sym e) ∙ h) (λ e. cc))
    array_type (g.truth h) e = absurd (first_not (ap (seen false ts) (sym e) ∙ h) (λ e. cc))
    array_type (g.falsity h) e = absurd (first_not (ap (seen false ts) (sym e) ∙ h) (λ e. cc))
    array_type (g.integer h m) e = absurd (first_not (ap (seen false ts) (sym e) ∙ h) (λ e. cc))
    array_type (g.this h) e = absurd (first_not (ap (seen false ts) (sym e) ∙ h) (λ e. cc))
    array_type (g.variable h) e = omega arith
    array_type (g.class_literal {i = p} h d c) e = let x : p + 1 ≡ i + 1 = omega arith in absurd (not_at x d (λ e. cc))
    array_type (g.bracketed h x c) e = absurd (first_not (ap (seen false ts) (sym e) ∙ h) (λ e. cc))
    array_type (g.called {i = p} f h b x) e = let y : p + 1 ≡ i + 1 = omega arith in absurd (not_at y b (λ e. cc))
    array_type (g.new_object f h m b x) e = absurd (first_not (ap (seen false ts) (sym e) ∙ h) (λ e. cc))
    array_type (g.new_array f h t b x c) e = absurd (first_not (ap (seen false ts) (sym e) ∙ h) (λ e. cc))
    array_type (g.result f h) e = absurd cc
    array_type (g.old f h b x c) e = absurd cc
    array_type (g.lockset_has f h d m t b x c) e = absurd cc
    array_type (g.in_lockset f h b x c) e = absurd cc
    array_type (g.quantified f h q t m b x c y d a b' w c' v u s p r) e = absurd cc
    array_type (g.field x d m) e = absurd (not_at (array_type x e) d (λ e. cc))
    array_type (g.invoked f x d m b y) e = absurd (not_at (array_type x e) d (λ e. cc))
    array_type (g.indexed {j = j} x m b y c) e = let f = array_type x e in let f' : j + 1 ≡ i + 2 = omega arith in absurd (begins_not y (ap (seen false ts) f' ∙ z) refl)
    array_type (g.with_postfix {op = op} x h) e = absurd (none_at (postfix_of false) op (array_type x e) h refl)
    array_type (g.with_prefix {i = p} {op = op} h x) e = let y : None ≡ Some op = sym (ap (prefix_of false) (ap (seen false ts) e ∙ n)) ∙ h in absurd cc
    array_type (g.least_integer h m f) e = absurd (first_not (ap (seen false ts) (sym e) ∙ h) (λ e. cc))
    array_type (g.to_the_left {l = l} {op = op} f x h y) e = absurd (none_at (infix_of false) (l, op) (array_type x e) h refl)
    array_type (g.once {l = l} {op = op} f x h y) e = absurd (none_at (infix_of false) (l, op) (array_type x e) h refl)
    array_type (g.implied {op = op} x m h y m') e = absurd (none_at (infix_of false) (4, op) (array_type x e) h refl)
    array_type (g.chosen x h y c w) e = absurd (not_at (array_type x e) h (λ e. cc))
    array_type (g.assigned {op = op} x h y) e = absurd (none_at (assignment_of false) op (array_type x e) h refl)
    array_type (g.tighter x) e = array_type x e
