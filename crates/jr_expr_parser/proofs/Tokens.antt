-- What the kinds of tokens tell, and how far what is spelled reaches.
use Rattle.std.proofs.Common.{◌≡◌, ℕ, suc, ◌+◌, ◌≤◌, ◌<◌, Bool, List, length, Some, None, refl, sym, ap, ◌∙◌, arith}
use Rattle.jr_lexer.specs.declared.kind.Kind.TheVariants as k
use Rattle.jr_lexer.specs.Token.{Token}
use Rattle.jr_ast.specs.declared.operator.Prefix.{Prefix}
use Rattle.jr_ast.specs.declared.operator.Postfix.{Postfix}
use Rattle.jr_ast.specs.declared.operator.Infix.{Infix}
use Rattle.jr_ast.specs.declared.operator.AssignOp.{AssignOp}
use Rattle.jr_ast.specs.declared.expr.Bound.{Bound}
use Rattle.jr_ast.specs.Expressions.{Expr, exprs}
use Rattle.jr_reading.specs.Seen.{seen}
use Rattle.jr_expr_parser.specs.Operators.{prefix_of, postfix_of, infix_of, assignment_of, bound_of}
use Rattle.jr_expr_parser.specs.Nesting.{nesting, nesting_in}
use Rattle.jr_expr_parser.specs.Grammar.{Spells, Arguments, Listed, Conjuncts}
use Rattle.jr_expr_parser.specs.Grammar as g
use Rattle.jr_reading.specs.Steps.{same_kind}
use Rattle.jr_reading.proofs.Tokens.{seen_taken, taken}

module _ (jml : Bool) (ts : List Token) where
  pub prefix_taken : (i : ℕ) (op : Prefix) → prefix_of jml (seen jml ts i) ≡ Some op → i < length ts
  prefix_taken i op h = seen_taken jml ts i (λ e. let x : None ≡ Some op = ap (prefix_of jml) (sym e) ∙ h in absurd cc)

  pub postfix_taken : (i : ℕ) (op : Postfix) → postfix_of jml (seen jml ts i) ≡ Some op → i < length ts
  postfix_taken i op h = seen_taken jml ts i (λ e. let x : None ≡ Some op = ap (postfix_of jml) (sym e) ∙ h in absurd cc)

  pub infix_taken : (i : ℕ) (p : ℕ × Infix) → infix_of jml (seen jml ts i) ≡ Some p → i < length ts
  infix_taken i p h = seen_taken jml ts i (λ e. let x : None ≡ Some p = ap (infix_of jml) (sym e) ∙ h in absurd cc)

  pub assignment_taken : (i : ℕ) (op : AssignOp) → assignment_of jml (seen jml ts i) ≡ Some op → i < length ts
  assignment_taken i op h = seen_taken jml ts i (λ e. let x : None ≡ Some op = ap (assignment_of jml) (sym e) ∙ h in absurd cc)

  pub bound_taken : (i : ℕ) (b : Bound) → bound_of (seen jml ts i) ≡ Some b → i < length ts
  bound_taken i b h = seen_taken jml ts i (λ e. let x : None ≡ Some b = ap bound_of (sym e) ∙ h in absurd cc)

  -- ---- an expression takes a token more than it nests, and ends within the list

  abbrev Far : ℕ → ℕ → ℕ → Type 0
  Far i n j = (i + suc n ≤ j) × (j ≤ length ts)

  mutual
    unfolding same_kind

    pub advances : {q l i j : ℕ} {a : Expr} → Spells jml ts q l i a j → Far i (nesting a) j
    advances (g.null {i = i} h) = let t = taken jml ts i k.Null h refl in (omega arith, omega arith)
    advances (g.truth {i = i} h) = let t = taken jml ts i k.True h refl in (omega arith, omega arith)
    advances (g.falsity {i = i} h) = let t = taken jml ts i k.False h refl in (omega arith, omega arith)
    advances (g.integer {i = i} h n) = let t = taken jml ts i k.Integer h refl in (omega arith, omega arith)
    advances (g.this {i = i} h) = let t = taken jml ts i k.This h refl in (omega arith, omega arith)
    advances (g.variable {i = i} h) = let t = taken jml ts i k.Name h refl in (omega arith, omega arith)
    advances (g.class_literal {i = i} h d c) = let t = taken jml ts (i + 2) k.Class c refl in (omega arith, omega arith)
    advances (g.bracketed {j = j} h x c) = let a = advances x in let t = taken jml ts j k.CloseParen c refl in (omega arith, omega arith)
    advances (g.called m h o x) = let a = advances_arguments x in (omega arith, omega arith)
    advances (g.new_object m h n o x) = let a = advances_arguments x in (omega arith, omega arith)
    advances (g.new_array {j = j} m h n o x c) = let a = advances x in let t = taken jml ts j k.CloseBracket c refl in (omega arith, omega arith)
    advances (g.result {i = i} m h) = let t = taken jml ts i k.BackslashResult h refl in (omega arith, omega arith)
    advances (g.old {j = j} m h o x c) = let a = advances x in let t = taken jml ts j k.CloseParen c refl in (omega arith, omega arith)
    advances (g.lockset_has {j = j} m h d n w o x c) = let a = advances x in let t = taken jml ts j k.CloseParen c refl in (omega arith, omega arith)
    advances (g.in_lockset {j = j} m h o x c) = let a = advances x in let t = taken jml ts j k.CloseBracket c refl in (omega arith, omega arith)
    advances (g.quantified {o = o} m h qu ty x s low lb x1 e1 aa x2 e2 hb high es s2 body c) =
        let a = advances low in let b = advances high in let d = advances_conjuncts es in let f = advances body in
        let t = taken jml ts o k.CloseParen c refl in (omega arith, omega arith)
    advances (g.field {j = j} x d n) = let a = advances x in let t = taken jml ts (j + 1) k.Name n refl in (omega arith, omega arith)
    advances (g.invoked m x d n o y) = let a = advances x in let b = advances_arguments y in (omega arith, omega arith)
    advances (g.indexed {m = m} x f o y c) = let a = advances x in let b = advances y in let t = taken jml ts m k.CloseBracket c refl in (omega arith, omega arith)
    advances (g.with_postfix {j = j} {op = op} x h) = let a = advances x in let t = postfix_taken j op h in (omega arith, omega arith)
    advances (g.with_prefix h x) = let a = advances x in (omega arith, omega arith)
    advances (g.least_integer {i = i} h n v) = let t = taken jml ts (i + 1) k.Integer n refl in (omega arith, omega arith)
    advances (g.to_the_left gr x h y) = let a = advances x in let b = advances y in (omega arith, omega arith)
    advances (g.once gr x h y) = let a = advances x in let b = advances y in (omega arith, omega arith)
    advances (g.implied x f h y f2) = let a = advances x in let b = advances y in (omega arith, omega arith)
    advances (g.chosen x h y c z) = let a = advances x in let b = advances y in let d = advances z in (omega arith, omega arith)
    advances (g.assigned x h y) = let a = advances x in let b = advances y in (omega arith, omega arith)
    advances (g.tighter x) = advances x

    pub advances_arguments : {q i j : ℕ} {es : List Expr} → Arguments jml ts q i es j → Far i (nesting_in (exprs es)) j
    advances_arguments (g.none {i = i} h) = let t = taken jml ts i k.CloseParen h refl in (omega arith, omega arith)
    advances_arguments (g.some {j = j} x h) = let a = advances_listed x in let t = taken jml ts j k.CloseParen h refl in (omega arith, omega arith)

    pub advances_listed : {q i j : ℕ} {es : List Expr} → Listed jml ts q i es j → (i + nesting_in (exprs es) ≤ j) × (i < j) × (j ≤ length ts)
    advances_listed (g.last x) = let a = advances x in (omega arith, omega arith, omega arith)
    advances_listed (g.more x h y) = let a = advances x in let b = advances_listed y in (omega arith, omega arith, omega arith)

    pub advances_conjuncts : {q i j : ℕ} {es : List Expr} → Conjuncts jml ts q i es j → (i + nesting_in (exprs es) ≤ j) × (i ≤ j)
    advances_conjuncts g.no_more = (omega arith, omega arith)
    advances_conjuncts (g.one_more h x y) = let a = advances x in let b = advances_conjuncts y in (omega arith, omega arith)
