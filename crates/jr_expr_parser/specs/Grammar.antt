-- What an expression is (JLS 15; JML Reference Manual, "Expressions"): one case a production. The levels
-- are those of `Operators`. The place of an expression is that of its first token.
use Rattle.std.specs.Prelude.{◌≡◌, ◌<◌, ℕ, suc, ◌+◌, Bool, true, false, List, [], ◌∷◌, Some, codes}
use Rattle.jr_lexer.specs.declared.kind.Kind.TheVariants as k
use Rattle.jr_lexer.specs.Token.{Token}
use Rattle.jr_lexer.specs.Reading.{text_at, value_at, big_at, span_at}
use Rattle.jr_ast.specs.declared.name.ElementType.{ElementType}
use Rattle.jr_ast.specs.declared.operator.Prefix.{Prefix}
use Rattle.jr_ast.specs.declared.operator.Prefix.TheVariants.{Negate}
use Rattle.jr_ast.specs.declared.operator.Postfix.{Postfix}
use Rattle.jr_ast.specs.declared.operator.Infix.{Infix}
use Rattle.jr_ast.specs.declared.operator.AssignOp.{AssignOp}
use Rattle.jr_ast.specs.declared.expr.Bound.{Bound}
use Rattle.jr_ast.specs.declared.expr.Quantifier.{Quantifier}
use Rattle.jr_ast.specs.Expressions.{Expr, exprs}
use Rattle.jr_ast.specs.Expressions as e
use Rattle.jr_expr_parser.specs.declared.operators.Grouping.TheVariants.{Once, ToTheLeft}
use Rattle.jr_reading.specs.Seen.{seen, name_at, literal_at}
use Rattle.jr_reading.specs.Types.{element_of}
use Rattle.jr_expr_parser.specs.Operators.{prefix_of, postfix_of, infix_of, assignment_of, bound_of, quantifier_of, reach, grouping_of}
use Rattle.jr_expr_parser.specs.Nesting.{is_new_array, is_implied_by}

-- Spells jml ts q l i e j: the tokens from index i up to index j spell e at level l, in a clause where jml
-- is true, with quantifiers nested at most q deep.
mutual
  pub data Spells (jml : Bool) (ts : List Token) : ℕ → ℕ → ℕ → Expr → ℕ → Type 0 where
    -- primaries
    null : {q i : ℕ} → seen jml ts i ≡ k.Null → Spells jml ts q 18 i (e.Null (span_at ts i)) (i + 1)
    truth : {q i : ℕ} → seen jml ts i ≡ k.True → Spells jml ts q 18 i (e.Boolean (span_at ts i) true) (i + 1)
    falsity : {q i : ℕ} → seen jml ts i ≡ k.False → Spells jml ts q 18 i (e.Boolean (span_at ts i) false) (i + 1)
    integer : {q i : ℕ} → seen jml ts i ≡ k.Integer → value_at ts i < big_at ts i → Spells jml ts q 18 i (e.Integer (span_at ts i) (literal_at ts i)) (i + 1)
    this : {q i : ℕ} → seen jml ts i ≡ k.This → Spells jml ts q 18 i (e.This (span_at ts i)) (i + 1)
    variable : {q i : ℕ} → seen jml ts i ≡ k.Name → Spells jml ts q 18 i (e.SimpleName (span_at ts i) (name_at ts i)) (i + 1)
    class_literal : {q i : ℕ} → seen jml ts i ≡ k.Name → seen jml ts (i + 1) ≡ k.Dot → seen jml ts (i + 2) ≡ k.Class → Spells jml ts q 18 i (e.ClassLiteral (span_at ts i) (name_at ts i)) (i + 3)
    bracketed : {q i j : ℕ} {a : Expr} → seen jml ts i ≡ k.OpenParen → Spells jml ts q 1 (i + 1) a j → seen jml ts j ≡ k.CloseParen → Spells jml ts q 18 i (e.Brackets (span_at ts i) a) (j + 1)
    -- primaries of code alone
    called : {q i j : ℕ} {es : List Expr} → jml ≡ false → seen jml ts i ≡ k.Name → seen jml ts (i + 1) ≡ k.OpenParen → Arguments jml ts q (i + 2) es j → Spells jml ts q 18 i (e.Call (span_at ts i) (name_at ts i) (exprs es)) j
    new_object : {q i j : ℕ} {es : List Expr} → jml ≡ false → seen jml ts i ≡ k.New → seen jml ts (i + 1) ≡ k.Name → seen jml ts (i + 2) ≡ k.OpenParen → Arguments jml ts q (i + 3) es j → Spells jml ts q 18 i (e.NewObject (span_at ts i) (name_at ts (i + 1)) (exprs es)) j
    new_array : {q i j : ℕ} {t : ElementType} {a : Expr} → jml ≡ false → seen jml ts i ≡ k.New → element_of (seen jml ts (i + 1)) (name_at ts (i + 1)) ≡ Some t → seen jml ts (i + 2) ≡ k.OpenBracket → Spells jml ts q 1 (i + 3) a j → seen jml ts j ≡ k.CloseBracket → Spells jml ts q 18 i (e.NewArray (span_at ts i) t a) (j + 1)
    -- primaries of clauses alone
    result : {q i : ℕ} → jml ≡ true → seen jml ts i ≡ k.BackslashResult → Spells jml ts q 18 i (e.MethodResult (span_at ts i)) (i + 1)
    old : {q i j : ℕ} {a : Expr} → jml ≡ true → seen jml ts i ≡ k.BackslashOld → seen jml ts (i + 1) ≡ k.OpenParen → Spells jml ts q 1 (i + 2) a j → seen jml ts j ≡ k.CloseParen → Spells jml ts q 18 i (e.Old (span_at ts i) a) (j + 1)
    lockset_has : {q i j : ℕ} {a : Expr} → jml ≡ true → seen jml ts i ≡ k.BackslashLockset → seen jml ts (i + 1) ≡ k.Dot → seen jml ts (i + 2) ≡ k.Name → text_at ts (i + 2) ≡ codes "has" → seen jml ts (i + 3) ≡ k.OpenParen → Spells jml ts q 1 (i + 4) a j → seen jml ts j ≡ k.CloseParen → Spells jml ts q 18 i (e.InLockset (span_at ts i) a) (j + 1)
    in_lockset : {q i j : ℕ} {a : Expr} → jml ≡ true → seen jml ts i ≡ k.BackslashLockset → seen jml ts (i + 1) ≡ k.OpenBracket → Spells jml ts q 1 (i + 2) a j → seen jml ts j ≡ k.CloseBracket → Spells jml ts q 18 i (e.InLockset (span_at ts i) a) (j + 1)
    -- ( quantifier int x ; low < x && x < high && .. ; body )
    quantified : {q i j m n o : ℕ} {quantifier : Quantifier} {low_bound high_bound : Bound} {low high body : Expr} {es : List Expr}
        → jml ≡ true
        → seen jml ts i ≡ k.OpenParen → quantifier_of (seen jml ts (i + 1)) ≡ Some quantifier
        → seen jml ts (i + 2) ≡ k.Int → seen jml ts (i + 3) ≡ k.Name → seen jml ts (i + 4) ≡ k.Semicolon
        → Spells jml ts q 13 (i + 5) low j → bound_of (seen jml ts j) ≡ Some low_bound
        → seen jml ts (j + 1) ≡ k.Name → text_at ts (j + 1) ≡ text_at ts (i + 3) → seen jml ts (j + 2) ≡ k.AndAnd
        → seen jml ts (j + 3) ≡ k.Name → text_at ts (j + 3) ≡ text_at ts (i + 3)
        → bound_of (seen jml ts (j + 4)) ≡ Some high_bound → Spells jml ts q 13 (j + 5) high m
        → Conjuncts jml ts q m es n → seen jml ts n ≡ k.Semicolon
        → Spells jml ts q 1 (n + 1) body o → seen jml ts o ≡ k.CloseParen
        → Spells jml ts (suc q) 18 i (e.Quantified (span_at ts i) quantifier (name_at ts (i + 3)) low low_bound high high_bound (exprs es) body) (o + 1)
    -- what follows a primary, whose place is that of the whole; no index directly behind `new T[size]`
    field : {q i j : ℕ} {a : Expr} → Spells jml ts q 18 i a j → seen jml ts j ≡ k.Dot → seen jml ts (j + 1) ≡ k.Name → Spells jml ts q 18 i (e.FieldOf (e.place_of a) a (name_at ts (j + 1))) (j + 2)
    invoked : {q i j m : ℕ} {a : Expr} {es : List Expr} → jml ≡ false → Spells jml ts q 18 i a j → seen jml ts j ≡ k.Dot → seen jml ts (j + 1) ≡ k.Name → seen jml ts (j + 2) ≡ k.OpenParen → Arguments jml ts q (j + 3) es m → Spells jml ts q 18 i (e.CallOf (e.place_of a) a (name_at ts (j + 1)) (exprs es)) m
    indexed : {q i j m : ℕ} {a b : Expr} → Spells jml ts q 18 i a j → is_new_array a ≡ false → seen jml ts j ≡ k.OpenBracket → Spells jml ts q 1 (j + 1) b m → seen jml ts m ≡ k.CloseBracket → Spells jml ts q 18 i (e.ElementOf (e.place_of a) a b) (m + 1)
    -- operators behind and before their operand; the big literal of a type stands directly behind a unary `-` alone
    with_postfix : {q i j : ℕ} {a : Expr} {op : Postfix} → Spells jml ts q 17 i a j → postfix_of jml (seen jml ts j) ≡ Some op → Spells jml ts q 17 i (e.Postfixed (span_at ts i) op a) (j + 1)
    with_prefix : {q i j : ℕ} {a : Expr} {op : Prefix} → prefix_of jml (seen jml ts i) ≡ Some op → Spells jml ts q 16 (i + 1) a j → Spells jml ts q 16 i (e.Prefixed (span_at ts i) op a) j
    least_integer : {q i : ℕ} → seen jml ts i ≡ k.Minus → seen jml ts (i + 1) ≡ k.Integer → value_at ts (i + 1) ≡ big_at ts (i + 1) → Spells jml ts q 16 i (e.Prefixed (span_at ts i) Negate (e.Integer (span_at ts (i + 1)) (literal_at ts (i + 1)))) (i + 2)
    -- operators between operands
    to_the_left : {q l i j m : ℕ} {a b : Expr} {op : Infix} → grouping_of l ≡ ToTheLeft → Spells jml ts q l i a j → infix_of jml (seen jml ts j) ≡ Some (l, op) → Spells jml ts q (suc l) (j + 1) b m → Spells jml ts q l i (e.Infixed (span_at ts i) op a b) m
    once : {q l i j m : ℕ} {a b : Expr} {op : Infix} → grouping_of l ≡ Once → Spells jml ts q (suc l) i a j → infix_of jml (seen jml ts j) ≡ Some (l, op) → Spells jml ts q (suc l) (j + 1) b m → Spells jml ts q l i (e.Infixed (span_at ts i) op a b) m
    -- neither operand is a chain of `<==` without brackets
    implied : {q i j m : ℕ} {a b : Expr} {op : Infix} → Spells jml ts q 5 i a j → is_implied_by a ≡ false → infix_of jml (seen jml ts j) ≡ Some (4, op) → Spells jml ts q 4 (j + 1) b m → is_implied_by b ≡ false → Spells jml ts q 4 i (e.Infixed (span_at ts i) op a b) m
    chosen : {q i j m n : ℕ} {c a b : Expr} → Spells jml ts q 3 i c j → seen jml ts j ≡ k.Question → Spells jml ts q 1 (j + 1) a m → seen jml ts m ≡ k.Colon → Spells jml ts q 2 (m + 1) b n → Spells jml ts q 2 i (e.Conditional (span_at ts i) c a b) n
    assigned : {q i j m : ℕ} {a b : Expr} {op : AssignOp} → Spells jml ts q 2 i a j → assignment_of jml (seen jml ts j) ≡ Some op → Spells jml ts q 1 (j + 1) b m → Spells jml ts q 1 i (e.Assignment (span_at ts i) op a b) m
    tighter : {q l i j : ℕ} {a : Expr} → Spells jml ts q (suc l) i a j → Spells jml ts q l i a j

  -- what stands behind the opening bracket of a call, up to behind its closing one
  pub data Arguments (jml : Bool) (ts : List Token) : ℕ → ℕ → List Expr → ℕ → Type 0 where
    none : {q i : ℕ} → seen jml ts i ≡ k.CloseParen → Arguments jml ts q i [] (i + 1)
    some : {q i j : ℕ} {es : List Expr} → Listed jml ts q i es j → seen jml ts j ≡ k.CloseParen → Arguments jml ts q i es (j + 1)

  -- one or more, with commas between
  pub data Listed (jml : Bool) (ts : List Token) : ℕ → ℕ → List Expr → ℕ → Type 0 where
    last : {q i j : ℕ} {a : Expr} → Spells jml ts q 1 i a j → Listed jml ts q i (a ∷ []) j
    more : {q i j m : ℕ} {a : Expr} {es : List Expr} → Spells jml ts q 1 i a j → seen jml ts j ≡ k.Comma → Listed jml ts q (j + 1) es m → Listed jml ts q i (a ∷ es) m

  -- what the range of a quantifier asks besides its bounds
  pub data Conjuncts (jml : Bool) (ts : List Token) : ℕ → ℕ → List Expr → ℕ → Type 0 where
    no_more : {q i : ℕ} → Conjuncts jml ts q i [] i
    one_more : {q i j m : ℕ} {a : Expr} {es : List Expr} → seen jml ts i ≡ k.AndAnd → Spells jml ts q 8 (i + 1) a j → Conjuncts jml ts q j es m → Conjuncts jml ts q i (a ∷ es) m

-- An expression of a level ends before index j: the token there is no operator of the level or a later one
-- that has an operand on its left, and no `.`, `[` or `(`.
abbrev pub Ends : Bool → List Token → ℕ → ℕ → Type 0
Ends jml ts l j = reach (seen jml ts j) < l

-- An expression of a level stands at index i, up to index j, with quantifiers nested at most two deep.
pub record Stands (jml : Bool) (ts : List Token) (l i : ℕ) (a : Expr) (j : ℕ) : Type 0 where
  pub spelled : Spells jml ts 2 l i a j
  pub ends : Ends jml ts l j
