-- The reader, as functions of the tokens and an index. Only contracts of private functions cite these.
use Rattle.std.specs.Prelude.{ℕ, zero, suc, ◌+◌, ◌-◌, nat_le, nat_lt, Bool, true, false, if◌then◌else◌, ◌==◌, List, [], ◌∷◌, ◌++◌, length, codes, Option, Some, None, Result, Ok, Err}
use Rattle.std.specs.Str.{bytes_eq}
use Rattle.jr_base.specs.declared.number.Span.{Span}
use Rattle.jr_base.specs.declared.refusal.Refusal.{Refusal}
use Rattle.jr_base.specs.declared.refusal.Refusal.TheVariants as refusal
use Rattle.jr_lexer.specs.declared.kind.Kind.{Kind}
use Rattle.jr_lexer.specs.declared.kind.Kind.TheVariants as k
use Rattle.jr_lexer.specs.Token.{Token}
use Rattle.jr_lexer.specs.Reading.{text_at, value_at, big_at, span_at}
use Rattle.jr_ast.specs.declared.operator.Prefix.{Prefix}
use Rattle.jr_ast.specs.declared.operator.Prefix.TheVariants.{Negate}
use Rattle.jr_ast.specs.declared.operator.Postfix.{Postfix}
use Rattle.jr_ast.specs.declared.operator.Infix.{Infix}
use Rattle.jr_ast.specs.declared.operator.AssignOp.{AssignOp}
use Rattle.jr_ast.specs.declared.expr.Bound.{Bound}
use Rattle.jr_ast.specs.declared.expr.Quantifier.{Quantifier}
use Rattle.jr_ast.specs.Expressions.{Expr, exprs}
use Rattle.jr_ast.specs.Expressions as e
use Rattle.jr_expr_parser.specs.declared.operators.Grouping.{Grouping}
use Rattle.jr_expr_parser.specs.declared.operators.Grouping.TheVariants.{Assigns, Chooses, Implies, Once, ToTheLeft}
use Rattle.jr_reading.specs.Seen.{seen, name_at, literal_at}
use Rattle.jr_reading.specs.Outcomes.{Outcome, ◌>>=◌, one_or}
use Rattle.jr_reading.specs.Steps.{refusal_at, sees, expect, expect_text, element, listed}
use Rattle.jr_expr_parser.specs.Operators.{prefix_of, postfix_of, infix_of, assignment_of, bound_of, quantifier_of, extends, reach, grouping_of}
use Rattle.jr_expr_parser.specs.Nesting.{nesting, is_new_array, is_implied_by}

-- a node, where it nests within the room
unfoldable pub fits : ℕ → Span → Expr → Result Expr Refusal
fits room at a = if nat_le (nesting a) room then Ok a else Err (refusal.TooDeep at)

abbrev pub of_level : ℕ → Option (ℕ × Infix) → Option Infix
of_level l None = None
of_level l (Some p) = if p.0 == l then Some p.1 else None

module _ (jml : Bool) (ts : List Token) where
  -- the operator of a level at an index
  unfoldable pub operator : ℕ → ℕ → Option Infix
  operator l i = of_level l (infix_of jml (seen jml ts i))

  unfoldable pub prefix : ℕ → Option Prefix
  prefix i = prefix_of jml (seen jml ts i)

  unfoldable pub postfix : ℕ → Option Postfix
  postfix i = postfix_of jml (seen jml ts i)

  unfoldable pub assignment : ℕ → Option AssignOp
  assignment i = assignment_of jml (seen jml ts i)

  -- the name at an index, where it is that of another index
  unfoldable pub same_name : ℕ → ℕ → Result (Unit {0}) Refusal
  same_name x i = expect jml ts i k.Name >>= λ u. expect_text ts i (text_at ts x)

  unfoldable pub bound : ℕ → Result Bound Refusal
  bound i = one_or (bound_of (seen jml ts i)) (Err (refusal_at ts i)) Ok

  -- `< x && x <`, where x stands at an index
  unfoldable pub between : ℕ → ℕ → Outcome (Bound × Bound)
  between x i =
      bound i >>= λ low.
      same_name x (i + 1) >>= λ u.
      expect jml ts (i + 2) k.AndAnd >>= λ u.
      same_name x (i + 3) >>= λ u.
      bound (i + 4) >>= λ high.
      Ok ((low, high), i + 5)

  -- `-` and the big literal of a type, which is itself its operand
  unfoldable pub is_least : ℕ → Bool
  is_least i =
      if sees jml ts i k.Minus then (if sees jml ts (i + 1) k.Integer then (if extends jml (seen jml ts (i + 2)) then false else value_at ts (i + 1) == big_at ts (i + 1)) else false)
      else false

  unfoldable pub integer : ℕ → Outcome Expr
  integer i =
      if nat_lt (value_at ts i) (big_at ts i) then Ok (e.Integer (span_at ts i) (literal_at ts i), i + 1)
      else (if value_at ts i == big_at ts i then Err (refusal.BigLiteral (span_at ts i)) else Err (refusal_at ts i))

  unfoldable pub result_word : ℕ → Outcome Expr
  result_word i = if jml then Ok (e.MethodResult (span_at ts i), i + 1) else Err (refusal_at ts i)

  -- the quantifier behind a bracket
  unfoldable pub quantifier : ℕ → Option Quantifier
  quantifier i = if jml then quantifier_of (seen jml ts i) else None

  unfoldable pub is_class : ℕ → Bool
  is_class i = if sees jml ts i k.Dot then sees jml ts (i + 1) k.Class else false

  unfoldable pub is_call : ℕ → Bool
  is_call i = if jml then false else sees jml ts i k.OpenParen

  -- `.has(`
  unfoldable pub has : ℕ → Result (Unit {0}) Refusal
  has i =
      expect jml ts i k.Dot >>= λ u.
      expect jml ts (i + 1) k.Name >>= λ u.
      expect_text ts (i + 1) (codes "has") >>= λ u.
      expect jml ts (i + 2) k.OpenParen

  -- `print(` and a string behind the dot at an index
  unfoldable pub prints_string : ℕ → Bool
  prints_string j = if sees jml ts (j + 3) k.Text then bytes_eq (text_at ts (j + 1)) (codes "print") else false

  -- whether a suffix stands behind a primary
  abbrev pub goes_on_by : Kind → Expr → ℕ → Bool
  goes_on_by k.Dot a j = true
  goes_on_by k.OpenBracket a j = if is_new_array a then false else true
  goes_on_by _ a j = false

  unfoldable pub goes_on : Expr → ℕ → Bool
  goes_on a j = goes_on_by (seen jml ts j) a j

  -- ---- what has parts: room is how deep they may nest, and nest reads an expression that stands inside one
  -- construct, in which q quantifiers may nest, at a level

  module _ (room : ℕ) (nest : ℕ → ℕ → ℕ → Outcome Expr) where
    -- an expression up to a closing token
    unfoldable pub enclosed : ℕ → Kind → ℕ → Outcome Expr
    enclosed q close i = nest q 1 i >>= λ a. expect jml ts a.1 close >>= λ u. Ok (a.0, a.1 + 1)

    -- one or more, with commas between
    abbrev pub expressions : ℕ → ℕ → List Expr → ℕ → Outcome (List Expr)
    expressions q n found i = listed jml ts (nest q 1) n found i

    -- what stands behind the opening bracket of a call, up to behind the closing one
    unfoldable pub arguments : ℕ → ℕ → Outcome (List Expr)
    arguments q i = if sees jml ts i k.CloseParen then Ok ([], i + 1) else (expressions q (length ts) [] i >>= λ es. expect jml ts es.1 k.CloseParen >>= λ u. Ok (es.0, es.1 + 1))

    unfoldable pub conjuncts : ℕ → ℕ → List Expr → ℕ → Outcome (List Expr)
    conjuncts q zero found i = Ok (found, i)
    conjuncts q (suc n) found i = if sees jml ts i k.AndAnd then (nest q 8 (i + 1) >>= λ a. conjuncts q n (found ++ a.0 ∷ []) a.1) else Ok (found, i)

    -- ---- primaries

    unfoldable pub bracketed : ℕ → ℕ → Outcome Expr
    bracketed q i = enclosed q k.CloseParen (i + 1) >>= λ a. Ok (e.Brackets (span_at ts i) a.0, a.1)

    -- with q quantifiers more inside
    unfoldable pub quantified_in : ℕ → Quantifier → ℕ → Outcome Expr
    quantified_in q quantifier i =
        expect jml ts (i + 2) k.Int >>= λ u.
        expect jml ts (i + 3) k.Name >>= λ u.
        expect jml ts (i + 4) k.Semicolon >>= λ u.
        nest q 13 (i + 5) >>= λ low.
        between (i + 3) low.1 >>= λ bounds.
        nest q 13 bounds.1 >>= λ high.
        conjuncts q (length ts) [] high.1 >>= λ es.
        expect jml ts es.1 k.Semicolon >>= λ u.
        enclosed q k.CloseParen (es.1 + 1) >>= λ body.
        Ok (e.Quantified (span_at ts i) quantifier (name_at ts (i + 3)) low.0 bounds.0.0 high.0 bounds.0.1 (exprs es.0) body.0, body.1)

    unfoldable pub quantified : ℕ → Quantifier → ℕ → Outcome Expr
    quantified zero quantifier i = Err (refusal_at ts (i + 1))
    quantified (suc q) quantifier i = quantified_in q quantifier i

    unfoldable pub opened : ℕ → ℕ → Outcome Expr
    opened q i = one_or (quantifier (i + 1)) (bracketed q i) (λ quantifier. quantified q quantifier i)

    unfoldable pub called : ℕ → ℕ → Outcome Expr
    called q i = arguments q (i + 2) >>= λ es. Ok (e.Call (span_at ts i) (name_at ts i) (exprs es.0), es.1)

    unfoldable pub named : ℕ → ℕ → Outcome Expr
    named q i =
        if is_call (i + 1) then called q i
        else (if is_class (i + 1) then Ok (e.ClassLiteral (span_at ts i) (name_at ts i), i + 3)
        else Ok (e.SimpleName (span_at ts i) (name_at ts i), i + 1))

    unfoldable pub new_object : ℕ → ℕ → Outcome Expr
    new_object q i = expect jml ts (i + 1) k.Name >>= λ u. arguments q (i + 3) >>= λ es. Ok (e.NewObject (span_at ts i) (name_at ts (i + 1)) (exprs es.0), es.1)

    unfoldable pub new_array : ℕ → ℕ → Outcome Expr
    new_array q i =
        element jml ts (i + 1) >>= λ t.
        expect jml ts (i + 2) k.OpenBracket >>= λ u.
        enclosed q k.CloseBracket (i + 3) >>= λ a.
        Ok (e.NewArray (span_at ts i) t a.0, a.1)

    unfoldable pub made : ℕ → ℕ → Outcome Expr
    made q i = if jml then Err (refusal_at ts i) else (if sees jml ts (i + 2) k.OpenParen then new_object q i else new_array q i)

    unfoldable pub old : ℕ → ℕ → Outcome Expr
    old q i =
        if jml then (expect jml ts (i + 1) k.OpenParen >>= λ u. enclosed q k.CloseParen (i + 2) >>= λ a. Ok (e.Old (span_at ts i) a.0, a.1))
        else Err (refusal_at ts i)

    unfoldable pub lockset_has : ℕ → ℕ → Outcome Expr
    lockset_has q i = has (i + 1) >>= λ u. enclosed q k.CloseParen (i + 4) >>= λ a. Ok (e.InLockset (span_at ts i) a.0, a.1)

    unfoldable pub lockset : ℕ → ℕ → Outcome Expr
    lockset q i =
        if jml then (if sees jml ts (i + 1) k.OpenBracket then (enclosed q k.CloseBracket (i + 2) >>= λ a. Ok (e.InLockset (span_at ts i) a.0, a.1)) else lockset_has q i)
        else Err (refusal_at ts i)

    abbrev pub primary_by : Kind → ℕ → ℕ → Outcome Expr
    primary_by k.Null q i = Ok (e.Null (span_at ts i), i + 1)
    primary_by k.True q i = Ok (e.Boolean (span_at ts i) true, i + 1)
    primary_by k.False q i = Ok (e.Boolean (span_at ts i) false, i + 1)
    primary_by k.Integer q i = integer i
    primary_by k.This q i = Ok (e.This (span_at ts i), i + 1)
    primary_by k.Name q i = named q i
    primary_by k.OpenParen q i = opened q i
    primary_by k.New q i = made q i
    primary_by k.BackslashResult q i = result_word i
    primary_by k.BackslashOld q i = old q i
    primary_by k.BackslashLockset q i = lockset q i
    primary_by _ q i = Err (refusal_at ts i)

    unfoldable pub primary : ℕ → ℕ → Outcome Expr
    primary q i = primary_by (seen jml ts i) q i

    -- ---- what follows a primary, whose place is that of the whole

    unfoldable pub invoked : ℕ → Expr → ℕ → Outcome Expr
    invoked q a j =
        if prints_string j then Err (refusal.NotInProfile (span_at ts (j + 1)))
        else (arguments q (j + 3) >>= λ es. fits room (e.place_of a) (e.CallOf (e.place_of a) a (name_at ts (j + 1)) (exprs es.0)) >>= λ a. Ok (a, es.1))

    unfoldable pub indexed : ℕ → Expr → ℕ → Outcome Expr
    indexed q a j = enclosed q k.CloseBracket (j + 1) >>= λ b. fits room (e.place_of a) (e.ElementOf (e.place_of a) a b.0) >>= λ a. Ok (a, b.1)

    -- `.name` or `.name(..)`
    unfoldable pub member : ℕ → Expr → ℕ → Outcome Expr
    member q a j = expect jml ts (j + 1) k.Name >>= λ u. if is_call (j + 2) then invoked q a j else Ok (e.FieldOf (e.place_of a) a (name_at ts (j + 1)), j + 2)

    -- one suffix
    unfoldable pub suffix : ℕ → Expr → ℕ → Outcome Expr
    suffix q a j = if sees jml ts j k.OpenBracket then indexed q a j else member q a j

    unfoldable pub trail : ℕ → ℕ → Expr → ℕ → Outcome Expr
    trail q zero a j = Ok (a, j)
    trail q (suc n) a j = if goes_on a j then (suffix q a j >>= λ a. trail q n a.0 a.1) else Ok (a, j)

    unfoldable pub suffixed : ℕ → ℕ → Outcome Expr
    suffixed q i = primary q i >>= λ a. trail q (length ts) a.0 a.1

    -- ---- operators behind and before their operand

    unfoldable pub behind : ℕ → ℕ → Expr → ℕ → Outcome Expr
    behind zero i a j = Ok (a, j)
    behind (suc n) i a j = one_or (postfix j) (Ok (a, j)) (λ op. fits room (span_at ts i) (e.Postfixed (span_at ts i) op a) >>= λ a. behind n i a (j + 1))

    unfoldable pub postfixed : ℕ → ℕ → Outcome Expr
    postfixed q i = suffixed q i >>= λ a. behind (length ts) i a.0 a.1

    unfoldable pub unary : ℕ → ℕ → Outcome Expr
    unary q i =
        if is_least i then (fits room (span_at ts i) (e.Prefixed (span_at ts i) Negate (e.Integer (span_at ts (i + 1)) (literal_at ts (i + 1)))) >>= λ a. Ok (a, i + 2))
        else one_or (prefix i) (postfixed q i) (λ op. nest q 16 (i + 1) >>= λ a. Ok (e.Prefixed (span_at ts i) op a.0, a.1))

    -- ---- the operators of one level between operands, where inner reads an operand of the next one

    unfoldable pub infixed : ℕ → Infix → Expr → Expr → Result Expr Refusal
    infixed i op a b = fits room (span_at ts i) (e.Infixed (span_at ts i) op a b)

    -- a chain of `<==` behind `==>` is refused at its first one, behind what it begins with
    unfoldable pub chain_behind : ℕ → ℕ → Outcome Expr
    chain_behind q j = nest q 6 (j + 1) >>= λ a. Err (refusal_at ts a.1)

    -- what stands behind the left side of `==>`
    unfoldable pub implied_by : ℕ → ℕ → ℕ → Infix → Expr → ℕ → Outcome Expr
    implied_by q l i op a j = nest q l (j + 1) >>= λ b. if is_implied_by b.0 then chain_behind q j else (infixed i op a b.0 >>= λ c. Ok (c, b.1))

    unfoldable pub implied : ℕ → ℕ → ℕ → Expr → ℕ → Outcome Expr
    implied q l i a j = one_or (operator l j) (Ok (a, j)) (λ op. if is_implied_by a then Ok (a, j) else implied_by q l i op a j)

    -- what stands behind the condition of `? :`
    unfoldable pub alternatives : ℕ → ℕ → Expr → ℕ → Outcome Expr
    alternatives q i c j =
        nest q 1 (j + 1) >>= λ a.
        expect jml ts a.1 k.Colon >>= λ u.
        nest q 2 (a.1 + 1) >>= λ b.
        fits room (span_at ts i) (e.Conditional (span_at ts i) c a.0 b.0) >>= λ d.
        Ok (d, b.1)

    unfoldable pub chosen : ℕ → ℕ → Expr → ℕ → Outcome Expr
    chosen q i c j = if sees jml ts j k.Question then alternatives q i c j else Ok (c, j)

    -- what stands behind what is assigned to
    unfoldable pub assigned : ℕ → ℕ → Expr → ℕ → Outcome Expr
    assigned q i a j = one_or (assignment j) (Ok (a, j)) (λ op. nest q 1 (j + 1) >>= λ b. fits room (span_at ts i) (e.Assignment (span_at ts i) op a b.0) >>= λ c. Ok (c, b.1))

    module _ (inner : ℕ → Outcome Expr) where
      unfoldable pub climb : ℕ → ℕ → ℕ → Expr → ℕ → Outcome Expr
      climb zero l i a j = Ok (a, j)
      climb (suc n) l i a j = one_or (operator l j) (Ok (a, j)) (λ op. inner (j + 1) >>= λ b. infixed i op a b.0 >>= λ a. climb n l i a b.1)

      unfoldable pub to_the_left : ℕ → ℕ → Outcome Expr
      to_the_left l i = inner i >>= λ a. climb (length ts) l i a.0 a.1

      unfoldable pub once : ℕ → ℕ → Outcome Expr
      once l i = inner i >>= λ a. one_or (operator l a.1) (Ok a) (λ op. inner (a.1 + 1) >>= λ b. infixed i op a.0 b.0 >>= λ c. Ok (c, b.1))

      unfoldable pub implies : ℕ → ℕ → ℕ → Outcome Expr
      implies q l i = inner i >>= λ a. implied q l i a.0 a.1

      unfoldable pub chooses : ℕ → ℕ → Outcome Expr
      chooses q i = inner i >>= λ c. chosen q i c.0 c.1

      unfoldable pub assigns : ℕ → ℕ → Outcome Expr
      assigns q i = inner i >>= λ a. assigned q i a.0 a.1

      abbrev pub grouped : Grouping → ℕ → ℕ → ℕ → Outcome Expr
      grouped Assigns q l i = assigns q i
      grouped Chooses q l i = chooses q i
      grouped Implies q l i = implies q l i
      grouped Once q l i = once l i
      grouped ToTheLeft q l i = to_the_left l i

    -- an expression of a level, n levels below that of prefixes
    unfoldable pub levels : ℕ → ℕ → ℕ → ℕ → Outcome Expr
    levels q zero l i = unary q i
    levels q (suc n) l i = grouped (λ i. levels q n (suc l) i) (grouping_of l) q l i

  -- an expression of a level, nested less than room deep
  unfoldable pub nested : ℕ → ℕ → ℕ → ℕ → Outcome Expr
  nested zero q l i = Err (refusal.TooDeep (span_at ts i))
  nested (suc room) q l i = levels room (nested room) q (16 - l) l i

  -- the expression of a level that ends where it was read to
  unfoldable pub standing : ℕ → ℕ → ℕ → Outcome Expr
  standing room l i = nested room 2 l i >>= λ a. if nat_lt (reach (seen jml ts a.1)) l then Ok a else Err (refusal_at ts a.1)
