-- How deep an expression nests.
use Rattle.std.specs.Prelude.{ℕ, suc, max, Bool, true, false}
use Rattle.jr_ast.specs.declared.operator.Infix.TheVariants as infixes
use Rattle.jr_ast.specs.Expressions.{Expr, Exprs, no_expr, and_expr}
use Rattle.jr_ast.specs.Expressions as e

-- The greatest number of constructs above a node: operators, brackets, calls, `new`, indexes, `\old`,
-- `\lockset` and quantifiers. A call or an index counts for what stands to its left too. A field counts
-- nothing, nor do the signs and the `&&` of a quantifier's range, and `\lockset.has(e)` counts once.
abbrev mutual
  pub nesting : Expr → ℕ
  nesting (e.Null at) = 0
  nesting (e.Boolean at b) = 0
  nesting (e.Integer at n) = 0
  nesting (e.This at) = 0
  nesting (e.SimpleName at x) = 0
  nesting (e.ClassLiteral at x) = 0
  nesting (e.Brackets at a) = suc (nesting a)
  nesting (e.Call at m es) = nesting_in es
  nesting (e.NewObject at x es) = nesting_in es
  nesting (e.NewArray at t a) = suc (nesting a)
  nesting (e.FieldOf at a x) = nesting a
  nesting (e.CallOf at a m es) = max (suc (nesting a)) (nesting_in es)
  nesting (e.ElementOf at a b) = suc (max (nesting a) (nesting b))
  nesting (e.Prefixed at op a) = suc (nesting a)
  nesting (e.Postfixed at op a) = suc (nesting a)
  nesting (e.Infixed at op a b) = suc (max (nesting a) (nesting b))
  nesting (e.Conditional at c a b) = suc (max (nesting c) (max (nesting a) (nesting b)))
  nesting (e.Assignment at op a b) = suc (max (nesting a) (nesting b))
  nesting (e.MethodResult at) = 0
  nesting (e.Old at a) = suc (nesting a)
  nesting (e.InLockset at a) = suc (nesting a)
  nesting (e.Quantified at q x low low_bound high high_bound es body) =
      max (suc (max (nesting low) (max (nesting high) (nesting body)))) (nesting_in es)

  -- of the members of a list, under what they belong to
  pub nesting_in : Exprs → ℕ
  nesting_in no_expr = 0
  nesting_in (and_expr a es) = max (suc (nesting a)) (nesting_in es)

-- `new T[size]`, behind which no index stands
abbrev pub is_new_array : Expr → Bool
is_new_array (e.NewArray at t a) = true
is_new_array _ = false

-- a chain of `<==` without brackets, which is no operand of `==>`
abbrev pub is_implied_by : Expr → Bool
is_implied_by (e.Infixed at infixes.ImpliedBy a b) = true
is_implied_by _ = false
