-- How deep a clause nests, counted from where it stands. Of a quantifier's range the bounds and the further
-- conjuncts count as what stands in the quantifier; its signs and `&&` count nothing.
use Rattle.std.specs.Prelude.{ℕ, suc, max, List, [], ◌∷◌}
use Rattle.jr_ast.specs.Expressions.{Expr}
use Rattle.jr_ast.specs.Clauses.{MethodClause, ClassClause, Clause, Requires, Ensures, When, Locks, Assignable, Modifies, Invariant, Constraint, MonitorsFor, OfMethod, OfClass, Assert}
use Rattle.jr_expr_parser.specs.Nesting.{nesting}

-- of the deepest in a list
abbrev pub deepest : List Expr → ℕ
deepest [] = 0
deepest (e ∷ es) = max (nesting e) (deepest es)

-- A clause counts nothing above its expressions.
abbrev pub method_nesting : MethodClause → ℕ
method_nesting (Requires at e) = nesting e
method_nesting (Ensures at e) = nesting e
method_nesting (When at e) = nesting e
method_nesting (Locks at es) = deepest es
method_nesting (Assignable at) = 0
method_nesting (Modifies at) = 0

abbrev pub class_nesting : ClassClause → ℕ
class_nesting (Invariant at is_static e) = nesting e
class_nesting (Constraint at is_static e) = nesting e
class_nesting (MonitorsFor at x es) = deepest es

-- An `assert` is a statement, and as every statement it counts one above what it holds.
abbrev pub assert_nesting : Expr → ℕ
assert_nesting e = suc (nesting e)

abbrev pub clause_nesting : Clause → ℕ
clause_nesting (OfMethod a) = method_nesting a
clause_nesting (OfClass a) = class_nesting a
clause_nesting (Assert at e) = assert_nesting e
