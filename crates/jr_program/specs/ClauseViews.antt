-- The views of clauses and their expressions as plain data.
use Rattle.std.specs.Prelude.{ℕ, List, [], ◌∷◌, map}
use Rattle.jr_base.specs.declared.number.FieldId.{FieldId}
use Rattle.jr_arith.specs.declared.operator.Width.TheVariants as width
use Rattle.jr_program.specs.Clauses.{Clause, Owner, OfMethod, OfClass, OfField}
use Rattle.jr_program.specs.Clauses.{Spec, Number, Truth, Null, This, Variable, Bound, Result, StaticField, FieldOf, ElementOf, LengthOf, ClassObject, Convert, Unary, Binary, And, Or, Choice, Implies, ImpliedBy, Old, InLockset, Quantified}
use Rattle.jr_program.specs.declared.words.Owner.{Owner as OwnerTree}
use Rattle.jr_program.specs.declared.words.Owner.TheVariants as owners
use Rattle.jr_program.specs.declared.clause.TypedSpec.{TypedSpec}
use Rattle.jr_program.specs.declared.clause.ClauseExpr.{ClauseExpr}
use Rattle.jr_program.specs.declared.clause.ClauseShape.{ClauseShape}
use Rattle.jr_program.specs.declared.clause.ClauseSuffix.{ClauseSuffix}
use Rattle.jr_program.specs.declared.clause.QuantifiedExpr.{QuantifiedExpr}
use Rattle.jr_program.specs.declared.clause.ClauseShape.TheOpen.{ClauseExpr-F, ClauseShape-F, ClauseSuffix-F, QuantifiedExpr-F}
use Rattle.jr_program.specs.declared.clause.ClauseShape.TheOpen as layer
use Rattle.jr_program.specs.declared.clause.ClauseShape.TheFolds.{fold-ClauseExpr, fold-ClauseShape, fold-ClauseSuffix, fold-QuantifiedExpr}

-- what may follow a primary
pub data Suffix : Type 0 where
  Field : (field : FieldId) (slot : ℕ) → Suffix
  Element : (index : Spec) → Suffix
  Length : Suffix

-- an expression with one suffix, and with several, from left to right
abbrev pub applied : Spec → Suffix → Spec
applied e (Field f slot) = FieldOf e f slot
applied e (Element i) = ElementOf e i
applied e Length = LengthOf e

abbrev pub onto : Spec → List Suffix → Spec
onto e [] = e
onto e (s ∷ ss) = onto (applied e s) ss

-- ---- a node, above the views of what it holds

abbrev pub shape_view : ClauseShape-F Spec Suffix Spec Spec → Spec
shape_view (layer.Int n) = Number width.Int n
shape_view (layer.Long n) = Number width.Long n
shape_view (layer.Truth b) = Truth b
shape_view layer.Null = Null
shape_view layer.This = This
shape_view (layer.Variable number) = Variable number
shape_view (layer.Bound depth) = Bound depth
shape_view layer.Result = Result
shape_view (layer.StaticField f at) = StaticField f at
shape_view (layer.ClassObject c) = ClassObject c
shape_view (layer.Suffixed e ss) = onto e ss
shape_view (layer.Convert w e) = Convert w e
shape_view (layer.Unary operator e) = Unary operator e
shape_view (layer.Binary operator a b) = Binary operator a b
shape_view (layer.And a b) = And a b
shape_view (layer.Or a b) = Or a b
shape_view (layer.Choice c a b) = Choice c a b
shape_view (layer.Implies a b) = Implies a b
shape_view (layer.ImpliedBy a b) = ImpliedBy a b
shape_view (layer.Old e) = Old e
shape_view (layer.InLockset e) = InLockset e
shape_view (layer.Quantified q) = q

abbrev pub suffix_view : ClauseSuffix-F Spec Suffix Spec Spec → Suffix
suffix_view (layer.Field f slot) = Field f slot
suffix_view (layer.Element e) = Element e
suffix_view layer.Length = Length

abbrev pub quantified_view : QuantifiedExpr-F Spec Suffix Spec Spec → Spec
quantified_view q = Quantified q.quantifier q.low q.low_bound q.high q.high_bound q.conjuncts q.body

abbrev pub expr_view : ClauseExpr-F Spec Suffix Spec Spec → Spec
expr_view e = e.shape

-- ---- whole trees

abbrev pub view_expr : ClauseExpr → Spec
view_expr = fold-ClauseExpr Spec Suffix Spec Spec shape_view suffix_view expr_view quantified_view

abbrev pub view_shape : ClauseShape → Spec
view_shape = fold-ClauseShape Spec Suffix Spec Spec shape_view suffix_view expr_view quantified_view

abbrev pub view_suffix : ClauseSuffix → Suffix
view_suffix = fold-ClauseSuffix Spec Suffix Spec Spec shape_view suffix_view expr_view quantified_view

abbrev pub view_quantified : QuantifiedExpr → Spec
view_quantified = fold-QuantifiedExpr Spec Suffix Spec Spec shape_view suffix_view expr_view quantified_view

-- ---- clauses

abbrev pub view_owner : OwnerTree → Owner
view_owner (owners.Method m) = OfMethod m
view_owner (owners.Class c) = OfClass c
view_owner (owners.Field f) = OfField f

abbrev pub view_clause : TypedSpec → Clause
view_clause c = record {
  kind = c.kind;
  owner = view_owner c.owner;
  mode = c.mode;
  is_static = c.is_static;
  place = c.place;
  states = map view_expr c.states;
}
