-- The views of expressions of code as plain data.
use Rattle.std.specs.Prelude.{List, [], ◌∷◌, map}
use Rattle.jr_base.specs.declared.number.FieldId.{FieldId}
use Rattle.jr_base.specs.declared.number.MethodId.{MethodId}
use Rattle.jr_base.specs.declared.action.Elem.{Elem}
use Rattle.jr_arith.specs.declared.operator.Width.TheVariants as width
use Rattle.jr_program.specs.Programs.{Expr, Exprs, Variable, Call, Effect, Number, Truth, Null, This, ClassObject, Read, LengthOf, Convert, Unary, Binary, And, Or, Choice, Assign, Compound, PrefixIncrement, PostfixIncrement, ResultOf, NewObject, NewPlain, NewThread, NewArray, Local, StaticField, FieldOf, ElementOf, CallStatic, CallOn, no_more, and_then, Evaluate, Invoke, CallObject, WaitFor, Yield, Sleep}
use Rattle.jr_program.specs.declared.expr.TypedExpr.{TypedExpr}
use Rattle.jr_program.specs.declared.expr.TypedShape.{TypedShape}
use Rattle.jr_program.specs.declared.expr.TypedSuffix.{TypedSuffix}
use Rattle.jr_program.specs.declared.expr.TypedVariable.{TypedVariable}
use Rattle.jr_program.specs.declared.expr.TypedCall.{TypedCall}
use Rattle.jr_program.specs.declared.expr.TypedCall.TheVariants as calls
use Rattle.jr_program.specs.declared.expr.Effect.{Effect as EffectTree}
use Rattle.jr_program.specs.declared.expr.Effect.TheVariants as effects
use Rattle.jr_program.specs.declared.expr.TypedShape.TheOpen.{TypedExpr-F, TypedShape-F, TypedSuffix-F, TypedVariable-F}
use Rattle.jr_program.specs.declared.expr.TypedShape.TheOpen as layer
use Rattle.jr_program.specs.declared.expr.TypedShape.TheFolds.{fold-TypedExpr, fold-TypedShape, fold-TypedSuffix, fold-TypedVariable}

-- what may follow a primary
pub data Suffix : Type 0 where
  Field : (field : FieldId) → Suffix
  Invocation : (method : MethodId) (arguments : Exprs) → Suffix
  Element : (element : Elem) (index : Expr) → Suffix
  Length : Suffix

abbrev pub exprs : List Expr → Exprs
exprs [] = no_more
exprs (e ∷ es) = and_then e (exprs es)

-- an expression with one suffix, and with several, from left to right
abbrev pub applied : Expr → Suffix → Expr
applied e (Field f) = Read (FieldOf e f)
applied e (Invocation m es) = ResultOf (CallOn e m es)
applied e (Element element i) = Read (ElementOf element e i)
applied e Length = LengthOf e

abbrev pub onto : Expr → List Suffix → Expr
onto e [] = e
onto e (s ∷ ss) = onto (applied e s) ss

-- ---- a node, above the views of what it holds

abbrev pub shape_view : TypedShape-F Expr Suffix Variable Expr → Expr
shape_view (layer.Int n) = Number width.Int n
shape_view (layer.Long n) = Number width.Long n
shape_view (layer.Truth b) = Truth b
shape_view layer.Null = Null
shape_view layer.This = This
shape_view (layer.ClassObject c) = ClassObject c
shape_view (layer.Local number) = Read (Local number)
shape_view (layer.StaticField f) = Read (StaticField f)
shape_view (layer.CallStatic m es) = ResultOf (CallStatic m (exprs es))
shape_view (layer.NewObject c es) = NewObject c (exprs es)
shape_view layer.NewPlain = NewPlain
shape_view (layer.NewThread e) = NewThread e
shape_view (layer.NewArray element e) = NewArray element e
shape_view (layer.Suffixed e ss) = onto e ss
shape_view (layer.Convert w e) = Convert w e
shape_view (layer.Unary operator e) = Unary operator e
shape_view (layer.Binary operator a b) = Binary operator a b
shape_view (layer.And a b) = And a b
shape_view (layer.Or a b) = Or a b
shape_view (layer.Choice c a b) = Choice c a b
shape_view (layer.Assign v e) = Assign v e
shape_view (layer.Compound operator narrows v e) = Compound operator narrows v e
shape_view (layer.PrefixIncrement w v by) = PrefixIncrement w v by
shape_view (layer.PostfixIncrement w v by) = PostfixIncrement w v by

abbrev pub suffix_view : TypedSuffix-F Expr Suffix Variable Expr → Suffix
suffix_view (layer.Field f) = Field f
suffix_view (layer.Invocation m es) = Invocation m (exprs es)
suffix_view (layer.Element element e) = Element element e
suffix_view layer.Length = Length

abbrev pub variable_view : TypedVariable-F Expr Suffix Variable Expr → Variable
variable_view (layer.OfMethod number) = Local number
variable_view (layer.OfClass f) = StaticField f
variable_view (layer.OfObject e f) = FieldOf e f
variable_view (layer.OfArray element e i) = ElementOf element e i

abbrev pub expr_view : TypedExpr-F Expr Suffix Variable Expr → Expr
expr_view e = e.shape

-- ---- whole trees

abbrev pub view_expr : TypedExpr → Expr
view_expr = fold-TypedExpr Expr Suffix Variable Expr shape_view suffix_view variable_view expr_view

abbrev pub view_shape : TypedShape → Expr
view_shape = fold-TypedShape Expr Suffix Variable Expr shape_view suffix_view variable_view expr_view

abbrev pub view_suffix : TypedSuffix → Suffix
view_suffix = fold-TypedSuffix Expr Suffix Variable Expr shape_view suffix_view variable_view expr_view

abbrev pub view_variable : TypedVariable → Variable
view_variable = fold-TypedVariable Expr Suffix Variable Expr shape_view suffix_view variable_view expr_view

abbrev pub view_call : TypedCall → Call
view_call (calls.Static m es) = CallStatic m (exprs (map view_expr es))
view_call (calls.On e m es) = CallOn (view_expr e) m (exprs (map view_expr es))

abbrev pub view_effect : EffectTree → Effect
view_effect (effects.Evaluate e) = Evaluate (view_expr e)
view_effect (effects.Invoke c) = Invoke (view_call c)
view_effect (effects.CallObject called e) = CallObject called (view_expr e)
view_effect (effects.WaitFor e t) = WaitFor (view_expr e) (view_expr t)
view_effect effects.Yield = Yield
view_effect (effects.Sleep e) = Sleep (view_expr e)
