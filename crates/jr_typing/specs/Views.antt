-- The code's own types as the plain data of the rules.
use Rattle.std.specs.Prelude.{List, map}
use Rattle.jr_arith.specs.declared.operator.Width.TheVariants as width
use Rattle.jr_program.specs.Programs as program
use Rattle.jr_program.specs.ExprViews.{onto, view_expr, view_suffix, view_effect, view_variable as view_node}
use Rattle.jr_typing_rules.specs.Scopes.{Scope, Variable}
use Rattle.jr_typing_rules.specs.Denotations.{Denotation, AClass, ALibrary, ASystem, AnOut, AVariable, AValue, ANothing, Value, Target, Arguments, Callee, OfClass, OfObject, OfMonitor, OfYield, OfSleep, Maker, MakesObject, MakesPlain, MakesThread}
use Rattle.jr_typing_rules.specs.Operators.{Literal}
use Rattle.jr_typing.specs.declared.scope.Variable.{Variable as VariableTree}
use Rattle.jr_typing.specs.declared.scope.Scope.{Scope as ScopeTree}
use Rattle.jr_typing.specs.declared.chain.Chain.{Chain}
use Rattle.jr_typing.specs.declared.literal.Literal.{Literal as LiteralTree}
use Rattle.jr_typing.specs.declared.literal.Literal.TheVariants as literal
use Rattle.jr_typing.specs.declared.denotation.Denotation.{Denotation as DenotationTree}
use Rattle.jr_typing.specs.declared.denotation.Denotation.TheVariants as denotation
use Rattle.jr_typing.specs.declared.denotation.OpenVariable.{OpenVariable}
use Rattle.jr_typing.specs.declared.denotation.OpenVariable.TheVariants as variables
use Rattle.jr_typing.specs.declared.denotation.Held.{Held}
use Rattle.jr_typing.specs.declared.denotation.Value.{Value as ValueTree}
use Rattle.jr_typing.specs.declared.denotation.Target.{Target as TargetTree}
use Rattle.jr_typing.specs.declared.denotation.Arguments.{Arguments as ArgumentsTree}
use Rattle.jr_typing.specs.declared.denotation.Callee.{Callee as CalleeTree}
use Rattle.jr_typing.specs.declared.denotation.Callee.TheVariants as callees
use Rattle.jr_typing.specs.declared.denotation.Maker.{Maker as MakerTree}
use Rattle.jr_typing.specs.declared.denotation.Maker.TheVariants as makers

abbrev pub view_variable : VariableTree → Variable
view_variable v = record { name = v.name.now; kind = v.kind }

abbrev pub view_scope : ScopeTree → Scope
view_scope s = record { names = s.names.now.names; own = s.own; is_static = s.is_static; variables = map view_variable s.variables.now }

abbrev pub view_literal : LiteralTree → Literal
view_literal (literal.Int n) = record { width = width.Int; value = n }
view_literal (literal.Long n) = record { width = width.Long; value = n }

-- a primary with what follows it
abbrev pub view_chain : Chain → program.Expr
view_chain c = onto (view_expr c.primary) (map view_suffix c.suffixes)

abbrev pub view_open : OpenVariable → program.Variable
view_open (variables.Local place) = program.Local place
view_open (variables.StaticField f) = program.StaticField f
view_open (variables.Field c f) = program.FieldOf (view_chain c) f
view_open (variables.Element t c i) = program.ElementOf t (view_chain c) (view_expr i)

abbrev pub view_denotation : DenotationTree → Denotation
view_denotation (denotation.Class c) = AClass c
view_denotation (denotation.Library l) = ALibrary l
view_denotation (denotation.System at) = ASystem at
view_denotation (denotation.Out at) = AnOut at
view_denotation (denotation.Variable t x) = AVariable t (view_open x)
view_denotation (denotation.Value t c) = AValue t (view_chain c)
view_denotation (denotation.Nothing e) = ANothing (view_effect e)

abbrev pub view_held : Held → Value
view_held h = record { of = h.of; node = view_chain h.chain }

abbrev pub view_value : ValueTree → Value
view_value v = record { of = v.of; node = view_expr v.node }

abbrev pub view_target : TargetTree → Target
view_target t = record { of = t.of; node = view_node t.node }

abbrev pub view_arguments : ArgumentsTree → Arguments
view_arguments given = record { heads = given.heads; nodes = map view_expr given.nodes.items }

abbrev pub view_callee : CalleeTree → Callee
view_callee (callees.OfClass m) = OfClass m.now
view_callee (callees.OfObject m) = OfObject m.now
view_callee (callees.OfMonitor call) = OfMonitor call
view_callee callees.OfYield = OfYield
view_callee callees.OfSleep = OfSleep

abbrev pub view_maker : MakerTree → Maker
view_maker (makers.MakesObject c formals) = MakesObject c formals.now
view_maker makers.MakesPlain = MakesPlain
view_maker makers.MakesThread = MakesThread
