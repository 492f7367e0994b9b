-- Which programs can be run yet: those of one thread, whose clauses look at the moment alone.
use Rattle.std.specs.Prelude.{◌&&◌, Bool, true, false, not}
use Rattle.std.specs.List.{list_all}
use Rattle.jr_program.specs.declared.words.ClauseKind.{ClauseKind}
use Rattle.jr_program.specs.declared.words.ClauseKind.TheVariants.{Locks, MonitorsFor, Atomic}
use Rattle.jr_program.specs.Programs.{Program, Class, Method}
use Rattle.jr_program.specs.Programs.{Expr, Number, Truth, Null, This, ClassObject, Read, LengthOf, Convert, Unary, Binary, And, Or, Choice, Assign, Compound, PrefixIncrement, PostfixIncrement, ResultOf, NewObject, NewPlain, NewThread, NewArray}
use Rattle.jr_program.specs.Programs.{Variable, Local, StaticField, FieldOf, ElementOf, Call, CallStatic, CallOn, Exprs, no_more, and_then}
use Rattle.jr_program.specs.Programs.{Part, Literal, Shown, Catches, no_catch, or_catch}
use Rattle.jr_program.specs.Programs.{Effect, Evaluate, Invoke, CallObject, WaitFor, Yield, Sleep, Statement, Skip, Then, Declare, Do, If, Loop, DoLoop, Break, Continue, Return, ReturnValue, Throw, ThrowCaught, Try, Synchronized, Commit, Println, Assert}
use Rattle.jr_program.specs.Clauses.{Spec, Clause}
use Rattle.jr_program.specs.Clauses as specs

-- ---- code

abbrev mutual
  -- no `new Thread(..)` stands in it (`java.lang.Thread`)
  pub expr_is_built : Expr → Bool
  expr_is_built (Number w n) = true
  expr_is_built (Truth b) = true
  expr_is_built Null = true
  expr_is_built This = true
  expr_is_built (ClassObject class) = true
  expr_is_built (Read v) = variable_is_built v
  expr_is_built (LengthOf e) = expr_is_built e
  expr_is_built (Convert w e) = expr_is_built e
  expr_is_built (Unary operator e) = expr_is_built e
  expr_is_built (Binary operator a b) = expr_is_built a && expr_is_built b
  expr_is_built (And a b) = expr_is_built a && expr_is_built b
  expr_is_built (Or a b) = expr_is_built a && expr_is_built b
  expr_is_built (Choice c a b) = expr_is_built c && (expr_is_built a && expr_is_built b)
  expr_is_built (Assign v e) = variable_is_built v && expr_is_built e
  expr_is_built (Compound operator narrows v e) = variable_is_built v && expr_is_built e
  expr_is_built (PrefixIncrement w v by) = variable_is_built v
  expr_is_built (PostfixIncrement w v by) = variable_is_built v
  expr_is_built (ResultOf c) = call_is_built c
  expr_is_built (NewObject class es) = exprs_are_built es
  expr_is_built NewPlain = true
  expr_is_built (NewThread e) = false
  expr_is_built (NewArray element e) = expr_is_built e

  pub variable_is_built : Variable → Bool
  variable_is_built (Local number) = true
  variable_is_built (StaticField f) = true
  variable_is_built (FieldOf e f) = expr_is_built e
  variable_is_built (ElementOf element a i) = expr_is_built a && expr_is_built i

  pub call_is_built : Call → Bool
  call_is_built (CallStatic m es) = exprs_are_built es
  call_is_built (CallOn e m es) = expr_is_built e && exprs_are_built es

  pub exprs_are_built : Exprs → Bool
  exprs_are_built no_more = true
  exprs_are_built (and_then e es) = expr_is_built e && exprs_are_built es

-- no `wait`, `notify`, `notifyAll`, `start` or `join` either (JLS 17.2; `java.lang.Thread`)
abbrev pub effect_is_built : Effect → Bool
effect_is_built (Evaluate e) = expr_is_built e
effect_is_built (Invoke c) = call_is_built c
effect_is_built (CallObject called e) = false
effect_is_built (WaitFor e t) = false
effect_is_built Yield = true
effect_is_built (Sleep e) = expr_is_built e

abbrev pub part_is_built : Part → Bool
part_is_built (Literal text) = true
part_is_built (Shown e) = expr_is_built e

abbrev mutual
  -- nor a `synchronized` statement (JLS 14.19)
  pub statement_is_built : Statement → Bool
  statement_is_built Skip = true
  statement_is_built (Then a b) = statement_is_built a && statement_is_built b
  statement_is_built (Declare number e) = expr_is_built e
  statement_is_built (Do effect) = effect_is_built effect
  statement_is_built (If e a b) = expr_is_built e && (statement_is_built a && statement_is_built b)
  statement_is_built (Loop e us b) = expr_is_built e && (list_all effect_is_built us && statement_is_built b)
  statement_is_built (DoLoop b e) = statement_is_built b && expr_is_built e
  statement_is_built Break = true
  statement_is_built Continue = true
  statement_is_built Return = true
  statement_is_built (ReturnValue e) = expr_is_built e
  statement_is_built (Throw fault) = true
  statement_is_built (ThrowCaught number) = true
  statement_is_built (Try b cs) = statement_is_built b && catches_are_built cs
  statement_is_built (Synchronized e b) = false
  statement_is_built (Commit b) = statement_is_built b
  statement_is_built (Println parts) = list_all part_is_built parts
  statement_is_built (Assert clause numbers) = true

  pub catches_are_built : Catches → Bool
  catches_are_built no_catch = true
  catches_are_built (or_catch fault number h rest) = statement_is_built h && catches_are_built rest

-- nor is the method `synchronized` (JLS 8.4.3.6)
abbrev pub method_is_built : Method → Bool
method_is_built method = not method.is_synchronized && statement_is_built method.body

-- its objects are no threads (`java.lang.Thread`)
abbrev pub class_is_built : Class → Bool
class_is_built class = not class.extends_thread

-- ---- clauses

-- neither `\old` nor `\lockset` stands in it
abbrev pub looks_at_the_moment : Spec → Bool
looks_at_the_moment (specs.Number w n) = true
looks_at_the_moment (specs.Truth b) = true
looks_at_the_moment specs.Null = true
looks_at_the_moment specs.This = true
looks_at_the_moment (specs.Variable number) = true
looks_at_the_moment (specs.Bound depth) = true
looks_at_the_moment specs.Result = true
looks_at_the_moment (specs.StaticField field at) = true
looks_at_the_moment (specs.FieldOf object field slot) = looks_at_the_moment object
looks_at_the_moment (specs.ElementOf array index) = looks_at_the_moment array && looks_at_the_moment index
looks_at_the_moment (specs.LengthOf array) = looks_at_the_moment array
looks_at_the_moment (specs.ClassObject class) = true
looks_at_the_moment (specs.Convert w operand) = looks_at_the_moment operand
looks_at_the_moment (specs.Unary operator operand) = looks_at_the_moment operand
looks_at_the_moment (specs.Binary operator left right) = looks_at_the_moment left && looks_at_the_moment right
looks_at_the_moment (specs.And left right) = looks_at_the_moment left && looks_at_the_moment right
looks_at_the_moment (specs.Or left right) = looks_at_the_moment left && looks_at_the_moment right
looks_at_the_moment (specs.Choice condition first second) =
    looks_at_the_moment condition && (looks_at_the_moment first && looks_at_the_moment second)
looks_at_the_moment (specs.Implies left right) = looks_at_the_moment left && looks_at_the_moment right
looks_at_the_moment (specs.ImpliedBy left right) = looks_at_the_moment left && looks_at_the_moment right
looks_at_the_moment (specs.Old value) = false
looks_at_the_moment (specs.InLockset object) = false
looks_at_the_moment (specs.Quantified quantifier low low_bound high high_bound conjuncts body) =
    looks_at_the_moment low && (looks_at_the_moment high && (looks_at_the_moment conjuncts && looks_at_the_moment body))

-- it asks for no monitors, as `locks` and `monitors_for` do, and speaks of no earlier step, as `locks` and `atomic` do
abbrev pub kind_is_built : ClauseKind → Bool
kind_is_built Locks = false
kind_is_built MonitorsFor = false
kind_is_built Atomic = false
kind_is_built _ = true

abbrev pub clause_is_built : Clause → Bool
clause_is_built clause = kind_is_built clause.kind && list_all looks_at_the_moment clause.states

-- ---- the program

-- The program can be run yet.
abbrev pub is_built : Program → Bool
is_built program =
    list_all class_is_built program.classes && (list_all method_is_built program.methods && list_all clause_is_built program.clauses)
