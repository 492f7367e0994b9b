-- What holds of each typed program: each number names something, operands have the kinds that their operators take,
-- a body with a result ends, each clause belongs to what its kind asks and fits there, and variables and clauses keep
-- their limits. It follows from the rules of names and types (JLS 6, 8, 14, 15); classes of references are no part of
-- it.
use Rattle.std.specs.Prelude.{◌≡◌, ◌≢◌, ◌<◌, ◌≤◌, ◌+◌, ◌^◌, ◌||◌, ◌⊎◌, ℕ, Bool, true, false, cond, List, [], ◌∷◌, ◌++◌, Option, Some, None, slice_get, length}
use Rattle.jr_base.specs.declared.number.ClassId.{ClassId}
use Rattle.jr_base.specs.declared.number.FieldId.{FieldId}
use Rattle.jr_base.specs.declared.number.MethodId.{MethodId}
use Rattle.jr_base.specs.declared.number.ClauseId.{ClauseId}
use Rattle.jr_base.specs.declared.number.TextId.{TextId}
use Rattle.jr_base.specs.declared.number.ObjId.{ObjId}
use Rattle.jr_base.specs.declared.action.Body.{Body}
use Rattle.jr_base.specs.declared.action.Elem.{Elem}
use Rattle.jr_base.specs.declared.action.Elem.TheVariants as elements
use Rattle.jr_base.specs.declared.value.Value.{Value}
use Rattle.jr_base.specs.declared.value.Value.TheVariants as values
use Rattle.jr_base.specs.declared.kind.SlotKind.{SlotKind}
use Rattle.jr_base.specs.declared.kind.SlotKind.TheVariants.{Int, Long, Bool as Boolean, Ref, Caught}
use Rattle.jr_arith.specs.declared.operator.Width.TheVariants as width
use Rattle.jr_arith.specs.declared.operator.Binary.{Binary as BinaryOperator}
use Rattle.jr_arith.specs.Arithmetic.{fits}
use Rattle.jr_arith.specs.Kinds.{kind_of_element, kind_of_width, kind_converted, unary_kind, left_kind, right_kind, result_kind}
use Rattle.jr_program.specs.declared.words.ClauseKind.{ClauseKind}
use Rattle.jr_program.specs.declared.words.ClauseKind.TheVariants as kinds
use Rattle.jr_program.specs.declared.words.Site.{Site}
use Rattle.jr_program.specs.Clauses.{Clause, Spec, Owner, OfMethod, OfClass, OfField}
use Rattle.jr_program.specs.Programs.{Program, Class, Field, Method, class_at, field_at, method_at, clause_at, constructor_of}
use Rattle.jr_program.specs.Programs.{Expr, Number, Truth, Null, This, ClassObject, Read, LengthOf, Convert, Unary, Binary, And, Or, Choice, Assign, Compound, PrefixIncrement, PostfixIncrement, ResultOf, NewObject, NewPlain, NewThread, NewArray}
use Rattle.jr_program.specs.Programs.{Variable, Local, StaticField, FieldOf, ElementOf, Call, CallStatic, CallOn, Exprs, no_more, and_then}
use Rattle.jr_program.specs.Programs.{Part, Literal, Shown, Effect, Evaluate, Invoke, CallObject, WaitFor, Yield, Sleep, Catches, no_catch, or_catch}
use Rattle.jr_program.specs.Programs.{Statement, Skip, Then, Declare, Do, If, Loop, DoLoop, Break, Continue, Return, ReturnValue, Throw, ThrowCaught, Try, Synchronized, Commit, Println, Assert}
use Rattle.jr_program.specs.ClauseKinds.{IsClass, IsField, IsVariable, ClauseScope, StatesFit}
use Rattle.jr_program.specs.Sites.{due_at_site}

-- ---- limits

abbrev pub most_formals : ℕ
most_formals = 16

-- how many variables may be in scope at one place, `this` among them
abbrev pub most_in_scope : ℕ
most_in_scope = 256

abbrev pub most_parts : ℕ
most_parts = 8

-- how many clauses may be due at one site
abbrev pub most_due : ℕ
most_due = 16

-- ---- expressions

-- what stands around an expression or a statement: the program; the method with whether it is static, the kinds of
-- its variables and its result; and whether a loop is around
pub record Scope : Type 0 where
  pub program : Program
  pub method : MethodId
  pub is_static : Bool
  pub kinds : List SlotKind
  pub result : Option SlotKind
  pub in_loop : Bool

abbrev pub in_body_of_loop : Scope → Scope
in_body_of_loop s = record s { in_loop = true }

-- a compound assignment to a variable of that kind: where it narrows, its variable is an int and its operator of longs
abbrev pub CompoundFits : Bool → BinaryOperator → SlotKind → Type 0
CompoundFits false operator k = (left_kind operator ≡ k) × (result_kind operator ≡ k)
CompoundFits true operator k = (k ≡ Int) × (left_kind operator ≡ Long) × (result_kind operator ≡ Long)

abbrev pub ElementNamed : Program → Elem → Type 0
ElementNamed program (elements.Class class) = IsClass program class
ElementNamed program _ = Unit {0}

-- a class without a constructor is made with no arguments
abbrev pub ConstructorHas : Program → Option MethodId → (List SlotKind → Type 0) → Type 0
ConstructorHas program None arguments = arguments []
ConstructorHas program (Some m) arguments =
    (method : Method) × (method_at program m ≡ Some method) × (method.is_static ≡ false) × (method.result ≡ None) × arguments method.formals

abbrev mutual
  -- the expression has a value of that kind
  pub HasKind : Scope → Expr → SlotKind → Type 0
  HasKind s (Number w n) k = (k ≡ kind_of_width w) × (fits w n ≡ true)
  HasKind s (Truth b) k = k ≡ Boolean
  HasKind s Null k = k ≡ Ref
  HasKind s This k = (s.is_static ≡ false) × (k ≡ Ref)
  HasKind s (ClassObject class) k = IsClass s.program class × (k ≡ Ref)
  HasKind s (Read v) k = VariableHas s v k
  HasKind s (LengthOf e) k = HasKind s e Ref × (k ≡ Int)
  HasKind s (Convert w e) k = HasKind s e (kind_converted w) × (k ≡ kind_of_width w)
  HasKind s (Unary operator e) k = HasKind s e (unary_kind operator) × (k ≡ unary_kind operator)
  HasKind s (Binary operator a b) k = HasKind s a (left_kind operator) × HasKind s b (right_kind operator) × (k ≡ result_kind operator)
  HasKind s (And a b) k = HasKind s a Boolean × HasKind s b Boolean × (k ≡ Boolean)
  HasKind s (Or a b) k = HasKind s a Boolean × HasKind s b Boolean × (k ≡ Boolean)
  HasKind s (Choice c a b) k = HasKind s c Boolean × HasKind s a k × HasKind s b k
  HasKind s (Assign v e) k = VariableHas s v k × HasKind s e k
  HasKind s (Compound operator narrows v e) k = VariableHas s v k × HasKind s e (right_kind operator) × CompoundFits narrows operator k
  HasKind s (PrefixIncrement w v by) k = VariableHas s v k × (k ≡ kind_of_width w) × (fits w by ≡ true)
  HasKind s (PostfixIncrement w v by) k = VariableHas s v k × (k ≡ kind_of_width w) × (fits w by ≡ true)
  HasKind s (ResultOf c) k = CallHas s c (Some k)
  HasKind s (NewObject class es) k = ConstructorHas s.program (constructor_of s.program class) (λ ks. ExprsHave s es ks) × (k ≡ Ref) × IsClass s.program class
  HasKind s NewPlain k = k ≡ Ref
  HasKind s (NewThread e) k = HasKind s e Ref × (k ≡ Ref)
  HasKind s (NewArray element e) k = HasKind s e Int × (k ≡ Ref) × ElementNamed s.program element

  pub VariableHas : Scope → Variable → SlotKind → Type 0
  VariableHas s (Local number) k = IsVariable s.kinds number k
  VariableHas s (StaticField f) k = IsField s.program f true k
  VariableHas s (FieldOf e f) k = HasKind s e Ref × IsField s.program f false k
  VariableHas s (ElementOf element a i) k = HasKind s a Ref × HasKind s i Int × (k ≡ kind_of_element element) × ElementNamed s.program element

  -- a call with that result, or with none; a constructor is called by `new` alone
  pub CallHas : Scope → Call → Option SlotKind → Type 0
  CallHas s (CallStatic m es) r =
      (method : Method) × (method_at s.program m ≡ Some method) × (method.is_static ≡ true) × (method.result ≡ r) × ExprsHave s es method.formals
  CallHas s (CallOn e m es) r =
      (method : Method) × (method_at s.program m ≡ Some method) × (method.is_static ≡ false) × (method.result ≡ r) × ExprsHave s es method.formals
      × HasKind s e Ref × (method.is_constructor ≡ false)

  pub ExprsHave : Scope → Exprs → List SlotKind → Type 0
  ExprsHave s no_more ks = ks ≡ []
  ExprsHave s (and_then e es) [] = ⊥
  ExprsHave s (and_then e es) (k ∷ ks) = HasKind s e k × ExprsHave s es ks

-- ---- statements

abbrev pub EffectFits : Scope → Effect → Type 0
EffectFits s (Evaluate e) = (k : SlotKind) × HasKind s e k
EffectFits s (Invoke c) = CallHas s c None
EffectFits s (CallObject called e) = HasKind s e Ref
EffectFits s (WaitFor e t) = HasKind s e Ref × HasKind s t Long
EffectFits s Yield = Unit {0}
EffectFits s (Sleep e) = HasKind s e Int

abbrev pub EffectsFit : Scope → List Effect → Type 0
EffectsFit s [] = Unit {0}
EffectsFit s (e ∷ es) = EffectFits s e × EffectsFit s es

abbrev pub IsText : Program → TextId → Type 0
IsText program text = text.0 < length program.texts

abbrev pub PartsFit : Scope → List Part → Type 0
PartsFit s [] = Unit {0}
PartsFit s (Literal text ∷ parts) = IsText s.program text × PartsFit s parts
PartsFit s (Shown e ∷ parts) = ((k : SlotKind) × HasKind s e k) × PartsFit s parts

-- the variables of those numbers have these kinds
abbrev pub AreVariables : List SlotKind → List ℕ → List SlotKind → Type 0
AreVariables kinds [] ks = ks ≡ []
AreVariables kinds (number ∷ numbers) [] = ⊥
AreVariables kinds (number ∷ numbers) (k ∷ ks) = IsVariable kinds number k × AreVariables kinds numbers ks

-- how many variables are in scope, `this` among them where there is one
abbrev pub in_scope : (is_static : Bool) (variables : ℕ) → ℕ
in_scope is_static variables = cond is_static variables (variables + 1)

-- what an `assert` may name: the variables in scope, by their numbers in this list
abbrev pub assert_scope : Program → Bool → List SlotKind → ClauseScope
assert_scope program static variables = record {
  program = program;
  is_static = static;
  variables = variables;
  result = None;
  looks_back = false;
  is_in_old = false;
  quantifiers = 0;
}

-- the number names an `assert` of that method, which fits where these variables are in scope
abbrev pub IsAssert : Scope → List SlotKind → ClauseId → Type 0
IsAssert s variables c =
    (clause : Clause) × (clause_at s.program c ≡ Some clause) × (clause.kind ≡ kinds.Assert) × (clause.owner ≡ OfMethod s.method)
    × StatesFit (assert_scope s.program s.is_static variables) kinds.Assert clause.states

abbrev mutual
  -- the statement may stand there
  pub Fits : Scope → Statement → Type 0
  Fits s Skip = Unit {0}
  Fits s (Then a b) = Fits s a × Fits s b
  Fits s (Declare number e) = (k : SlotKind) × IsVariable s.kinds number k × HasKind s e k
  Fits s (Do e) = EffectFits s e
  Fits s (If e a b) = HasKind s e Boolean × Fits s a × Fits s b
  Fits s (Loop e us b) = HasKind s e Boolean × EffectsFit s us × Fits (in_body_of_loop s) b
  Fits s (DoLoop b e) = HasKind s e Boolean × Fits (in_body_of_loop s) b
  Fits s Break = s.in_loop ≡ true
  Fits s Continue = s.in_loop ≡ true
  Fits s Return = s.result ≡ None
  Fits s (ReturnValue e) = (k : SlotKind) × (s.result ≡ Some k) × HasKind s e k
  Fits s (Throw fault) = Unit {0}
  Fits s (ThrowCaught number) = slice_get s.kinds number ≡ Some Caught
  Fits s (Try b cs) = Fits s b × CatchesFit s cs
  Fits s (Synchronized e b) = HasKind s e Ref × Fits s b
  Fits s (Commit b) = Fits s b
  Fits s (Println parts) = PartsFit s parts × (length parts ≤ most_parts)
  Fits s (Assert clause numbers) =
      (variables : List SlotKind) × AreVariables s.kinds numbers variables × (in_scope s.is_static (length numbers) ≤ most_in_scope)
      × IsAssert s variables clause

  pub CatchesFit : Scope → Catches → Type 0
  CatchesFit s no_catch = Unit {0}
  CatchesFit s (or_catch fault number h rest) = (slice_get s.kinds number ≡ Some Caught) × Fits s h × CatchesFit s rest

abbrev pub scope_of : Program → MethodId → Method → Scope
scope_of program m method = record {
  program = program;
  method = m;
  is_static = method.is_static;
  kinds = method.formals ++ method.locals;
  result = method.result;
  in_loop = false;
}

-- ---- ends of bodies

abbrev mutual
  -- no `break` of the statement leaves a loop around it
  pub NoBreak : Statement → Type 0
  NoBreak (Then a b) = NoBreak a × NoBreak b
  NoBreak (If e a b) = NoBreak a × NoBreak b
  NoBreak Break = ⊥
  NoBreak (Try b cs) = NoBreak b × NoBreakIn cs
  NoBreak (Synchronized e b) = NoBreak b
  NoBreak (Commit b) = NoBreak b
  NoBreak Skip = Unit {0}
  NoBreak (Declare number e) = Unit {0}
  NoBreak (Do e) = Unit {0}
  NoBreak (Loop e us b) = Unit {0}
  NoBreak (DoLoop b e) = Unit {0}
  NoBreak Continue = Unit {0}
  NoBreak Return = Unit {0}
  NoBreak (ReturnValue e) = Unit {0}
  NoBreak (Throw fault) = Unit {0}
  NoBreak (ThrowCaught number) = Unit {0}
  NoBreak (Println parts) = Unit {0}
  NoBreak (Assert clause scope) = Unit {0}

  pub NoBreakIn : Catches → Type 0
  NoBreakIn no_catch = Unit {0}
  NoBreakIn (or_catch fault number h rest) = NoBreak h × NoBreakIn rest

abbrev mutual
  -- the statement is never left at its end (JLS 14.21, without its rule on constants)
  pub AlwaysEnds : Statement → Type 0
  AlwaysEnds (Then a b) = AlwaysEnds a ⊎ AlwaysEnds b
  AlwaysEnds (If e a b) = AlwaysEnds a × AlwaysEnds b
  AlwaysEnds (Loop e us b) = (e ≡ Truth true) × NoBreak b
  AlwaysEnds (DoLoop b e) = (e ≡ Truth true) × NoBreak b
  AlwaysEnds Return = Unit {0}
  AlwaysEnds (ReturnValue e) = Unit {0}
  AlwaysEnds (Throw fault) = Unit {0}
  AlwaysEnds (ThrowCaught number) = Unit {0}
  AlwaysEnds (Try b cs) = AlwaysEnds b × AllEnd cs
  AlwaysEnds (Synchronized e b) = AlwaysEnds b
  AlwaysEnds (Commit b) = AlwaysEnds b
  AlwaysEnds Skip = ⊥
  AlwaysEnds (Declare number e) = ⊥
  AlwaysEnds (Do e) = ⊥
  AlwaysEnds Break = ⊥
  AlwaysEnds Continue = ⊥
  AlwaysEnds (Println parts) = ⊥
  AlwaysEnds (Assert clause scope) = ⊥

  pub AllEnd : Catches → Type 0
  AllEnd no_catch = Unit {0}
  AllEnd (or_catch fault number h rest) = AlwaysEnds h × AllEnd rest

-- the body of a method with a result ends by itself
abbrev pub EndsAsItMust : Statement → Option SlotKind → Type 0
EndsAsItMust body None = Unit {0}
EndsAsItMust body (Some k) = AlwaysEnds body

-- ---- classes

abbrev pub NoneCaught : List SlotKind → Type 0
NoneCaught [] = Unit {0}
NoneCaught (k ∷ ks) = (k ≢ Caught) × NoneCaught ks

-- What a thread runs is an instance method of the class, without formals. A class that implements Runnable has one,
-- and in such a class, as in one that extends Thread, it has no result.
abbrev pub RunFits : Program → ClassId → Class → Option MethodId → Type 0
RunFits program c class None = class.implements_runnable ≡ false
RunFits program c class (Some m) =
    (method : Method) × (method_at program m ≡ Some method) × (method.class ≡ c) × (method.is_static ≡ false) × (method.is_constructor ≡ false)
    × (method.formals ≡ []) × ((class.extends_thread || class.implements_runnable) ≡ true → method.result ≡ None)

abbrev pub ConstructorFits : Program → ClassId → Option MethodId → Type 0
ConstructorFits program c None = Unit {0}
ConstructorFits program c (Some m) =
    (method : Method) × (method_at program m ≡ Some method) × (method.class ≡ c) × (method.is_constructor ≡ true)

pub record ClassFits (program : Program) (c : ClassId) (class : Class) : Type 0 where
  pub run : RunFits program c class class.run
  pub constructor : ConstructorFits program c class.constructor

-- ---- fields

-- a constant is a number, a truth or null
abbrev pub ConstantHas : Value → SlotKind → Type 0
ConstantHas values.Null k = k ≡ Ref
ConstantHas (values.Ref object) k = ⊥
ConstantHas (values.Int n) k = (k ≡ Int) × (fits width.Int n ≡ true)
ConstantHas (values.Long n) k = (k ≡ Long) × (fits width.Long n ≡ true)
ConstantHas (values.Bool b) k = k ≡ Boolean

-- a field of a class of the program
pub record FieldFits (program : Program) (field : Field) : Type 0 where
  pub class : IsClass program field.class
  pub constant : ConstantHas field.constant field.kind

-- ---- methods

-- a constructor is its class's (JLS 8.8)
abbrev pub ConstructsFits : Program → MethodId → Method → Bool → Type 0
ConstructsFits program m method false = Unit {0}
ConstructsFits program m method true =
    (constructor_of program method.class ≡ Some m) × (method.is_static ≡ false) × (method.is_synchronized ≡ false) × (method.result ≡ None)

-- a method of a class of the program
pub record MethodFits (program : Program) (m : MethodId) (method : Method) : Type 0 where
  pub class : IsClass program method.class
  pub formals : NoneCaught method.formals
  pub few_formals : length method.formals ≤ most_formals
  pub result : method.result ≢ Some Caught
  pub constructs : ConstructsFits program m method method.is_constructor
  pub body : Fits (scope_of program m method) method.body
  pub ends : EndsAsItMust method.body method.result

-- ---- clauses

-- the kinds of the clauses of a class, and of those of a method or constructor
abbrev pub is_of_class : ClauseKind → Bool
is_of_class kinds.Invariant = true
is_of_class kinds.Constraint = true
is_of_class _ = false

abbrev pub is_of_method : ClauseKind → Bool
is_of_method kinds.Requires = true
is_of_method kinds.Ensures = true
is_of_method kinds.When = true
is_of_method kinds.Locks = true
is_of_method kinds.Atomic = true
is_of_method kinds.Assert = true
is_of_method _ = false

-- a clause of a class or of a field has no variables; a constraint looks back
abbrev pub scope_without_variables : Program → (is_static looks_back : Bool) → ClauseScope
scope_without_variables program static back = record {
  program = program;
  is_static = static;
  variables = [];
  result = None;
  looks_back = back;
  is_in_old = false;
  quantifiers = 0;
}

-- what the clauses of a method may name: `this` where it isn't static, and its formals
abbrev pub scope_at_call : Program → Method → ClauseScope
scope_at_call program method = record {
  program = program;
  is_static = method.is_static;
  variables = method.formals;
  result = None;
  looks_back = false;
  is_in_old = false;
  quantifiers = 0;
}

-- `ensures` looks back, and may name the result where there is one
abbrev pub scope_at_return : Program → Method → ClauseScope
scope_at_return program method = record (scope_at_call program method) { result = method.result; looks_back = true }

-- What a clause of a method states fits there. An `assert` fits some variables in scope; its statement says which.
abbrev pub FitsMethod : Program → Method → ClauseKind → List Spec → Type 0
FitsMethod program method kinds.Ensures states = StatesFit (scope_at_return program method) kinds.Ensures states
FitsMethod program method kinds.Assert states =
    (variables : List SlotKind) × (in_scope method.is_static (length variables) ≤ most_in_scope)
    × StatesFit (assert_scope program method.is_static variables) kinds.Assert states
FitsMethod program method kind states = StatesFit (scope_at_call program method) kind states

abbrev pub FitsClass : Program → (is_static : Bool) → ClauseKind → List Spec → Type 0
FitsClass program static kinds.Constraint states = StatesFit (scope_without_variables program static true) kinds.Constraint states
FitsClass program static kind states = StatesFit (scope_without_variables program static false) kind states

-- Its owner is in the program, and of the sort that its kind asks. A clause of a static method or field is static, one
-- of another method or field isn't, and a class's may be either. What it states fits where its owner stands.
abbrev pub FitsOwner : Program → Clause → Owner → Type 0
FitsOwner program clause (OfMethod m) =
    (method : Method) × (method_at program m ≡ Some method) × (is_of_method clause.kind ≡ true)
    × (clause.is_static ≡ method.is_static) × FitsMethod program method clause.kind clause.states
FitsOwner program clause (OfClass c) =
    IsClass program c × (is_of_class clause.kind ≡ true) × FitsClass program clause.is_static clause.kind clause.states
FitsOwner program clause (OfField f) =
    (field : Field) × (field_at program f ≡ Some field) × (clause.kind ≡ kinds.MonitorsFor)
    × (clause.is_static ≡ field.is_static) × StatesFit (scope_without_variables program field.is_static false) kinds.MonitorsFor clause.states

-- ---- the whole

-- numbers have 32 bits; those of class objects and of clauses count from 1
pub record IsNumbered (program : Program) : Type 0 where
  pub classes : length program.classes + 1 < 2 ^ 32
  pub fields : length program.fields < 2 ^ 32
  pub methods : length program.methods < 2 ^ 32
  pub clauses : length program.clauses + 1 < 2 ^ 32
  pub texts : length program.texts < 2 ^ 32

-- main is a static method whose formal is no variable, and without a result (JLS 12.1.4)
abbrev pub MainFits : Program → Type 0
MainFits program =
    (method : Method) × (method_at program program.main ≡ Some method) × (method.is_static ≡ true) × (method.is_constructor ≡ false)
    × (method.formals ≡ []) × (method.result ≡ None)

-- The program is as the checks of names, types and clauses leave it.
pub record WellFormed (program : Program) : Type 0 where
  pub numbers : IsNumbered program
  pub main : MainFits program
  pub classes : (c : ClassId) (class : Class) → class_at program c ≡ Some class → ClassFits program c class
  pub fields : (f : FieldId) (field : Field) → field_at program f ≡ Some field → FieldFits program field
  pub methods : (m : MethodId) (method : Method) → method_at program m ≡ Some method → MethodFits program m method
  pub clauses : (c : ClauseId) (clause : Clause) → clause_at program c ≡ Some clause → FitsOwner program clause clause.owner
  pub few_due : (site : Site) → length (due_at_site program site) ≤ most_due

-- a thread's method has an object as `this` exactly where it isn't static
abbrev pub ThisFits : (is_static : Bool) → Option ObjId → Type 0
ThisFits true this = this ≡ None
ThisFits false this = (object : ObjId) × (this ≡ Some object)

-- what a thread may run is a method of the program without formals, on an object where it isn't static
abbrev pub StartFits : Program → Option Body → Type 0
StartFits program None = Unit {0}
StartFits program (Some start) =
    (method : Method) × (method_at program start.method ≡ Some method) × (method.formals ≡ []) × ThisFits method.is_static start.this
