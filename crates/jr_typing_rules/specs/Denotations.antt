-- What expressions denote (JLS 15.1), and the names that stand before a dot (JLS 6.5).
use Rattle.std.specs.Prelude.{ℕ, Bool, cond, not, ◌&&◌, ◌==◌, List, [], ◌∷◌, ◌++◌, length, Option, Some, None, codes}
use Rattle.std.specs.Str.{bytes_eq}
use Rattle.jr_base.specs.declared.number.Span.{Span}
use Rattle.jr_base.specs.declared.number.ClassId.{ClassId}
use Rattle.jr_base.specs.declared.action.Elem.TheVariants as elem
use Rattle.jr_base.specs.declared.refusal.Refusal.TheVariants.{Unknown, Mismatch, NotInProfile}
use Rattle.jr_ast.specs.declared.name.Name.{Name}
use Rattle.jr_typing_rules.specs.declared.words.ValueType.{ValueType}
use Rattle.jr_typing_rules.specs.declared.words.ValueType.TheVariants as type
use Rattle.jr_typing_rules.specs.declared.words.FieldEntry.{FieldEntry}
use Rattle.jr_typing_rules.specs.declared.words.MethodEntry.{MethodEntry}
use Rattle.jr_typing_rules.specs.declared.words.VariableKind.{VariableKind}
use Rattle.jr_typing_rules.specs.declared.words.VariableKind.TheVariants as variable
use Rattle.jr_base.specs.declared.kind.ObjectCall.{ObjectCall}
use Rattle.jr_base.specs.declared.kind.ObjectCall.TheVariants as calls
use Rattle.jr_program.specs.Programs as program
use Rattle.jr_program.specs.Programs.{Expr, Exprs, Effect, This, Read, Local, StaticField, FieldOf, LengthOf, ElementOf, CallStatic, CallOn, ResultOf, NewObject, NewPlain, NewThread, Invoke, CallObject, WaitFor, Yield, Sleep, Convert, no_more}
use Rattle.jr_typing_rules.specs.declared.words.Library.{Library}
use Rattle.jr_typing_rules.specs.declared.words.Library.TheVariants as library
use Rattle.jr_typing_rules.specs.declared.words.Head.{Head}
use Rattle.jr_typing_rules.specs.declared.words.Face.{Face}
use Rattle.jr_typing_rules.specs.declared.words.Face.TheVariants as face
use Rattle.jr_typing_rules.specs.declared.words.Access.{Access}
use Rattle.jr_typing_rules.specs.declared.words.Access.TheVariants as access
use Rattle.jr_typing_rules.specs.Answers.{Typing, Good, Bad, ◌>>=◌, require, found}
use Rattle.jr_arith.specs.declared.operator.Width.{Width}
use Rattle.jr_typing_rules.specs.declared.words.Members.{Members}
use Rattle.jr_typing_rules.specs.declared.words.Members.TheVariants as members
use Rattle.jr_typing_rules.specs.Types.{members_of, width_to, int, long, object}
use Rattle.jr_typing_rules.specs.Names.{Text, Names, Class, named, and_then, class_at, field_in, method_in, is_thread, is_assignable}
use Rattle.jr_typing_rules.specs.Scopes.{Scope, Variable, variable_named, own_field, own_method}

pub data Denotation : Type 0 where
  -- a class of the program, before a dot
  AClass : (c : ClassId) → Denotation
  -- a class of the library, before a dot
  ALibrary : (l : Library) → Denotation
  -- `System`, and `System.out`, of which only `println` is in the language: where it stands
  ASystem : (at : Span) → Denotation
  AnOut : (at : Span) → Denotation
  -- a variable, a value or nothing
  AVariable : (t : ValueType) (x : program.Variable) → Denotation
  AValue : (t : ValueType) (e : Expr) → Denotation
  ANothing : (e : Effect) → Denotation

-- what stands before a dot, without its tree
abbrev pub face_of : Denotation → Face
face_of (AClass c) = face.Class c
face_of (ALibrary l) = face.Library l
face_of (ASystem system) = face.System system
face_of (AnOut system) = face.Out system
face_of (AVariable t x) = face.Value t
face_of (AValue t e) = face.Value t
face_of (ANothing e) = face.Nothing

-- a value: its type and its expression
pub record Value : Type 0 where
  pub of : ValueType
  pub node : Expr

-- the arguments of a call
abbrev pub exprs : List Expr → Exprs
exprs [] = no_more
exprs (e ∷ es) = program.and_then e (exprs es)

-- a number, brought to the type that is asked for
abbrev pub converted : Option Width → Expr → Expr
converted (Some w) e = Convert w e
converted None e = e

abbrev pub brought : ValueType → ValueType → Expr → Expr
brought from to e = converted (width_to from to) e

-- a value is asked for, where the first token stands there: a name before a dot is none
unfoldable pub value_of : Span → Denotation → Typing Value
value_of at (AVariable t x) = Good (record { of = t; node = Read x })
value_of at (AValue t e) = Good (record { of = t; node = e })
value_of at (ANothing e) = Bad (Mismatch at)
value_of at (AClass c) = Bad (Unknown at)
value_of at (ALibrary l) = Bad (Unknown at)
value_of at (ASystem system) = Bad (Unknown system)
value_of at (AnOut system) = Bad (Unknown system)

-- a variable that is assigned to, and its type
pub record Target : Type 0 where
  pub of : ValueType
  pub node : program.Variable

-- a variable is asked for
unfoldable pub variable_of : Span → Denotation → Typing Target
variable_of at (AVariable t x) = Good (record { of = t; node = x })
variable_of at (AValue t e) = Bad (Mismatch at)
variable_of at (ANothing e) = Bad (Mismatch at)
variable_of at (AClass c) = Bad (Unknown at)
variable_of at (ALibrary l) = Bad (Unknown at)
variable_of at (ASystem system) = Bad (Unknown system)
variable_of at (AnOut system) = Bad (Unknown system)

-- brackets keep a variable one (JLS 15.8.5)
unfoldable pub in_brackets : Span → Denotation → Typing Denotation
in_brackets at (AVariable t x) = Good (AVariable t x)
in_brackets at (AValue t e) = Good (AValue t e)
in_brackets at (ANothing e) = Bad (Mismatch at)
in_brackets at (AClass c) = Bad (Unknown at)
in_brackets at (ALibrary l) = Bad (Unknown at)
in_brackets at (ASystem system) = Bad (Unknown system)
in_brackets at (AnOut system) = Bad (Unknown system)

-- ---- names

-- the formal of main is not used, and a catch variable is no value
abbrev pub of_variable : Span → Name → VariableKind → Typing Denotation
of_variable at x (variable.Local t place) = Good (AVariable t (Local place))
of_variable at x (variable.Caught place) = Bad (Mismatch at)
of_variable at x variable.Arguments = Bad (NotInProfile x.place)

-- an instance field alone is one of `this`
abbrev pub of_own_field : Scope → Span → FieldEntry → Typing Denotation
of_own_field scope at f =
    cond f.is_static
    (Good (AVariable f.of (StaticField f.number)))
    (require (not scope.is_static) (Mismatch at) >>= λ u. Good (AVariable f.of (FieldOf This f.number)))

-- the classes of the library, and `System`
abbrev pub of_library : Name → Typing Denotation
of_library x =
    cond (bytes_eq x.text (codes "Object")) (Good (ALibrary library.Object))
    (cond (bytes_eq x.text (codes "Thread")) (Good (ALibrary library.Thread))
    (cond (bytes_eq x.text (codes "Runnable")) (Good (ALibrary library.Runnable))
    (cond (bytes_eq x.text (codes "System")) (Good (ASystem x.place))
    (Bad (Unknown x.place)))))

abbrev pub of_class : Option ClassId → Name → Typing Denotation
of_class (Some c) x = Good (AClass c)
of_class None x = of_library x

abbrev pub of_field_or_class : Scope → Span → Name → Option FieldEntry → Typing Denotation
of_field_or_class scope at x (Some f) = of_own_field scope at f
of_field_or_class scope at x None = of_class (named x.text scope.names.numbers) x

abbrev pub of_any : Scope → Span → Name → Option Variable → Typing Denotation
of_any scope at x (Some v) = of_variable at x v.kind
of_any scope at x None = of_field_or_class scope at x (own_field scope x.text)

-- a variable, else a field of the own class, else a class (JLS 6.4.2, 6.5.2)
unfoldable pub simple_name : Scope → Span → Name → Typing Denotation
simple_name scope at x = of_any scope at x (variable_named scope x.text)

-- ---- fields

-- `length` of an array (JLS 10.7), or a field of an object (JLS 15.11)
abbrev pub member_access : Scope → Span → Name → Members → Typing Access
member_access scope at x (members.OfArray t) = require (bytes_eq x.text (codes "length")) (Unknown x.place) >>= λ u. Good access.Length
member_access scope at x (members.OfClass c) =
    found (field_in scope.names c x.text) (Unknown x.place) >>= λ (f : FieldEntry).
    require (not f.is_static) (Mismatch at) >>= λ u. Good (access.Field f)
member_access scope at x members.OfLibrary = Bad (Unknown x.place)
member_access scope at x members.Nothing = Bad (Mismatch at)

-- a static field, by its class
abbrev pub static_access : Scope → Span → Name → ClassId → Typing Access
static_access scope at x c =
    found (field_in scope.names c x.text) (Unknown x.place) >>= λ (f : FieldEntry).
    require f.is_static (Mismatch at) >>= λ u. Good (access.Static f)

-- which field a name behind a dot is
unfoldable pub field_access : Scope → Span → Name → Face → Typing Access
field_access scope at x (face.Class c) = static_access scope at x c
field_access scope at x (face.Library l) = Bad (Unknown x.place)
field_access scope at x (face.System system) = require (bytes_eq x.text (codes "out")) (Unknown system) >>= λ u. Good (access.Out system)
field_access scope at x (face.Out system) = Bad (Unknown system)
field_access scope at x (face.Value t) = member_access scope at x (members_of t)
field_access scope at x face.Nothing = Bad (Mismatch at)

abbrev pub accessed : Span → Access → Denotation → Typing Denotation
accessed at (access.Static f) m = Good (AVariable f.of (StaticField f.number))
accessed at (access.Out system) m = Good (AnOut system)
accessed at access.Length m = value_of at m >>= λ v. Good (AValue int (LengthOf v.node))
accessed at (access.Field f) m = value_of at m >>= λ v. Good (AVariable f.of (FieldOf v.node f.number))

abbrev pub field_of : Scope → Span → Name → Denotation → Typing Denotation
field_of scope at x m = field_access scope at x (face_of m) >>= λ a. accessed at a m

-- ---- elements (JLS 15.10.3)

abbrev pub element_of : Span → Members → Expr → Expr → Typing Denotation
element_of at (members.OfArray t) e i = Good (AVariable (type.Single t) (ElementOf t e i))
element_of at _ e i = Bad (Mismatch at)

abbrev pub element : Span → Expr → Value → Typing Denotation
element at i v = element_of at (members_of v.of) v.node i

-- ---- calls (JLS 15.12)

-- what is called
pub data Callee : Type 0 where
  OfClass : (m : MethodEntry) → Callee
  OfObject : (m : MethodEntry) → Callee
  OfMonitor : (call : ObjectCall) → Callee
  OfYield : Callee
  OfSleep : Callee

-- what is made
pub data Maker : Type 0 where
  MakesObject : (c : ClassId) (formals : List ValueType) → Maker
  MakesPlain : Maker
  MakesThread : Maker

-- arguments: where each stands and which type it has, and their expressions
pub record Arguments : Type 0 where
  pub heads : List Head
  pub nodes : List Expr

abbrev pub no_arguments : Arguments
no_arguments = record { heads = []; nodes = [] }

abbrev pub and_argument : Arguments → Span → Value → Arguments
and_argument given at v = record { heads = given.heads ++ record { place = at; of = v.of } ∷ []; nodes = given.nodes ++ v.node ∷ [] }

-- the methods that each object has, and those of threads (JLS 17.2)
abbrev pub monitor_call : Bool → Text → Option ObjectCall
monitor_call is_a_thread x =
    cond (bytes_eq x (codes "wait")) (Some calls.Wait)
    (cond (bytes_eq x (codes "notify")) (Some calls.Notify)
    (cond (bytes_eq x (codes "notifyAll")) (Some calls.NotifyAll)
    (cond (is_a_thread && bytes_eq x (codes "start")) (Some calls.Start)
    (cond (is_a_thread && bytes_eq x (codes "join")) (Some calls.Join)
    None))))

abbrev pub library_callee : Scope → Name → ValueType → Typing Callee
library_callee scope x t = found (monitor_call (is_thread scope.names t) x.text) (Unknown x.place) >>= λ call. Good (OfMonitor call)

abbrev pub instance_callee : Span → MethodEntry → Typing Callee
instance_callee at m = require (not m.is_static) (Mismatch at) >>= λ u. Good (OfObject m)

abbrev pub declared_or_library : Scope → Span → Name → ValueType → Option MethodEntry → Typing Callee
declared_or_library scope at x t (Some m) = instance_callee at m
declared_or_library scope at x t None = library_callee scope x t

abbrev pub member_callee : Scope → Span → Name → ValueType → Members → Typing Callee
member_callee scope at x t (members.OfArray s) = library_callee scope x t
member_callee scope at x t (members.OfClass c) = declared_or_library scope at x t (method_in scope.names c x.text)
member_callee scope at x t members.OfLibrary = library_callee scope x t
member_callee scope at x t members.Nothing = Bad (Mismatch at)

-- no call is one of main
abbrev pub static_callee : Span → MethodEntry → Typing Callee
static_callee at m = require (m.is_static && not m.is_main) (Mismatch at) >>= λ u. Good (OfClass m)

abbrev pub callee_of_library : Name → Library → Typing Callee
callee_of_library x library.Thread =
    cond (bytes_eq x.text (codes "yield")) (Good OfYield) (cond (bytes_eq x.text (codes "sleep")) (Good OfSleep) (Bad (Unknown x.place)))
callee_of_library x _ = Bad (Unknown x.place)

-- the method of that name of what stands before the dot
unfoldable pub callee_of : Scope → Span → Name → Face → Typing Callee
callee_of scope at x (face.Class c) = found (method_in scope.names c x.text) (Unknown x.place) >>= static_callee at
callee_of scope at x (face.Library l) = callee_of_library x l
callee_of scope at x (face.System system) = Bad (Unknown system)
callee_of scope at x (face.Out system) = cond (bytes_eq x.text (codes "print")) (Bad (NotInProfile x.place)) (Bad (Unknown system))
callee_of scope at x (face.Value t) = member_callee scope at x t (members_of t)
callee_of scope at x face.Nothing = Bad (Mismatch at)

-- an instance member alone is one of `this`
abbrev pub own_callee_found : Scope → Span → Name → Option MethodEntry → Typing Callee
own_callee_found scope at x (Some m) = cond m.is_static (static_callee at m) (require (not scope.is_static) (Mismatch at) >>= λ u. Good (OfObject m))
own_callee_found scope at x None =
    library_callee scope x (type.Single (elem.Class scope.own)) >>= λ callee.
    require (not scope.is_static) (Mismatch at) >>= λ u. Good callee

-- a method of the own class, by its name alone
unfoldable pub own_callee : Scope → Span → Name → Typing Callee
own_callee scope at x = own_callee_found scope at x (own_method scope x.text)

abbrev pub formals_in : Option MethodEntry → List ValueType
formals_in (Some m) = m.formals
formals_in None = []

-- the formals of a constructor, of which a class may have none (JLS 8.8.9)
unfoldable pub constructor_formals : Names → ClassId → List ValueType
constructor_formals names c = formals_in (and_then (class_at names c) (λ (k : Class). k.constructor))

-- `new C(..)` (JLS 15.9)
unfoldable pub maker : Scope → Span → Name → Typing Maker
maker scope at x =
    cond (bytes_eq x.text (codes "Object")) (Good MakesPlain)
    (cond (bytes_eq x.text (codes "Thread")) (Good MakesThread)
    (cond (bytes_eq x.text (codes "Runnable")) (Bad (Mismatch at))
    (found (named x.text scope.names.numbers) (Unknown x.place) >>= λ (c : ClassId). Good (MakesObject c (constructor_formals scope.names c)))))

-- each argument may stand where its formal is
abbrev pub all_fit : Names → List ValueType → List Head → Typing (Unit {0})
all_fit names (t ∷ ts) (h ∷ hs) = require (is_assignable names h.of t) (Mismatch h.place) >>= λ u. all_fit names ts hs
all_fit names _ _ = Good tt

-- as many arguments as formals, each of which fits (JLS 15.12.2)
unfoldable pub fits : Names → Span → List ValueType → Arguments → Typing (Unit {0})
fits names at formals given = require (length given.heads == length formals) (Mismatch at) >>= λ u. all_fit names formals given.heads

-- a call has its method's result, if there is one
abbrev pub result_of : Option ValueType → program.Call → Denotation
result_of (Some t) call = AValue t (ResultOf call)
result_of None call = ANothing (Invoke call)

-- the one argument
abbrev pub only : Span → List Expr → Typing Expr
only at (e ∷ []) = Good e
only at _ = Bad (Mismatch at)

-- where so many arguments are given: a `wait` has none, or how long it waits
abbrev pub monitor_formals : ℕ → ObjectCall → List ValueType
monitor_formals count calls.Wait = cond (count == 1) (long ∷ []) []
monitor_formals count _ = []

abbrev pub formals_of : ℕ → Callee → List ValueType
formals_of count (OfClass m) = m.formals
formals_of count (OfObject m) = m.formals
formals_of count (OfMonitor call) = monitor_formals count call
formals_of count OfYield = []
formals_of count OfSleep = int ∷ []

abbrev pub made_of : Maker → List ValueType
made_of (MakesObject c formals) = formals
made_of MakesPlain = []
made_of MakesThread = type.Single elem.Runnable ∷ []

abbrev pub invoked_static : MethodEntry → List Expr → Typing Denotation
invoked_static method es = Good (result_of method.result (CallStatic method.number (exprs es)))

abbrev pub invoked_on : Span → MethodEntry → Denotation → List Expr → Typing Denotation
invoked_on at method m es = value_of at m >>= λ v. Good (result_of method.result (CallOn v.node method.number (exprs es)))

abbrev pub monitor_invoked : ObjectCall → Expr → List Expr → Effect
monitor_invoked call o [] = CallObject call o
monitor_invoked call o (e ∷ es) = WaitFor o e

abbrev pub invoked_monitor : Span → ObjectCall → Denotation → List Expr → Typing Denotation
invoked_monitor at call m es = value_of at m >>= λ v. Good (ANothing (monitor_invoked call v.node es))

abbrev pub invoked_sleep : Span → List Expr → Typing Denotation
invoked_sleep at es = only at es >>= λ e. Good (ANothing (Sleep e))

abbrev pub invoked : Span → Callee → Denotation → List Expr → Typing Denotation
invoked at (OfClass method) m es = invoked_static method es
invoked at (OfObject method) m es = invoked_on at method m es
invoked at (OfMonitor call) m es = invoked_monitor at call m es
invoked at OfYield m es = Good (ANothing Yield)
invoked at OfSleep m es = invoked_sleep at es

abbrev pub made_thread : Span → List Expr → Typing Denotation
made_thread at es = only at es >>= λ e. Good (AValue (type.Single elem.Thread) (NewThread e))

abbrev pub made : Span → Maker → List Expr → Typing Denotation
made at (MakesObject c formals) es = Good (AValue (type.Single (elem.Class c)) (NewObject c (exprs es)))
made at MakesPlain es = Good (AValue object NewPlain)
made at MakesThread es = made_thread at es

-- arguments, each brought to the type of its formal
abbrev pub all_brought : List ValueType → List Head → List Expr → List Expr
all_brought (t ∷ ts) (h ∷ hs) (e ∷ es) = brought h.of t e ∷ all_brought ts hs es
all_brought _ _ _ = []

-- the arguments that fit
abbrev pub passed : Names → Span → List ValueType → Arguments → Typing (List Expr)
passed names at formals given = fits names at formals given >>= λ u. Good (all_brought formals given.heads given.nodes)

-- a call, on what stands before the dot
abbrev pub called : Names → Span → Callee → Denotation → Arguments → Typing Denotation
called names at callee m given = passed names at (formals_of (length given.heads) callee) given >>= invoked at callee m

abbrev pub newly_made : Names → Span → Maker → Arguments → Typing Denotation
newly_made names at maker given = passed names at (made_of maker) given >>= made at maker

-- `this`, as what an instance member alone is of
abbrev pub own_this : Scope → Denotation
own_this scope = AValue (type.Single (elem.Class scope.own)) This
