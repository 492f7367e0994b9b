-- The program that runs, as plain data: each name is resolved to a number, each operator is typed, and each
-- conversion of a number is written.
use Rattle.std.specs.Prelude.{ℕ, zero, suc, ℤ, Bool, List, Option, None, slice_get}
use Rattle.std.specs.Prelude.{option_and_then}
use Rattle.jr_base.specs.declared.number.ClassId.{ClassId}
use Rattle.jr_base.specs.declared.number.FieldId.{FieldId}
use Rattle.jr_base.specs.declared.number.MethodId.{MethodId}
use Rattle.jr_base.specs.declared.number.ClauseId.{ClauseId}
use Rattle.jr_base.specs.declared.number.TextId.{TextId}
use Rattle.jr_base.specs.declared.number.Position.{Position}
use Rattle.jr_base.specs.declared.action.Elem.{Elem}
use Rattle.jr_base.specs.declared.value.Value.{Value}
use Rattle.jr_base.specs.declared.finish.Fault.{Fault}
use Rattle.jr_base.specs.declared.kind.SlotKind.{SlotKind}
use Rattle.jr_arith.specs.declared.operator.Width.{Width}
use Rattle.jr_arith.specs.declared.operator.Unary.{Unary as UnaryOperator}
use Rattle.jr_arith.specs.declared.operator.Binary.{Binary as BinaryOperator}
use Rattle.jr_base.specs.declared.kind.ObjectCall.{ObjectCall}
use Rattle.jr_program.specs.Clauses.{Clause}
pub use Rattle.jr_base.specs.Threads.{class_object}

-- ---- expressions

mutual
  -- an expression that has a value (JLS 15)
  pub data Expr : Type 0 where
    -- a literal; one under its minus is one number with it
    Number : (width : Width) (value : ℤ) → Expr
    Truth : (value : Bool) → Expr
    Null : Expr
    This : Expr
    -- `C.class`
    ClassObject : (class : ClassId) → Expr
    Read : (variable : Variable) → Expr
    LengthOf : (array : Expr) → Expr
    -- an int as a long, where a long is asked for (JLS 5.1.2); and of a long its low 32 bits, where it is a
    -- shift's distance (JLS 5.1.3)
    Convert : (to : Width) (operand : Expr) → Expr
    Unary : (operator : UnaryOperator) (operand : Expr) → Expr
    Binary : (operator : BinaryOperator) (left right : Expr) → Expr
    -- `&&`, `||`, `?:`
    And : (left right : Expr) → Expr
    Or : (left right : Expr) → Expr
    Choice : (condition when_true when_false : Expr) → Expr
    -- `v = e`; `v += e` and the like; `++v` and `--v`; `v++` and `v--`. A compound assignment narrows where its
    -- variable is an int and the operator's result a long (JLS 15.26.2). The last two add a number, 1 or -1.
    Assign : (variable : Variable) (value : Expr) → Expr
    Compound : (operator : BinaryOperator) (narrows : Bool) (variable : Variable) (value : Expr) → Expr
    PrefixIncrement : (width : Width) (variable : Variable) (by : ℤ) → Expr
    PostfixIncrement : (width : Width) (variable : Variable) (by : ℤ) → Expr
    -- a call of a method with a result
    ResultOf : (call : Call) → Expr
    -- `new` of a class of the program, of `Object`, of `Thread`, and of an array
    NewObject : (class : ClassId) (arguments : Exprs) → Expr
    NewPlain : Expr
    NewThread : (runnable : Expr) → Expr
    NewArray : (element : Elem) (size : Expr) → Expr

  -- a variable (JLS 4.12.3): a local or formal, by its number in the method; a static field; a field of an
  -- object; an element of an array
  pub data Variable : Type 0 where
    Local : (number : ℕ) → Variable
    StaticField : (field : FieldId) → Variable
    FieldOf : (object : Expr) (field : FieldId) → Variable
    ElementOf : (element : Elem) (array index : Expr) → Variable

  -- a call of a static method, or on a receiver (JLS 15.12)
  pub data Call : Type 0 where
    CallStatic : (method : MethodId) (arguments : Exprs) → Call
    CallOn : (receiver : Expr) (method : MethodId) (arguments : Exprs) → Call

  -- arguments, from left to right
  pub data Exprs : Type 0 where
    no_more : Exprs
    and_then : (first : Expr) (rest : Exprs) → Exprs

-- ---- statements

-- a part of what `println` prints: a string literal, or a value
pub data Part : Type 0 where
  Literal : (text : TextId) → Part
  Shown : (value : Expr) → Part

-- What may stand as a statement by itself, and in the update of a `for` (JLS 14.8): it has no way out but an
-- exception.
pub data Effect : Type 0 where
  -- an expression whose value is not used
  Evaluate : (value : Expr) → Effect
  -- what has no value: a call of a method without a result, `wait()`, `notify()`, `notifyAll()`, `start()` and
  -- `join()` of an object, `wait(e)`, `Thread.yield()` and `Thread.sleep(e)`
  Invoke : (call : Call) → Effect
  CallObject : (called : ObjectCall) (object : Expr) → Effect
  WaitFor : (object time : Expr) → Effect
  Yield : Effect
  Sleep : (time : Expr) → Effect

mutual
  -- a statement (JLS 14)
  pub data Statement : Type 0 where
    -- the empty statement, and one statement before others: a block is a chain of these
    Skip : Statement
    Then : (first rest : Statement) → Statement
    -- a local gets a value where it is declared: 0, false or null where it has no initialiser
    Declare : (number : ℕ) (value : Expr) → Statement
    -- an expression statement (JLS 14.8)
    Do : (effect : Effect) → Statement
    If : (condition : Expr) (yes no : Statement) → Statement
    -- `for` without its first part, which stands before it; a missing condition is `true`. A `while` has no update.
    Loop : (condition : Expr) (update : List Effect) (body : Statement) → Statement
    -- `do s while (c);`
    DoLoop : (body : Statement) (condition : Expr) → Statement
    Break : Statement
    Continue : Statement
    Return : Statement
    ReturnValue : (value : Expr) → Statement
    -- `throw new X(..);`, and `throw x;` of the variable of a catch
    Throw : (fault : Fault) → Statement
    ThrowCaught : (number : ℕ) → Statement
    Try : (body : Statement) (catches : Catches) → Statement
    Synchronized : (object : Expr) (body : Statement) → Statement
    -- `commit: s`
    Commit : (labelled : Statement) → Statement
    Println : (parts : List Part) → Statement
    -- a JML `assert`: its clause, and the numbers of the variables in scope, in order of declaration
    Assert : (clause : ClauseId) (scope : List ℕ) → Statement

  -- the catches of a `try`, from left to right: each with its exception and the number of its variable
  pub data Catches : Type 0 where
    no_catch : Catches
    or_catch : (fault : Fault) (number : ℕ) (handler : Statement) (rest : Catches) → Catches

-- ---- the program

-- a class: its name, what it extends and implements, its method `run` if that is one which a thread runs, and
-- its constructor
pub record Class : Type 0 where
  pub name : List ℕ
  pub extends_thread : Bool
  pub implements_runnable : Bool
  pub run : Option MethodId
  pub constructor : Option MethodId

-- a field of a class, with its constant, or 0, false or null (JLS 4.12.5, 8.3.2)
pub record Field : Type 0 where
  pub class : ClassId
  pub is_static : Bool
  pub is_volatile : Bool
  pub kind : SlotKind
  pub constant : Value

-- A method or constructor; a constructor's name is `new`. Its variables are its formals and then its locals, from
-- 0 on; `main` has no formal that is used.
pub record Method : Type 0 where
  pub name : List ℕ
  pub class : ClassId
  pub is_static : Bool
  pub is_constructor : Bool
  pub is_synchronized : Bool
  pub is_helper : Bool
  pub formals : List SlotKind
  pub locals : List SlotKind
  pub result : Option SlotKind
  pub body : Statement

-- a word of JML that is read and not judged, as `pure`, and where it stands
pub record Note : Type 0 where
  pub word : List ℕ
  pub place : Position

-- Classes, fields, methods with constructors, and string literals count from 0 in source order, clauses from 1.
-- Texts and names are lists of bytes.
pub record Program : Type 0 where
  pub classes : List Class
  pub fields : List Field
  pub methods : List Method
  pub clauses : List Clause
  pub notes : List Note
  pub texts : List (List ℕ)
  pub main : MethodId

-- ---- by number

-- the item of that number, where numbers count from 1
abbrev pub numbered : {A : Type 0} → List A → ℕ → Option A
numbered xs zero = None
numbered xs (suc n) = slice_get xs n

abbrev pub class_at : Program → ClassId → Option Class
class_at program c = slice_get program.classes c.0

-- a class without a constructor is made with no arguments
abbrev pub constructor_of : Program → ClassId → Option MethodId
constructor_of program c = option_and_then (λ (class : Class). class.constructor) (class_at program c)

-- the method that a thread runs, if the class has one
abbrev pub run_of : Program → ClassId → Option MethodId
run_of program c = option_and_then (λ (class : Class). class.run) (class_at program c)

abbrev pub field_at : Program → FieldId → Option Field
field_at program f = slice_get program.fields f.0

abbrev pub method_at : Program → MethodId → Option Method
method_at program m = slice_get program.methods m.0

abbrev pub clause_at : Program → ClauseId → Option Clause
clause_at program c = numbered program.clauses c.0
