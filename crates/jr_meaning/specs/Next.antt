-- A thread's next action: the program is run from its start, as the Java Language Specification orders
-- evaluation (JLS 14, 15), over the replies that the thread has had. At each shared action one reply is taken,
-- and the first action that has none is the next one. A thread sees the world through its replies alone. A reply that
-- the machine does not give to that action is taken as some other.
use Rattle.std.specs.Prelude.{◌≡◌, ℕ, zero, suc, ℤ, pos, negsuc, ◌+ℤ◌, Bool, true, false, List, [], ◌∷◌, ◌++◌, map, length, Option, Some, None, option_and_then, slice_set}
use Rattle.std.specs.Option.{option_map_or}
use Rattle.std.specs.Int.{is_negative}
use Rattle.jr_base.specs.Deed.{Deed}
use Rattle.jr_base.specs.Deed as deeds
use Rattle.jr_base.specs.declared.number.ClassId.{ClassId}
use Rattle.jr_base.specs.declared.number.MethodId.{MethodId}
use Rattle.jr_base.specs.declared.number.ObjId.{ObjId}
use Rattle.jr_base.specs.declared.action.Body.{Body}
use Rattle.jr_base.specs.declared.action.Reply.{Reply}
use Rattle.jr_base.specs.declared.action.Reply.TheVariants as replies
use Rattle.jr_base.specs.declared.action.LeaveHow.TheVariants.{Normal, Abrupt}
use Rattle.jr_base.specs.declared.action.EndHow.{EndHow}
use Rattle.jr_base.specs.declared.action.EndHow.TheVariants as ends
use Rattle.jr_base.specs.declared.action.Way.TheVariants as ways
use Rattle.jr_base.specs.declared.action.Elem.{Elem}
use Rattle.jr_base.specs.declared.action.NewKind.TheVariants as kinds
use Rattle.jr_base.specs.declared.action.PrintPart.{PrintPart}
use Rattle.jr_base.specs.declared.action.PrintPart.TheVariants.{Text, Val}
use Rattle.jr_base.specs.declared.value.Value.{Value}
use Rattle.jr_base.specs.declared.value.Value.TheVariants as values
use Rattle.jr_base.specs.declared.value.Cell.{Cell}
use Rattle.jr_base.specs.declared.finish.Fault.{Fault}
use Rattle.jr_base.specs.declared.finish.Fault.TheVariants as faults
use Rattle.jr_base.specs.declared.kind.SlotKind.{SlotKind}
use Rattle.jr_base.specs.Content.{Content, Holds, Caught, default_value, unset}
use Rattle.jr_base.specs.declared.kind.ObjectCall.{ObjectCall}
use Rattle.jr_base.specs.declared.kind.ObjectCall.TheVariants.{Wait, Notify, NotifyAll, Start, Join}
use Rattle.jr_arith.specs.declared.operator.Width.{Width}
use Rattle.jr_arith.specs.declared.operator.Width.TheVariants as width
use Rattle.jr_arith.specs.Operators.{number_of, number_in, number, truth_of, converted, unary_value, binary_value}
use Rattle.jr_arith.specs.Arithmetic.{wrapped}
use Rattle.jr_base.specs.Faults.{catches}
use Rattle.jr_program.specs.Programs.{Program, Method, constructor_of, method_at}
use Rattle.jr_program.specs.Programs.{Expr, Number, Truth, Null, This, ClassObject, Read, LengthOf, Convert, Unary, Binary, And, Or, Choice, Assign, Compound, PrefixIncrement, PostfixIncrement, ResultOf, NewObject, NewPlain, NewThread, NewArray}
use Rattle.jr_program.specs.Programs.{Variable, Local, StaticField, FieldOf, ElementOf, Call, CallStatic, CallOn, Exprs, no_more, and_then}
use Rattle.jr_program.specs.Programs.{Part, Literal, Shown, Catches, no_catch, or_catch}
use Rattle.jr_program.specs.Programs.{Effect, Evaluate, Invoke, CallObject, WaitFor, Yield, Sleep, Statement, Skip, Then, Declare, Do, If, Loop, DoLoop, Break, Continue, Return, ReturnValue, Throw, ThrowCaught, Try, Synchronized, Commit, Println, Assert}
use Rattle.jr_program.specs.Slots.{slot_of}
use Rattle.jr_meaning.specs.Objects.{home_of}
use Rattle.jr_base.specs.Threads.{class_object, reference, cell}
pub use Rattle.jr_base.specs.Threads.{Next, Wants, Ended, Tape, value_at, fault_at, object_made}
pub use Rattle.jr_arith.specs.Operators.{index_slot}

-- ---- a frame's variables

-- the variables of a frame: the formals, then the locals (JLS 4.12.3, 8.4.1)
abbrev pub Variables : Type 0
Variables = List Content

-- its arguments, and locals that are not set yet
abbrev pub start_variables : Method → List Value → Variables
start_variables method arguments = map Holds arguments ++ map unset method.locals

-- ---- how a piece of the program comes out

-- With a result, by an exception, or stopped at an action that has no reply yet; or past the bound on turns and
-- calls, which is never met. The first two come with the variables and the replies that are left.
pub data Out (A : Type 0) : Type 0 where
  Got : (value : A) (variables : Variables) (tape : Tape) → Out A
  Threw : (fault : Fault) (variables : Variables) (tape : Tape) → Out A
  Stops : (deed : Deed) → Out A
  NoTurns : Out A

-- what goes on from variables and replies
abbrev pub Going : Type 0 → Type 0
Going A = Variables → Tape → Out A

-- goes on from a result
abbrev pub then_do : {A B : Type 0} → Out A → (A → Going B) → Out B
then_do (Got value variables tape) go = go value variables tape
then_do (Threw fault variables tape) go = Threw fault variables tape
then_do (Stops deed) go = Stops deed
then_do NoTurns go = NoTurns

-- a shared action takes one reply
abbrev pub ask : {B : Type 0} → Deed → (Reply → Going B) → Going B
ask deed go variables [] = Stops deed
ask deed go variables (reply ∷ tape) = go reply variables tape

abbrev pub throws : {A : Type 0} → Fault → Going A
throws fault variables tape = Threw fault variables tape

abbrev pub if_so : {A : Type 0} → Bool → Going A → Going A → Going A
if_so true go other variables tape = go variables tape
if_so false go other variables tape = other variables tape

-- ---- values and objects

-- what is done with an object, where null throws (JLS 15.6)
abbrev pub on_object : {A : Type 0} → Value → (ObjId → Going A) → Going A
on_object (values.Ref object) go variables tape = go object variables tape
on_object _ go variables tape = throws faults.NullPointerException variables tape

-- a value, where none is a zero divisor
abbrev pub or_zero_divisor : Option Value → Going Value
or_zero_divisor (Some value) variables tape = Got value variables tape
or_zero_divisor None variables tape = throws faults.ArithmeticException variables tape

-- A read of a cell, and a write, whose value is what was written. An index out of range throws (JLS 15.10.4, 15.26.1).
abbrev pub read_by : Reply → Going Value
read_by (replies.Value value) variables tape = Got value variables tape
read_by replies.Range variables tape = throws faults.ArrayIndexOutOfBoundsException variables tape
read_by _ variables tape = Got (values.Int (pos 0)) variables tape

abbrev pub written_by : Reply → Value → Going Value
written_by replies.Range value variables tape = throws faults.ArrayIndexOutOfBoundsException variables tape
written_by _ value variables tape = Got value variables tape

abbrev pub get : Cell → Going Value
get at = ask (deeds.Get at) read_by

abbrev pub put : Cell → Value → Going Value
put at value = ask (deeds.Put at value) (λ reply. written_by reply value)

-- ---- variables

-- where a variable stands: a local, by its number; the cell of a static field; a field's slot on an object, and an
-- element of an array by its index, where the object and the array may be null
pub data Spot : Type 0 where
  LocalSpot : (number : ℕ) → Spot
  StaticSpot : (at : Cell) → Spot
  FieldSpot : (object : Value) (slot : ℕ) → Spot
  ElementSpot : (array index : Value) → Spot

-- null is tested where the variable is read or written, and not before (JLS 15.26.1, 15.26.2)
abbrev pub read_spot : Spot → Going Value
read_spot (LocalSpot number) variables tape = Got (value_at variables number) variables tape
read_spot (StaticSpot at) variables tape = get at variables tape
read_spot (FieldSpot object slot) variables tape = on_object object (λ o. get (cell o slot)) variables tape
read_spot (ElementSpot array index) variables tape = on_object array (λ o. get (cell o (index_slot index))) variables tape

abbrev pub write_spot : Spot → Value → Going Value
write_spot (LocalSpot number) value variables tape = Got value (slice_set variables number (Holds value)) tape
write_spot (StaticSpot at) value variables tape = put at value variables tape
write_spot (FieldSpot object slot) value variables tape = on_object object (λ o. put (cell o slot) value) variables tape
write_spot (ElementSpot array index) value variables tape = on_object array (λ o. put (cell o (index_slot index)) value) variables tape

-- ---- expressions

-- what a call of a method does, on an object where it isn't static, with these arguments
abbrev pub Calls : Type 0
Calls = MethodId → Option ObjId → List Value → Going (Option Value)

-- what stays the same while a frame runs: the program, its method, its `this`, what calls do, and how many turns a
-- loop may make
pub record Context : Type 0 where
  pub program : Program
  pub method : MethodId
  pub this : Option ObjId
  pub calls : Calls
  pub turns : ℕ

abbrev pub context_of : Program → MethodId → Option ObjId → Calls → ℕ → Context
context_of program method this calls turns = record { program = program; method = method; this = this; calls = calls; turns = turns }

-- the left operand of a compound assignment, as its operator takes it (JLS 5.6.2)
abbrev pub promoted : Bool → Value → Value
promoted true value = converted width.Long value
promoted false value = value

-- what a compound assignment writes of its result (JLS 15.26.2)
abbrev pub narrowed : Bool → Value → Value
narrowed true value = converted width.Int value
narrowed false value = value

-- what `++` and `--` write (JLS 15.14.2, 15.15.1)
abbrev pub incremented : Width → Value → ℤ → Value
incremented w old by = number w (wrapped w (number_in w old +ℤ by))

-- the value of a call that has one
abbrev pub used : Option Value → Value
used (Some value) = value
used None = values.Int (pos 0)

-- an array of that size (JLS 15.10.2)
abbrev pub new_array : Elem → ℤ → Going Value
new_array element (pos size) =
    ask (deeds.New (kinds.Array element size)) (λ reply. Got (values.Ref (object_made reply)))
new_array element (negsuc n) = throws faults.NegativeArraySizeException

-- the call of a new object's constructor, if its class has one (JLS 15.9.4)
abbrev pub construct : Context → ClassId → ObjId → List Value → Going (Option Value)
construct context class object arguments =
    option_map_or (λ constructor. context.calls constructor (Some object) arguments) (constructor_of context.program class) (Got None)

abbrev mutual
  -- operands from left to right (JLS 15.7)
  pub eval : Context → Expr → Going Value
  eval context (Number w n) vs tape = Got (number w n) vs tape
  eval context (Truth b) vs tape = Got (values.Bool b) vs tape
  eval context Null vs tape = Got values.Null vs tape
  eval context This vs tape = Got (reference context.this) vs tape
  eval context (ClassObject class) vs tape = Got (values.Ref (class_object class)) vs tape
  eval context (Read v) vs tape = then_do (locate context v vs tape) read_spot
  eval context (LengthOf e) vs tape =
      then_do (eval context e vs tape) (λ array. on_object array (λ o. ask (deeds.Len o) read_by))
  eval context (Convert w e) vs tape = then_do (eval context e vs tape) (λ x. Got (converted w x))
  eval context (Unary operator e) vs tape = then_do (eval context e vs tape) (λ x. Got (unary_value operator x))
  eval context (Binary operator a b) vs tape =
      then_do (eval context a vs tape) (λ x vs tape. then_do (eval context b vs tape) (λ y. or_zero_divisor (binary_value operator x y)))
  eval context (And a b) vs tape =
      then_do (eval context a vs tape) (λ x. if_so (truth_of x) (eval context b) (Got (values.Bool false)))
  eval context (Or a b) vs tape =
      then_do (eval context a vs tape) (λ x. if_so (truth_of x) (Got (values.Bool true)) (eval context b))
  eval context (Choice c a b) vs tape =
      then_do (eval context c vs tape) (λ x. if_so (truth_of x) (eval context a) (eval context b))
  eval context (Assign v e) vs tape =
      then_do (locate context v vs tape) (λ spot vs tape. then_do (eval context e vs tape) (write_spot spot))
  eval context (Compound operator narrows v e) vs tape =
      then_do (locate context v vs tape) (λ spot vs tape.
      then_do (read_spot spot vs tape) (λ old vs tape.
      then_do (eval context e vs tape) (λ x vs tape.
      then_do (or_zero_divisor (binary_value operator (promoted narrows old) x) vs tape) (λ new. write_spot spot (narrowed narrows new)))))
  eval context (PrefixIncrement w v by) vs tape =
      then_do (locate context v vs tape) (λ spot vs tape.
      then_do (read_spot spot vs tape) (λ old. write_spot spot (incremented w old by)))
  eval context (PostfixIncrement w v by) vs tape =
      then_do (locate context v vs tape) (λ spot vs tape.
      then_do (read_spot spot vs tape) (λ old vs tape.
      then_do (write_spot spot (incremented w old by) vs tape) (λ new. Got old)))
  eval context (ResultOf c) vs tape = then_do (invoke context c vs tape) (λ result. Got (used result))
  eval context (NewObject class es) vs tape =
      ask (deeds.New (kinds.Object class)) (λ reply vs tape.
      then_do (eval_all context es vs tape) (λ arguments vs tape.
      then_do (construct context class (object_made reply) arguments vs tape) (λ result. Got (values.Ref (object_made reply))))) vs tape
  eval context NewPlain vs tape = ask (deeds.New kinds.Plain) (λ reply. Got (values.Ref (object_made reply))) vs tape
  eval context (NewThread e) vs tape =
      ask (deeds.New kinds.Thread) (λ reply vs tape.
      then_do (eval context e vs tape) (λ runnable vs tape.
      then_do (put (cell (object_made reply) 0) runnable vs tape) (λ value. Got (values.Ref (object_made reply))))) vs tape
  eval context (NewArray element e) vs tape = then_do (eval context e vs tape) (λ size. new_array element (number_of size))

  -- the operands of a variable
  pub locate : Context → Variable → Going Spot
  locate context (Local number) vs tape = Got (LocalSpot number) vs tape
  locate context (StaticField f) vs tape = Got (StaticSpot (cell (home_of context.program f) (slot_of context.program f))) vs tape
  locate context (FieldOf e f) vs tape = then_do (eval context e vs tape) (λ object. Got (FieldSpot object (slot_of context.program f)))
  locate context (ElementOf element a i) vs tape =
      then_do (eval context a vs tape) (λ array vs tape. then_do (eval context i vs tape) (λ index. Got (ElementSpot array index)))

  -- receiver, arguments, then the test for null (JLS 15.12.4)
  pub invoke : Context → Call → Going (Option Value)
  invoke context (CallStatic method es) vs tape = then_do (eval_all context es vs tape) (context.calls method None)
  invoke context (CallOn e method es) vs tape =
      then_do (eval context e vs tape) (λ receiver vs tape.
      then_do (eval_all context es vs tape) (λ arguments. on_object receiver (λ o. context.calls method (Some o) arguments)))

  pub eval_all : Context → Exprs → Going (List Value)
  eval_all context no_more vs tape = Got [] vs tape
  eval_all context (and_then e es) vs tape =
      then_do (eval context e vs tape) (λ x vs tape. then_do (eval_all context es vs tape) (λ xs. Got (x ∷ xs)))

-- the parts of a print
abbrev pub shown : Context → List Part → Going (List PrintPart)
shown context [] vs tape = Got [] vs tape
shown context (Literal text ∷ parts) vs tape = then_do (shown context parts vs tape) (λ rest. Got (Text text ∷ rest))
shown context (Shown e ∷ parts) vs tape =
    then_do (eval context e vs tape) (λ x vs tape. then_do (shown context parts vs tape) (λ rest. Got (Val x ∷ rest)))

-- ---- effects

-- a shared action, whatever its reply
abbrev pub act : {A : Type 0} → Deed → Going A → Going A
act deed go = ask deed (λ reply. go)

-- an exception where the reply is Illegal
abbrev pub unless_illegal : {A : Type 0} → Fault → Reply → Going A → Going A
unless_illegal fault replies.Illegal go = throws fault
unless_illegal fault _ go = go

-- the action that joins the wait set, and then Resume (JLS 17.2.1)
abbrev pub waits_by : Deed → ObjId → Going (Unit {0})
waits_by deed o = ask deed (λ reply. unless_illegal faults.IllegalMonitorStateException reply (act (deeds.Resume o) (Got (tt {0}))))

-- `wait()`, `notify()`, `notifyAll()`, `start()` and `join()` (JLS 17.2; `java.lang.Thread`)
abbrev pub call_object : ObjectCall → ObjId → Going (Unit {0})
call_object Wait o = waits_by (deeds.Wait o) o
call_object Notify o = ask (deeds.Notify o) (λ reply. unless_illegal faults.IllegalMonitorStateException reply (Got (tt {0})))
call_object NotifyAll o = ask (deeds.NotifyAll o) (λ reply. unless_illegal faults.IllegalMonitorStateException reply (Got (tt {0})))
call_object Start o = ask (deeds.Start o) (λ reply. unless_illegal faults.IllegalThreadStateException reply (Got (tt {0})))
call_object Join o = act (deeds.Join o) (Got (tt {0}))

-- `wait(e)`: a time of 0 is `wait()` (`java.lang.Object`)
abbrev pub wait_for : ℤ → ObjId → Going (Unit {0})
wait_for (pos zero) o = waits_by (deeds.Wait o) o
wait_for (pos (suc n)) o = waits_by (deeds.TimedWait o) o
wait_for (negsuc n) o = throws faults.IllegalArgumentException

-- what stands as a statement by itself (JLS 14.8)
abbrev pub perform : Context → Effect → Going (Unit {0})
perform context (Evaluate e) vs tape = then_do (eval context e vs tape) (λ x. Got (tt {0}))
perform context (Invoke c) vs tape = then_do (invoke context c vs tape) (λ result. Got (tt {0}))
perform context (CallObject called e) vs tape = then_do (eval context e vs tape) (λ object. on_object object (call_object called))
perform context (WaitFor e t) vs tape =
    then_do (eval context e vs tape) (λ object vs tape. then_do (eval context t vs tape) (λ time. on_object object (wait_for (number_of time))))
perform context Yield vs tape = act deeds.Back (Got (tt {0})) vs tape
perform context (Sleep e) vs tape =
    then_do (eval context e vs tape) (λ time. if_so (is_negative (number_of time)) (throws faults.IllegalArgumentException) (act deeds.Back (Got (tt {0}))))

-- the update of a `for`, from left to right (JLS 14.14.1.2)
abbrev pub perform_all : Context → List Effect → Going (Unit {0})
perform_all context [] vs tape = Got (tt {0}) vs tape
perform_all context (effect ∷ effects) vs tape = then_do (perform context effect vs tape) (λ done. perform_all context effects)

-- ---- statements

-- how a statement is left (JLS 14.1)
pub data Completion : Type 0 where
  Falls : Completion
  Breaks : Completion
  Continues : Completion
  Returns : (value : Option Value) → Completion

-- goes on where a statement falls through
abbrev pub on_fall : Completion → Going Completion → Going Completion
on_fall Falls go = go
on_fall way go = Got way

-- after a loop's body: on to what follows it in the turn, or out of the loop
abbrev pub on_turn : Completion → Going Completion → Going Completion
on_turn Breaks go = Got Falls
on_turn (Returns value) go = Got (Returns value)
on_turn _ go = go

-- one turn of a `for` or `while`: condition, body, update, Back, and what comes again (JLS 14.12, 14.14)
abbrev pub one_turn : Going Value → Going Completion → Going (Unit {0}) → Going Completion → Going Completion
one_turn test body update again vs tape =
    then_do (test vs tape) (λ x. if_so (truth_of x)
    (λ vs tape. then_do (body vs tape) (λ way. on_turn way (λ vs tape. then_do (update vs tape) (λ done. act deeds.Back again))))
    (Got Falls))

-- at most n turns
abbrev pub turns : ℕ → Going Value → Going Completion → Going (Unit {0}) → Going Completion
turns zero test body update vs tape = NoTurns
turns (suc n) test body update vs tape = one_turn test body update (turns n test body update) vs tape

-- one turn of a `do`: body, condition, and where that is true Back, and what comes again (JLS 14.13)
abbrev pub one_do_turn : Going Value → Going Completion → Going Completion → Going Completion
one_do_turn test body again vs tape =
    then_do (body vs tape) (λ way. on_turn way (λ vs tape. then_do (test vs tape) (λ x. if_so (truth_of x) (act deeds.Back again) (Got Falls))))

abbrev pub do_turns : ℕ → Going Value → Going Completion → Going Completion
do_turns zero test body vs tape = NoTurns
do_turns (suc n) test body vs tape = one_do_turn test body (do_turns n test body) vs tape

-- on an exception (JLS 14.20)
abbrev pub on_throw : Out Completion → (Fault → Going Completion) → Out Completion
on_throw (Got way vs tape) go = Got way vs tape
on_throw (Threw fault vs tape) go = go fault vs tape
on_throw (Stops deed) go = Stops deed
on_throw NoTurns go = NoTurns

-- the monitor is given back whichever way its statement is left (JLS 14.19)
abbrev pub on_leave : ObjId → Out Completion → Out Completion
on_leave object (Got way vs tape) = act (deeds.Exit object) (Got way) vs tape
on_leave object (Threw fault vs tape) = act (deeds.Exit object) (throws fault) vs tape
on_leave object (Stops deed) = Stops deed
on_leave object NoTurns = NoTurns

abbrev mutual
  pub exec : Context → Statement → Going Completion
  exec context Skip vs tape = Got Falls vs tape
  exec context (Then a b) vs tape = then_do (exec context a vs tape) (λ way. on_fall way (exec context b))
  exec context (Declare number e) vs tape =
      then_do (eval context e vs tape) (λ x vs. Got Falls (slice_set vs number (Holds x)))
  exec context (Do effect) vs tape = then_do (perform context effect vs tape) (λ done. Got Falls)
  exec context (If c a b) vs tape = then_do (eval context c vs tape) (λ x. if_so (truth_of x) (exec context a) (exec context b))
  exec context (Loop c u b) vs tape = turns context.turns (eval context c) (exec context b) (perform_all context u) vs tape
  exec context (DoLoop b c) vs tape = do_turns context.turns (eval context c) (exec context b) vs tape
  exec context Break vs tape = Got Breaks vs tape
  exec context Continue vs tape = Got Continues vs tape
  exec context Return vs tape = Got (Returns None) vs tape
  exec context (ReturnValue e) vs tape = then_do (eval context e vs tape) (λ x. Got (Returns (Some x)))
  exec context (Throw fault) vs tape = throws fault vs tape
  exec context (ThrowCaught number) vs tape = throws (fault_at vs number) vs tape
  exec context (Try b cs) vs tape = on_throw (exec context b vs tape) (handle context cs)
  exec context (Synchronized e b) vs tape =
      then_do (eval context e vs tape) (λ object. on_object object (λ o. act (deeds.Enter o ways.Block) (λ vs tape. on_leave o (exec context b vs tape))))
  exec context (Commit s) vs tape = act (deeds.Commit context.method) (exec context s) vs tape
  exec context (Println parts) vs tape = then_do (shown context parts vs tape) (λ all. act (deeds.Print all) (Got Falls))
  exec context (Assert clause scope) vs tape =
      act (deeds.Assert clause (reference context.this ∷ map (value_at vs) scope)) (Got Falls) vs tape

  -- the first catch that takes the exception
  pub handle : Context → Catches → Fault → Going Completion
  handle context no_catch fault vs tape = throws fault vs tape
  handle context (or_catch caught number s rest) fault vs tape =
      if_so (catches caught fault) (λ vs. exec context s (slice_set vs number (Caught fault))) (handle context rest fault) vs tape

-- ---- calls

-- the monitor that a call takes: a synchronized method's object, or its class object (JLS 8.4.3.6)
abbrev pub monitor_of : Option Method → Option ObjId → Option ObjId
monitor_of None this = None
monitor_of (Some method) this = elim method.is_synchronized [ true ↦ elim method.is_static [ true ↦ Some (class_object method.class) | false ↦ this ] | false ↦ None ]

-- enters that monitor, if there is one; gives it back
abbrev pub entering : {A : Type 0} → Option ObjId → Going A → Going A
entering (Some o) go = ask (deeds.Enter o ways.Method) (λ reply. go)
entering None go = go

abbrev pub exiting : {A : Type 0} → Option ObjId → Going A → Going A
exiting (Some o) go = ask (deeds.Exit o) (λ reply. go)
exiting None go = go

-- the kind of what a method gives back, if it has a result
abbrev pub result_kind : Option Method → Option SlotKind
result_kind method = option_and_then (λ (m : Method). m.result) method

-- What a call gives back: a value exactly where its method has a result. The default stands for the end of a body
-- that should not be reached: no program that passed the checks comes there (JLS 8.4.7).
abbrev pub result_of : Option SlotKind → Completion → Option Value
result_of None way = None
result_of (Some kind) (Returns (Some value)) = Some value
result_of (Some kind) _ = Some (default_value kind)

-- a call's end: Leave, then the monitor, and the caller goes on with its own variables
abbrev pub end_call : MethodId → Option SlotKind → Option ObjId → Variables → Out Completion → Out (Option Value)
end_call method kind monitor vs (Got way inner tape) =
    ask (deeds.Leave method (Normal (result_of kind way))) (λ reply. exiting monitor (Got (result_of kind way))) vs tape
end_call method kind monitor vs (Threw fault inner tape) =
    ask (deeds.Leave method Abrupt) (λ reply. exiting monitor (throws fault)) vs tape
end_call method kind monitor vs (Stops deed) = Stops deed
end_call method kind monitor vs NoTurns = NoTurns

-- a method's statements over its own variables
abbrev pub run_body : Context → Option Method → List Value → Tape → Out Completion
run_body context None arguments tape = Got Falls [] tape
run_body context (Some method) arguments tape = exec context method.body (start_variables method arguments) tape

-- a call: its monitor, Call, the body, Leave, the monitor (JLS 15.12.4)
abbrev pub call_with : Program → Calls → ℕ → Calls
call_with program calls turns m this arguments =
    entering (monitor_of (method_at program m) this)
    (ask (deeds.Call m this arguments) (λ reply vs tape.
    end_call m (result_kind (method_at program m)) (monitor_of (method_at program m) this) vs
    (run_body (context_of program m this calls turns) (method_at program m) arguments tape)))

-- the same, where at most n calls stand in one another and a loop makes at most n turns
abbrev pub bounded_call : Program → ℕ → Calls
bounded_call program zero m this arguments vs tape = NoTurns
bounded_call program (suc n) m this arguments vs tape = call_with program (bounded_call program n) n m this arguments vs tape

-- Each call and each turn takes a reply, so a bound of one more than there are replies is never met.
abbrev pub call : Program → Calls
call program m this arguments vs tape = bounded_call program (suc (length tape)) m this arguments vs tape

-- a frame in which calls have no bound, and loops make at most n turns
abbrev pub running : Program → MethodId → Option ObjId → ℕ → Context
running program m this n = context_of program m this (call program) n

-- the thread's last step
abbrev pub ending : {A : Type 0} → Out A → Out (Unit {0})
ending (Got value vs tape) = ask (deeds.End ends.Normal) (λ reply. Got (tt {0})) vs tape
ending (Threw fault vs tape) = ask (deeds.End (ends.Uncaught fault)) (λ reply. Got (tt {0})) vs tape
ending (Stops deed) = Stops deed
ending NoTurns = NoTurns

-- a thread runs its body, if it has one, and ends
abbrev pub thread_run : Program → Option Body → Tape → Out (Unit {0})
thread_run program None tape = ending (Got (tt {0}) [] tape)
thread_run program (Some start) tape = ending (call program start.method start.this [] [] tape)

-- no thread is ever out of turns
abbrev pub next_in : {A : Type 0} → Out A → Next
next_in (Got value vs tape) = Ended
next_in (Threw fault vs tape) = Ended
next_in (Stops deed) = Wants deed
next_in NoTurns = Ended

-- the next action of a thread that was started with that body and has had those replies
abbrev pub next : Program → Option Body → List Reply → Next
next program start replies = next_in (thread_run program start replies)

-- the thread made its End: one of the replies is to it
pub record HasEnded (program : Program) (start : Option Body) (replies : List Reply) : Type 0 where
  pub before : List Reply
  pub how : EndHow
  pub reply : Reply
  pub after : List Reply
  pub split : replies ≡ before ++ reply ∷ after
  pub end : next program start before ≡ Wants (deeds.End how)
