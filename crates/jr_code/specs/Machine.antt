-- What a thread does with code: one step, and its next action after some replies.
use Rattle.std.specs.Prelude.{◌≡◌, ℕ, zero, suc, ◌+◌, ℤ, pos, negsuc, Bool, true, false, nat_lt, nat_le, ◌&&◌, List, [], ◌∷◌, ◌++◌, map, length, take, drop, reverse, Option, Some, None, slice_get, slice_set}
use Rattle.std.specs.Option.{option_map_or}
use Rattle.std.specs.Int.{is_negative}
use Rattle.jr_base.specs.Deed.{Deed}
use Rattle.jr_base.specs.Deed as deeds
use Rattle.jr_base.specs.declared.number.MethodId.{MethodId}
use Rattle.jr_base.specs.declared.number.ObjId.{ObjId}
use Rattle.jr_base.specs.declared.number.TextId.{TextId}
use Rattle.jr_base.specs.declared.action.Body.{Body}
use Rattle.jr_base.specs.declared.action.Reply.{Reply}
use Rattle.jr_base.specs.declared.action.Reply.TheVariants as replies
use Rattle.jr_base.specs.declared.action.LeaveHow.TheVariants.{Normal, Abrupt}
use Rattle.jr_base.specs.declared.action.EndHow.TheVariants as ends
use Rattle.jr_base.specs.declared.action.Way.TheVariants as ways
use Rattle.jr_base.specs.declared.action.Elem.{Elem}
use Rattle.jr_base.specs.declared.action.NewKind.TheVariants as kinds
use Rattle.jr_base.specs.declared.action.PrintPart.{PrintPart}
use Rattle.jr_base.specs.declared.action.PrintPart.TheVariants.{Text, Val}
use Rattle.jr_base.specs.declared.value.Value.{Value}
use Rattle.jr_base.specs.declared.value.Value.TheVariants as values
use Rattle.jr_base.specs.declared.finish.Fault.{Fault}
use Rattle.jr_base.specs.declared.finish.Fault.TheVariants as faults
use Rattle.jr_base.specs.declared.kind.ObjectCall.{ObjectCall}
use Rattle.jr_base.specs.declared.kind.ObjectCall.TheVariants.{Wait, Notify, NotifyAll, Start, Join}
use Rattle.jr_arith.specs.Operators.{number_of, truth_of, converted, unary_value, binary_value}
use Rattle.jr_base.specs.Faults.{catches}
use Rattle.jr_base.specs.Content.{Content, Holds, Caught, value_in, unset}
use Rattle.jr_base.specs.Threads.{Next, Wants, Ended, Tape, value_at, fault_at, class_object, reference, object_made, cell}
use Rattle.jr_arith.specs.Operators.{index_slot}
use Rattle.jr_code.specs.Instructions.{Instruction, Push, Load, Store, Pop, Dup, Dup2, DupX1, DupX2, OneOperand, TwoOperands, ConvertTo, Jump, JumpIf, JumpNot, BackTo, GetField, PutField, GetStatic, PutStatic, GetElement, PutElement, ArrayLength, Make, MakeArray, EnterMonitor, ExitMonitor, OnObject, WaitForTime, SleepFor, YieldNow, CallStaticMethod, CallMethodOn, ReturnNothing, ReturnTop, CommitNow, AssertThat, PrintAll, ThrowNew, ThrowLocal, Unknown, RegionKind, CatchAt, ExitLocal, Region, MethodCode, Code}

-- ---- the method table

abbrev pub method_code_at : Code → MethodId → Option MethodCode
method_code_at code m = slice_get code.methods m.0

abbrev pub instructions_of : Code → MethodId → List Instruction
instructions_of code m = option_map_or (λ (c : MethodCode). c.instructions) (method_code_at code m) []

abbrev pub regions_of : Code → MethodId → List Region
regions_of code m = option_map_or (λ (c : MethodCode). c.regions) (method_code_at code m) []

abbrev pub arity_of : Code → MethodId → ℕ
arity_of code m = option_map_or (λ (c : MethodCode). length c.formals) (method_code_at code m) 0

-- the monitor that a call takes
abbrev pub monitor_in : Option MethodCode → Option ObjId → Option ObjId
monitor_in None this = None
monitor_in (Some c) this = elim c.is_synchronized [ true ↦ elim c.is_static [ true ↦ Some (class_object c.class) | false ↦ this ] | false ↦ None ]

-- the local of `this`, where there is one
abbrev pub this_local : Bool → Option ObjId → List Content
this_local true this = []
this_local false this = Holds (reference this) ∷ []

-- the locals of a call that begins
abbrev pub start_locals : Option MethodCode → Option ObjId → List Value → List Content
start_locals None this arguments = []
start_locals (Some c) this arguments =
    this_local c.is_static this ++ (map Holds arguments ++ map unset c.locals)

-- ---- states

-- one call that runs: its method and its `this`, the place of the instruction, its operands (topmost first) and its locals
pub record StackFrame : Type 0 where
  pub method : MethodId
  pub this : Option ObjId
  pub at : ℕ
  pub stack : List Content
  pub locals : List Content

abbrev pub stack_frame : MethodId → Option ObjId → ℕ → List Content → List Content → StackFrame
stack_frame m this at stack locals = record { method = m; this = this; at = at; stack = stack; locals = locals }

-- A thread runs its innermost frame; or looks for what takes an exception among the regions that are left; or is to
-- make an action whose reply says nothing, and goes on to a state; or has ended.
pub data State : Type 0 where
  Runs : (frame : StackFrame) (below : List StackFrame) → State
  Throws : (fault : Fault) (rest : List Region) (frame : StackFrame) (below : List StackFrame) → State
  Makes : (deed : Deed) (after : State) → State
  Over : State

-- one step: to another state, or an action with the state after its reply
pub data Move : Type 0 where
  Goes : (state : State) → Move
  Asks : (deed : Deed) (go : Reply → State) → Move
  Ends : Move

abbrev pub on : List StackFrame → MethodId → Option ObjId → ℕ → List Content → List Content → State
on below m this at stack locals = Runs (stack_frame m this at stack locals) below

-- an exception at this instruction
abbrev pub throw_at : Code → Fault → List StackFrame → MethodId → Option ObjId → ℕ → List Content → State
throw_at code fault below m this at locals = Throws fault (regions_of code m) (stack_frame m this at [] locals) below

-- ---- operands

-- the topmost value, and the others
abbrev pub top : List Content → Value
top [] = values.Int (pos 0)
top (c ∷ stack) = value_in (Some c)

abbrev pub top_content : List Content → Content
top_content [] = Holds (values.Int (pos 0))
top_content (c ∷ stack) = c

abbrev pub under : List Content → List Content
under [] = []
under (c ∷ stack) = stack

abbrev pub value_of_content : Content → Value
value_of_content c = value_in (Some c)

-- so many values, the one taken last in front
abbrev pub taken : ℕ → List Content → List Value
taken n stack = map value_of_content (reverse (take n stack))

-- the content of a local
abbrev pub content_in : Option Content → Content
content_in (Some c) = c
content_in None = Holds (values.Int (pos 0))

-- how many values are printed, and the parts with these values
abbrev pub values_printed : List (Option TextId) → ℕ
values_printed [] = 0
values_printed (Some text ∷ parts) = values_printed parts
values_printed (None ∷ parts) = 1 + values_printed parts

abbrev pub filled : List (Option TextId) → List Value → List PrintPart
filled [] vs = []
filled (Some text ∷ parts) vs = Text text ∷ filled parts vs
filled (None ∷ parts) [] = Val (values.Int (pos 0)) ∷ filled parts []
filled (None ∷ parts) (v ∷ vs) = Val v ∷ filled parts vs

-- ---- calls

-- gives a monitor back, if there is one
abbrev pub exit_then : Option ObjId → State → State
exit_then None after = after
exit_then (Some o) after = Makes (deeds.Exit o) after

abbrev pub enter_then : Option ObjId → State → State
enter_then None after = after
enter_then (Some o) after = Makes (deeds.Enter o ways.Method) after

-- a call from these frames
abbrev pub calling : Code → MethodId → Option ObjId → List Value → List StackFrame → State
calling code m this arguments below =
    enter_then (monitor_in (method_code_at code m) this)
    (Makes (deeds.Call m this arguments) (on below m this 0 [] (start_locals (method_code_at code m) this arguments)))

-- a result handed to the caller, whose call stands at its place
abbrev pub handed : Option Value → List StackFrame → State
handed result [] = Makes (deeds.End ends.Normal) Over
handed None (f ∷ below) = on below f.method f.this (f.at + 1) f.stack f.locals
handed (Some v) (f ∷ below) = on below f.method f.this (f.at + 1) (Holds v ∷ f.stack) f.locals

-- an exception handed to the caller
abbrev pub handed_fault : Code → Fault → List StackFrame → State
handed_fault code fault [] = Makes (deeds.End (ends.Uncaught fault)) Over
handed_fault code fault (f ∷ below) = throw_at code fault below f.method f.this f.at f.locals

abbrev pub returning : Code → Option Value → List StackFrame → MethodId → Option ObjId → State
returning code result below m this =
    Makes (deeds.Leave m (Normal result)) (exit_then (monitor_in (method_code_at code m) this) (handed result below))

-- ---- one instruction

abbrev pub choose : {A : Type 0} → Bool → A → A → A
choose true a b = a
choose false a b = b

-- what needs an object; null throws
abbrev pub with_object : Code → List StackFrame → MethodId → Option ObjId → ℕ → List Content → Value → (ObjId → Move) → Move
with_object code below m this at locals (values.Ref o) go = go o
with_object code below m this at locals _ go = Goes (throw_at code faults.NullPointerException below m this at locals)

-- a value, or none at a zero divisor
abbrev pub or_throw : Code → List StackFrame → MethodId → Option ObjId → ℕ → List Content → List Content → Option Value → State
or_throw code below m this at stack locals (Some v) = on below m this (at + 1) (Holds v ∷ stack) locals
or_throw code below m this at stack locals None = throw_at code faults.ArithmeticException below m this at locals

-- the reply to a read, and to a write
abbrev pub after_read : Code → List StackFrame → MethodId → Option ObjId → ℕ → List Content → List Content → Reply → State
after_read code below m this at stack locals (replies.Value v) = on below m this (at + 1) (Holds v ∷ stack) locals
after_read code below m this at stack locals replies.Range = throw_at code faults.ArrayIndexOutOfBoundsException below m this at locals
after_read code below m this at stack locals _ = on below m this (at + 1) (Holds (values.Int (pos 0)) ∷ stack) locals

abbrev pub after_write : Code → List StackFrame → MethodId → Option ObjId → ℕ → List Content → List Content → Reply → State
after_write code below m this at stack locals replies.Range = throw_at code faults.ArrayIndexOutOfBoundsException below m this at locals
after_write code below m this at stack locals _ = on below m this (at + 1) stack locals

-- a state unless the reply is Illegal
abbrev pub unless_illegal : Code → List StackFrame → MethodId → Option ObjId → ℕ → List Content → Fault → Reply → State → State
unless_illegal code below m this at locals fault replies.Illegal after = throw_at code fault below m this at locals
unless_illegal code below m this at locals fault _ after = after

-- a new array of that size
abbrev pub make_array : Code → List StackFrame → MethodId → Option ObjId → ℕ → List Content → List Content → Elem → ℤ → Move
make_array code below m this at stack locals element (pos size) =
    Asks (deeds.New (kinds.Array element size)) (λ r. on below m this (at + 1) (Holds (values.Ref (object_made r)) ∷ stack) locals)
make_array code below m this at stack locals element (negsuc n) =
    Goes (throw_at code faults.NegativeArraySizeException below m this at locals)

-- joins the wait set, and then takes the monitor again
abbrev pub wait_on : Code → List StackFrame → MethodId → Option ObjId → ℕ → List Content → List Content → Deed → ObjId → Move
wait_on code below m this at stack locals deed o =
    Asks deed (λ r. unless_illegal code below m this at locals faults.IllegalMonitorStateException r (Makes (deeds.Resume o) (on below m this (at + 1) stack locals)))

-- a wait for that time, where 0 is without an end
abbrev pub wait_for_on : Code → List StackFrame → MethodId → Option ObjId → ℕ → List Content → List Content → ℤ → ObjId → Move
wait_for_on code below m this at stack locals (pos zero) o = wait_on code below m this at stack locals (deeds.Wait o) o
wait_for_on code below m this at stack locals (pos (suc n)) o = wait_on code below m this at stack locals (deeds.TimedWait o) o
wait_for_on code below m this at stack locals (negsuc n) o = Goes (throw_at code faults.IllegalArgumentException below m this at locals)

abbrev pub call_on_object : Code → List StackFrame → MethodId → Option ObjId → ℕ → List Content → List Content → ObjectCall → ObjId → Move
call_on_object code below m this at stack locals Wait o = wait_on code below m this at stack locals (deeds.Wait o) o
call_on_object code below m this at stack locals Notify o =
    Asks (deeds.Notify o) (λ r. unless_illegal code below m this at locals faults.IllegalMonitorStateException r (on below m this (at + 1) stack locals))
call_on_object code below m this at stack locals NotifyAll o =
    Asks (deeds.NotifyAll o) (λ r. unless_illegal code below m this at locals faults.IllegalMonitorStateException r (on below m this (at + 1) stack locals))
call_on_object code below m this at stack locals Start o =
    Asks (deeds.Start o) (λ r. unless_illegal code below m this at locals faults.IllegalThreadStateException r (on below m this (at + 1) stack locals))
call_on_object code below m this at stack locals Join o = Asks (deeds.Join o) (λ r. on below m this (at + 1) stack locals)

abbrev pub dup : List Content → List Content
dup stack = top_content stack ∷ stack

abbrev pub dup2 : List Content → List Content
dup2 stack = top_content stack ∷ (top_content (under stack) ∷ stack)

abbrev pub dupx1 : List Content → List Content
dupx1 stack = top_content stack ∷ (top_content (under stack) ∷ (top_content stack ∷ under (under stack)))

abbrev pub dupx2 : List Content → List Content
dupx2 stack =
    top_content stack ∷ (top_content (under stack) ∷ (top_content (under (under stack)) ∷ (top_content stack ∷ under (under (under stack)))))

abbrev pub act : Code → Option Instruction → List StackFrame → MethodId → Option ObjId → ℕ → List Content → List Content → Move
act code None below m this at stack locals = Ends
act code (Some Unknown) below m this at stack locals = Ends
act code (Some (Push v)) below m this at stack locals = Goes (on below m this (at + 1) (Holds v ∷ stack) locals)
act code (Some (Load x)) below m this at stack locals =
    Goes (on below m this (at + 1) (content_in (slice_get locals x) ∷ stack) locals)
act code (Some (Store x)) below m this at stack locals =
    Goes (on below m this (at + 1) (under stack) (slice_set locals x (top_content stack)))
act code (Some Pop) below m this at stack locals = Goes (on below m this (at + 1) (under stack) locals)
act code (Some Dup) below m this at stack locals = Goes (on below m this (at + 1) (dup stack) locals)
act code (Some Dup2) below m this at stack locals = Goes (on below m this (at + 1) (dup2 stack) locals)
act code (Some DupX1) below m this at stack locals = Goes (on below m this (at + 1) (dupx1 stack) locals)
act code (Some DupX2) below m this at stack locals = Goes (on below m this (at + 1) (dupx2 stack) locals)
act code (Some (OneOperand operator)) below m this at stack locals =
    Goes (on below m this (at + 1) (Holds (unary_value operator (top stack)) ∷ under stack) locals)
act code (Some (TwoOperands operator)) below m this at stack locals =
    Goes (or_throw code below m this at (under (under stack)) locals (binary_value operator (top (under stack)) (top stack)))
act code (Some (ConvertTo w)) below m this at stack locals =
    Goes (on below m this (at + 1) (Holds (converted w (top stack)) ∷ under stack) locals)
act code (Some (Jump to)) below m this at stack locals = Goes (on below m this to stack locals)
act code (Some (JumpIf to)) below m this at stack locals =
    Goes (choose (truth_of (top stack)) (on below m this to (under stack) locals) (on below m this (at + 1) (under stack) locals))
act code (Some (JumpNot to)) below m this at stack locals =
    Goes (choose (truth_of (top stack)) (on below m this (at + 1) (under stack) locals) (on below m this to (under stack) locals))
act code (Some (BackTo to)) below m this at stack locals = Asks deeds.Back (λ r. on below m this to stack locals)
act code (Some (GetField slot kind)) below m this at stack locals =
    with_object code below m this at locals (top stack) (λ o. Asks (deeds.Get (cell o slot)) (after_read code below m this at (under stack) locals))
act code (Some (PutField slot kind)) below m this at stack locals =
    with_object code below m this at locals (top (under stack))
    (λ o. Asks (deeds.Put (cell o slot) (top stack)) (after_write code below m this at (under (under stack)) locals))
act code (Some (GetStatic place kind)) below m this at stack locals = Asks (deeds.Get place) (after_read code below m this at stack locals)
act code (Some (PutStatic place kind)) below m this at stack locals =
    Asks (deeds.Put place (top stack)) (after_write code below m this at (under stack) locals)
act code (Some (GetElement element)) below m this at stack locals =
    with_object code below m this at locals (top (under stack))
    (λ o. Asks (deeds.Get (cell o (index_slot (top stack)))) (after_read code below m this at (under (under stack)) locals))
act code (Some (PutElement element)) below m this at stack locals =
    with_object code below m this at locals (top (under (under stack)))
    (λ o. Asks (deeds.Put (cell o (index_slot (top (under stack)))) (top stack)) (after_write code below m this at (under (under (under stack))) locals))
act code (Some ArrayLength) below m this at stack locals =
    with_object code below m this at locals (top stack) (λ o. Asks (deeds.Len o) (after_read code below m this at (under stack) locals))
act code (Some (Make kind)) below m this at stack locals =
    Asks (deeds.New kind) (λ r. on below m this (at + 1) (Holds (values.Ref (object_made r)) ∷ stack) locals)
act code (Some (MakeArray element)) below m this at stack locals =
    make_array code below m this at (under stack) locals element (number_of (top stack))
act code (Some EnterMonitor) below m this at stack locals =
    with_object code below m this at locals (top stack) (λ o. Asks (deeds.Enter o ways.Block) (λ r. on below m this (at + 1) (under stack) locals))
act code (Some ExitMonitor) below m this at stack locals =
    with_object code below m this at locals (top stack) (λ o. Asks (deeds.Exit o) (λ r. on below m this (at + 1) (under stack) locals))
act code (Some (OnObject called)) below m this at stack locals =
    with_object code below m this at locals (top stack) (call_on_object code below m this at (under stack) locals called)
act code (Some WaitForTime) below m this at stack locals =
    with_object code below m this at locals (top (under stack)) (wait_for_on code below m this at (under (under stack)) locals (number_of (top stack)))
act code (Some SleepFor) below m this at stack locals =
    choose (is_negative (number_of (top stack))) (Goes (throw_at code faults.IllegalArgumentException below m this at locals))
    (Asks deeds.Back (λ r. on below m this (at + 1) (under stack) locals))
act code (Some YieldNow) below m this at stack locals = Asks deeds.Back (λ r. on below m this (at + 1) stack locals)
act code (Some (CallStaticMethod callee)) below m this at stack locals =
    let n = arity_of code callee in
    Goes (calling code callee None (taken n stack) (stack_frame m this at (drop n stack) locals ∷ below))
act code (Some (CallMethodOn callee)) below m this at stack locals =
    let n = arity_of code callee in
    with_object code below m this at locals (top (drop n stack))
    (λ o. Goes (calling code callee (Some o) (taken n stack) (stack_frame m this at (under (drop n stack)) locals ∷ below)))
act code (Some ReturnNothing) below m this at stack locals = Goes (returning code None below m this)
act code (Some ReturnTop) below m this at stack locals = Goes (returning code (Some (top stack)) below m this)
act code (Some CommitNow) below m this at stack locals = Asks (deeds.Commit m) (λ r. on below m this (at + 1) stack locals)
act code (Some (AssertThat clause scope)) below m this at stack locals =
    Asks (deeds.Assert clause (reference this ∷ map (value_at locals) scope)) (λ r. on below m this (at + 1) stack locals)
act code (Some (PrintAll parts)) below m this at stack locals =
    let n = values_printed parts in
    Asks (deeds.Print (filled parts (taken n stack))) (λ r. on below m this (at + 1) (drop n stack) locals)
act code (Some (ThrowNew fault)) below m this at stack locals = Goes (throw_at code fault below m this at locals)
act code (Some (ThrowLocal x)) below m this at stack locals = Goes (throw_at code (fault_at locals x) below m this at locals)

-- ---- one step

-- the place is in the region
abbrev pub holds : Region → ℕ → Bool
holds r at = nat_le r.first at && nat_lt at r.past

-- gives back the monitor of the object that a local holds
abbrev pub exit_local : Value → State → Move
exit_local (values.Ref o) after = Asks (deeds.Exit o) (λ r. after)
exit_local _ after = Goes after

-- what a region that holds the place does
abbrev pub handles : RegionKind → Fault → List Region → StackFrame → List StackFrame → Move
handles (CatchAt caught target) fault rest f below =
    Goes (choose (catches caught fault) (on below f.method f.this target (Caught fault ∷ []) f.locals) (Throws fault rest f below))
handles (ExitLocal x) fault rest f below = exit_local (value_at f.locals x) (Throws fault rest f below)

abbrev pub step : Code → State → Move
step code (Runs f below) = act code (slice_get (instructions_of code f.method) f.at) below f.method f.this f.at f.stack f.locals
step code (Throws fault [] f below) =
    Goes (Makes (deeds.Leave f.method Abrupt) (exit_then (monitor_in (method_code_at code f.method) f.this) (handed_fault code fault below)))
step code (Throws fault (r ∷ rest) f below) = choose (holds r f.at) (handles r.kind fault rest f below) (Goes (Throws fault rest f below))
step code (Makes deed after) = Asks deed (λ r. after)
step code Over = Ends

-- a thread that begins
abbrev pub start_state : Code → Option Body → State
start_state code None = Makes (deeds.End ends.Normal) Over
start_state code (Some start) = calling code start.method start.this [] []

-- ---- the next action

-- goes on with a move
abbrev pub follow : Move → Tape → (State → Tape → Option Next) → Option Next
follow (Goes s) tape go = go s tape
follow (Asks deed after) [] go = Some (Wants deed)
follow (Asks deed after) (r ∷ tape) go = go (after r) tape
follow Ends tape go = Some Ended

-- at most n steps; none where they were not enough
abbrev pub run : Code → ℕ → State → Tape → Option Next
run code zero s tape = None
run code (suc n) s tape = follow (step code s) tape (run code n)

-- the code does this next, after these replies
pub record DoesNext (code : Code) (s : State) (replies : Tape) (what : Next) : Type 0 where
  pub steps : ℕ
  pub comes : run code steps s replies ≡ Some what
