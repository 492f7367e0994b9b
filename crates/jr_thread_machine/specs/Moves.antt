-- What the machine stands before, as a move of its code.
use Rattle.std.specs.Prelude.{◌≡◌, ℕ, ◌+◌, List, [], ◌∷◌, map, take, drop, Option, Some}
use Rattle.jr_base.specs.Deed.{Deed, deed_of}
use Rattle.jr_base.specs.Deed as deeds
use Rattle.jr_base.specs.declared.number.MethodId.{MethodId}
use Rattle.jr_base.specs.declared.number.ObjId.{ObjId}
use Rattle.jr_base.specs.declared.action.Reply.{Reply}
use Rattle.jr_base.specs.declared.action.LeaveHow.{LeaveHow}
use Rattle.jr_base.specs.declared.action.LeaveHow.TheVariants.{Normal, Abrupt}
use Rattle.jr_base.specs.declared.action.EndHow.{EndHow}
use Rattle.jr_base.specs.declared.action.EndHow.TheVariants as ends
use Rattle.jr_base.specs.declared.value.Value.{Value}
use Rattle.jr_base.specs.declared.value.Value.TheVariants as values
use Rattle.jr_base.specs.declared.finish.Fault.{Fault}
use Rattle.jr_base.specs.declared.finish.Fault.TheVariants as faults
use Rattle.jr_base.specs.Content.{Content, Holds}
use Rattle.jr_base.specs.Threads.{object_made}
use Rattle.jr_code.specs.Instructions.{Instruction, CallStaticMethod, CallMethodOn, Code}
use Rattle.jr_code.specs.Machine.{StackFrame, stack_frame, State, Runs, Throws, Makes, Over, Move, Goes, Asks, Ends, act, on, throw_at, taken, arity_of, regions_of, calling, handed, handed_fault, exit_then, returning, after_read, after_write, unless_illegal, value_of_content}
use Rattle.jr_code.specs.Paths.{IsNext}
use Rattle.jr_thread_machine.specs.Frames.{without}
use Rattle.jr_thread_machine.specs.declared.flow.Left.{Left}
use Rattle.jr_thread_machine.specs.declared.flow.Left.TheVariants as lefts
use Rattle.jr_thread_machine.specs.declared.flow.Arguments.{Arguments}
use Rattle.jr_thread_machine.specs.declared.flow.Then.{Then}
use Rattle.jr_thread_machine.specs.declared.flow.Then.TheVariants as thens
use Rattle.jr_thread_machine.specs.declared.flow.Stop.{Stop}
use Rattle.jr_thread_machine.specs.declared.flow.Stop.TheVariants as stops
use Rattle.jr_thread_machine.specs.declared.flow.Flow.{Flow}
use Rattle.jr_thread_machine.specs.declared.flow.Flow.TheVariants as flows

-- ---- an instruction of a call

abbrev pub acted : Code → Instruction → List StackFrame → StackFrame → Move
acted code i below f = act code (Some i) below f.method f.this f.at f.stack f.locals

-- an exception in a call
abbrev pub thrown : Code → Fault → List StackFrame → StackFrame → State
thrown code fault below f = throw_at code fault below f.method f.this f.at f.locals

-- ---- how a call is left

abbrev pub left_to : Code → Left → List StackFrame → State
left_to code (lefts.Returns value) below = handed value below
left_to code (lefts.Fails fault) below = handed_fault code fault below

abbrev pub how_left : Left → LeaveHow
how_left (lefts.Returns value) = Normal value
how_left (lefts.Fails fault) = Abrupt

-- how a thread ends whose first call is left
abbrev pub how_ended : Left → EndHow
how_ended (lefts.Returns value) = ends.Normal
how_ended (lefts.Fails fault) = ends.Uncaught fault

-- what a call comes to that is left
abbrev pub leaving : Code → Left → List StackFrame → StackFrame → State
leaving code (lefts.Returns value) below f = returning code value below f.method f.this
leaving code (lefts.Fails fault) below f = Throws fault [] f below

-- ---- after a reply

abbrev pub arguments_in : Arguments → List Content → List Value
arguments_in a locals = map value_of_content (take a.count (drop a.first locals))

-- the call of a method whose locals are set
abbrev pub call_of : Arguments → StackFrame → Deed
call_of a f = deeds.Call f.method f.this (arguments_in a f.locals)

abbrev pub goes_on : Code → Then → List StackFrame → StackFrame → Reply → State
goes_on code thens.Runs below f = λ r. Runs f below
goes_on code thens.Reads below f = after_read code below f.method f.this f.at f.stack f.locals
goes_on code thens.Writes below f = after_write code below f.method f.this f.at f.stack f.locals
goes_on code thens.Makes below f = λ r. on below f.method f.this (f.at + 1) (Holds (values.Ref (object_made r)) ∷ f.stack) f.locals
goes_on code (thens.Unless fault) below f =
    λ r. unless_illegal code below f.method f.this f.at f.locals fault r (on below f.method f.this (f.at + 1) f.stack f.locals)
goes_on code (thens.Waits o) below f =
    λ r. unless_illegal code below f.method f.this f.at f.locals faults.IllegalMonitorStateException r
    (Makes (deeds.Resume o) (on below f.method f.this (f.at + 1) f.stack f.locals))
goes_on code (thens.Throws fault from) below f =
    λ r. Throws fault (drop from (regions_of code f.method)) (stack_frame f.method f.this f.at [] f.locals) below
goes_on code (thens.Calls a) below f = λ r. Makes (call_of a f) (Runs f below)
goes_on code (thens.Exits monitor left) below f = λ r. exit_then monitor (left_to code left below)
goes_on code (thens.Hands left) below f = λ r. left_to code left below
goes_on code thens.Ends below f = λ r. Over

-- ---- what an instruction comes to

-- the caller, without the arguments and the object of a call
abbrev pub caller_of : Code → MethodId → Option ObjId → StackFrame → StackFrame
caller_of code callee this f = without (arity_of code callee) this f

abbrev pub stop_move : Code → Stop → List StackFrame → StackFrame → Move
stop_move code (stops.Asks action then) below f = Asks (deed_of action) (goes_on code then below f)
stop_move code (stops.Calls callee this) below f =
    Goes (calling code callee this (taken (arity_of code callee) f.stack) (caller_of code callee this f ∷ below))
stop_move code (stops.Leaves left) below f = Goes (leaving code left below f)
stop_move code stops.Nothing below f = Ends

abbrev pub flow_move : Code → Flow → List StackFrame → StackFrame → Move
flow_move code flows.Goes below f = Goes (Runs f below)
flow_move code (flows.Throws fault) below f = Goes (thrown code fault below f)
flow_move code (flows.Stops stop) below f = stop_move code stop below f

-- the instruction does this, and the second frame is what it leaves of the first
abbrev pub Did : Code → Instruction → Flow → StackFrame → StackFrame → Type 0
Did code i flow old new = (below : List StackFrame) → acted code i below old ≡ flow_move code flow below new

-- the instruction calls that method
abbrev pub Calls : MethodId → Instruction → Type 0
Calls callee (CallStaticMethod m) = m ≡ callee
Calls callee (CallMethodOn m) = m ≡ callee
Calls callee _ = ⊥

-- where the call stands then: at a place that comes next, or still at the instruction, which the next one may follow
abbrev pub Onward : ℕ → Instruction → Flow → ℕ → Type 0
Onward at i flows.Goes now = IsNext at i now
Onward at i (flows.Throws fault) now = now ≡ at
Onward at i (flows.Stops (stops.Asks action thens.Runs)) now = IsNext at i now
Onward at i (flows.Stops (stops.Asks action _)) now = (now ≡ at) × IsNext at i (at + 1)
Onward at i (flows.Stops (stops.Calls callee this)) now = (now ≡ at) × IsNext at i (at + 1) × Calls callee i
Onward at i (flows.Stops (stops.Leaves left)) now = now ≡ at
Onward at i (flows.Stops stops.Nothing) now = now ≡ at

-- what an instruction makes of a call
pub record Steps (code : Code) (i : Instruction) (flow : Flow) (old new : StackFrame) : Type 0 where
  pub did : Did code i flow old new
  pub onward : Onward old.at i flow new.at
  pub method : new.method ≡ old.method
