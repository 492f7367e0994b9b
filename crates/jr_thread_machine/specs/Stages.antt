-- What contracts see of a machine, and the move that it stands before.
use Rattle.std.specs.Prelude.{◌≡◌, List, [], ◌∷◌, drop, Option, Some, None}
use Rattle.jr_base.specs.Deed.{Deed, deed_of}
use Rattle.jr_base.specs.declared.number.ObjId.{ObjId}
use Rattle.jr_base.specs.declared.action.Action.TheVariants as actions
use Rattle.jr_base.specs.declared.action.Way.TheVariants as ways
use Rattle.jr_base.specs.declared.action.Body.{Body}
use Rattle.jr_base.specs.declared.action.Reply.{Reply}
use Rattle.jr_base.specs.Content.{Holds}
use Rattle.jr_code.specs.Instructions.{Code}
use Rattle.jr_code.specs.Machine.{StackFrame, stack_frame, State, Runs, Throws, Over, Move, Goes, Asks, Ends, regions_of, start_state}
use Rattle.jr_thread_machine.specs.declared.flow.Arguments.{Arguments}
use Rattle.jr_thread_machine.specs.declared.flow.Stop.{Stop}
use Rattle.jr_thread_machine.specs.declared.flow.Stop.TheVariants as stops
use Rattle.jr_thread_machine.specs.declared.flow.Then.TheVariants as thens
use Rattle.jr_thread_machine.specs.declared.handlers.Ran.{Ran}
use Rattle.jr_thread_machine.specs.declared.handlers.Ran.TheVariants as rans
use Rattle.jr_thread_machine.specs.declared.stage.Stage.{Stage}
use Rattle.jr_thread_machine.specs.declared.stage.Stage.TheVariants as stages
use Rattle.jr_thread_machine.specs.Moves.{goes_on, call_of, leaving, stop_move}
use Rattle.jr_thread_machine.specs.Places.{StageFits, AllMayGoOn}
use Rattle.jr_thread_machine.specs.Runs.{Becomes}

-- how far it has come, the innermost call, and those that wait for it, the innermost first
pub record Held : Type 0 where
  pub stage : Stage
  pub top : StackFrame
  pub below : List StackFrame

abbrev pub held : Stage → StackFrame → List StackFrame → Held
held stage f below = record { stage = stage; top = f; below = below }

-- the move that it stands before
abbrev pub stage_move : Code → Stage → StackFrame → List StackFrame → Move
stage_move code stages.Runs f below = Goes (Runs f below)
stage_move code (stages.Takes value) f below = Goes (Runs (stack_frame f.method f.this f.at (Holds value ∷ f.stack) f.locals) below)
stage_move code (stages.Throws fault from) f below =
    Goes (Throws fault (drop from (regions_of code f.method)) (stack_frame f.method f.this f.at [] f.locals) below)
stage_move code (stages.Begins callee this) f below = stop_move code (stops.Calls callee this) below f
stage_move code (stages.Leaves left) f below = Goes (leaving code left below f)
stage_move code (stages.Calls a) f below = Asks (call_of a f) (λ r. Runs f below)
stage_move code (stages.Asks action then) f below = Asks (deed_of action) (goes_on code then below f)
stage_move code stages.Over f below = Ends

abbrev pub move_of : Code → Held → Move
move_of code m = stage_move code m.stage m.top m.below

-- every call stands where a path of checked code comes
pub record HeldFits (code : Code) (m : Held) : Type 0 where
  pub stage : StageFits code m.stage m.top
  pub below : AllMayGoOn code m.below

-- it stands at this action
abbrev pub AsksFor : Deed → Stage → StackFrame → Type 0
AsksFor deed (stages.Calls a) f = call_of a f ≡ deed
AsksFor deed (stages.Asks action then) f = deed_of action ≡ deed
AsksFor deed _ f = ⊥

abbrev pub IsAt : Deed → Held → Type 0
IsAt deed m = AsksFor deed m.stage m.top

-- ---- turns of the machine

abbrev pub stage_of : Stop → Stage
stage_of (stops.Asks action then) = stages.Asks action then
stage_of (stops.Calls callee this) = stages.Begins callee this
stage_of (stops.Leaves left) = stages.Leaves left
stage_of stops.Nothing = stages.Over

abbrev pub stage_of_ran : Ran → Stage
stage_of_ran (rans.Stops stop) = stage_of stop
stage_of_ran (rans.Throws fault from) = stages.Throws fault from

-- a call that is made takes its monitor first
abbrev pub called_stage : Option ObjId → Arguments → Stage
called_stage (Some o) a = stages.Asks (actions.Enter o ways.Method) (thens.Calls a)
called_stage None a = stages.Calls a

-- no value and no exception waits for the call
abbrev pub IsAwake : Stage → Type 0
IsAwake (stages.Takes value) = ⊥
IsAwake (stages.Throws fault from) = ⊥
IsAwake _ = Unit {0}

-- nor does it run
abbrev pub HasStopped : Stage → Type 0
HasStopped (stages.Takes value) = ⊥
HasStopped (stages.Throws fault from) = ⊥
HasStopped stages.Runs = ⊥
HasStopped _ = Unit {0}

-- the thread stands at an action, or has ended
abbrev pub IsSettled : Stage → Type 0
IsSettled (stages.Calls a) = Unit {0}
IsSettled (stages.Asks action then) = Unit {0}
IsSettled stages.Over = Unit {0}
IsSettled _ = ⊥

-- some local steps on
pub record HasTurned (code : Code) (old new : Held) : Type 0 where
  pub becomes : Becomes code (move_of code old) (move_of code new)
  pub fits : HeldFits code new

-- ---- after a reply

abbrev pub answered : Code → Stage → StackFrame → List StackFrame → Reply → State
answered code (stages.Calls a) f below r = Runs f below
answered code (stages.Asks action then) f below r = goes_on code then below f r
answered code _ f below r = Over

-- the machine does what the state does
pub record ComesTo (code : Code) (s : State) (stage : Stage) (f : StackFrame) (callers : List StackFrame) : Type 0 where
  pub becomes : Becomes code (Goes s) (stage_move code stage f callers)
  pub fits : StageFits code stage f
  pub below : AllMayGoOn code callers

-- a thread that was started so
pub record HasStarted (code : Code) (start : Option Body) (m : Held) : Type 0 where
  pub becomes : Becomes code (Goes (start_state code start)) (move_of code m)
  pub fits : HeldFits code m
