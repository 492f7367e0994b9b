-- Where calls stand in checked code: at places that a path reaches.
use Rattle.std.specs.Prelude.{◌≡◌, ℕ, ◌+◌, ◌<◌, ◌^◌, List, [], ◌∷◌, Some}
use Rattle.jr_base.specs.declared.number.MethodId.{MethodId}
use Rattle.jr_base.specs.declared.kind.SlotKind.{SlotKind}
use Rattle.jr_code.specs.Instructions.{MethodCode, Code}
use Rattle.jr_code.specs.Machine.{StackFrame, method_code_at}
use Rattle.jr_code.specs.Paths.{Reaches}
use Rattle.jr_thread_machine.specs.declared.flow.Stop.{Stop}
use Rattle.jr_thread_machine.specs.declared.flow.Stop.TheVariants as stops
use Rattle.jr_thread_machine.specs.declared.flow.Then.{Then}
use Rattle.jr_thread_machine.specs.declared.flow.Then.TheVariants as thens
use Rattle.jr_thread_machine.specs.declared.stage.Stage.{Stage}
use Rattle.jr_thread_machine.specs.declared.stage.Stage.TheVariants as stages

-- some path of the method comes to the place
pub record IsReached (code : Code) (m : MethodId) (at : ℕ) : Type 0 where
  pub c : MethodCode
  pub is_method : method_code_at code m ≡ Some c
  pub kinds : List SlotKind
  pub path : Reaches code c at kinds

-- the call may go on where it is, and behind its instruction
pub record MayGoOn (code : Code) (m : MethodId) (at : ℕ) : Type 0 where
  pub here : IsReached code m at
  pub behind : IsReached code m (at + 1)
  pub fits : at + 1 < 2 ^ 32

pub record IsMethod (code : Code) (m : MethodId) : Type 0 where
  pub c : MethodCode
  pub is_method : method_code_at code m ≡ Some c

abbrev pub ThenFits : Code → Then → StackFrame → Type 0
ThenFits code thens.Runs f = IsReached code f.method f.at
ThenFits code thens.Reads f = MayGoOn code f.method f.at
ThenFits code thens.Writes f = MayGoOn code f.method f.at
ThenFits code thens.Makes f = MayGoOn code f.method f.at
ThenFits code (thens.Unless fault) f = MayGoOn code f.method f.at
ThenFits code (thens.Waits o) f = MayGoOn code f.method f.at
ThenFits code (thens.Throws fault from) f = IsReached code f.method f.at
ThenFits code (thens.Calls a) f = IsReached code f.method f.at
ThenFits code _ f = Unit {0}

abbrev pub StopFits : Code → Stop → StackFrame → Type 0
StopFits code (stops.Asks action then) f = ThenFits code then f
StopFits code (stops.Calls callee this) f = IsMethod code callee × MayGoOn code f.method f.at
StopFits code (stops.Leaves left) f = IsReached code f.method f.at
StopFits code stops.Nothing f = Unit {0}

abbrev pub StageFits : Code → Stage → StackFrame → Type 0
StageFits code stages.Runs f = IsReached code f.method f.at
StageFits code (stages.Takes value) f = IsReached code f.method f.at
StageFits code (stages.Throws fault from) f = IsReached code f.method f.at
StageFits code (stages.Begins callee this) f = IsMethod code callee × MayGoOn code f.method f.at
StageFits code (stages.Leaves left) f = IsReached code f.method f.at
StageFits code (stages.Calls a) f = IsReached code f.method f.at
StageFits code (stages.Asks action then) f = ThenFits code then f
StageFits code stages.Over f = Unit {0}

-- each of the calls that wait may go on
abbrev pub AllMayGoOn : Code → List StackFrame → Type 0
AllMayGoOn code [] = Unit {0}
AllMayGoOn code (f ∷ below) = MayGoOn code f.method f.at × AllMayGoOn code below
