-- A call that goes on by itself.
use Rattle.std.specs.Prelude.{◌≡◌, ◌⊎◌, ℕ, ◌<◌, List, Some, None, slice_get}
use Rattle.jr_code.specs.declared.instruction.Instruction.{Instruction as Row}
use Rattle.jr_code.specs.declared.code.MethodCode.{MethodCode as MethodOfLists}
use Rattle.jr_code.specs.Coded.{Tables}
use Rattle.jr_code.specs.Decoded.{meaning}
use Rattle.jr_code.specs.Instructions.{Unknown, Code}
use Rattle.jr_code.specs.Machine.{StackFrame, Runs, Goes}
use Rattle.jr_code.specs.Views.{method_of}
use Rattle.jr_thread_machine.specs.declared.handlers.Ran.{Ran}
use Rattle.jr_thread_machine.specs.Handlers.{ran_move, RanFits}
use Rattle.jr_thread_machine.specs.Places.{IsReached}
use Rattle.jr_thread_machine.specs.Runs.{Becomes}

-- the row that stands at a place of a method
abbrev pub RowAt : MethodOfLists → ℕ → Row → Type 0
RowAt m at row = (t : Tables) → slice_get (method_of t m).instructions at ≡ Some (meaning t row)

-- none that the code knows stands there
abbrev pub NoRowAt : MethodOfLists → ℕ → Type 0
NoRowAt m at = (t : Tables) → (slice_get (method_of t m).instructions at ≡ None) ⊎ (slice_get (method_of t m).instructions at ≡ Some Unknown)

-- it came from the first frame to the second
pub record Stays (code : Code) (old new : StackFrame) : Type 0 where
  pub becomes : (below : List StackFrame) → Becomes code (Goes (Runs old below)) (Goes (Runs new below))
  pub here : IsReached code new.method new.at
  pub method : new.method ≡ old.method

-- and to a place further on, within so many instructions
pub record WentOn (code : Code) (count : ℕ) (old new : StackFrame) : Type 0 where
  pub stays : Stays code old new
  pub further : old.at < new.at
  pub inside : old.at < count

-- or to where it doesn't go on by itself
pub record Stopped (code : Code) (ran : Ran) (old new : StackFrame) : Type 0 where
  pub becomes : (below : List StackFrame) → Becomes code (Goes (Runs old below)) (ran_move code ran below new)
  pub fits : RanFits code ran new
