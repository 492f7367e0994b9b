-- Where a call comes to by instructions that give operands and locals their values.
use Rattle.std.specs.Prelude.{◌≡◌, ◌+◌, ◌<◌, ◌≤◌, ◌^◌, Some, slice_get, length}
use Rattle.jr_code.specs.declared.code.Code.{Code as CodeOfLists}
use Rattle.jr_code.specs.declared.code.MethodCode.{MethodCode as MethodOfLists}
use Rattle.jr_code.specs.declared.instruction.Instruction.{Instruction as Row}
use Rattle.jr_code.specs.Decoded.{meaning}
use Rattle.jr_code.specs.Machine.{instructions_of}
use Rattle.jr_code.specs.Views.{plain_of, tables_of}
use Rattle.jr_thread_machine.specs.declared.frame.Frame.{Frame}
use Rattle.jr_thread_machine.specs.declared.run.Halt.{Halt}
use Rattle.jr_thread_machine.specs.declared.run.Halt.TheVariants as halts
use Rattle.jr_thread_machine.specs.Frames.{frame_of}
use Rattle.jr_thread_machine.specs.Steps.{NoRowAt}
use Rattle.jr_thread_machine.specs.Stopping.{MayStop}

-- at an instruction that may stop it or throw, and for whose operands there is room
pub record HaltsAt (code : CodeOfLists) (method : MethodOfLists) (row : Row) (f : Frame) : Type 0 where
  pub stands : slice_get (instructions_of (plain_of code) f.method) f.at ≡ Some (meaning (tables_of code) row)
  pub inside : f.at < length method.instrs.items
  pub fits : f.at + 1 < 2 ^ 32
  pub room : 4 ≤ f.stack.spare
  pub stops : MayStop row (frame_of f)

abbrev pub Halts : CodeOfLists → MethodOfLists → Frame → Halt → Type 0
Halts code method f (halts.At row) = HaltsAt code method row f
Halts code method f halts.Nothing = NoRowAt method f.at
Halts code method f halts.NoRoom = Unit {0}
