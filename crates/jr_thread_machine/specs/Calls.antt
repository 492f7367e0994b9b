-- Calls that begin.
use Rattle.std.specs.Prelude.{◌≡◌, ℕ, List, [], map, length, take, Option, Some, slice_get}
use Rattle.jr_base.specs.declared.number.MethodId.{MethodId}
use Rattle.jr_base.specs.declared.number.ObjId.{ObjId}
use Rattle.jr_base.specs.Content.{Content}
use Rattle.jr_code.specs.declared.code.MethodCode.{MethodCode as MethodOfLists}
use Rattle.jr_code.specs.Coded.{Tables}
use Rattle.jr_code.specs.Machine.{StackFrame, stack_frame, taken, start_locals}
use Rattle.jr_code.specs.Views.{method_of}
use Rattle.jr_thread_machine.specs.declared.flow.Arguments.{Arguments}
use Rattle.jr_thread_machine.specs.declared.frame.Frame.{Frame}
use Rattle.jr_thread_machine.specs.Frames.{frame_of}
use Rattle.jr_thread_machine.specs.Moves.{arguments_in}

-- a call of the method, on that object, with the topmost operands as its arguments
pub record HasBegun (m : MethodId) (this : Option ObjId) (c : MethodOfLists) (operands : List Content) (f : StackFrame) (a : Arguments) : Type 0 where
  pub frame : (t : Tables) → f ≡ stack_frame m this 0 [] (start_locals (Some (method_of t c)) this (taken (length c.formals.items) operands))
  pub arguments : arguments_in a f.locals ≡ taken (length c.formals.items) operands

-- at that place stands this call, and those before it are the same
abbrev pub IsKept : ℕ → List Frame → List Frame → Type 0
IsKept at old new = (length new ≡ length old) × (map frame_of (take at new) ≡ map frame_of (take at old))

abbrev pub HasEntered : ℕ → StackFrame → List Frame → List Frame → Type 0
HasEntered at f old new = (x : Frame) × (slice_get new at ≡ Some x) × (frame_of x ≡ f)
