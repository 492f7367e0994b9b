-- A call as plain data.
use Rattle.std.specs.Prelude.{ℕ, drop, Option, Some, None}
use Rattle.jr_base.specs.declared.number.ObjId.{ObjId}
use Rattle.jr_code.specs.Machine.{StackFrame, stack_frame, under}
use Rattle.jr_thread_machine.specs.declared.frame.Frame.{Frame}

abbrev pub frame_of : Frame → StackFrame
frame_of f = stack_frame f.method f.this f.at f.stack.items f.locals

-- without so many arguments, and the object that they were passed to
abbrev pub without : ℕ → Option ObjId → StackFrame → StackFrame
without count None f = stack_frame f.method f.this f.at (drop count f.stack) f.locals
without count (Some o) f = stack_frame f.method f.this f.at (under (drop count f.stack)) f.locals
