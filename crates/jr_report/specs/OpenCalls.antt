-- The calls that guests have open, as a pass over a journal keeps them.
use Rattle.std.specs.Prelude.{◌≡◌, ◌≤◌, ◌-◌, List, length, map, reverse, take, Some, slice_get}
use Rattle.jr_base.specs.declared.number.GuestNo.{GuestNo}
use Rattle.jr_base.specs.declared.number.MethodId.{MethodId}
use Rattle.jr_meaning.specs.Event.{Event}
use Rattle.jr_meaning.specs.Frames.{Frame, frames_of}
use Rattle.jr_meaning.specs.History.{step_count}
use Rattle.jr_report.specs.declared.open_calls.CallStack.{CallStack}
use Rattle.jr_report.specs.declared.open_calls.OpenCalls.{OpenCalls}
use Rattle.jr_report.specs.declared.pass.Pass.{Pass}

-- the stack holds those methods, of which the first is the newest
pub record Holds (methods : List MethodId) (stack : CallStack) : Type 0 where
  pub within : stack.depth ≤ 256
  pub same : take stack.depth stack.methods ≡ reverse methods

-- the methods of a guest's frames, the newest first
abbrev pub open_methods : List Event → GuestNo → List MethodId
open_methods h g = map (λ (frame : Frame). frame.method) (frames_of h g)

-- there is a stack for each of 16 guests, which holds what that guest has open
abbrev pub AreOpen : List Event → OpenCalls → Type 0
AreOpen h calls = (g : GuestNo) → 1 ≤ g.0 → g.0 ≤ 16 → (stack : CallStack) × (slice_get calls.guests (g.0 - 1) ≡ Some stack) × Holds (open_methods h g) stack

-- no guest has more calls open than may be
abbrev pub FramesFit : List Event → Type 0
FramesFit h = (g : GuestNo) → length (frames_of h g) ≤ 256

-- A pass over a history has so many entries behind it, so many steps among them, and these calls are open there.
pub record Stands (h : List Event) (pass : Pass) : Type 0 where
  pub within : pass.at ≤ length h
  pub steps : pass.step ≡ step_count (take pass.at h)
  pub calls : AreOpen (take pass.at h) pass.calls
