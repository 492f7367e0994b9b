-- The frames of a guest: its calls that haven't been left (JLS 15.12.4.5), the newest first.
use Rattle.std.specs.Prelude.{◌+◌, ℕ, Bool, true, false, cond, List, [], ◌∷◌, drop, Option}
use Rattle.jr_base.specs.Deed.{Deed, Call, Leave, Commit, Assert, Get, Put, Enter}
use Rattle.jr_base.specs.declared.number.GuestNo.{GuestNo}
use Rattle.jr_base.specs.declared.number.MethodId.{MethodId}
use Rattle.jr_base.specs.declared.number.ObjId.{ObjId}
use Rattle.jr_base.specs.declared.action.Way.TheVariants.{Block}
use Rattle.jr_base.specs.declared.value.Value.{Value}
use Rattle.jr_meaning.specs.Event.{Event, Step, Judged, Wake}
use Rattle.jr_meaning.specs.World.{same_guest}

-- a call: its method, receiver and arguments, and the number of its step
pub record Frame : Type 0 where
  pub method : MethodId
  pub this : Option ObjId
  pub arguments : List Value
  pub call : ℕ

-- a guest's frames after its step k
abbrev pub frames_after : ℕ → List Frame → Deed → List Frame
frames_after k frames (Call method this arguments) = record { method = method; this = this; arguments = arguments; call = k } ∷ frames
frames_after k frames (Leave method how) = drop 1 frames
frames_after k frames _ = frames

-- a guest's frames after entries of which the first step has number k
abbrev pub frames_from : GuestNo → ℕ → List Frame → List Event → List Frame
frames_from g k frames [] = frames
frames_from g k frames (Step other deed reply ∷ h) = frames_from g (k + 1) (cond (same_guest other g) (frames_after k frames deed) frames) h
frames_from g k frames (Judged step place value ∷ h) = frames_from g k frames h
frames_from g k frames (Wake woken ∷ h) = frames_from g k frames h

-- a guest's frames after a history
abbrev pub frames_of : List Event → GuestNo → List Frame
frames_of h g = frames_from g 0 [] h

-- what is only done in a frame
abbrev pub needs_frame : Deed → Bool
needs_frame (Leave method how) = true
needs_frame (Commit method) = true
needs_frame (Assert clause values) = true
needs_frame (Get cell) = true
needs_frame (Put cell value) = true
needs_frame (Enter object Block) = true
needs_frame _ = false
