-- What is known just before a guest's step.
use Rattle.std.specs.Prelude.{◌≡◌, List}
use Rattle.jr_base.specs.declared.number.GuestNo.{GuestNo}
use Rattle.jr_base.specs.declared.value.Ask.{Ask}
use Rattle.jr_program.specs.Programs.{Program}
use Rattle.jr_meaning.specs.Event.{Event}
use Rattle.jr_meaning.specs.Frames.{Frame, frames_of}
use Rattle.jr_meaning.specs.Heap.{Heap, heap_of}
use Rattle.jr_meaning.specs.History.{world_after}
use Rattle.jr_built.specs.OneThread.{HasOneThread}

-- these are the guest's frames after that history, that is the heap after it, and there is one thread
pub record StandsAt (program : Program) (h : List Event) (g : GuestNo) (open_frames : List Frame) (shown : Heap) : Type 0 where
  pub frames : open_frames ≡ frames_of h g
  pub heap : (what : Ask) → shown what ≡ heap_of (world_after program h) what
  pub alone : HasOneThread program (world_after program h)
