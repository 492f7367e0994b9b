-- The entries of a journal as plain data.
use Rattle.std.specs.Prelude.{ℕ, List, [], ◌∷◌}
use Rattle.jr_base.specs.Deed.{Deed}
use Rattle.jr_base.specs.declared.number.GuestNo.{GuestNo}
use Rattle.jr_base.specs.declared.number.Stamp.{Stamp}
use Rattle.jr_base.specs.declared.finish.Verdict.{Verdict}
use Rattle.jr_base.specs.declared.action.Reply.{Reply}

-- A guest did something and the machine replied; or a clause, by its place among those due at a step, was
-- judged; or a guest left its wait set though nobody notified it (JLS 17.2.1): that is no step, and has no number.
pub data Event : Type 0 where
  Step : (guest : GuestNo) (deed : Deed) (reply : Reply) → Event
  Judged : (step : Stamp) (place : ℕ) (value : Verdict) → Event
  Wake : (guest : GuestNo) → Event

-- what moves the world: the steps and the wake-ups of a history, without its verdicts
abbrev pub moves_of : List Event → List Event
moves_of [] = []
moves_of (Step guest deed reply ∷ h) = Step guest deed reply ∷ moves_of h
moves_of (Judged step place value ∷ h) = moves_of h
moves_of (Wake guest ∷ h) = Wake guest ∷ moves_of h

-- of a move what a guest hears: the reply, or that it woke
pub data Heard : Type 0 where
  Replied : (guest : GuestNo) (reply : Reply) → Heard
  Woken : (guest : GuestNo) → Heard

abbrev pub heard : List Event → List Heard
heard [] = []
heard (Step guest deed reply ∷ h) = Replied guest reply ∷ heard h
heard (Judged step place value ∷ h) = heard h
heard (Wake guest ∷ h) = Woken guest ∷ heard h
