-- The entries of a journal as plain data, and where in it a step stands.
use Rattle.std.specs.Prelude.{ℕ, ◌+◌, List, [], ◌∷◌, ◌++◌, Option, slice_get}
use Rattle.jr_base.specs.Deed.{deed_of}
use Rattle.jr_base.specs.declared.action.Reply.{Reply}
use Rattle.jr_base.specs.declared.action.Reply.TheVariants as replies
use Rattle.jr_meaning.specs.Event.{Event, Step, Judged, Wake}
use Rattle.jr_journal.specs.declared.journal.Entry.{Entry}
use Rattle.jr_journal.specs.declared.journal.Entry.TheVariants as entries

abbrev pub event_of : Entry → Event
event_of (entries.Step guest action reply) = Step guest (deed_of action) reply
event_of (entries.Verdict step place value) = Judged step place value
event_of (entries.Wake guest) = Wake guest

-- a journal: its entries, and how many more may be pushed
pub record Entries : Type 0 where
  pub entries : List Event
  pub spare : ℕ

-- ---- where steps stand

-- the places of the steps among entries, of which the first has that place
abbrev pub step_places_from : ℕ → List Event → List ℕ
step_places_from at [] = []
step_places_from at (Step guest deed reply ∷ h) = at ∷ step_places_from (at + 1) h
step_places_from at (Judged step place value ∷ h) = step_places_from (at + 1) h
step_places_from at (Wake guest ∷ h) = step_places_from (at + 1) h

-- the place of step k, if it was made
abbrev pub place_of : List Event → ℕ → Option ℕ
place_of h k = slice_get (step_places_from 0 h) k

-- ---- where objects are made

abbrev pub made_at : ℕ → Reply → List ℕ
made_at at (replies.Made object) = at ∷ []
made_at at _ = []

-- the places of the steps that were answered with an object that was made
abbrev pub make_places_from : ℕ → List Event → List ℕ
make_places_from at [] = []
make_places_from at (Step guest deed reply ∷ h) = made_at at reply ++ make_places_from (at + 1) h
make_places_from at (Judged step place value ∷ h) = make_places_from (at + 1) h
make_places_from at (Wake guest ∷ h) = make_places_from (at + 1) h

-- the place of the n-th such step, from 0
abbrev pub make_place_of : List Event → ℕ → Option ℕ
make_place_of h n = slice_get (make_places_from 0 h) n
