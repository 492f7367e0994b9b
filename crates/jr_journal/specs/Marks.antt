-- What a journal keeps beside its entries, so that a step and a verdict are found at once.
use Rattle.std.specs.Prelude.{◌≡◌, ℕ, Bool, IsTrue, List, map, Option, Some, None, slice_get, option_and_then}
use Rattle.jr_base.specs.declared.finish.Verdict.{Verdict}
use Rattle.jr_meaning.specs.Event.{Event}
use Rattle.jr_meaning.specs.Verdicts.{verdict_of}
use Rattle.jr_journal.specs.declared.marks.Mark.{Mark}
use Rattle.jr_journal.specs.Entries.{step_places_from, make_places_from}

abbrev pub place_in : Mark → ℕ
place_in mark = mark.at

-- the first of two verdicts, if there is one
abbrev pub first_of : Option Verdict → Option Verdict → Option Verdict
first_of (Some value) other = Some value
first_of None other = other

-- the verdict that a place holds
abbrev pub held : Option (Option Verdict) → Option Verdict
held (Some value) = value
held None = None

-- the verdict that is kept of a place of a step
abbrev pub kept : List Mark → ℕ → ℕ → Option Verdict
kept marks k place = option_and_then (λ (m : Mark). held (slice_get m.verdicts place)) (slice_get marks k)

-- steps with their marks, and for how many more there is room
pub record MarksOf : Type 0 where
  pub marks : List Mark
  pub spare : ℕ

-- The places of steps are kept, and of those at which an object was made; and unless some verdict is kept nowhere,
-- those verdicts are kept that were given first.
pub record Follows (h : List Event) (marks : List Mark) (made : List ℕ) (is_complete : Bool) : Type 0 where
  pub steps : map place_in marks ≡ step_places_from 0 h
  pub makes : made ≡ make_places_from 0 h
  pub verdicts : IsTrue is_complete → (k place : ℕ) → verdict_of h k place ≡ kept marks k place
