-- Which site a step passes, and which clauses are due there.
use Rattle.std.specs.Prelude.{ℕ, false, List, [], Option, Some, None, slice_get, option_and_then}
use Rattle.jr_base.specs.Deed.{Deed, New}
use Rattle.jr_base.specs.declared.action.NewKind.TheVariants as kinds
use Rattle.jr_base.specs.declared.number.ClauseId.{ClauseId}
use Rattle.jr_base.specs.declared.number.FieldId.{FieldId}
use Rattle.jr_base.specs.declared.number.GuestNo.{GuestNo}
use Rattle.jr_program.specs.Programs.{Program}
use Rattle.jr_program.specs.Sites.{due_at_site}
use Rattle.jr_program.specs.Slots.{field_in}
use Rattle.jr_program.specs.declared.words.Site.{Site}
use Rattle.jr_meaning.specs.Event.{Event, Step}
use Rattle.jr_meaning.specs.Frames.{frames_of}
use Rattle.jr_meaning.specs.History.{IsLegal, world_after}
use Rattle.jr_meaning.specs.Due.{Passing, passing}
use Rattle.jr_report.specs.declared.sites.Home.{Home}

-- what a guest's step passes after a history
abbrev pub passed : Program → List Event → GuestNo → Deed → Option Passing
passed program before g deed = passing program (world_after program before) (slice_get (frames_of before g) 0) g deed

-- the clauses due at a site, if one is passed
abbrev pub due_where : Program → Option Site → List ClauseId
due_where program None = []
due_where program (Some site) = due_at_site program site

-- the field in a slot of those of a class, static or not
abbrev pub field_of_home : Program → ℕ → Option Home → Option FieldId
field_of_home program slot home = option_and_then (λ (h : Home). field_in program h.class h.is_static slot) home

-- the class of which an entry makes an object; its other fields lie there, not the static ones
abbrev pub home_made : Event → Option Home
home_made (Step g (New (kinds.Object class)) reply) = Some (record { class = class; is_static = false })
home_made _ = None

-- the history is legal, with some budget
abbrev pub IsLegalSomehow : Program → List Event → Type 0
IsLegalSomehow program h = (budget : ℕ) × IsLegal program budget h
