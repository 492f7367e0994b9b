-- The notes of a source so far, to which more are added.
use Rattle.std.specs.Prelude.{ℕ, List, ◌++◌, map}
use Rattle.jr_base.specs.declared.number.Span.{Span}
use Rattle.jr_base.specs.Positions.{position_in}
use Rattle.jr_ast.specs.Units.{Class}
use Rattle.jr_program.specs.Programs.{Note}
use Rattle.jr_program.specs.UnitViews.{view_note}
use Rattle.jr_typing_rules.specs.Notes.{Unjudged, notes}
use Rattle.jr_spec_typing.specs.declared.unjudged.Noted.{Noted as NotedTree}

-- the notes so far, and the bytes of their source
pub record Noted : Type 0 where
  pub source : List ℕ
  pub notes : List Note

abbrev pub view_noted : NotedTree → Noted
view_noted n = record { source = n.places; notes = map view_note n.notes }

abbrev pub note_of : List ℕ → Unjudged → Note
note_of source u = record { word = u.word; place = position_in source u.place.start }

-- more words are noted
abbrev pub and_words : Noted → List Unjudged → Noted
and_words n us = record { source = n.source; notes = n.notes ++ map (note_of n.source) us }

-- places are lines and columns of the source
abbrev pub notes_in : List ℕ → List Class → List Note
notes_in source ks = notes (λ (at : Span). position_in source at.start) ks
