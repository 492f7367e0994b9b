use Rattle.std.proofs.Common.{◌≡◌, ◌++◌, drop, take, map}
use Rattle.jr_program.specs.UnitViews.{view_note}
use Rattle.jr_report.specs.Listing.{notes_before, notes_behind}
use Rattle.jr_report.proofs.listing.count_before.Given as goal

-- those so far stand before the place
abbrev pub invariant-loop-at : goal.invariant-loop-at
invariant-loop-at l = record {
  before : take l.at (map view_note l.notes) ++ notes_before l.place (drop l.at (map view_note l.notes)) ≡ notes_before l.place (map view_note l.notes);
  behind : notes_behind l.place (drop l.at (map view_note l.notes)) ≡ notes_behind l.place (map view_note l.notes);
}
