use Rattle.std.proofs.Common.{◌≡◌, ◌+◌, ◌≤◌, ◌++◌, ◌∷◌, drop, length}
use Rattle.jr_base.specs.Deed.{deed_of}
use Rattle.jr_meaning.specs.Event.{Step}
use Rattle.jr_meaning.specs.Verdicts.{judged_from}
use Rattle.jr_drive.specs.Reached.{first_guest}
use Rattle.jr_drive.proofs.turn.enter.Given as goal

abbrev pub invariant-loop-place : goal.invariant-loop-place
invariant-loop-place l = record {
  entries : l.journal.entries ++ judged_from l.step l.place (drop l.place l.values) ≡ l.fn.journal.entries ++ Step first_guest (deed_of l.fn.action) l.fn.reply ∷ judged_from l.step 0 l.values;
  room : length l.values ≤ l.place + l.journal.spare;
}
