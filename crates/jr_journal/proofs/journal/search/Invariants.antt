use Rattle.std.proofs.Common.{◌≡◌, map, drop}
use Rattle.jr_meaning.specs.Verdicts.{verdict_of}
use Rattle.jr_journal.specs.Entries.{event_of}
use Rattle.jr_journal.proofs.journal.search.Given as goal

-- no entry so far is that verdict
abbrev pub invariant-loop-entry : goal.invariant-loop-entry
invariant-loop-entry l =
    verdict_of (map event_of (drop l.entry-index l.fn.entries)) l.fn.step.0 l.fn.place ≡ verdict_of (map event_of l.fn.entries) l.fn.step.0 l.fn.place
