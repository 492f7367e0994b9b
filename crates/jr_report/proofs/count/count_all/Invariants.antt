use Rattle.std.proofs.Common.{◌≡◌, ◌≤◌, ◌+◌, drop, sum_by}
use Rattle.jr_meaning.specs.History.{steps_in}
use Rattle.jr_report.specs.Report.{verdicts_in, violations_in, uncaught_in}
use Rattle.jr_report.specs.Started.{starts_in}
use Rattle.jr_report.proofs.count.count_all.Given as goal

-- what was counted, and what the rest counts for, are the whole
abbrev pub invariant-loop-at : goal.invariant-loop-at
invariant-loop-at l = record {
  steps : l.all.steps + sum_by steps_in (drop l.at l.journal.entries) ≡ sum_by steps_in l.journal.entries;
  guests : l.all.guests + sum_by starts_in (drop l.at l.journal.entries) ≡ sum_by starts_in l.journal.entries;
  verdicts : l.all.verdicts + sum_by verdicts_in (drop l.at l.journal.entries) ≡ sum_by verdicts_in l.journal.entries;
  violations : l.all.violations + sum_by violations_in (drop l.at l.journal.entries) ≡ sum_by violations_in l.journal.entries;
  uncaught : l.all.uncaught + sum_by uncaught_in (drop l.at l.journal.entries) ≡ sum_by uncaught_in l.journal.entries;
  few : (l.all.steps ≤ l.at) × (l.all.guests ≤ l.at) × (l.all.verdicts ≤ l.at) × (l.all.violations ≤ l.at) × (l.all.uncaught ≤ l.at);
}
