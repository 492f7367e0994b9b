use Rattle.std.proofs.Common.{◌≡◌, ◌≤◌, ◌+◌, drop, length, List}
use Rattle.jr_base.specs.declared.number.ClauseId.{ClauseId}
use Rattle.jr_base.specs.declared.number.GuestNo.{GuestNo}
use Rattle.jr_report.specs.Judged.{AreJudged}
use Rattle.jr_report.specs.Report.{violations_from}
use Rattle.jr_report.proofs.violations.count_failed.Given as goal

-- what was counted, and the violations at the places to come, are all
abbrev pub invariant-loop-place : goal.invariant-loop-place
invariant-loop-place l = record {
  count : (g : GuestNo) (cs : List ClauseId) → AreJudged l.journal.entries l.step.0 cs →
      l.failed + length (violations_from l.journal.entries g l.step.0 l.place (drop l.place cs)) ≡ length (violations_from l.journal.entries g l.step.0 0 cs);
  few : l.failed ≤ l.place;
}
