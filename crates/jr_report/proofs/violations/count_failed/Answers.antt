use Rattle.std.proofs.Common.{sym, arith}
use Rattle.jr_report.proofs.Passed.{counts-on}
use Rattle.jr_report.proofs.violations.count_failed.Goals as goal

pub loop-place-preserved : goal.loop-place-preserved
loop-place-preserved c = record {
  count = λ g cs judged.
      counts-on c.args.journal.now.entries g c.args.step.0 cs judged c.loop-place.place c.loop-place.failed c.failing-failed.result c.in-Some.value _
      (sym c.in-Some.ensures) c.failing-failed.ensures.count (c.loop-place.invariant.count g cs judged);
  few = omega (arith, c.loop-place.invariant.few, c.failing-failed.ensures.few);
}
