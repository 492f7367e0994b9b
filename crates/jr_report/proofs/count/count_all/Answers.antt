use Rattle.std.proofs.Common.{◌≡◌, ap, drop, sum_by, arith}
use Rattle.std.proofs.lemmas.List.{drop_all}
use Rattle.jr_meaning.specs.History.{steps_in}
use Rattle.jr_report.specs.Report.{verdicts_in, violations_in, uncaught_in}
use Rattle.jr_report.specs.Started.{starts_in}
use Rattle.jr_report.proofs.Pieces.{sum_by-at}
use Rattle.jr_report.proofs.Starting.{guests-counted}
use Rattle.jr_report.proofs.count.count_all.Goals as goal

pub loop-at-preserved : goal.loop-at-preserved
loop-at-preserved c = record {
  steps = omega (arith, sum_by-at steps_in c.args.journal.now.entries c.loop-at.at _ c.entry.ensures);
  guests = omega (arith, sum_by-at starts_in c.args.journal.now.entries c.loop-at.at _ c.entry.ensures);
  verdicts = omega (arith, sum_by-at verdicts_in c.args.journal.now.entries c.loop-at.at _ c.entry.ensures);
  violations = omega (arith, sum_by-at violations_in c.args.journal.now.entries c.loop-at.at _ c.entry.ensures);
  uncaught = omega (arith, sum_by-at uncaught_in c.args.journal.now.entries c.loop-at.at _ c.entry.ensures);
  few = (omega arith, omega arith, omega arith, omega arith, omega arith);
}

pub returns-clause-guests : goal.returns-clause-guests
returns-clause-guests c program =
    let all = guests-counted program c.args.journal.now.entries in
    let none : sum_by starts_in (drop c.loop-at.at c.args.journal.now.entries) ≡ 0 = ap (sum_by starts_in) (drop_all c.loop-at.at c.args.journal.now.entries (omega arith)) in
    omega (arith, all, none, c.loop-at.invariant.guests)
