use Rattle.std.proofs.Common.{ap, arith, refl}
use Rattle.jr_base.specs.Deed.{deed_of}
use Rattle.jr_journal.specs.Entries.{event_of}
use Rattle.jr_report.proofs.Going.{goes-by-step, goes-by-other}
use Rattle.jr_report.proofs.pass.Pass.go_on.Goals as goal

pub returns-in-Step-clause-stands : goal.returns-in-Step-clause-stands
returns-in-Step-clause-stands c program h legal stands there =
    goes-by-step program h legal c.args.self.now _ c.in-Step.guest (deed_of c.in-Step.action) c.in-Step.reply _ (ap event_of c.in-Step.is) stands there refl refl c.pass.ensures

pub returns-in_default : goal.returns-in_default
returns-in_default c = record {
  stands = λ program h legal stands there. goes-by-other h c.args.self.now _ c.args.entry.now c.in_default.not-Step stands there refl refl refl;
  at = refl;
  steps = omega (arith, c.requires.steps);
}
