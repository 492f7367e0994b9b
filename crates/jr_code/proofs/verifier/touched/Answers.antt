use Rattle.std.proofs.Common.{rules}
use Rattle.jr_code.proofs.Handlers.{untouched_more}
use Rattle.jr_code.proofs.verifier.touched.Goals as goal

pub loop-at-preserved : goal.loop-at-preserved
loop-at-preserved c =
    untouched_more c.args.shapes.now c.args.from c.loop-at.at c.loop-at.invariant (λ h. let e = c.if-is_known.ensures.1 h in search rules)
