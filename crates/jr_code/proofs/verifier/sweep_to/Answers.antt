use Rattle.std.proofs.Common.{length, arith}
use Rattle.jr_code.specs.Views.{plain_of}
use Rattle.jr_code.specs.WellFormed.{plain_method}
use Rattle.jr_code.proofs.Leaving.{swept_extends, swept_settled, swept_less}
use Rattle.jr_code.proofs.verifier.sweep_to.Goals as goal

pub loop-at-smaller : goal.loop-at-smaller
loop-at-smaller c =
    swept_less (plain_of c.args.code.now) (plain_method c.args.code.now c.args.method.now) c.loop-at.shapes c.visit.new.shapes c.loop-at.at c.in_ok-at.at
    (length c.args.method.now.instrs.items) (omega arith) c.in_ok-at.ensures.ok

pub loop-at-preserved : goal.loop-at-preserved
loop-at-preserved c =
    let v = c.in_ok-at.ensures.ok in
    let ahead = v.ahead in
    record {
      extends = swept_extends (plain_of c.args.code.now) (plain_method c.args.code.now c.args.method.now) c.args.shapes.now c.loop-at.shapes c.visit.new.shapes
          c.loop-at.at c.in_ok-at.at c.loop-at.invariant.extends v;
      settled = swept_settled (plain_of c.args.code.now) (plain_method c.args.code.now c.args.method.now) c.loop-at.shapes c.visit.new.shapes
          c.loop-at.at c.in_ok-at.at c.loop-at.invariant.settled v;
      bound = omega arith;
    }
