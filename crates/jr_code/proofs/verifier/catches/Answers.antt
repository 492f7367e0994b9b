use Rattle.std.proofs.Common.{◌≡◌, ◌+◌, length, sym, subst, arith}
use Rattle.jr_code.specs.Views.{plain_of}
use Rattle.jr_code.specs.WellFormed.{plain_method}
use Rattle.jr_code.specs.Verifier.{Caught}
use Rattle.jr_code.proofs.Handlers.{caught_more, caught_keeps}
use Rattle.jr_code.proofs.verifier.catches.Goals as goal

pub loop-number-preserved : goal.loop-number-preserved
loop-number-preserved c =
    let code = plain_of c.args.code.now in
    let m = plain_method c.args.code.now c.args.method.now in
    let i = c.loop-number.invariant in
    let w = c.in_ok-woken.ensures.ok in
    let kept = caught_keeps code m c.loop-number.shapes c.catch.new.shapes c.loop-number.number (length c.args.method.now.instrs.items) c.in_ok-woken.woken i.sound i.size w in
    record {
      caught = subst (Caught code m c.args.shapes.now c.catch.new.shapes (c.loop-number.number + 1)) (sym c.lower-low.ensures)
          (caught_more code m c.args.shapes.now c.loop-number.shapes c.catch.new.shapes c.loop-number.number c.loop-number.low c.in_ok-woken.woken i.caught w);
      sound = kept.0;
      size = kept.1;
    }

pub returns-clause-ok : goal.returns-clause-ok
returns-clause-ok c =
    let all : c.loop-number.number ≡ length c.args.method.now.regions.items = omega arith in
    subst (λ n. Caught (plain_of c.args.code.now) (plain_method c.args.code.now c.args.method.now) c.args.shapes.now c.loop-number.shapes n c.loop-number.low) all
    c.loop-number.invariant.caught
