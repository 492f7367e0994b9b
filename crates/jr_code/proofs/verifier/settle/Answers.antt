use Rattle.std.proofs.Common.{length, ◌∙◌}
use Rattle.jr_code.specs.Views.{plain_of}
use Rattle.jr_code.specs.WellFormed.{plain_method}
use Rattle.jr_code.proofs.Handlers.{settled_more}
use Rattle.jr_code.proofs.verifier.settle.Goals as goal

pub loop-start-preserved : goal.loop-start-preserved
loop-start-preserved c =
    let x = c.loop-start.invariant.extends in
    let y = c.in_ok-sweep.ensures.ok in
    let all = settled_more (plain_of c.args.code.now) (plain_method c.args.code.now c.args.method.now) c.args.shapes.now c.loop-start.shapes c.sweep.new.shapes
    c.catches.new.shapes (length c.args.method.now.instrs.items) (length c.args.method.now.regions.items) c.in_ok-start.start x y
    c.in_ok-sweep.ensures.settled (y.size ∙ x.size ∙ c.requires.size) c.in_ok-start.ensures.ok in
    record { extends = all.0; pending = all.1 }
