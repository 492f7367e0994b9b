use Rattle.std.proofs.Common.{◌∙◌}
use Rattle.jr_code.specs.Views.{tables_of}
use Rattle.jr_lowering.proofs.Growing.{keeps_on}
use Rattle.jr_lowering.proofs.Encodes.{next_coded}
use Rattle.jr_lowering.proofs.method.encode.Goals as goal

pub loop-op-preserved : goal.loop-op-preserved
loop-op-preserved c = record {
  keeps = keeps_on c.args.code.now c.loop-op.code c.row_of.new.code c.loop-op.invariant.keeps c.in_ok-row.ensures.keeps;
  coded = next_coded c.loop-op.code c.row_of.new.code c.loop-op.instrs.items c.add.new.list.items c.args.ops.now c.loop-op.op-index
      c.encode.result c.op-item.result c.in_ok-row.ensures.keeps c.loop-op.invariant.coded c.loop-op-test.true c.op-item.is
      (c.encode.ensures (tables_of c.row_of.new.code) ∙ c.in_ok-row.ensures.row) c.in_ok-add.ensures.items;
}
