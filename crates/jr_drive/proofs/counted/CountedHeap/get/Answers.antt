use Rattle.std.proofs.Common.{◌∙◌}
use Rattle.jr_base.specs.declared.value.Ask.TheVariants as asks
use Rattle.jr_drive.proofs.Making.{stands-same}
use Rattle.jr_drive.proofs.Replies.{got, got-none}
use Rattle.jr_drive.proofs.counted.CountedHeap.get.Goals as goal

pub returns-in-Value : goal.returns-in-Value
returns-in-Value c = λ program world stands.
    got (world.cells c.args.cell) c.in-Value.value (c.in-Value.ensures ∙ (stands-same program _ _ world c.self.view_is stands).shown (asks.Cell c.args.cell))

pub returns-in-Absent : goal.returns-in-Absent
returns-in-Absent c = λ program world stands.
    got-none (world.cells c.args.cell) (c.in-Absent.ensures ∙ (stands-same program _ _ world c.self.view_is stands).shown (asks.Cell c.args.cell))
