use Rattle.std.proofs.Common.{◌∙◌}
use Rattle.jr_base.specs.declared.value.Ask.TheVariants as asks
use Rattle.jr_meaning.specs.World.{length_of}
use Rattle.jr_drive.proofs.Making.{stands-same}
use Rattle.jr_drive.proofs.Replies.{counted, uncounted}
use Rattle.jr_drive.proofs.counted.CountedHeap.length.Goals as goal

pub returns-in-Value : goal.returns-in-Value
returns-in-Value c = λ program world stands.
    counted (length_of world c.args.object) c.in-Value.value (c.in-Value.ensures ∙ (stands-same program _ _ world c.self.view_is stands).shown (asks.Length c.args.object))

pub returns-in-Absent : goal.returns-in-Absent
returns-in-Absent c = λ program world stands.
    uncounted (length_of world c.args.object) (c.in-Absent.ensures ∙ (stands-same program _ _ world c.self.view_is stands).shown (asks.Length c.args.object))
