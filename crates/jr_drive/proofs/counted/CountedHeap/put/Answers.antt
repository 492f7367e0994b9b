use Rattle.std.proofs.Common.{◌∙◌}
use Rattle.jr_base.specs.declared.value.Ask.TheVariants as asks
use Rattle.jr_heap.specs.Plain.{seen_in}
use Rattle.jr_drive.proofs.Making.{stands-same, written-shown}
use Rattle.jr_drive.proofs.Replies.{put-there, put-none}
use Rattle.jr_drive.proofs.counted.CountedHeap.put.Goals as goal

pub returns-in-Value-clause-reply : goal.returns-in-Value-clause-reply
returns-in-Value-clause-reply c = λ program world stands.
    put-there (world.cells c.args.cell) c.in-Value.field-0 (c.in-Value.ensures ∙ (stands-same program _ _ world c.self.view_is stands).shown (asks.Cell c.args.cell))

pub returns-in-Absent-clause-reply : goal.returns-in-Absent-clause-reply
returns-in-Absent-clause-reply c = λ program world stands.
    put-none (world.cells c.args.cell) (c.in-Absent.ensures ∙ (stands-same program _ _ world c.self.view_is stands).shown (asks.Cell c.args.cell))

pub returns-in-Value-clause-stands : goal.returns-in-Value-clause-stands
returns-in-Value-clause-stands c = λ program world stands.
    let before = stands-same program _ _ world c.self.view_is stands in
    record {
      shown = written-shown (seen_in c.self.inside.heap) (seen_in c.put.new.self) world c.args.cell c.args.value
          (record { there = c.put.ensures.written; cells = c.put.ensures.other_cells; lengths = c.put.ensures.lengths }) before.shown;
      objects = before.objects;
      cells = before.cells;
    }
