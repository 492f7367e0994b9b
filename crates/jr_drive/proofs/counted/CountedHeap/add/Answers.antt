use Rattle.jr_drive.proofs.Making.{stands-same, made-stands}
use Rattle.jr_drive.proofs.counted.CountedHeap.add.Goals as goal

pub returns-clause-stands : goal.returns-clause-stands
returns-clause-stands c = λ program world kind made stands.
    made-stands program c.self.inside.heap c.add.new.self c.self.inside.objects c.self.inside.cells world kind c.args.array c.args.values.now made
    (record { there = c.in_ok-add.ensures.cells; length_there = c.in_ok-add.ensures.elements; cells = c.in_ok-add.ensures.other_cells; lengths = c.in_ok-add.ensures.other_lengths })
    (stands-same program _ _ world c.self.view_is stands)
