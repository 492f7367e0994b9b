use Rattle.std.proofs.Common.{take}
use Rattle.jr_names.specs.Tables.{numbers_of}
use Rattle.jr_names.proofs.Numbering.{next_noted}
use Rattle.jr_names.proofs.numbers.first_of_each.Goals as goal

pub loop-place-preserved : goal.loop-place-preserved
loop-place-preserved c =
    next_noted c.note.new.first c.args.classes.now c.loop-place.place c.index-classes-place.result c.loop-place-test.true c.index-classes-place.is
    (c.in_ok-note.ensures (numbers_of (take c.loop-place.place c.args.classes.now)) c.loop-place.invariant)
