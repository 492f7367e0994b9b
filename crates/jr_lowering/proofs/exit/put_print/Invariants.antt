use Rattle.std.proofs.Common.{◌≡◌, map, take}
use Rattle.jr_program.specs.StatementViews.{view_part}
use Rattle.jr_lowering.specs.StatementCode.{text_of_part}
use Rattle.jr_lowering.proofs.exit.put_print.Given as goal

abbrev pub invariant-loop-part : goal.invariant-loop-part
invariant-loop-part l = l.texts.items ≡ map text_of_part (map view_part (take l.part-index l.parts))
