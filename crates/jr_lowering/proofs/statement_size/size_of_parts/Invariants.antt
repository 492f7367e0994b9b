use Rattle.std.proofs.Common.{◌≡◌, ◌+◌, map, drop}
use Rattle.jr_program.specs.UnitViews.{program_of}
use Rattle.jr_program.specs.StatementViews.{view_part}
use Rattle.jr_lowering.specs.StatementCode.{parts_size}
use Rattle.jr_lowering.proofs.statement_size.size_of_parts.Given as goal

abbrev pub invariant-loop-part : goal.invariant-loop-part
invariant-loop-part l = l.total + parts_size (program_of l.unit) (map view_part (drop l.part-index l.all)) ≡ parts_size (program_of l.unit) (map view_part l.all)
