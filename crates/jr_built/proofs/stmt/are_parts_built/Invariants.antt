use Rattle.std.proofs.Common.{◌≡◌, map, drop}
use Rattle.std.specs.List.{list_all}
use Rattle.jr_program.specs.StatementViews.{view_part}
use Rattle.jr_built.specs.Built.{part_is_built}
use Rattle.jr_built.proofs.stmt.are_parts_built.Given as goal

abbrev pub invariant-loop-part : goal.invariant-loop-part
invariant-loop-part l = list_all part_is_built (map view_part l.all) ≡ list_all part_is_built (map view_part (drop l.part-index l.all))
