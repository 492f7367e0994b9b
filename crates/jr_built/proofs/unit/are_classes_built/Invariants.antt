use Rattle.std.proofs.Common.{◌≡◌, drop}
use Rattle.std.specs.List.{list_all}
use Rattle.jr_program.specs.UnitViews.{program_of}
use Rattle.jr_built.specs.Built.{class_is_built}
use Rattle.jr_built.proofs.unit.are_classes_built.Given as goal

abbrev pub invariant-loop-number : goal.invariant-loop-number
invariant-loop-number l = list_all class_is_built (program_of l.unit).classes ≡ list_all class_is_built (drop l.number (program_of l.unit).classes)
