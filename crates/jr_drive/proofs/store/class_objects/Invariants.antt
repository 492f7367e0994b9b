use Rattle.jr_program.specs.UnitViews.{program_of}
use Rattle.jr_drive.specs.Counted.{StandsFor}
use Rattle.jr_drive.proofs.Starting.{young}
use Rattle.jr_drive.proofs.store.class_objects.Given as goal

abbrev pub invariant-loop-number : goal.invariant-loop-number
invariant-loop-number l = StandsFor (program_of l.unit) l.made (young (program_of l.unit) l.number)
