use Rattle.jr_program.specs.UnitViews.{program_of}
use Rattle.jr_drive.proofs.Stores.{AreFirst}
use Rattle.jr_drive.proofs.blanks.blanks.Given as goal

abbrev pub invariant-loop-number : goal.invariant-loop-number
invariant-loop-number l = AreFirst (program_of l.unit) l.number l.blanks
