use Rattle.std.proofs.Common.{◌≡◌, take}
use Rattle.jr_program.specs.UnitViews.{program_of}
use Rattle.jr_drive.proofs.Constants.{constants}
use Rattle.jr_drive.proofs.blanks.blank.Given as goal

abbrev pub invariant-loop-number : goal.invariant-loop-number
invariant-loop-number l = l.values ≡ constants l.class l.is_static (take l.number (program_of l.unit).fields)
