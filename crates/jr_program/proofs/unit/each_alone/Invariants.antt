use Rattle.jr_program.specs.UnitViews.{AreAlone}
use Rattle.jr_program.proofs.unit.each_alone.Given as goal

abbrev pub invariant-loop-number : goal.invariant-loop-number
invariant-loop-number l = AreAlone l.number l.lists
