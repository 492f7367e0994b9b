use Rattle.std.proofs.Common.{take}
use Rattle.jr_names.specs.Tables.{numbers_of, AreAlike}
use Rattle.jr_names.proofs.numbers.first_of_each.Given as goal

abbrev pub invariant-loop-place : goal.invariant-loop-place
invariant-loop-place l = AreAlike l.first (numbers_of (take l.place l.classes))
