use Rattle.std.proofs.Common.{drop}
use Rattle.jr_code.specs.Checked.{kinds_of_locals, AreVariables}
use Rattle.jr_code.specs.WellFormed.{plain_method}
use Rattle.jr_code.proofs.effects.are_variables.Given as goal

abbrev pub invariant-loop-place : goal.invariant-loop-place
invariant-loop-place l =
    (AreVariables (kinds_of_locals (plain_method l.fn.code l.fn.method)) (drop l.place-index l.places) → AreVariables (kinds_of_locals (plain_method l.fn.code l.fn.method)) l.places)
    × (AreVariables (kinds_of_locals (plain_method l.fn.code l.fn.method)) l.places → AreVariables (kinds_of_locals (plain_method l.fn.code l.fn.method)) (drop l.place-index l.places))
