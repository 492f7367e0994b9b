use Rattle.jr_code.specs.Verifier.{Untouched}
use Rattle.jr_code.proofs.verifier.touched.Given as goal

abbrev pub invariant-loop-at : goal.invariant-loop-at
invariant-loop-at l = Untouched l.shapes l.from l.at
