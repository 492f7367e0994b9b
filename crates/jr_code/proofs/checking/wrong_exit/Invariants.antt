use Rattle.jr_code.specs.Verifier.{ExitsRight}
use Rattle.jr_code.proofs.checking.wrong_exit.Given as goal

abbrev pub invariant-loop-number : goal.invariant-loop-number
invariant-loop-number l = ExitsRight l.fn.method l.number
