use Rattle.jr_jml_parser.proofs.Pieces.{Skipped}
use Rattle.jr_jml_parser.proofs.parts.anything.Given as goal

abbrev pub invariant-loop-next : goal.invariant-loop-next
invariant-loop-next l = Skipped l.tokens l.at l.next
