use Rattle.std.proofs.Common.{◌-◌, length}
use Rattle.jr_jml_parser.proofs.Modifiers.{Passed}
use Rattle.jr_jml_parser.proofs.parts.modifiers.Given as goal

abbrev pub invariant-loop-next : goal.invariant-loop-next
invariant-loop-next l = Passed l.tokens l.at l.is_static l.next

abbrev pub decreases-loop-next : goal.decreases-loop-next
decreases-loop-next l = length l.tokens - l.next
