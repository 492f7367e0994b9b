use Rattle.std.proofs.Common.{◌-◌, length, map}
use Rattle.jr_ast.specs.Expressions.{view_spec}
use Rattle.jr_jml_parser.proofs.Pieces.{SoFar}
use Rattle.jr_jml_parser.proofs.parts.objects.Given as goal

abbrev pub invariant-loop-found : goal.invariant-loop-found
invariant-loop-found l = SoFar l.tokens l.at l.depth (map view_spec l.found) l.next

abbrev pub decreases-loop-found : goal.decreases-loop-found
decreases-loop-found l = length l.tokens - l.next
