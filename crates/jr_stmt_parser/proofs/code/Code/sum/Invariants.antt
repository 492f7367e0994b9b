use Rattle.std.proofs.Common.{◌-◌, length, map}
use Rattle.jr_lexer.specs.declared.kind.Kind.TheVariants as k
use Rattle.jr_ast.specs.Statements.{view_part}
use Rattle.jr_stmt_parser.specs.Gives.{Many, SoFar}
use Rattle.jr_stmt_parser.specs.Pieces as pieces
use Rattle.jr_stmt_parser.proofs.code.Code.sum.Given as goal

abbrev pub invariant-loop-found : goal.invariant-loop-found
invariant-loop-found l = SoFar (pieces.Sum l.self.tokens.now l.self.depth) (Many (pieces.Isnt l.self.tokens.now k.Plus) (pieces.AddedOne l.self.tokens.now l.self.depth)) l.start (map view_part l.found) l.at

abbrev pub decreases-loop-found : goal.decreases-loop-found
decreases-loop-found l = length l.self.tokens.now - l.at
