use Rattle.std.proofs.Common.{◌-◌, length, map}
use Rattle.jr_lexer.specs.declared.kind.Kind.TheVariants as k
use Rattle.jr_ast.specs.Expressions.{view_expr}
use Rattle.jr_stmt_parser.specs.Gives.{Many, SoFar}
use Rattle.jr_stmt_parser.specs.Pieces as pieces
use Rattle.jr_stmt_parser.proofs.code.Code.effects.Given as goal

abbrev pub invariant-loop-found : goal.invariant-loop-found
invariant-loop-found l = SoFar (pieces.Effects l.self.tokens.now l.self.depth) (Many (pieces.Isnt l.self.tokens.now k.Comma) (pieces.After l.self.tokens.now k.Comma (pieces.Effect l.self.tokens.now l.self.depth))) l.start (map view_expr l.found) l.at

abbrev pub decreases-loop-found : goal.decreases-loop-found
decreases-loop-found l = length l.self.tokens.now - l.at
