use Rattle.std.proofs.Common.{◌-◌, length, map}
use Rattle.jr_lexer.specs.declared.kind.Kind.TheVariants as k
use Rattle.jr_ast.specs.Statements.{view_declarator}
use Rattle.jr_stmt_parser.specs.Gives.{Many, SoFar}
use Rattle.jr_stmt_parser.specs.Pieces as pieces
use Rattle.jr_stmt_parser.proofs.code.Code.declarators.Given as goal

abbrev pub invariant-loop-found : goal.invariant-loop-found
invariant-loop-found l = SoFar (pieces.Declarators l.self.tokens.now l.self.depth) (Many (pieces.Isnt l.self.tokens.now k.Comma) (pieces.After l.self.tokens.now k.Comma (pieces.Declared l.self.tokens.now l.self.depth))) l.start (map view_declarator l.found) l.at

abbrev pub decreases-loop-found : goal.decreases-loop-found
decreases-loop-found l = length l.self.tokens.now - l.at
