use Rattle.std.proofs.Common.{ℕ, ◌-◌, length, map}
use Rattle.jr_lexer.specs.declared.kind.Kind.TheVariants as k
use Rattle.jr_ast.specs.Statements.{view_catch}
use Rattle.jr_stmt_parser.specs.Labels.{Tried}
use Rattle.jr_stmt_parser.specs.Gives.{Many, SoFar}
use Rattle.jr_stmt_parser.specs.Pieces as pieces
use Rattle.jr_stmt_parser.proofs.reader.Reader.catches.Given as goal

abbrev pub invariant-loop-found : goal.invariant-loop-found
invariant-loop-found g l = (SoFar (pieces.Catches l.self.code.tokens.now l.self.code.depth) (Many (pieces.Isnt l.self.code.tokens.now k.Catch) (pieces.Caught l.self.code.tokens.now l.self.code.depth)) l.start (map view_catch l.found) l.at) × ((o : ℕ) → Tried l.self.code.tokens.now o l.start → Tried l.self.code.tokens.now o l.at)

abbrev pub decreases-loop-found : goal.decreases-loop-found
decreases-loop-found g l = length l.self.code.tokens.now - l.at
