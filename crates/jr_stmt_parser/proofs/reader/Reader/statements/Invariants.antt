use Rattle.std.proofs.Common.{ℕ, ◌-◌, length, map}
use Rattle.jr_ast.specs.Statements.{view_stmt}
use Rattle.jr_stmt_parser.specs.Labels.{Inside}
use Rattle.jr_stmt_parser.specs.Gives.{SoFar}
use Rattle.jr_stmt_parser.specs.Pieces.{MayBegin}
use Rattle.jr_stmt_parser.specs.Pieces as pieces
use Rattle.jr_stmt_parser.proofs.reader.Reader.statements.Given as goal

abbrev pub invariant-loop-found : goal.invariant-loop-found
invariant-loop-found g l = (SoFar (pieces.Statements l.self.code.tokens.now l.self.code.depth) (pieces.Statements l.self.code.tokens.now l.self.code.depth) l.start (map view_stmt l.found) l.at) × (MayBegin l.self.code.tokens.now l.at × ((o : ℕ) → Inside l.self.code.tokens.now o l.start → Inside l.self.code.tokens.now o l.at))

abbrev pub decreases-loop-found : goal.decreases-loop-found
decreases-loop-found g l = length l.self.code.tokens.now - l.at
