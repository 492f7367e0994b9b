use Rattle.std.proofs.Common.{◌-◌}
use Rattle.jr_stmt_parser.proofs.parsing.+statement.Given as goal

abbrev pub decreases-statement : goal.decreases-statement
decreases-statement l = 128 - l.depth
