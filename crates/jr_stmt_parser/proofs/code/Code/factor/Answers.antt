use Rattle.jr_stmt_parser.proofs.Leaves.{factor_gives}
use Rattle.jr_stmt_parser.proofs.code.Code.factor.Goals as goal

pub returns : goal.returns
returns c = factor_gives _ _ _ _ c.requires c.parse_expr.ensures
