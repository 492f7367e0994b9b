use Rattle.jr_stmt_parser.proofs.Leaves.{value_gives}
use Rattle.jr_stmt_parser.proofs.code.Code.value.Goals as goal

pub returns : goal.returns
returns c = value_gives _ _ _ _ c.requires c.parse_expr.ensures
