use Rattle.jr_expr_parser.proofs.Whole.{one_tree}
use Rattle.jr_expr_parser.proofs.parsing.one_tree.Goals as goal

pub returns : goal.returns
returns c = one_tree
