use Rattle.jr_stmt_parser.proofs.EachForm.{block_answers}
use Rattle.jr_stmt_parser.proofs.parsing.parse_block.Goals as goal

pub returns : goal.returns
returns c = block_answers _ _ _ _ c.block.ensures
