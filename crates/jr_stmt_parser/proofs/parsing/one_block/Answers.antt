use Rattle.jr_stmt_parser.proofs.Once as law
use Rattle.jr_stmt_parser.proofs.parsing.one_block.Goals as goal

pub returns : goal.returns
returns c = law.one_block
