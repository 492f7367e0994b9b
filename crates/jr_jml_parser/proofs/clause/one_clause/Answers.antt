use Rattle.jr_jml_parser.proofs.Whole.{one_clause}
use Rattle.jr_jml_parser.proofs.clause.one_clause.Goals as goal

pub returns : goal.returns
returns c = one_clause
