use Rattle.jr_code.proofs.Rows.{binary_row, unary_row, conversion_row}
use Rattle.jr_code.proofs.laws.operators_have_rows.Goals as goal

pub returns : goal.returns
returns c = record { between = binary_row; before = unary_row; converts = conversion_row }
