use Rattle.jr_arith.proofs.Widths.{fitting-stays}
use Rattle.jr_arith.proofs.laws.fitting_numbers_stay.Goals as goal

pub returns : goal.returns
returns c = fitting-stays
