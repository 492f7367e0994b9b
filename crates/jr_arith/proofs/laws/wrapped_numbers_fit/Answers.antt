use Rattle.jr_arith.proofs.Widths.{wrapped-fits}
use Rattle.jr_arith.proofs.laws.wrapped_numbers_fit.Goals as goal

pub returns : goal.returns
returns c = wrapped-fits
