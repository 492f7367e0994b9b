use Rattle.jr_lowering.proofs.Whole.{lowered}
use Rattle.jr_lowering.proofs.laws.code_does_what_the_program_does.Goals as goal

pub returns : goal.returns
returns c = λ program formed start fits replies. lowered program formed start replies fits
