use Rattle.jr_meaning.proofs.Limited.{few-frames}
use Rattle.jr_meaning.proofs.history_laws.frames_are_few.Goals as goal

pub returns : goal.returns
returns c = few-frames
