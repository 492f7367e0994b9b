use Rattle.jr_meaning.proofs.OpenFrames.{in-frame}
use Rattle.jr_meaning.proofs.history_laws.steps_stand_in_frames.Goals as goal

pub returns : goal.returns
returns c = in-frame
