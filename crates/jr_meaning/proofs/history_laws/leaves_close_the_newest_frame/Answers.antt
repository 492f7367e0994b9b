use Rattle.jr_meaning.proofs.OpenFrames.{leave-newest}
use Rattle.jr_meaning.proofs.history_laws.leaves_close_the_newest_frame.Goals as goal

pub returns : goal.returns
returns c = leave-newest
