use Rattle.jr_meaning.proofs.OpenFrames.{leave-result}
use Rattle.jr_meaning.proofs.history_laws.leaves_have_their_results.Goals as goal

pub returns : goal.returns
returns c = leave-result
