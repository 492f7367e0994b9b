use Rattle.jr_meaning.proofs.OpenFrames.{commit-newest}
use Rattle.jr_meaning.proofs.history_laws.commits_are_of_the_newest_frame.Goals as goal

pub returns : goal.returns
returns c = commit-newest
