use Rattle.jr_meaning.proofs.Endings.{wait-resumes}
use Rattle.jr_meaning.proofs.history_laws.waits_are_resumed.Goals as goal

pub returns : goal.returns
returns c = wait-resumes
