use Rattle.jr_meaning.proofs.Endings.{timed-wait-resumes}
use Rattle.jr_meaning.proofs.history_laws.timed_waits_are_resumed.Goals as goal

pub returns : goal.returns
returns c = timed-wait-resumes
