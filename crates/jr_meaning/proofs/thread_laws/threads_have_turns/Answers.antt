use Rattle.jr_meaning.proofs.Bounds.{thread-sure}
use Rattle.jr_meaning.proofs.thread_laws.threads_have_turns.Goals as goal

pub returns : goal.returns
returns c = thread-sure
