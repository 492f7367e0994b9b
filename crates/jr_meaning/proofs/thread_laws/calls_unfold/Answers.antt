use Rattle.jr_meaning.proofs.Bounds.{call-whole}
use Rattle.jr_meaning.proofs.thread_laws.calls_unfold.Goals as goal

pub returns : goal.returns
returns c = call-whole
