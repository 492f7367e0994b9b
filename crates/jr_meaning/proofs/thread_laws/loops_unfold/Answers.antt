use Rattle.jr_meaning.proofs.Bounds.{loop-whole}
use Rattle.jr_meaning.proofs.thread_laws.loops_unfold.Goals as goal

pub returns : goal.returns
returns c = loop-whole
