use Rattle.jr_meaning.proofs.Bounds.{do-loop-whole}
use Rattle.jr_meaning.proofs.thread_laws.do_loops_unfold.Goals as goal

pub returns : goal.returns
returns c = do-loop-whole
