use Rattle.jr_built.proofs.Alone.{has-one-thread}
use Rattle.jr_built.proofs.laws.built_runs_have_one_thread.Goals as goal

pub returns : goal.returns
returns c = has-one-thread
