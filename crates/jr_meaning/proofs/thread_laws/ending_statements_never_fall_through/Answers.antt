use Rattle.jr_meaning.proofs.Completions.{never-falls}
use Rattle.jr_meaning.proofs.thread_laws.ending_statements_never_fall_through.Goals as goal

pub returns : goal.returns
returns c = never-falls
