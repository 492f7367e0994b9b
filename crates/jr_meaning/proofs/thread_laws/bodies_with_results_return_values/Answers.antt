use Rattle.jr_meaning.proofs.Completions.{returns-value}
use Rattle.jr_meaning.proofs.thread_laws.bodies_with_results_return_values.Goals as goal

pub returns : goal.returns
returns c = returns-value
