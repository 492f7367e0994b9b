use Rattle.jr_meaning.proofs.Endings.{ends-made}
use Rattle.jr_meaning.proofs.thread_laws.ends_are_made.Goals as goal

pub returns : goal.returns
returns c = ends-made
