use Rattle.jr_meaning.proofs.Histories.{legal-budget}
use Rattle.jr_meaning.proofs.history_laws.budgets_hold.Goals as goal

pub returns : goal.returns
returns c = legal-budget
