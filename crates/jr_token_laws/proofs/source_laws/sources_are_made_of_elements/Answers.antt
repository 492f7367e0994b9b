use Rattle.jr_token_laws.proofs.Reread.{exact}
use Rattle.jr_token_laws.proofs.source_laws.sources_are_made_of_elements.Goals as goal

pub returns : goal.returns
returns c = exact
