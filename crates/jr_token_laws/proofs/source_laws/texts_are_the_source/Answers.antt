use Rattle.jr_token_laws.proofs.Spelled.{of_source_spelled}
use Rattle.jr_token_laws.proofs.source_laws.texts_are_the_source.Goals as goal

pub returns : goal.returns
returns c = of_source_spelled
