use Rattle.jr_token_laws.proofs.Gapped.{of_source_gaps}
use Rattle.jr_token_laws.proofs.source_laws.only_gaps_stand_between_tokens.Goals as goal

pub returns : goal.returns
returns c = of_source_gaps
