use Rattle.jr_token_laws.proofs.Rising.{of_source_rises}
use Rattle.jr_token_laws.proofs.source_laws.spans_rise_within_the_source.Goals as goal

pub returns : goal.returns
returns c = of_source_rises
