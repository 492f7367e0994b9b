use Rattle.jr_token_laws.proofs.FirstSigns.{longest}
use Rattle.jr_token_laws.proofs.sign_laws.signs_are_longest.Goals as goal

pub returns : goal.returns
returns c = longest
