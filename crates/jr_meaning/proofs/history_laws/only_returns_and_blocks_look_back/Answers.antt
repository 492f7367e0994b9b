use Rattle.jr_meaning.proofs.OldPlaces.{only-returns-look-back}
use Rattle.jr_meaning.proofs.history_laws.only_returns_and_blocks_look_back.Goals as goal

pub returns : goal.returns
returns c = only-returns-look-back
