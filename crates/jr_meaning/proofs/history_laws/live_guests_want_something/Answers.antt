use Rattle.jr_meaning.proofs.LiveGuests.{live-wants}
use Rattle.jr_meaning.proofs.history_laws.live_guests_want_something.Goals as goal

pub returns : goal.returns
returns c = live-wants
