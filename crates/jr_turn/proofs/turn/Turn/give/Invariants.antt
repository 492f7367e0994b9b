use Rattle.jr_turn.specs.Passes.{kept_ticket}
use Rattle.jr_turn.proofs.turn.Turn.give.Given as goal

abbrev pub ghosts-give_as : goal.ghosts-give_as
ghosts-give_as g a = record { ticket = kept_ticket a.seat.now.me.0.ticket a.ticket }
