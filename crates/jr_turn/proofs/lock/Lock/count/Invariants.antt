use Rattle.jr_turn.specs.Passes.{last_of}
use Rattle.jr_turn.proofs.lock.Lock.count.Given as goal

abbrev pub ghosts-count_as : goal.ghosts-count_as
ghosts-count_as g a = record { entry = last_of (g.V.Annal.entries a.value.now) }
