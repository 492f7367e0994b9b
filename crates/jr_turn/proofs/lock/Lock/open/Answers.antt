use Rattle.jr_turn.proofs.Close.{begins_from}
use Rattle.jr_turn.proofs.lock.Lock.open.Goals as goal

pub new-requires : goal.new-requires
new-requires g c = begins_from _ _ _ _ _ c.args.value _ _ c.requires.empty.0 c.requires.empty.1 c.in_ok-slots.ensures c.of-about.ensures
