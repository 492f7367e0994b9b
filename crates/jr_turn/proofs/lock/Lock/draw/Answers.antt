use Rattle.std.proofs.Common.{rules}
use Rattle.jr_turn.proofs.Draw.{draws}
use Rattle.jr_turn.proofs.lock.Lock.draw.Goals as goal

pub fetch_add-requires : goal.fetch_add-requires
fetch_add-requires g c = (c.requires.table, search rules, draws _ _ _ _ _ _ _ _ c.requires.idle.0 c.requires.idle.1)
