-- What a thread does from a move on, and moves that do the same.
use Rattle.std.specs.Prelude.{◌≡◌, ℕ, Some}
use Rattle.jr_base.specs.Threads.{Next, Tape}
use Rattle.jr_code.specs.Instructions.{Code}
use Rattle.jr_code.specs.Machine.{Move, follow, run}

-- this comes of the move, with these replies
pub record Follows (code : Code) (m : Move) (tape : Tape) (what : Next) : Type 0 where
  pub steps : ℕ
  pub comes : follow m tape (run code steps) ≡ Some what

-- some local steps on, the first move is the second: what comes of that comes of the first
pub record Becomes (code : Code) (m n : Move) : Type 0 where
  pub same : (tape : Tape) (what : Next) → Follows code n tape what → Follows code m tape what
