use Rattle.std.proofs.Common.{◌≡◌, ◌≤◌, ◌++◌, drop, length}
use Rattle.jr_safepoints.specs.Few.{joined}
use Rattle.jr_safepoints.proofs.joined.due.Given as goal

abbrev pub invariant-loop-piece : goal.invariant-loop-piece
invariant-loop-piece l = (length l.numbers ≤ 16) × (l.numbers ++ joined (drop l.piece-index l.pieces) ≡ joined l.pieces)
