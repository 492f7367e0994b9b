use Rattle.std.proofs.Common.{◌≡◌, ◌≤◌, ℕ, length, get_or}
use Rattle.jr_safepoints.proofs.slots.reach.Given as goal

abbrev pub invariant-loop : goal.invariant-loop
invariant-loop l = (l.counter ≤ length l.counts.items) × ((n : ℕ) → get_or l.counts.items n 0 ≡ get_or l.initial.counts.items n 0)
