use Rattle.std.proofs.Common.{◌≡◌, ◌≤◌, ℕ, [], length, get_or}
use Rattle.jr_safepoints.proofs.sorted.reach.Given as goal

abbrev pub invariant-loop : goal.invariant-loop
invariant-loop l = (l.counter ≤ length l.lists.items) × ((n : ℕ) → get_or l.lists.items n [] ≡ get_or l.initial.lists.items n [])
