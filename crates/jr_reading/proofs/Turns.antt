-- A recursion on a count of turns, beside a loop that counts up.
use Rattle.std.proofs.Common.{◌≡◌, ℕ, suc, ◌+◌, ◌-◌, ◌<◌, ◌≤◌, arith}

pub turn_left : (n at : ℕ) → at < n → n - at ≡ suc (n - (at + 1))
turn_left n at below = omega arith

pub no_turn_left : (n at : ℕ) → n ≤ at → n - at ≡ 0
no_turn_left n at done = omega arith
