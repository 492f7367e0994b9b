use Rattle.std.proofs.Common.{◌≡◌, ◌+◌, ◌≤◌, ◌∷◌, map, take, length}
use Rattle.jr_base.specs.Threads.{reference, value_at}
use Rattle.jr_thread_machine.proofs.text_rows.environment.Given as goal

-- the variables so far
abbrev pub invariant-loop-place : goal.invariant-loop-place
invariant-loop-place l = record {
  listed : l.env.items ≡ reference l.fn.this ∷ map (value_at l.fn.locals) (take l.place-index l.place-items);
  room : length l.place-items ≤ l.place-index + l.env.spare;
}
