-- So many threads own nothing.
use Rattle.std.proofs.Common.{◌≡◌, [], replicate, vec_capacity}
use Rattle.jr_monitors.proofs.owners.Owners.new.Given as goal

abbrev pub invariant-loop : goal.invariant-loop
invariant-loop l = record {
  locks : l.locks.items ≡ replicate l.counter [];
  room : vec_capacity l.locks ≡ 16;
}
