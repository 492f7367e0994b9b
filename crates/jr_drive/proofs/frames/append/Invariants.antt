use Rattle.std.proofs.Common.{◌≡◌, ◌+◌, ◌≤◌, ◌++◌, length, take}
use Rattle.jr_drive.proofs.frames.append.Given as goal

abbrev pub invariant-loop-value : goal.invariant-loop-value
invariant-loop-value l = record {
  items : l.list.items ≡ l.initial.list.items ++ take l.value-index l.values;
  room : length l.values ≤ l.list.spare + l.value-index;
}
