use Rattle.std.proofs.Common.{◌≡◌, ◌+◌, ◌≤◌, ◌++◌, map, drop, length}
use Rattle.jr_code.specs.Machine.{filled, value_of_content}
use Rattle.jr_thread_machine.proofs.text_rows.fill.Given as goal

-- the parts so far, and those that are left with the values that are left
abbrev pub invariant-loop-part : goal.invariant-loop-part
invariant-loop-part l = record {
  listed : l.all.items ++ filled (drop l.part-index l.part-items) (drop l.taken (map value_of_content l.slots)) ≡ filled l.part-items (map value_of_content l.slots);
  room : length l.part-items ≤ l.part-index + l.all.spare;
  bound : l.taken ≤ l.part-index;
}
