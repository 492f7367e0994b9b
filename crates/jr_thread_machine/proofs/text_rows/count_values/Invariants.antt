use Rattle.std.proofs.Common.{◌≡◌, ◌+◌, ◌≤◌, drop}
use Rattle.jr_code.specs.Machine.{values_printed}
use Rattle.jr_thread_machine.proofs.text_rows.count_values.Given as goal

abbrev pub invariant-loop-part : goal.invariant-loop-part
invariant-loop-part l = record {
  counted : l.values + values_printed (drop l.part-index l.parts) ≡ values_printed l.parts;
  bound : l.values ≤ l.part-index;
}
