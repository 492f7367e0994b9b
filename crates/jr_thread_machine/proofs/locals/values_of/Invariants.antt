use Rattle.std.proofs.Common.{◌≡◌, map, take}
use Rattle.jr_code.specs.Machine.{value_of_content}
use Rattle.jr_thread_machine.proofs.locals.values_of.Given as goal

-- the values so far
abbrev pub invariant-loop-slot : goal.invariant-loop-slot
invariant-loop-slot l = l.values.items ≡ map value_of_content (take l.slot-index l.slots)
