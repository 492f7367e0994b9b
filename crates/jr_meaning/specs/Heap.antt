-- What a heap shows: the value of a cell, and the length of an array.
use Rattle.std.specs.Prelude.{ℕ, pos, Option, Some, None}
use Rattle.jr_base.specs.declared.value.Value.{Value}
use Rattle.jr_base.specs.declared.value.Value.TheVariants.{Int}
use Rattle.jr_base.specs.declared.value.Ask.{Ask}
use Rattle.jr_base.specs.declared.value.Ask.TheVariants as asks
use Rattle.jr_base.specs.declared.value.Seen.{Seen}
use Rattle.jr_base.specs.declared.value.Seen.TheVariants as seen
use Rattle.jr_meaning.specs.World.{World, length_of}

-- what each question is answered
abbrev pub Heap : Type 0
Heap = Ask → Seen

abbrev pub value_seen : Option Value → Seen
value_seen (Some value) = seen.Value value
value_seen None = seen.Absent

abbrev pub length_seen : Option ℕ → Seen
length_seen (Some n) = seen.Value (Int (pos n))
length_seen None = seen.Absent

-- the heap of a world
abbrev pub heap_of : World → Heap
heap_of world (asks.Cell cell) = value_seen (world.cells cell)
heap_of world (asks.Length object) = length_seen (length_of world object)
