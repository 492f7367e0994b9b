-- One heap: what a reader sees in it.
use Rattle.std.specs.Prelude.{ℕ, List, Option, Some, None, cond, slice_get, pos}
use Rattle.std.specs.Int.{IsNonNegative}
use Rattle.jr_base.specs.declared.value.Value.{Value}
use Rattle.jr_base.specs.declared.value.Value.TheVariants.{Null, Ref, Int, Long, Bool}
use Rattle.jr_base.specs.declared.value.Ask.{Ask}
use Rattle.jr_base.specs.declared.value.Ask.TheVariants as asks
use Rattle.jr_base.specs.declared.value.Seen.{Seen}
use Rattle.jr_base.specs.declared.value.Seen.TheVariants as answers
use Rattle.jr_heap.specs.declared.layout.Place.{Place}
use Rattle.jr_heap.specs.Layout.{LayoutOf, object_at, cell_at}

-- the objects, and the value of each place
pub record Plain : Type 0 where
  pub layout : LayoutOf
  pub values : List Value

abbrev pub seen_value : Option Value → Seen
seen_value None = answers.Absent
seen_value (Some value) = answers.Value value

abbrev pub value_of : List Value → Option ℕ → Option Value
value_of values None = None
value_of values (Some at) = slice_get values at

-- the length of an array (JLS 10.7); what is no array has none
abbrev pub seen_length : Option Place → Seen
seen_length None = answers.Absent
seen_length (Some p) = cond p.array (answers.Value (Int (pos p.len))) answers.Absent

-- what is seen of a heap: the value of a cell that is there, the length of an array that is there
abbrev pub seen_in : Plain → Ask → Seen
seen_in h (asks.Cell cell) = seen_value (value_of h.values (cell_at h.layout cell))
seen_in h (asks.Length object) = seen_length (object_at h.layout object)

-- a length that may be seen: none, or an int that isn't negative
abbrev pub IsLengthValue : Value → Type 0
IsLengthValue Null = ⊥
IsLengthValue (Ref o) = ⊥
IsLengthValue (Int n) = IsNonNegative n
IsLengthValue (Long n) = ⊥
IsLengthValue (Bool b) = ⊥

abbrev pub IsLength : Seen → Type 0
IsLength answers.Absent = Unit {0}
IsLength (answers.Value value) = IsLengthValue value
