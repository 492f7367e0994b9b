-- A length is an int that isn't negative.
use Rattle.std.proofs.Common.{ℕ, Option, Some, None, Bool, true, false, cond}
use Rattle.std.specs.Prelude.{pos}
use Rattle.jr_base.specs.declared.number.ObjId.{ObjId}
use Rattle.jr_base.specs.declared.value.Value.TheVariants.{Int}
use Rattle.jr_base.specs.declared.value.Ask.TheVariants as asks
use Rattle.jr_base.specs.declared.value.Seen.TheVariants as answers
use Rattle.jr_heap.specs.declared.layout.Place.{Place}
use Rattle.jr_heap.specs.Layout.{object_at}
use Rattle.jr_heap.specs.Plain.{Plain, IsLength, seen_in, seen_length}

of_array : (array : Bool) (len : ℕ) → IsLength (cond array (answers.Value (Int (pos len))) answers.Absent)
of_array true len = tt
of_array false len = tt

of_object : (o : Option Place) → IsLength (seen_length o)
of_object None = tt
of_object (Some place) = of_array place.array place.len

pub lengths : (heap : Plain) (object : ObjId) → IsLength (seen_in heap (asks.Length object))
lengths heap object = of_object (object_at heap.layout object)
