-- What a thread does next, and what it takes from replies. What reads its program and what runs its code
-- mean the same by these.
use Rattle.std.specs.Prelude.{ℕ, ◌+◌, List, Option, Some, None, slice_get}
use Rattle.jr_base.specs.Deed.{Deed}
use Rattle.jr_base.specs.Content.{Content, value_in, fault_in}
use Rattle.jr_base.specs.declared.number.ClassId.{ClassId}
use Rattle.jr_base.specs.declared.number.ObjId.{ObjId}
use Rattle.jr_base.specs.declared.action.Reply.{Reply}
use Rattle.jr_base.specs.declared.action.Reply.TheVariants as replies
use Rattle.jr_base.specs.declared.value.Value.{Value}
use Rattle.jr_base.specs.declared.value.Value.TheVariants as values
use Rattle.jr_base.specs.declared.value.Cell.{Cell}
use Rattle.jr_base.specs.declared.finish.Fault.{Fault}

-- the next action, or none where the thread has ended
pub data Next : Type 0 where
  Wants : (deed : Deed) → Next
  Ended : Next

-- the replies that are still to come
abbrev pub Tape : Type 0
Tape = List Reply

-- what the variable of that number holds
abbrev pub value_at : List Content → ℕ → Value
value_at variables number = value_in (slice_get variables number)

abbrev pub fault_at : List Content → ℕ → Fault
fault_at variables number = fault_in (slice_get variables number)

abbrev pub object_made : Reply → ObjId
object_made (replies.Made object) = object
object_made _ = record { 0 = 0 }

-- ---- objects and their cells

-- the object of a class: those of the c classes are the objects 1 to c
abbrev pub class_object : ClassId → ObjId
class_object class = record { 0 = class.0 + 1 }

abbrev pub reference : Option ObjId → Value
reference (Some object) = values.Ref object
reference None = values.Null

abbrev pub cell : ObjId → ℕ → Cell
cell object slot = record { obj = object; slot = slot }
