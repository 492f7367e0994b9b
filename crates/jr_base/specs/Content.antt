-- What a variable of a running method holds.
use Rattle.std.specs.Prelude.{pos, false, Option, Some, None}
use Rattle.jr_base.specs.declared.value.Value.{Value}
use Rattle.jr_base.specs.declared.value.Value.TheVariants as values
use Rattle.jr_base.specs.declared.finish.Fault.{Fault}
use Rattle.jr_base.specs.declared.finish.Fault.TheVariants as faults
use Rattle.jr_base.specs.declared.kind.SlotKind.{SlotKind}
use Rattle.jr_base.specs.declared.kind.SlotKind.TheVariants as kinds

-- a value, or that of a catch an exception
pub data Content : Type 0 where
  Holds : (value : Value) → Content
  Caught : (fault : Fault) → Content

-- the value that a variable of that kind has where nothing was written to it (JLS 4.12.5)
abbrev pub default_value : SlotKind → Value
default_value kinds.Int = values.Int (pos 0)
default_value kinds.Long = values.Long (pos 0)
default_value kinds.Bool = values.Bool false
default_value kinds.Ref = values.Null
default_value kinds.Caught = values.Null

-- What a local holds before it is set. No program that passed the checks reads it.
abbrev pub unset : SlotKind → Content
unset kinds.Caught = Caught faults.Exception
unset kind = Holds (default_value kind)

-- Defaults, here and below, stand for what a program that passed the checks never meets.
abbrev pub value_in : Option Content → Value
value_in (Some (Holds value)) = value
value_in (Some (Caught fault)) = values.Int (pos 0)
value_in None = values.Int (pos 0)

abbrev pub fault_in : Option Content → Fault
fault_in (Some (Holds value)) = faults.Exception
fault_in (Some (Caught fault)) = fault
fault_in None = faults.Exception
