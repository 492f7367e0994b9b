-- What stands in the list of fields, as the rows that name one read it.
use Rattle.std.specs.Prelude.{◌≡◌, ℕ}
use Rattle.jr_base.specs.Threads.{cell}
use Rattle.jr_base.specs.declared.kind.SlotKind.{SlotKind}
use Rattle.jr_base.specs.declared.value.Cell.{Cell}
use Rattle.jr_code.specs.Instructions.{Instruction, Unknown}
use Rattle.jr_code.specs.Coded.{FieldCode, Tables, entry, instance_field, static_field}

-- whatever the row is, it is one of an instance field
abbrev pub InstanceField : Tables → ℕ → ℕ → Type 0
InstanceField t place slot = (kind : SlotKind) × ((row : ℕ → SlotKind → Instruction) → entry (instance_field row) t.fields place ≡ row slot kind)

abbrev pub NoInstanceField : Tables → ℕ → Type 0
NoInstanceField t place = (row : ℕ → SlotKind → Instruction) → entry (instance_field row) t.fields place ≡ Unknown

abbrev pub StaticField : Tables → ℕ → Cell → Type 0
StaticField t place c =
    (kind : SlotKind) × ((row : Cell → SlotKind → Instruction) → entry (static_field (λ home slot kind. row (cell home slot) kind)) t.fields place ≡ row c kind)

abbrev pub NoStaticField : Tables → ℕ → Type 0
NoStaticField t place = (row : Cell → SlotKind → Instruction) → entry (static_field (λ home slot kind. row (cell home slot) kind)) t.fields place ≡ Unknown

-- of the field itself
abbrev pub IsInstanceField : FieldCode → ℕ → Type 0
IsInstanceField f slot = (row : ℕ → SlotKind → Instruction) → instance_field row f ≡ row slot f.kind

abbrev pub IsNoInstanceField : FieldCode → Type 0
IsNoInstanceField f = (row : ℕ → SlotKind → Instruction) → instance_field row f ≡ Unknown

abbrev pub IsStaticField : FieldCode → Cell → Type 0
IsStaticField f c = (row : Cell → SlotKind → Instruction) → static_field (λ home slot kind. row (cell home slot) kind) f ≡ row c f.kind

abbrev pub IsNoStaticField : FieldCode → Type 0
IsNoStaticField f = (row : Cell → SlotKind → Instruction) → static_field (λ home slot kind. row (cell home slot) kind) f ≡ Unknown
