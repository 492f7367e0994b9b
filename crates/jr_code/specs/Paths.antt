-- The paths through a method, and the kinds that they bring to an instruction.
use Rattle.std.specs.Prelude.{◌≡◌, ℕ, ◌+◌, ◌<◌, ◌≤◌, ◌⊎◌, List, [], ◌∷◌, Some, slice_get}
use Rattle.jr_base.specs.declared.kind.SlotKind.{SlotKind}
use Rattle.jr_base.specs.declared.kind.SlotKind.TheVariants.{Caught as CaughtKind}
use Rattle.jr_base.specs.declared.finish.Fault.{Fault}
use Rattle.jr_code.specs.Instructions.{Instruction, Jump, JumpIf, JumpNot, BackTo, ReturnNothing, ReturnTop, ThrowNew, ThrowLocal, CatchAt, Region, MethodCode, Code}
use Rattle.jr_code.specs.Checked.{Effect}

-- the places that may come after an instruction
abbrev pub IsNext : ℕ → Instruction → ℕ → Type 0
IsNext at (Jump to) next = next ≡ to
IsNext at (JumpIf to) next = (next ≡ to) ⊎ (next ≡ at + 1)
IsNext at (JumpNot to) next = (next ≡ to) ⊎ (next ≡ at + 1)
IsNext at (BackTo to) next = next ≡ to
IsNext at ReturnNothing next = ⊥
IsNext at ReturnTop next = ⊥
IsNext at (ThrowNew fault) next = ⊥
IsNext at (ThrowLocal x) next = ⊥
IsNext at _ next = next ≡ at + 1

-- a jump goes forward, and a `back` to its own place or before
abbrev pub GoesItsWay : ℕ → Instruction → Type 0
GoesItsWay at (Jump to) = at < to
GoesItsWay at (JumpIf to) = at < to
GoesItsWay at (JumpNot to) = at < to
GoesItsWay at (BackTo to) = to ≤ at
GoesItsWay at _ = Unit {0}

-- a catch of the method that holds the place
pub record HandledAt (c : MethodCode) (at : ℕ) (target : ℕ) : Type 0 where
  pub number : ℕ
  pub region : Region
  pub fault : Fault
  pub stands : slice_get c.regions number ≡ Some region
  pub catches : region.kind ≡ CatchAt fault target
  pub first : region.first ≤ at
  pub past : at < region.past

-- Some path brings these kinds to the place: from the method's beginning, from an instruction whose operands are there,
-- or by an exception, which a handler begins with.
pub data Reaches (code : Code) (c : MethodCode) : ℕ → List SlotKind → Type 0 where
  Begins : Reaches code c 0 []
  Follows : (at next : ℕ) (before after : List SlotKind) (i : Instruction) → Reaches code c at before →
      slice_get c.instructions at ≡ Some i → Effect code c i before after → IsNext at i next → Reaches code c next after
  Catches : (at target : ℕ) (before : List SlotKind) → Reaches code c at before → HandledAt c at target →
      Reaches code c target (CaughtKind ∷ [])
