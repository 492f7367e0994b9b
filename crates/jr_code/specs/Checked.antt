-- What checked code is: at each place stand the kinds of the operands, the same on every path.
use Rattle.std.specs.Prelude.{◌≡◌, ◌≢◌, ℕ, ◌+◌, ◌<◌, ◌≤◌, Bool, true, false, List, [], ◌∷◌, ◌++◌, length, Option, Some, None, slice_get}
use Rattle.jr_base.specs.declared.number.MethodId.{MethodId}
use Rattle.jr_base.specs.declared.value.Value.{Value}
use Rattle.jr_base.specs.declared.value.Value.TheVariants as values
use Rattle.jr_base.specs.declared.kind.SlotKind.{SlotKind}
use Rattle.jr_base.specs.declared.kind.SlotKind.TheVariants.{Int, Long, Bool as Boolean, Ref as Reference, Caught as CaughtKind}
use Rattle.jr_code.specs.Instructions.{Instruction, Push, Load, Store, Pop, Dup, Dup2, DupX1, DupX2, OneOperand, TwoOperands, ConvertTo, Jump, JumpIf, JumpNot, BackTo, GetField, PutField, GetStatic, PutStatic, GetElement, PutElement, ArrayLength, Make, MakeArray, EnterMonitor, ExitMonitor, OnObject, WaitForTime, SleepFor, YieldNow, CallStaticMethod, CallMethodOn, ReturnNothing, ReturnTop, CommitNow, AssertThat, PrintAll, ThrowNew, ThrowLocal, Unknown, RegionKind, CatchAt, ExitLocal, Region, MethodCode, Code}
use Rattle.jr_code.specs.Machine.{method_code_at, values_printed}
use Rattle.jr_arith.specs.Kinds.{kind_of_element, kind_of_width, kind_converted, unary_kind, left_kind, right_kind, result_kind}

abbrev pub kind_of_value : Value → SlotKind
kind_of_value values.Null = Reference
kind_of_value (values.Ref o) = Reference
kind_of_value (values.Int n) = Int
kind_of_value (values.Long n) = Long
kind_of_value (values.Bool b) = Boolean

-- an exception is no value
abbrev pub NoneCaught : List SlotKind → Type 0
NoneCaught [] = Unit {0}
NoneCaught (k ∷ ks) = (k ≢ CaughtKind) × NoneCaught ks

-- locals that hold values
abbrev pub AreVariables : List SlotKind → List ℕ → Type 0
AreVariables kinds [] = Unit {0}
AreVariables kinds (place ∷ places) = ((k : SlotKind) × (slice_get kinds place ≡ Some k) × (k ≢ CaughtKind)) × AreVariables kinds places

-- the kinds of a method's locals: `this` where it isn't static, the formals, the others
abbrev pub this_kind : Bool → List SlotKind
this_kind true = []
this_kind false = Reference ∷ []

abbrev pub kinds_of_locals : MethodCode → List SlotKind
kinds_of_locals c = this_kind c.is_static ++ (c.formals ++ c.locals)

-- the last one topmost
abbrev pub kinds_pushed : List SlotKind → List SlotKind → List SlotKind
kinds_pushed [] ks = ks
kinds_pushed (k ∷ more) ks = kinds_pushed more (k ∷ ks)

abbrev pub kinds_with : Option SlotKind → List SlotKind → List SlotKind
kinds_with None ks = ks
kinds_with (Some k) ks = k ∷ ks

-- the kinds of the operands before an instruction, topmost first, and after it
abbrev pub Effect : Code → MethodCode → Instruction → List SlotKind → List SlotKind → Type 0
Effect code c (Push v) before after = after ≡ kind_of_value v ∷ before
Effect code c (Load x) before after = (k : SlotKind) × (slice_get (kinds_of_locals c) x ≡ Some k) × (after ≡ k ∷ before)
Effect code c (Store x) before after = (k : SlotKind) × (slice_get (kinds_of_locals c) x ≡ Some k) × (before ≡ k ∷ after)
Effect code c Pop before after = (k : SlotKind) × (before ≡ k ∷ after)
Effect code c Dup before after = (k : SlotKind) × (rest : List SlotKind) × (before ≡ k ∷ rest) × (after ≡ k ∷ (k ∷ rest))
Effect code c Dup2 before after = (k j : SlotKind) × (rest : List SlotKind) × (before ≡ k ∷ (j ∷ rest)) × (after ≡ k ∷ (j ∷ (k ∷ (j ∷ rest))))
Effect code c DupX1 before after = (k j : SlotKind) × (rest : List SlotKind) × (before ≡ k ∷ (j ∷ rest)) × (after ≡ k ∷ (j ∷ (k ∷ rest)))
Effect code c DupX2 before after =
    (k j l : SlotKind) × (rest : List SlotKind) × (before ≡ k ∷ (j ∷ (l ∷ rest))) × (after ≡ k ∷ (j ∷ (l ∷ (k ∷ rest))))
Effect code c (OneOperand operator) before after = (rest : List SlotKind) × (before ≡ unary_kind operator ∷ rest) × (after ≡ unary_kind operator ∷ rest)
Effect code c (TwoOperands operator) before after =
    (rest : List SlotKind) × (before ≡ right_kind operator ∷ (left_kind operator ∷ rest)) × (after ≡ result_kind operator ∷ rest)
Effect code c (ConvertTo w) before after = (rest : List SlotKind) × (before ≡ kind_converted w ∷ rest) × (after ≡ kind_of_width w ∷ rest)
Effect code c (Jump to) before after = before ≡ after
Effect code c (JumpIf to) before after = before ≡ Boolean ∷ after
Effect code c (JumpNot to) before after = before ≡ Boolean ∷ after
Effect code c (BackTo to) before after = before ≡ after
Effect code c (GetField slot kind) before after = (rest : List SlotKind) × (before ≡ Reference ∷ rest) × (after ≡ kind ∷ rest) × (kind ≢ CaughtKind)
Effect code c (PutField slot kind) before after = (before ≡ kind ∷ (Reference ∷ after)) × (kind ≢ CaughtKind)
Effect code c (GetStatic at kind) before after = (after ≡ kind ∷ before) × (kind ≢ CaughtKind)
Effect code c (PutStatic at kind) before after = (before ≡ kind ∷ after) × (kind ≢ CaughtKind)
Effect code c (GetElement element) before after = (rest : List SlotKind) × (before ≡ Int ∷ (Reference ∷ rest)) × (after ≡ kind_of_element element ∷ rest)
Effect code c (PutElement element) before after = before ≡ kind_of_element element ∷ (Int ∷ (Reference ∷ after))
Effect code c ArrayLength before after = (rest : List SlotKind) × (before ≡ Reference ∷ rest) × (after ≡ Int ∷ rest)
Effect code c (Make kind) before after = after ≡ Reference ∷ before
Effect code c (MakeArray element) before after = (rest : List SlotKind) × (before ≡ Int ∷ rest) × (after ≡ Reference ∷ rest)
Effect code c EnterMonitor before after = before ≡ Reference ∷ after
Effect code c ExitMonitor before after = before ≡ Reference ∷ after
Effect code c (OnObject called) before after = before ≡ Reference ∷ after
Effect code c WaitForTime before after = before ≡ Long ∷ (Reference ∷ after)
Effect code c SleepFor before after = before ≡ Int ∷ after
Effect code c YieldNow before after = before ≡ after
Effect code c (CallStaticMethod m) before after =
    (callee : MethodCode) × (rest : List SlotKind) × (method_code_at code m ≡ Some callee) × (callee.is_static ≡ true)
    × (before ≡ kinds_pushed callee.formals rest) × (after ≡ kinds_with callee.result rest)
Effect code c (CallMethodOn m) before after =
    (callee : MethodCode) × (rest : List SlotKind) × (method_code_at code m ≡ Some callee) × (callee.is_static ≡ false)
    × (before ≡ kinds_pushed callee.formals (Reference ∷ rest)) × (after ≡ kinds_with callee.result rest)
Effect code c ReturnNothing before after = (c.result ≡ None) × (before ≡ after)
Effect code c ReturnTop before after = (k : SlotKind) × (c.result ≡ Some k) × (before ≡ k ∷ after)
Effect code c CommitNow before after = before ≡ after
Effect code c (AssertThat clause scope) before after = AreVariables (kinds_of_locals c) scope × (before ≡ after)
Effect code c (PrintAll parts) before after =
    (ks : List SlotKind) × (length ks ≡ values_printed parts) × NoneCaught ks × (before ≡ kinds_pushed ks after)
Effect code c (ThrowNew fault) before after = before ≡ after
Effect code c (ThrowLocal x) before after = (slice_get (kinds_of_locals c) x ≡ Some CaughtKind) × (before ≡ after)
Effect code c Unknown before after = ⊥

-- the kinds after an instruction stand wherever it goes; a jump goes forward, and a Back not
abbrev pub GoesTo : List (Option (List SlotKind)) → ℕ → Instruction → List SlotKind → Type 0
GoesTo shapes at (Jump to) after = (at < to) × (slice_get shapes to ≡ Some (Some after))
GoesTo shapes at (JumpIf to) after = (at < to) × (slice_get shapes to ≡ Some (Some after)) × (slice_get shapes (at + 1) ≡ Some (Some after))
GoesTo shapes at (JumpNot to) after = (at < to) × (slice_get shapes to ≡ Some (Some after)) × (slice_get shapes (at + 1) ≡ Some (Some after))
GoesTo shapes at (BackTo to) after = (to ≤ at) × (slice_get shapes to ≡ Some (Some after))
GoesTo shapes at ReturnNothing after = Unit {0}
GoesTo shapes at ReturnTop after = Unit {0}
GoesTo shapes at (ThrowNew fault) after = Unit {0}
GoesTo shapes at (ThrowLocal x) after = Unit {0}
GoesTo shapes at _ after = slice_get shapes (at + 1) ≡ Some (Some after)

-- an instruction with its operands
pub record RightAt (code : Code) (c : MethodCode) (shapes : List (Option (List SlotKind))) (at : ℕ) : Type 0 where
  pub instruction : Instruction
  pub before : List SlotKind
  pub after : List SlotKind
  pub stands : slice_get c.instructions at ≡ Some instruction
  pub shape : slice_get shapes at ≡ Some (Some before)
  pub effect : Effect code c instruction before after
  pub goes : GoesTo shapes at instruction after

-- where a throw may come from a place of the region, its handler stands further on and begins with the exception;
-- the local of a monitor holds a reference
abbrev pub RightKind : MethodCode → List (Option (List SlotKind)) → ℕ → ℕ → RegionKind → Type 0
RightKind c shapes first past (CatchAt fault target) =
    (at : ℕ) (ks : List SlotKind) → first ≤ at → at < past → slice_get shapes at ≡ Some (Some ks) →
    (at < target) × (slice_get shapes target ≡ Some (Some (CaughtKind ∷ [])))
RightKind c shapes first past (ExitLocal x) = slice_get (kinds_of_locals c) x ≡ Some Reference

abbrev pub RightRegion : MethodCode → List (Option (List SlotKind)) → Region → Type 0
RightRegion c shapes r = RightKind c shapes r.first r.past r.kind

abbrev pub RightRegions : MethodCode → List (Option (List SlotKind)) → List Region → Type 0
RightRegions c shapes [] = Unit {0}
RightRegions c shapes (r ∷ rs) = RightRegion c shapes r × RightRegions c shapes rs

-- kinds at each place that is reached, with which all of a method is right
pub record MethodRight (code : Code) (c : MethodCode) : Type 0 where
  pub shapes : List (Option (List SlotKind))
  pub begins : slice_get shapes 0 ≡ Some (Some [])
  pub each : (at : ℕ) (ks : List SlotKind) → slice_get shapes at ≡ Some (Some ks) → RightAt code c shapes at
  pub regions : RightRegions c shapes c.regions
  pub formals : NoneCaught c.formals
  pub result : (k : SlotKind) → c.result ≡ Some k → k ≢ CaughtKind

pub record CodeRight (code : Code) : Type 0 where
  pub methods : (m : MethodId) (c : MethodCode) → method_code_at code m ≡ Some c → MethodRight code c
