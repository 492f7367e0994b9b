-- How many operands a method needs room for.
use Rattle.std.specs.Prelude.{◌≡◌, ℕ, ◌≤◌, List, length, Some, slice_get}
use Rattle.jr_base.specs.declared.number.MethodId.{MethodId}
use Rattle.jr_base.specs.declared.kind.SlotKind.{SlotKind}
use Rattle.jr_code.specs.declared.code.Code.{Code as CodeOfLists}
use Rattle.jr_code.specs.declared.code.MethodCode.{MethodCode as MethodOfLists}
use Rattle.jr_code.specs.Instructions.{MethodCode, Code}
use Rattle.jr_code.specs.Machine.{method_code_at}
use Rattle.jr_code.specs.Paths.{Reaches}
use Rattle.jr_code.specs.Views.{plain_of}
use Rattle.jr_code.specs.WellFormed.{plain_method}

-- some path brings so many operands to a place, and none brings more
pub record IsDepth (code : Code) (c : MethodCode) (depth : ℕ) : Type 0 where
  pub enough : (at : ℕ) (ks : List SlotKind) → Reaches code c at ks → length ks ≤ depth
  pub needed : (at : ℕ) × (ks : List SlotKind) × Reaches code c at ks × (length ks ≡ depth)

-- the depth of the method of that number
abbrev pub IsDepthOf : Code → MethodId → ℕ → Type 0
IsDepthOf code m depth = (c : MethodCode) → method_code_at code m ≡ Some c → IsDepth code c depth

-- the depths of all methods of coded code
pub record AreDepths (code : CodeOfLists) (depths : List ℕ) : Type 0 where
  pub size : length depths ≡ length code.methods.items
  pub each : (number depth : ℕ) (m : MethodOfLists) → slice_get depths number ≡ Some depth →
      slice_get code.methods.items number ≡ Some m → IsDepth (plain_of code) (plain_method code m) depth
