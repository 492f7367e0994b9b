-- Which coded code keeps the rules, and what it is to break one at an instruction.
use Rattle.std.specs.Prelude.{◌≡◌, ◌≢◌, ℕ, ◌≤◌, ◌⊎◌, List, [], ◌++◌, length, Some, slice_get}
use Rattle.jr_base.specs.declared.number.MethodId.{MethodId}
use Rattle.jr_base.specs.declared.kind.SlotKind.{SlotKind}
use Rattle.jr_base.specs.declared.kind.SlotKind.TheVariants.{Ref as Reference, Caught as CaughtKind}
use Rattle.jr_code.specs.declared.code.Code.{Code as CodeOfLists}
use Rattle.jr_code.specs.declared.code.MethodCode.{MethodCode as MethodOfLists}
use Rattle.jr_code.specs.Instructions.{Instruction, ExitLocal, Region, MethodCode, Code}
use Rattle.jr_code.specs.Checked.{this_kind, kinds_of_locals, NoneCaught, Effect, MethodRight}
use Rattle.jr_code.specs.Paths.{IsNext, GoesItsWay, HandledAt, Reaches}
use Rattle.jr_code.specs.Views.{tables_of, method_of, plain_of}

-- a method's locals begin with `this`, where it isn't static, and then its formals
pub record LocalsBegin (m : MethodOfLists) : Type 0 where
  pub others : List SlotKind
  pub split : m.locals.items ≡ (this_kind m.is_static ++ m.formals.items) ++ others

-- the method as plain data
abbrev pub plain_method : CodeOfLists → MethodOfLists → MethodCode
plain_method code m = method_of (tables_of code) m

pub record WellFormedMethod (code : CodeOfLists) (m : MethodOfLists) : Type 0 where
  pub locals : LocalsBegin m
  pub right : MethodRight (plain_of code) (plain_method code m)

pub record WellFormedCode (code : CodeOfLists) : Type 0 where
  pub methods : (at : ℕ) (m : MethodOfLists) → slice_get code.methods.items at ≡ Some m → WellFormedMethod code m

-- A rule that is broken at an instruction which a path reaches, or at the method's place 0 where the rule is one on its
-- formals, its result or its regions.
pub data Breaks (code : Code) (c : MethodCode) : ℕ → Type 0 where
  -- operands of the right kinds aren't there, or what it names isn't
  Operands : (at : ℕ) (before : List SlotKind) (i : Instruction) → Reaches code c at before →
      slice_get c.instructions at ≡ Some i → ((after : List SlotKind) → Effect code c i before after → ⊥) → Breaks code c at
  -- two paths bring different kinds
  Merge : (at : ℕ) (before other : List SlotKind) → Reaches code c at before → Reaches code c at other →
      before ≢ other → Breaks code c at
  -- a jump goes back, or a `back` forward
  Direction : (at : ℕ) (before : List SlotKind) (i : Instruction) → Reaches code c at before →
      slice_get c.instructions at ≡ Some i → (GoesItsWay at i → ⊥) → Breaks code c at
  -- a path runs off the end
  RunsOff : (at next : ℕ) (before after : List SlotKind) (i : Instruction) → Reaches code c at before →
      slice_get c.instructions at ≡ Some i → Effect code c i before after → IsNext at i next →
      length c.instructions ≤ next → Breaks code c at
  NoInstruction : c.instructions ≡ [] → Breaks code c 0
  -- what is no value stands among the formals, or is the result
  CaughtFormal : (NoneCaught c.formals → ⊥) → Breaks code c 0
  CaughtResult : c.result ≡ Some CaughtKind → Breaks code c 0
  -- an exit's local is no reference
  ExitOf : (number : ℕ) (r : Region) (x : ℕ) → slice_get c.regions number ≡ Some r → r.kind ≡ ExitLocal x →
      slice_get (kinds_of_locals c) x ≢ Some Reference → Breaks code c 0
  -- a handler stands no further on than what it handles, or past the end
  Handler : (at target : ℕ) (before : List SlotKind) → Reaches code c at before → HandledAt c at target →
      (target ≤ at) ⊎ (length c.instructions ≤ target) → Breaks code c 0

pub data BreaksRule (code : CodeOfLists) (m : MethodOfLists) : ℕ → Type 0 where
  Locals : (LocalsBegin m → ⊥) → BreaksRule code m 0
  Rule : (at : ℕ) → Breaks (plain_of code) (plain_method code m) at → BreaksRule code m at

-- a rule is broken at that instruction of that method
pub record BadAt (code : CodeOfLists) (number : MethodId) (at : ℕ) : Type 0 where
  pub method : MethodOfLists
  pub stands : slice_get code.methods.items number.0 ≡ Some method
  pub breaks : BreaksRule code method at
