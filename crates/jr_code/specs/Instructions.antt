-- Stack code as plain data: each instruction carries what it speaks of. The coded form has a place in a table there.
use Rattle.std.specs.Prelude.{ℕ, Bool, List, Option}
use Rattle.jr_base.specs.declared.number.ClassId.{ClassId}
use Rattle.jr_base.specs.declared.number.MethodId.{MethodId}
use Rattle.jr_base.specs.declared.number.ClauseId.{ClauseId}
use Rattle.jr_base.specs.declared.number.TextId.{TextId}
use Rattle.jr_base.specs.declared.action.Elem.{Elem}
use Rattle.jr_base.specs.declared.action.NewKind.{NewKind}
use Rattle.jr_base.specs.declared.value.Value.{Value}
use Rattle.jr_base.specs.declared.value.Cell.{Cell}
use Rattle.jr_base.specs.declared.finish.Fault.{Fault}
use Rattle.jr_base.specs.declared.kind.SlotKind.{SlotKind}
use Rattle.jr_arith.specs.declared.operator.Width.{Width}
use Rattle.jr_arith.specs.declared.operator.Unary.{Unary as UnaryOperator}
use Rattle.jr_arith.specs.declared.operator.Binary.{Binary as BinaryOperator}
use Rattle.jr_base.specs.declared.kind.ObjectCall.{ObjectCall}

-- one instruction; a jump names the place that it goes to
pub data Instruction : Type 0 where
  -- int, true, false, null, class, long
  Push : (value : Value) → Instruction
  Load : (place : ℕ) → Instruction
  Store : (place : ℕ) → Instruction
  Pop : Instruction
  Dup : Instruction
  Dup2 : Instruction
  DupX1 : Instruction
  DupX2 : Instruction
  -- neg, inv, lneg, linv, not
  OneOperand : (operator : UnaryOperator) → Instruction
  -- add to rem, and to ushr, band to bxor, lt to ne, beq to rne, ladd to lrem, land to lushr, llt to lne
  TwoOperands : (operator : BinaryOperator) → Instruction
  -- widen, low
  ConvertTo : (to : Width) → Instruction
  Jump : (to : ℕ) → Instruction
  JumpIf : (to : ℕ) → Instruction
  JumpNot : (to : ℕ) → Instruction
  BackTo : (to : ℕ) → Instruction
  GetField : (slot : ℕ) (kind : SlotKind) → Instruction
  PutField : (slot : ℕ) (kind : SlotKind) → Instruction
  GetStatic : (at : Cell) (kind : SlotKind) → Instruction
  PutStatic : (at : Cell) (kind : SlotKind) → Instruction
  GetElement : (element : Elem) → Instruction
  PutElement : (element : Elem) → Instruction
  ArrayLength : Instruction
  Make : (kind : NewKind) → Instruction
  MakeArray : (element : Elem) → Instruction
  EnterMonitor : Instruction
  ExitMonitor : Instruction
  -- wait, notify, notifyall, start, join
  OnObject : (called : ObjectCall) → Instruction
  -- waitfor
  WaitForTime : Instruction
  SleepFor : Instruction
  YieldNow : Instruction
  CallStaticMethod : (method : MethodId) → Instruction
  CallMethodOn : (method : MethodId) → Instruction
  ReturnNothing : Instruction
  ReturnTop : Instruction
  CommitNow : Instruction
  AssertThat : (clause : ClauseId) (scope : List ℕ) → Instruction
  -- what is printed: a text, or a value taken
  PrintAll : (parts : List (Option TextId)) → Instruction
  ThrowNew : (fault : Fault) → Instruction
  ThrowLocal : (place : ℕ) → Instruction
  -- what no row names; no checked code has it
  Unknown : Instruction

-- what a region does with an exception
pub data RegionKind : Type 0 where
  CatchAt : (fault : Fault) (target : ℕ) → RegionKind
  ExitLocal : (place : ℕ) → RegionKind

-- the places from `first` on and before `past`
pub record Region : Type 0 where
  pub first : ℕ
  pub past : ℕ
  pub kind : RegionKind

-- a method: `this` is its local 0 where it isn't static, and then come its formals and its other locals
pub record MethodCode : Type 0 where
  pub class : ClassId
  pub is_static : Bool
  pub is_synchronized : Bool
  pub formals : List SlotKind
  pub result : Option SlotKind
  -- the kinds of the locals behind `this` and the formals
  pub locals : List SlotKind
  pub instructions : List Instruction
  pub regions : List Region

pub record Code : Type 0 where
  pub methods : List MethodCode
