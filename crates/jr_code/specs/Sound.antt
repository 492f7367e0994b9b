-- Operands and locals are of the kinds that checked code says.
use Rattle.std.specs.Prelude.{◌≡◌, ◌+◌, List, [], ◌∷◌, ◌++◌, Option, Some, None, slice_get}
use Rattle.jr_base.specs.declared.action.Body.{Body}
use Rattle.jr_base.specs.declared.action.Reply.{Reply}
use Rattle.jr_base.specs.declared.action.Reply.TheVariants as replies
use Rattle.jr_base.specs.declared.kind.SlotKind.{SlotKind}
use Rattle.jr_base.specs.declared.kind.SlotKind.TheVariants.{Int, Caught as CaughtKind}
use Rattle.jr_base.specs.Content.{Content, Holds, Caught}
use Rattle.jr_code.specs.Instructions.{Instruction, GetField, GetStatic, GetElement, ArrayLength, Region, MethodCode, Code}
use Rattle.jr_code.specs.Machine.{method_code_at, instructions_of, StackFrame, State, Runs, Throws, Makes, Over, Move, Goes, Asks, Ends}
use Rattle.jr_arith.specs.Kinds.{kind_of_element}
use Rattle.jr_code.specs.Paths.{Reaches}
use Rattle.jr_code.specs.Checked.{kind_of_value, kinds_of_locals, kinds_with, RightRegions, MethodRight}

abbrev pub IsOf : SlotKind → Content → Type 0
IsOf k (Holds v) = kind_of_value v ≡ k
IsOf k (Caught f) = k ≡ CaughtKind

abbrev pub AreOf : List SlotKind → List Content → Type 0
AreOf [] [] = Unit {0}
AreOf [] (c ∷ cs) = ⊥
AreOf (k ∷ ks) [] = ⊥
AreOf (k ∷ ks) (c ∷ cs) = IsOf k c × AreOf ks cs

-- a frame that runs, and one that throws, at a place to which a path brings these kinds
pub record RunsAt (code : Code) (f : StackFrame) : Type 0 where
  pub c : MethodCode
  pub is_method : method_code_at code f.method ≡ Some c
  pub right : MethodRight code c
  pub locals : AreOf (kinds_of_locals c) f.locals
  pub kinds : List SlotKind
  pub shape : slice_get right.shapes f.at ≡ Some (Some kinds)
  pub path : Reaches code c f.at kinds
  pub stack : AreOf kinds f.stack

pub record ThrowsAt (code : Code) (rest : List Region) (f : StackFrame) : Type 0 where
  pub c : MethodCode
  pub is_method : method_code_at code f.method ≡ Some c
  pub right : MethodRight code c
  pub locals : AreOf (kinds_of_locals c) f.locals
  pub kinds : List SlotKind
  pub shape : slice_get right.shapes f.at ≡ Some (Some kinds)
  pub path : Reaches code c f.at kinds
  pub regions : RightRegions c right.shapes rest
  pub passed : List Region
  pub split : c.regions ≡ passed ++ rest

-- a frame that waits at a call with this result
pub record WaitsAt (code : Code) (result : Option SlotKind) (f : StackFrame) : Type 0 where
  pub c : MethodCode
  pub is_method : method_code_at code f.method ≡ Some c
  pub right : MethodRight code c
  pub locals : AreOf (kinds_of_locals c) f.locals
  pub here : List SlotKind
  pub shape : slice_get right.shapes f.at ≡ Some (Some here)
  pub path : Reaches code c f.at here
  pub kinds : List SlotKind
  pub goes : slice_get right.shapes (f.at + 1) ≡ Some (Some (kinds_with result kinds))
  pub onward : Reaches code c (f.at + 1) (kinds_with result kinds)
  pub stack : AreOf kinds f.stack

abbrev pub Waiting : Code → Option SlotKind → List StackFrame → Type 0
Waiting code result [] = Unit {0}
Waiting code result (f ∷ below) = (w : WaitsAt code result f) × Waiting code w.c.result below

abbrev pub Sound : Code → State → Type 0
Sound code (Runs f below) = (x : RunsAt code f) × Waiting code x.c.result below
Sound code (Throws fault rest f below) = (x : ThrowsAt code rest f) × Waiting code x.c.result below
Sound code (Makes deed after) = Sound code after
Sound code Over = Unit {0}

-- what may be replied to an instruction
abbrev pub ValueOf : SlotKind → Reply → Type 0
ValueOf k (replies.Value v) = kind_of_value v ≡ k
ValueOf k _ = ⊥

abbrev pub ElementOf : SlotKind → Reply → Type 0
ElementOf k replies.Range = Unit {0}
ElementOf k r = ValueOf k r

abbrev pub MayReply : Option Instruction → Reply → Type 0
MayReply (Some (GetField slot kind)) r = ValueOf kind r
MayReply (Some (GetStatic place kind)) r = ValueOf kind r
MayReply (Some (GetElement element)) r = ElementOf (kind_of_element element) r
MayReply (Some ArrayLength) r = ValueOf Int r
MayReply _ r = Unit {0}

abbrev pub ReplyFits : Code → State → Reply → Type 0
ReplyFits code (Runs f below) r = MayReply (slice_get (instructions_of code f.method) f.at) r
ReplyFits code (Throws fault rest f below) r = Unit {0}
ReplyFits code (Makes deed after) r = Unit {0}
ReplyFits code Over r = Unit {0}

-- wherever a move goes, operands and locals are of the right kinds
abbrev pub SoundMove : Code → (Reply → Type 0) → Move → Type 0
SoundMove code fits (Goes s) = Sound code s
SoundMove code fits (Asks deed go) = (r : Reply) → fits r → Sound code (go r)
SoundMove code fits Ends = ⊥

-- the state is not the end
abbrev pub GoesOn : State → Type 0
GoesOn Over = ⊥
GoesOn _ = Unit {0}

-- what a thread runs is a method of the code without formals
abbrev pub StartRight : Code → Option Body → Type 0
StartRight code None = Unit {0}
StartRight code (Some start) = (c : MethodCode) × (method_code_at code start.method ≡ Some c) × (c.formals ≡ [])
