-- The code of expressions. Code is a function of its place, and its size a function of its own, so that all jumps name
-- places of the whole method. Operands are evaluated from left to right (JLS 15.7).
use Rattle.std.specs.Prelude.{ℕ, ◌+◌, Bool, true, false, List, [], ◌∷◌, ◌++◌, Option, Some, None}
use Rattle.std.specs.Option.{option_map_or}
use Rattle.jr_base.specs.declared.number.FieldId.{FieldId}
use Rattle.jr_base.specs.declared.number.MethodId.{MethodId}
use Rattle.jr_base.specs.declared.action.Elem.{Elem}
use Rattle.jr_base.specs.declared.action.NewKind.TheVariants as made
use Rattle.jr_base.specs.declared.value.Value.TheVariants as values
use Rattle.jr_base.specs.declared.value.Cell.{Cell}
use Rattle.jr_base.specs.declared.kind.SlotKind.{SlotKind}
use Rattle.jr_base.specs.declared.kind.SlotKind.TheVariants as kinds
use Rattle.jr_base.specs.Threads.{class_object, cell}
use Rattle.jr_arith.specs.declared.operator.Width.{Width}
use Rattle.jr_arith.specs.declared.operator.Width.TheVariants as width
use Rattle.jr_arith.specs.declared.operator.Binary.TheVariants as binary
use Rattle.jr_arith.specs.declared.operator.Arithmetic.TheVariants.{Add}
use Rattle.jr_arith.specs.Operators.{number}
use Rattle.jr_program.specs.Programs.{Program, Field, field_at, constructor_of}
use Rattle.jr_program.specs.Programs.{Expr, Number, Truth, Null, This, ClassObject, Read, LengthOf, Convert, Unary, Binary, And, Or, Choice, Assign, Compound, PrefixIncrement, PostfixIncrement, ResultOf, NewObject, NewPlain, NewThread, NewArray}
use Rattle.jr_program.specs.Programs.{Variable, Local, StaticField, FieldOf, ElementOf, Call, CallStatic, CallOn, Exprs, no_more, and_then}
use Rattle.jr_program.specs.Slots.{slot_of}
use Rattle.jr_meaning.specs.Objects.{home_of}
use Rattle.jr_code.specs.Instructions.{Instruction, Push, Load, Store, Dup, Dup2, DupX1, DupX2, OneOperand, TwoOperands, ConvertTo, Jump, JumpNot, GetField, PutField, GetStatic, PutStatic, GetElement, PutElement, ArrayLength, Make, MakeArray, CallStaticMethod, CallMethodOn}

-- what the code of a method depends on: the program, whether the method is static, and how many variables it has
pub record Setting : Type 0 where
  pub program : Program
  pub is_static : Bool
  pub variables : ℕ

-- a variable's local: `this` comes first where the method isn't static
abbrev pub shift : Bool → ℕ
shift true = 0
shift false = 1

-- the local that holds the object of the monitor at this depth, behind the variables
abbrev pub hidden : Setting → ℕ → ℕ
hidden s depth = shift s.is_static + (s.variables + depth)

-- ---- variables

-- how a variable is read and written
pub data Access : Type 0 where
  OfLocal : (number : ℕ) → Access
  OfStatic : (at : Cell) (kind : SlotKind) → Access
  OfField : (slot : ℕ) (kind : SlotKind) → Access
  OfElement : (element : Elem) → Access

abbrev pub kind_of_field : Program → FieldId → SlotKind
kind_of_field program f = option_map_or (λ (field : Field). field.kind) (field_at program f) kinds.Int

abbrev pub access_of : Program → Variable → Access
access_of program (Local number) = OfLocal number
access_of program (StaticField f) = OfStatic (cell (home_of program f) (slot_of program f)) (kind_of_field program f)
access_of program (FieldOf e f) = OfField (slot_of program f) (kind_of_field program f)
access_of program (ElementOf element a i) = OfElement element

abbrev pub read_one : Setting → Access → Instruction
read_one s (OfLocal number) = Load (shift s.is_static + number)
read_one s (OfStatic at kind) = GetStatic at kind
read_one s (OfField slot kind) = GetField slot kind
read_one s (OfElement element) = GetElement element

abbrev pub write_one : Setting → Access → Instruction
write_one s (OfLocal number) = Store (shift s.is_static + number)
write_one s (OfStatic at kind) = PutStatic at kind
write_one s (OfField slot kind) = PutField slot kind
write_one s (OfElement element) = PutElement element

-- a copy of the value under the variable's operands
abbrev pub keep_one : Access → Instruction
keep_one (OfLocal number) = Dup
keep_one (OfStatic at kind) = Dup
keep_one (OfField slot kind) = DupX1
keep_one (OfElement element) = DupX2

-- a second copy of the variable's operands
abbrev pub copies : Access → List Instruction
copies (OfLocal number) = []
copies (OfStatic at kind) = []
copies (OfField slot kind) = Dup ∷ []
copies (OfElement element) = Dup2 ∷ []

abbrev pub copies_size : Access → ℕ
copies_size (OfLocal number) = 0
copies_size (OfStatic at kind) = 0
copies_size (OfField slot kind) = 1
copies_size (OfElement element) = 1

-- ---- expressions

-- a conversion where there is one
abbrev pub conversion : Bool → Width → List Instruction
conversion true w = ConvertTo w ∷ []
conversion false w = []

abbrev pub conversion_size : Bool → ℕ
conversion_size true = 1
conversion_size false = 0

-- one of two pieces, by a test
abbrev pub choice_size : ℕ → ℕ → ℕ → ℕ
choice_size test left right = test + 1 + left + 1 + right

abbrev pub choice_code : ℕ → ℕ → ℕ → List Instruction → List Instruction → List Instruction → List Instruction
choice_code at left right test_code left_code right_code =
    test_code ++ (JumpNot (at + 1 + left + 1) ∷ (left_code ++ (Jump (at + 1 + left + 1 + right) ∷ right_code)))

abbrev pub constructor_size : Option MethodId → ℕ → ℕ
constructor_size None arguments = 0
constructor_size (Some m) arguments = 1 + arguments + 1

abbrev pub constructor_code : Option MethodId → List Instruction → List Instruction
constructor_code None arguments = []
constructor_code (Some m) arguments = Dup ∷ (arguments ++ CallMethodOn m ∷ [])

abbrev mutual
  pub expr_size : Program → Expr → ℕ
  expr_size program (Number w n) = 1
  expr_size program (Truth b) = 1
  expr_size program Null = 1
  expr_size program This = 1
  expr_size program (ClassObject class) = 1
  expr_size program (Read v) = spot_size program v + 1
  expr_size program (LengthOf e) = expr_size program e + 1
  expr_size program (Convert w e) = expr_size program e + 1
  expr_size program (Unary operator e) = expr_size program e + 1
  expr_size program (Binary operator a b) = expr_size program a + expr_size program b + 1
  expr_size program (And a b) = choice_size (expr_size program a) (expr_size program b) 1
  expr_size program (Or a b) = choice_size (expr_size program a) 1 (expr_size program b)
  expr_size program (Choice c a b) = choice_size (expr_size program c) (expr_size program a) (expr_size program b)
  expr_size program (Assign v e) = spot_size program v + expr_size program e + 2
  expr_size program (Compound operator narrows v e) =
      spot_size program v + copies_size (access_of program v) + 1 + conversion_size narrows + expr_size program e + 1 + conversion_size narrows + 2
  expr_size program (PrefixIncrement w v by) = spot_size program v + copies_size (access_of program v) + 5
  expr_size program (PostfixIncrement w v by) = spot_size program v + copies_size (access_of program v) + 5
  expr_size program (ResultOf c) = call_size program c
  expr_size program (NewObject class es) = 1 + constructor_size (constructor_of program class) (exprs_size program es)
  expr_size program NewPlain = 1
  expr_size program (NewThread e) = 2 + expr_size program e + 1
  expr_size program (NewArray element e) = expr_size program e + 1

  -- the operands of a variable
  pub spot_size : Program → Variable → ℕ
  spot_size program (Local number) = 0
  spot_size program (StaticField f) = 0
  spot_size program (FieldOf e f) = expr_size program e
  spot_size program (ElementOf element a i) = expr_size program a + expr_size program i

  pub call_size : Program → Call → ℕ
  call_size program (CallStatic m es) = exprs_size program es + 1
  call_size program (CallOn e m es) = expr_size program e + exprs_size program es + 1

  pub exprs_size : Program → Exprs → ℕ
  exprs_size program no_more = 0
  exprs_size program (and_then e es) = expr_size program e + exprs_size program es

abbrev pub this_one : Bool → Instruction
this_one true = Push values.Null
this_one false = Load 0

abbrev mutual
  -- the instructions of an expression that stand from this place on
  pub expr_code : Setting → Expr → ℕ → List Instruction
  expr_code s (Number w n) at = Push (number w n) ∷ []
  expr_code s (Truth b) at = Push (values.Bool b) ∷ []
  expr_code s Null at = Push values.Null ∷ []
  expr_code s This at = this_one s.is_static ∷ []
  expr_code s (ClassObject class) at = Push (values.Ref (class_object class)) ∷ []
  expr_code s (Read v) at = spot_code s v at ++ read_one s (access_of s.program v) ∷ []
  expr_code s (LengthOf e) at = expr_code s e at ++ ArrayLength ∷ []
  expr_code s (Convert w e) at = expr_code s e at ++ ConvertTo w ∷ []
  expr_code s (Unary operator e) at = expr_code s e at ++ OneOperand operator ∷ []
  expr_code s (Binary operator a b) at = expr_code s a at ++ (expr_code s b (at + expr_size s.program a) ++ TwoOperands operator ∷ [])
  expr_code s (And a b) at =
      let at1 = at + expr_size s.program a in
      choice_code at1 (expr_size s.program b) 1 (expr_code s a at) (expr_code s b (at1 + 1)) (Push (values.Bool false) ∷ [])
  expr_code s (Or a b) at =
      let at1 = at + expr_size s.program a in
      choice_code at1 1 (expr_size s.program b) (expr_code s a at) (Push (values.Bool true) ∷ []) (expr_code s b (at1 + 1 + 1 + 1))
  expr_code s (Choice c a b) at =
      let at1 = at + expr_size s.program c in
      choice_code at1 (expr_size s.program a) (expr_size s.program b) (expr_code s c at) (expr_code s a (at1 + 1)) (expr_code s b (at1 + 1 + expr_size s.program a + 1))
  expr_code s (Assign v e) at =
      spot_code s v at ++ (expr_code s e (at + spot_size s.program v) ++ (keep_one (access_of s.program v) ∷ (write_one s (access_of s.program v) ∷ [])))
  expr_code s (Compound operator narrows v e) at =
      let access = access_of s.program v in
      spot_code s v at ++ (copies access ++ (read_one s access ∷ (conversion narrows width.Long
      ++ (expr_code s e (at + spot_size s.program v + copies_size access + 1 + conversion_size narrows)
      ++ (TwoOperands operator ∷ (conversion narrows width.Int ++ (keep_one access ∷ (write_one s access ∷ []))))))))
  expr_code s (PrefixIncrement w v by) at =
      let access = access_of s.program v in
      spot_code s v at ++ (copies access ++ (read_one s access ∷ (Push (number w by) ∷ (TwoOperands (binary.Arithmetic Add w) ∷ (keep_one access ∷ (write_one s access ∷ []))))))
  expr_code s (PostfixIncrement w v by) at =
      let access = access_of s.program v in
      spot_code s v at ++ (copies access ++ (read_one s access ∷ (keep_one access ∷ (Push (number w by) ∷ (TwoOperands (binary.Arithmetic Add w) ∷ (write_one s access ∷ []))))))
  expr_code s (ResultOf c) at = call_code s c at
  expr_code s (NewObject class es) at = Make (made.Object class) ∷ constructor_code (constructor_of s.program class) (exprs_code s es (at + 1 + 1))
  expr_code s NewPlain at = Make made.Plain ∷ []
  expr_code s (NewThread e) at = Make made.Thread ∷ (Dup ∷ (expr_code s e (at + 1 + 1) ++ PutField 0 kinds.Ref ∷ []))
  expr_code s (NewArray element e) at = expr_code s e at ++ MakeArray element ∷ []

  pub spot_code : Setting → Variable → ℕ → List Instruction
  spot_code s (Local number) at = []
  spot_code s (StaticField f) at = []
  spot_code s (FieldOf e f) at = expr_code s e at
  spot_code s (ElementOf element a i) at = expr_code s a at ++ expr_code s i (at + expr_size s.program a)

  pub call_code : Setting → Call → ℕ → List Instruction
  call_code s (CallStatic m es) at = exprs_code s es at ++ CallStaticMethod m ∷ []
  call_code s (CallOn e m es) at = expr_code s e at ++ (exprs_code s es (at + expr_size s.program e) ++ CallMethodOn m ∷ [])

  pub exprs_code : Setting → Exprs → ℕ → List Instruction
  exprs_code s no_more at = []
  exprs_code s (and_then e es) at = expr_code s e at ++ exprs_code s es (at + expr_size s.program e)
