-- The coded form: numbered rows with arguments that are places in tables, and the plain instructions that they are.
use Rattle.std.specs.Prelude.{ℕ, ℤ, true, false, ◌≡◌, ◌++◌, List, [], ◌∷◌, Option, slice_get, slice_index_or}
use Rattle.std.specs.Option.{option_map_or}
use Rattle.std.specs.Int.{w32, cast_signed}
use Rattle.jr_base.specs.declared.number.ClassId.{ClassId}
use Rattle.jr_base.specs.declared.number.ClauseId.{ClauseId}
use Rattle.jr_base.specs.declared.number.ObjId.{ObjId}
use Rattle.jr_base.specs.declared.number.TextId.{TextId}
use Rattle.jr_base.specs.declared.action.Elem.{Elem}
use Rattle.jr_base.specs.declared.action.NewKind.{NewKind}
use Rattle.jr_base.specs.declared.value.Value.TheVariants as values
use Rattle.jr_base.specs.declared.finish.Fault.{Fault}
use Rattle.jr_base.specs.declared.kind.SlotKind.{SlotKind}
use Rattle.jr_arith.specs.declared.operator.Width.{Width}
use Rattle.jr_arith.specs.declared.operator.Width.TheVariants.{Int, Long}
use Rattle.jr_arith.specs.declared.operator.Unary.{Unary as UnaryOperator}
use Rattle.jr_arith.specs.declared.operator.Unary.TheVariants.{Negate, Complement, Not}
use Rattle.jr_arith.specs.declared.operator.Arithmetic.TheVariants.{Add, Subtract, Multiply, Divide, Remainder}
use Rattle.jr_arith.specs.declared.operator.Bitwise.TheVariants.{And, Or, Xor}
use Rattle.jr_arith.specs.declared.operator.Shift.TheVariants.{Left, Right, RightUnsigned}
use Rattle.jr_arith.specs.declared.operator.Comparison.TheVariants.{Less, LessEqual, Greater, GreaterEqual, Equal, NotEqual}
use Rattle.jr_arith.specs.declared.operator.Binary.{Binary as BinaryOperator}
use Rattle.jr_arith.specs.declared.operator.Binary.TheVariants as binary
use Rattle.jr_base.specs.declared.kind.ObjectCall.TheVariants.{Wait, Notify, NotifyAll, Start, Join}
use Rattle.jr_base.specs.Threads.{class_object, cell}
use Rattle.jr_code.specs.declared.instr.Instr.{Instr}
use Rattle.jr_code.specs.Instructions.{Instruction, Push, Load, Store, Pop, Dup, Dup2, DupX1, DupX2, OneOperand, TwoOperands, ConvertTo, Jump, JumpIf, JumpNot, BackTo, GetField, PutField, GetStatic, PutStatic, GetElement, PutElement, ArrayLength, Make, MakeArray, EnterMonitor, ExitMonitor, OnObject, WaitForTime, SleepFor, YieldNow, CallStaticMethod, CallMethodOn, ReturnNothing, ReturnTop, CommitNow, AssertThat, PrintAll, ThrowNew, ThrowLocal, Unknown}

-- a field: the class object of a static one, its slot and its kind. Slot 0 of a `Thread` stands behind the program's.
pub record FieldCode : Type 0 where
  pub home : Option ObjId
  pub slot : ℕ
  pub kind : SlotKind

pub record AssertCode : Type 0 where
  pub clause : ClauseId
  pub scope : List ℕ

pub record Tables : Type 0 where
  pub longs : List ℤ
  pub fields : List FieldCode
  pub classes : List ClassId
  pub makes : List NewKind
  pub elems : List Elem
  pub faults : List Fault
  pub prints : List (List (Option TextId))
  pub asserts : List AssertCode

abbrev pub instance_field : (ℕ → SlotKind → Instruction) → FieldCode → Instruction
instance_field row f = option_map_or (λ home. Unknown) f.home (row f.slot f.kind)

abbrev pub static_field : (ObjId → ℕ → SlotKind → Instruction) → FieldCode → Instruction
static_field row f = option_map_or (λ home. row home f.slot f.kind) f.home Unknown

abbrev pub entry : {A : Type 0} → (A → Instruction) → List A → ℕ → Instruction
entry row table arg = option_map_or row (slice_get table arg) Unknown

-- the rows 1 to 93 with this argument
abbrev pub rows : Tables → ℕ → List Instruction
rows t arg =
    -- 1 to 7: int n, true, false, null, class c, load l, store l
    Push (values.Int (cast_signed w32 arg)) ∷ Push (values.Bool true) ∷ Push (values.Bool false) ∷ Push values.Null
    ∷ entry (λ c. Push (values.Ref (class_object c))) t.classes arg ∷ Load arg ∷ Store arg
    -- 8 to 12: pop, dup, dup2, dupx1, dupx2
    ∷ Pop ∷ Dup ∷ Dup2 ∷ DupX1 ∷ DupX2
    -- 13 to 19: add, sub, mul, div, rem, neg, inv
    ∷ TwoOperands (binary.Arithmetic Add Int) ∷ TwoOperands (binary.Arithmetic Subtract Int) ∷ TwoOperands (binary.Arithmetic Multiply Int)
    ∷ TwoOperands (binary.Arithmetic Divide Int) ∷ TwoOperands (binary.Arithmetic Remainder Int)
    ∷ OneOperand (Negate Int) ∷ OneOperand (Complement Int)
    -- 20 to 25: and, or, xor, shl, shr, ushr
    ∷ TwoOperands (binary.Bitwise And Int) ∷ TwoOperands (binary.Bitwise Or Int) ∷ TwoOperands (binary.Bitwise Xor Int)
    ∷ TwoOperands (binary.Shift Left Int) ∷ TwoOperands (binary.Shift Right Int) ∷ TwoOperands (binary.Shift RightUnsigned Int)
    -- 26 to 29: not, band, bor, bxor
    ∷ OneOperand Not ∷ TwoOperands binary.BothTrue ∷ TwoOperands binary.EitherTrue ∷ TwoOperands binary.Differ
    -- 30 to 35: lt, le, gt, ge, eq, ne
    ∷ TwoOperands (binary.Compare Less Int) ∷ TwoOperands (binary.Compare LessEqual Int) ∷ TwoOperands (binary.Compare Greater Int)
    ∷ TwoOperands (binary.Compare GreaterEqual Int) ∷ TwoOperands (binary.Compare Equal Int) ∷ TwoOperands (binary.Compare NotEqual Int)
    -- 36 to 39: beq, bne, req, rne
    ∷ TwoOperands binary.Agree ∷ TwoOperands binary.Differ ∷ TwoOperands binary.SameReference ∷ TwoOperands binary.OtherReference
    -- 40 to 43: jump t, jumpif t, jumpnot t, back t
    ∷ Jump arg ∷ JumpIf arg ∷ JumpNot arg ∷ BackTo arg
    -- 44 to 47: getfield f, putfield f, getstatic f, putstatic f
    ∷ entry (instance_field GetField) t.fields arg ∷ entry (instance_field PutField) t.fields arg
    ∷ entry (static_field (λ home slot kind. GetStatic (cell home slot) kind)) t.fields arg
    ∷ entry (static_field (λ home slot kind. PutStatic (cell home slot) kind)) t.fields arg
    -- 48 to 52: getelem k, putelem k, arraylen, new c, newarray k
    ∷ entry GetElement t.elems arg ∷ entry PutElement t.elems arg ∷ ArrayLength ∷ entry Make t.makes arg ∷ entry MakeArray t.elems arg
    -- 53 to 61: enter, exit, wait, notify, notifyall, start, join, sleep, yield
    ∷ EnterMonitor ∷ ExitMonitor ∷ OnObject Wait ∷ OnObject Notify ∷ OnObject NotifyAll ∷ OnObject Start ∷ OnObject Join ∷ SleepFor ∷ YieldNow
    -- 62 to 65: callstatic m, callon m, return, returnvalue
    ∷ CallStaticMethod (record { 0 = arg }) ∷ CallMethodOn (record { 0 = arg }) ∷ ReturnNothing ∷ ReturnTop
    -- 66 to 70: commit, assert k, print p, throw e, throwlocal l
    ∷ CommitNow ∷ entry (λ a. AssertThat a.clause a.scope) t.asserts arg ∷ entry PrintAll t.prints arg ∷ entry ThrowNew t.faults arg ∷ ThrowLocal arg
    -- 71, 72: long p, widen
    ∷ entry (λ n. Push (values.Long n)) t.longs arg ∷ ConvertTo Long
    -- 73 to 79: ladd, lsub, lmul, ldiv, lrem, lneg, linv
    ∷ TwoOperands (binary.Arithmetic Add Long) ∷ TwoOperands (binary.Arithmetic Subtract Long) ∷ TwoOperands (binary.Arithmetic Multiply Long)
    ∷ TwoOperands (binary.Arithmetic Divide Long) ∷ TwoOperands (binary.Arithmetic Remainder Long)
    ∷ OneOperand (Negate Long) ∷ OneOperand (Complement Long)
    -- 80 to 85: land, lor, lxor, lshl, lshr, lushr
    ∷ TwoOperands (binary.Bitwise And Long) ∷ TwoOperands (binary.Bitwise Or Long) ∷ TwoOperands (binary.Bitwise Xor Long)
    ∷ TwoOperands (binary.Shift Left Long) ∷ TwoOperands (binary.Shift Right Long) ∷ TwoOperands (binary.Shift RightUnsigned Long)
    -- 86 to 91: llt, lle, lgt, lge, leq, lne
    ∷ TwoOperands (binary.Compare Less Long) ∷ TwoOperands (binary.Compare LessEqual Long) ∷ TwoOperands (binary.Compare Greater Long)
    ∷ TwoOperands (binary.Compare GreaterEqual Long) ∷ TwoOperands (binary.Compare Equal Long) ∷ TwoOperands (binary.Compare NotEqual Long)
    -- 92, 93: low, waitfor
    ∷ ConvertTo Int ∷ WaitForTime ∷ []

-- the instruction that a coded one is
abbrev pub plain : Tables → Instr → Instruction
plain t i = slice_index_or (Unknown ∷ rows t i.arg) i.code Unknown

-- the number of an operator's row; `^` and `!=` of booleans are one operator
abbrev pub row_of_binary : BinaryOperator → ℕ
row_of_binary (binary.Arithmetic Add Int) = 13
row_of_binary (binary.Arithmetic Subtract Int) = 14
row_of_binary (binary.Arithmetic Multiply Int) = 15
row_of_binary (binary.Arithmetic Divide Int) = 16
row_of_binary (binary.Arithmetic Remainder Int) = 17
row_of_binary (binary.Arithmetic Add Long) = 73
row_of_binary (binary.Arithmetic Subtract Long) = 74
row_of_binary (binary.Arithmetic Multiply Long) = 75
row_of_binary (binary.Arithmetic Divide Long) = 76
row_of_binary (binary.Arithmetic Remainder Long) = 77
row_of_binary (binary.Bitwise And Int) = 20
row_of_binary (binary.Bitwise Or Int) = 21
row_of_binary (binary.Bitwise Xor Int) = 22
row_of_binary (binary.Shift Left Int) = 23
row_of_binary (binary.Shift Right Int) = 24
row_of_binary (binary.Shift RightUnsigned Int) = 25
row_of_binary (binary.Bitwise And Long) = 80
row_of_binary (binary.Bitwise Or Long) = 81
row_of_binary (binary.Bitwise Xor Long) = 82
row_of_binary (binary.Shift Left Long) = 83
row_of_binary (binary.Shift Right Long) = 84
row_of_binary (binary.Shift RightUnsigned Long) = 85
row_of_binary (binary.Compare Less Int) = 30
row_of_binary (binary.Compare LessEqual Int) = 31
row_of_binary (binary.Compare Greater Int) = 32
row_of_binary (binary.Compare GreaterEqual Int) = 33
row_of_binary (binary.Compare Equal Int) = 34
row_of_binary (binary.Compare NotEqual Int) = 35
row_of_binary (binary.Compare Less Long) = 86
row_of_binary (binary.Compare LessEqual Long) = 87
row_of_binary (binary.Compare Greater Long) = 88
row_of_binary (binary.Compare GreaterEqual Long) = 89
row_of_binary (binary.Compare Equal Long) = 90
row_of_binary (binary.Compare NotEqual Long) = 91
row_of_binary binary.BothTrue = 27
row_of_binary binary.EitherTrue = 28
row_of_binary binary.Differ = 29
row_of_binary binary.Agree = 36
row_of_binary binary.SameReference = 38
row_of_binary binary.OtherReference = 39

abbrev pub row_of_unary : UnaryOperator → ℕ
row_of_unary (Negate Int) = 18
row_of_unary (Complement Int) = 19
row_of_unary (Negate Long) = 78
row_of_unary (Complement Long) = 79
row_of_unary Not = 26

abbrev pub row_of_conversion : Width → ℕ
row_of_conversion Long = 72
row_of_conversion Int = 92

-- a table that has grown at its end
pub record Begins {A : Type 0} (xs ys : List A) : Type 0 where
  pub more : List A
  pub split : ys ≡ xs ++ more

pub record Grows (t u : Tables) : Type 0 where
  pub longs : Begins t.longs u.longs
  pub fields : Begins t.fields u.fields
  pub classes : Begins t.classes u.classes
  pub makes : Begins t.makes u.makes
  pub elems : Begins t.elems u.elems
  pub faults : Begins t.faults u.faults
  pub prints : Begins t.prints u.prints
  pub asserts : Begins t.asserts u.asserts
