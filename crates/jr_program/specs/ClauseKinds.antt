-- The kinds of the expressions of clauses, and what a clause of each kind states (JML Reference Manual, "Predicates
-- and Specification Expressions").
use Rattle.std.specs.Prelude.{◌≡◌, ◌≢◌, ◌<◌, ◌+◌, ℕ, Bool, true, false, List, [], ◌∷◌, Option, Some, None, slice_get, length}
use Rattle.jr_base.specs.declared.number.ClassId.{ClassId}
use Rattle.jr_base.specs.declared.number.FieldId.{FieldId}
use Rattle.jr_base.specs.declared.value.Cell.{Cell}
use Rattle.jr_base.specs.declared.kind.SlotKind.{SlotKind}
use Rattle.jr_base.specs.declared.kind.SlotKind.TheVariants.{Int, Bool as Boolean, Ref, Caught}
use Rattle.jr_arith.specs.Arithmetic.{fits}
use Rattle.jr_arith.specs.Kinds.{kind_of_width, kind_converted, unary_kind, left_kind, right_kind, result_kind}
use Rattle.jr_program.specs.declared.words.ClauseKind.{ClauseKind}
use Rattle.jr_program.specs.declared.words.ClauseKind.TheVariants.{Locks, MonitorsFor, Atomic}
use Rattle.jr_program.specs.Clauses.{Spec, Number, Truth, Null, This, Variable, Bound, Result, StaticField, FieldOf, ElementOf, LengthOf, ClassObject, Convert, Unary, Binary, And, Or, Choice, Implies, ImpliedBy, Old, InLockset, Quantified}
use Rattle.jr_program.specs.Programs.{Program, Field, field_at, class_object}
use Rattle.jr_program.specs.Slots.{slot_of}

-- ---- what numbers name

abbrev pub IsClass : Program → ClassId → Type 0
IsClass program class = class.0 < length program.classes

-- a field of the program, static or not, whose values are of that kind
abbrev pub IsField : Program → FieldId → Bool → SlotKind → Type 0
IsField program f static k = (field : Field) × (field_at program f ≡ Some field) × (field.is_static ≡ static) × (field.kind ≡ k) × (k ≢ Caught)

-- the cell of a static field, on its class's object
abbrev pub IsCellOf : Program → FieldId → Cell → Type 0
IsCellOf program f at = (field : Field) × (field_at program f ≡ Some field) × (at ≡ record { obj = class_object field.class; slot = slot_of program f })

-- a variable that holds values of that kind
abbrev pub IsVariable : List SlotKind → ℕ → SlotKind → Type 0
IsVariable kinds number k = (slice_get kinds number ≡ Some k) × (k ≢ Caught)

-- ---- expressions

-- What stands around an expression of a clause: the program; whether there is no `this`; the kinds of the variables
-- that it may name; the kind of `\result`, where it may stand; whether `\old` may stand; whether it stands in an
-- `\old`; and how many quantifiers are around it.
pub record ClauseScope : Type 0 where
  pub program : Program
  pub is_static : Bool
  pub variables : List SlotKind
  pub result : Option SlotKind
  pub looks_back : Bool
  pub is_in_old : Bool
  pub quantifiers : ℕ

-- in `\old` neither `\result` nor another `\old` nor `\lockset` may stand
abbrev pub in_old : ClauseScope → ClauseScope
in_old s = record s { result = None; looks_back = false; is_in_old = true }

abbrev pub in_quantifier : ClauseScope → ClauseScope
in_quantifier s = record s { quantifiers = s.quantifiers + 1 }

-- how deep quantifiers may stand in one another
abbrev pub deepest_quantifier : ℕ
deepest_quantifier = 2

-- The expression has a value of that kind. The plain data doesn't tell which kind an array's elements have, so
-- `a[i]` may stand for a value of any.
abbrev pub SpecHas : ClauseScope → Spec → SlotKind → Type 0
SpecHas s (Number w n) k = (k ≡ kind_of_width w) × (fits w n ≡ true)
SpecHas s (Truth b) k = k ≡ Boolean
SpecHas s Null k = k ≡ Ref
SpecHas s This k = (s.is_static ≡ false) × (k ≡ Ref)
SpecHas s (Variable number) k = IsVariable s.variables number k
SpecHas s (Bound depth) k = (depth < s.quantifiers) × (k ≡ Int)
SpecHas s Result k = (s.result ≡ Some k) × (k ≢ Caught)
SpecHas s (StaticField f at) k = IsField s.program f true k × IsCellOf s.program f at
SpecHas s (FieldOf e f slot) k = SpecHas s e Ref × IsField s.program f false k × (slot ≡ slot_of s.program f)
SpecHas s (ElementOf a i) k = SpecHas s a Ref × SpecHas s i Int × (k ≢ Caught)
SpecHas s (LengthOf a) k = SpecHas s a Ref × (k ≡ Int)
SpecHas s (ClassObject class) k = IsClass s.program class × (k ≡ Ref)
SpecHas s (Convert w e) k = SpecHas s e (kind_converted w) × (k ≡ kind_of_width w)
SpecHas s (Unary operator e) k = SpecHas s e (unary_kind operator) × (k ≡ unary_kind operator)
SpecHas s (Binary operator a b) k = SpecHas s a (left_kind operator) × SpecHas s b (right_kind operator) × (k ≡ result_kind operator)
SpecHas s (And a b) k = SpecHas s a Boolean × SpecHas s b Boolean × (k ≡ Boolean)
SpecHas s (Or a b) k = SpecHas s a Boolean × SpecHas s b Boolean × (k ≡ Boolean)
SpecHas s (Choice c a b) k = SpecHas s c Boolean × SpecHas s a k × SpecHas s b k
SpecHas s (Implies a b) k = SpecHas s a Boolean × SpecHas s b Boolean × (k ≡ Boolean)
SpecHas s (ImpliedBy a b) k = SpecHas s a Boolean × SpecHas s b Boolean × (k ≡ Boolean)
SpecHas s (Old e) k = (s.looks_back ≡ true) × SpecHas (in_old s) e k
SpecHas s (InLockset e) k = (s.is_in_old ≡ false) × SpecHas s e Ref × (k ≡ Boolean)
SpecHas s (Quantified quantifier low low_bound high high_bound conjuncts body) k =
    (s.quantifiers < deepest_quantifier) × SpecHas s low Int × SpecHas s high Int
    × SpecHas (in_quantifier s) conjuncts Boolean × SpecHas (in_quantifier s) body Boolean × (k ≡ Boolean)

-- ---- clauses

abbrev pub AreReferences : ClauseScope → List Spec → Type 0
AreReferences s [] = Unit {0}
AreReferences s (e ∷ es) = SpecHas s e Ref × AreReferences s es

abbrev pub IsCondition : ClauseScope → List Spec → Type 0
IsCondition s [] = ⊥
IsCondition s (e ∷ []) = SpecHas s e Boolean
IsCondition s (e ∷ _ ∷ es) = ⊥

-- `locks` and `monitors_for` state references, `atomic` nothing, and each other clause one condition
abbrev pub StatesFit : ClauseScope → ClauseKind → List Spec → Type 0
StatesFit s Locks es = AreReferences s es
StatesFit s MonitorsFor es = AreReferences s es
StatesFit s Atomic es = es ≡ []
StatesFit s _ es = IsCondition s es
