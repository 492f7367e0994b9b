-- The values of expressions are of no catch's kind.
use Rattle.std.proofs.Common.{◌≡◌, ◌≢◌, List, [], ◌∷◌, map, length, Some, refl, sym, ◌∙◌, arith}
use Rattle.jr_base.specs.declared.number.MethodId.{MethodId}
use Rattle.jr_base.specs.declared.action.Elem.{Elem}
use Rattle.jr_base.specs.declared.action.Elem.TheVariants as elements
use Rattle.jr_base.specs.declared.kind.SlotKind.{SlotKind}
use Rattle.jr_base.specs.declared.kind.SlotKind.TheVariants.{Int, Bool as Boolean, Ref as Reference, Caught as CaughtKind}
use Rattle.jr_arith.specs.declared.operator.Width.{Width}
use Rattle.jr_arith.specs.declared.operator.Width.TheVariants as width
use Rattle.jr_arith.specs.declared.operator.Unary.{Unary as UnaryOperator}
use Rattle.jr_arith.specs.declared.operator.Unary.TheVariants as unary
use Rattle.jr_arith.specs.declared.operator.Binary.{Binary as BinaryOperator}
use Rattle.jr_arith.specs.declared.operator.Binary.TheVariants as binary
use Rattle.jr_arith.specs.Kinds.{kind_of_element, kind_of_width, unary_kind, result_kind}
use Rattle.jr_program.specs.Programs.{Program, Method, method_at}
use Rattle.jr_program.specs.Programs.{Expr, Number, Truth, Null, This, ClassObject, Read, LengthOf, Convert, Unary, Binary, And, Or, Choice, Assign, Compound, PrefixIncrement, PostfixIncrement, ResultOf, NewObject, NewPlain, NewThread, NewArray}
use Rattle.jr_program.specs.Programs.{Variable, Local, StaticField, FieldOf, ElementOf, Call, CallStatic, CallOn, Part, Literal, Shown}
use Rattle.jr_program.specs.WellFormed.{Scope, HasKind, VariableHas, CallHas, PartsFit}
use Rattle.jr_code.specs.Machine.{values_printed}
use Rattle.jr_code.specs.Checked.{NoneCaught}
use Rattle.jr_lowering.specs.StatementCode.{text_of_part}
use Rattle.jr_lowering.proofs.Shapes.{parts_kinds}

element_value : (e : Elem) → kind_of_element e ≢ CaughtKind
element_value elements.Int = λ e. cc
element_value elements.Long = λ e. cc
element_value elements.Bool = λ e. cc
element_value elements.Object = λ e. cc
element_value elements.Thread = λ e. cc
element_value elements.Runnable = λ e. cc
element_value (elements.Class c) = λ e. cc

width_value : (w : Width) → kind_of_width w ≢ CaughtKind
width_value width.Int = λ e. cc
width_value width.Long = λ e. cc

unary_is_value : (o : UnaryOperator) → unary_kind o ≢ CaughtKind
unary_is_value (unary.Negate w) = width_value w
unary_is_value (unary.Complement w) = width_value w
unary_is_value unary.Not = λ e. cc

binary_is_value : (o : BinaryOperator) → result_kind o ≢ CaughtKind
binary_is_value (binary.Arithmetic o w) = width_value w
binary_is_value (binary.Bitwise o w) = width_value w
binary_is_value (binary.Shift o w) = width_value w
binary_is_value (binary.Compare o w) = λ e. cc
binary_is_value binary.BothTrue = λ e. cc
binary_is_value binary.EitherTrue = λ e. cc
binary_is_value binary.Differ = λ e. cc
binary_is_value binary.Agree = λ e. cc
binary_is_value binary.SameReference = λ e. cc
binary_is_value binary.OtherReference = λ e. cc

int_value : (k : SlotKind) → k ≡ Int → k ≢ CaughtKind
int_value k e f = cc

boolean_value : (k : SlotKind) → k ≡ Boolean → k ≢ CaughtKind
boolean_value k e f = cc

reference_value : (k : SlotKind) → k ≡ Reference → k ≢ CaughtKind
reference_value k e f = cc

like : (j k : SlotKind) → k ≡ j → j ≢ CaughtKind → k ≢ CaughtKind
like j k e n f = n (sym e ∙ f)

-- the results of methods are values
abbrev pub ResultsAreValues : Program → Type 0
ResultsAreValues program = (m : MethodId) (method : Method) → method_at program m ≡ Some method → (k : SlotKind) → method.result ≡ Some k → k ≢ CaughtKind

variable_value : (s : Scope) (v : Variable) (k : SlotKind) → VariableHas s v k → k ≢ CaughtKind
variable_value s (Local number) k has = has.1
variable_value s (StaticField f) k has = has.4
variable_value s (FieldOf e f) k has = has.1.4
variable_value s (ElementOf element a i) k has = like (kind_of_element element) k has.2 (element_value element)

call_value : (s : Scope) → ResultsAreValues s.program → (c : Call) (k : SlotKind) → CallHas s c (Some k) → k ≢ CaughtKind
call_value s results (CallStatic m es) k has = results m has.0 has.1 k has.3
call_value s results (CallOn e m es) k has = results m has.0 has.1 k has.3

is_value : (s : Scope) → ResultsAreValues s.program → (e : Expr) (k : SlotKind) → HasKind s e k → k ≢ CaughtKind
is_value s results (Number w n) k has = like (kind_of_width w) k has.0 (width_value w)
is_value s results (Truth b) k has = boolean_value k has
is_value s results Null k has = reference_value k has
is_value s results This k has = reference_value k has.1
is_value s results (ClassObject class) k has = reference_value k has.1
is_value s results (Read v) k has = variable_value s v k has
is_value s results (LengthOf e) k has = int_value k has.1
is_value s results (Convert w e) k has = like (kind_of_width w) k has.1 (width_value w)
is_value s results (Unary operator e) k has = like (unary_kind operator) k has.1 (unary_is_value operator)
is_value s results (Binary operator a b) k has = like (result_kind operator) k has.2 (binary_is_value operator)
is_value s results (And a b) k has = boolean_value k has.2
is_value s results (Or a b) k has = boolean_value k has.2
is_value s results (Choice c a b) k has = is_value s results a k has.1
is_value s results (Assign v e) k has = variable_value s v k has.0
is_value s results (Compound operator narrows v e) k has = variable_value s v k has.0
is_value s results (PrefixIncrement w v by) k has = variable_value s v k has.0
is_value s results (PostfixIncrement w v by) k has = variable_value s v k has.0
is_value s results (ResultOf c) k has = call_value s results c k has
is_value s results (NewObject class es) k has = reference_value k has.1
is_value s results NewPlain k has = reference_value k has
is_value s results (NewThread e) k has = reference_value k has.1
is_value s results (NewArray element e) k has = reference_value k has.1

pub parts_values : (s : Scope) → ResultsAreValues s.program → (parts : List Part) (has : PartsFit s parts) → NoneCaught (parts_kinds s parts has)
parts_values s results [] has = tt
parts_values s results (Literal text ∷ parts) has = parts_values s results parts has.1
parts_values s results (Shown e ∷ parts) has = (is_value s results e has.0.0 has.0.1, parts_values s results parts has.1)

pub parts_count : (s : Scope) (parts : List Part) (has : PartsFit s parts) → length (parts_kinds s parts has) ≡ values_printed (map text_of_part parts)
parts_count s [] has = refl
parts_count s (Literal text ∷ parts) has = parts_count s parts has.1
parts_count s (Shown e ∷ parts) has = omega (arith, parts_count s parts has.1)
