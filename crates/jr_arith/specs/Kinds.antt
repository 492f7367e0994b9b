-- What operators take and give (JLS 15.15 to 15.22).
use Rattle.jr_base.specs.declared.kind.SlotKind.{SlotKind}
use Rattle.jr_base.specs.declared.kind.SlotKind.TheVariants as kinds
use Rattle.jr_base.specs.declared.action.Elem.{Elem}
use Rattle.jr_base.specs.declared.action.Elem.TheVariants as elements
use Rattle.jr_arith.specs.declared.operator.Width.{Width}
use Rattle.jr_arith.specs.declared.operator.Width.TheVariants as width
use Rattle.jr_arith.specs.declared.operator.Unary.{Unary}
use Rattle.jr_arith.specs.declared.operator.Unary.TheVariants.{Negate, Complement, Not}
use Rattle.jr_arith.specs.declared.operator.Binary.{Binary}
use Rattle.jr_arith.specs.declared.operator.Binary.TheVariants.{Arithmetic, Bitwise, Shift, Compare, BothTrue, EitherTrue, Differ, Agree, SameReference, OtherReference}

abbrev pub kind_of_element : Elem → SlotKind
kind_of_element elements.Int = kinds.Int
kind_of_element elements.Long = kinds.Long
kind_of_element elements.Bool = kinds.Bool
kind_of_element _ = kinds.Ref

abbrev pub kind_of_width : Width → SlotKind
kind_of_width width.Int = kinds.Int
kind_of_width width.Long = kinds.Long

-- the kind of what is converted to that width
abbrev pub kind_converted : Width → SlotKind
kind_converted width.Int = kinds.Long
kind_converted width.Long = kinds.Int

-- the kind of the operand and of the result
abbrev pub unary_kind : Unary → SlotKind
unary_kind (Negate w) = kind_of_width w
unary_kind (Complement w) = kind_of_width w
unary_kind Not = kinds.Bool

-- the kinds of both operands: a shift's distance is an int
abbrev pub left_kind : Binary → SlotKind
left_kind (Arithmetic operator w) = kind_of_width w
left_kind (Bitwise operator w) = kind_of_width w
left_kind (Shift operator w) = kind_of_width w
left_kind (Compare operator w) = kind_of_width w
left_kind BothTrue = kinds.Bool
left_kind EitherTrue = kinds.Bool
left_kind Differ = kinds.Bool
left_kind Agree = kinds.Bool
left_kind SameReference = kinds.Ref
left_kind OtherReference = kinds.Ref

abbrev pub right_kind : Binary → SlotKind
right_kind (Shift operator w) = kinds.Int
right_kind operator = left_kind operator

abbrev pub result_kind : Binary → SlotKind
result_kind (Arithmetic operator w) = kind_of_width w
result_kind (Bitwise operator w) = kind_of_width w
result_kind (Shift operator w) = kind_of_width w
result_kind _ = kinds.Bool
