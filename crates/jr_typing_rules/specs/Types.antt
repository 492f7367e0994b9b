-- Types (JLS 4).
use Rattle.std.specs.Prelude.{Bool, true, false, ◌==◌, not, ◌||◌, Option, Some, None, is_some}
use Rattle.jr_base.specs.declared.action.Elem.{Elem}
use Rattle.jr_base.specs.declared.action.Elem.TheVariants as elem
use Rattle.jr_typing_rules.specs.declared.words.ValueType.{ValueType}
use Rattle.jr_typing_rules.specs.declared.words.ValueType.TheVariants.{Null, Single, ArrayOf}
use Rattle.jr_base.specs.declared.kind.SlotKind.{SlotKind}
use Rattle.jr_base.specs.declared.kind.SlotKind.TheVariants as kind
use Rattle.jr_arith.specs.declared.operator.Width.{Width}
use Rattle.jr_arith.specs.declared.operator.Width.TheVariants as width
use Rattle.jr_typing_rules.specs.declared.words.Members.{Members}
use Rattle.jr_typing_rules.specs.declared.words.Members.TheVariants.{OfArray, OfClass, OfLibrary, Nothing}

abbrev pub is_same_elem : Elem → Elem → Bool
is_same_elem elem.Int elem.Int = true
is_same_elem elem.Long elem.Long = true
is_same_elem elem.Bool elem.Bool = true
is_same_elem elem.Object elem.Object = true
is_same_elem elem.Thread elem.Thread = true
is_same_elem elem.Runnable elem.Runnable = true
is_same_elem (elem.Class c) (elem.Class d) = c.0 == d.0
is_same_elem _ _ = false

abbrev pub is_same : ValueType → ValueType → Bool
is_same Null Null = true
is_same (Single s) (Single t) = is_same_elem s t
is_same (ArrayOf s) (ArrayOf t) = is_same_elem s t
is_same _ _ = false

abbrev pub is_int : ValueType → Bool
is_int (Single elem.Int) = true
is_int _ = false

-- the width of a number (JLS 4.2.1)
abbrev pub width_of : ValueType → Option Width
width_of (Single elem.Int) = Some width.Int
width_of (Single elem.Long) = Some width.Long
width_of _ = None

abbrev pub is_number : ValueType → Bool
is_number t = is_some (width_of t)

-- the type of numbers of a width
abbrev pub number : Width → ValueType
number width.Int = Single elem.Int
number width.Long = Single elem.Long

abbrev pub is_boolean : ValueType → Bool
is_boolean (Single elem.Bool) = true
is_boolean _ = false

-- the reference types (JLS 4.3), and that of `null`
abbrev pub is_reference : ValueType → Bool
is_reference t = not (is_number t || is_boolean t)

-- which members a value has
abbrev pub members_of : ValueType → Members
members_of Null = OfLibrary
members_of (Single elem.Int) = Nothing
members_of (Single elem.Long) = Nothing
members_of (Single elem.Bool) = Nothing
members_of (Single elem.Object) = OfLibrary
members_of (Single elem.Thread) = OfLibrary
members_of (Single elem.Runnable) = OfLibrary
members_of (Single (elem.Class c)) = OfClass c
members_of (ArrayOf t) = OfArray t

abbrev pub int : ValueType
int = Single elem.Int

abbrev pub long : ValueType
long = Single elem.Long

abbrev pub boolean : ValueType
boolean = Single elem.Bool

abbrev pub object : ValueType
object = Single elem.Object

-- what a variable of that type holds
abbrev pub kind_of : ValueType → SlotKind
kind_of (Single elem.Int) = kind.Int
kind_of (Single elem.Long) = kind.Long
kind_of (Single elem.Bool) = kind.Bool
kind_of _ = kind.Ref

-- the width that a number of one type is brought to where another is asked for; none where it is of that type, or
-- where it is no number
abbrev pub width_to : ValueType → ValueType → Option Width
width_to (Single elem.Int) (Single elem.Long) = Some width.Long
width_to (Single elem.Long) (Single elem.Int) = Some width.Int
width_to _ _ = None
