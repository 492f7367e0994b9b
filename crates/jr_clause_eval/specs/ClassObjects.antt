-- The class objects that a clause names.
use Rattle.std.specs.Prelude.{◌+◌, ◌<◌, ◌^◌, List, [], ◌∷◌}
use Rattle.jr_program.specs.Clauses.{Spec, Number, Truth, Null, This, Variable, Bound, Result, StaticField, FieldOf, ElementOf, LengthOf, ClassObject, Convert, Unary, Binary, And, Or, Choice, Implies, ImpliedBy, Old, InLockset, Quantified}

-- Each class that the expression names has an object: class c has object c + 1, which is of 32 bits. So have those of a
-- program that passed the checks.
abbrev pub HasClassObjects : Spec → Type 0
HasClassObjects (Number w n) = Unit {0}
HasClassObjects (Truth b) = Unit {0}
HasClassObjects Null = Unit {0}
HasClassObjects This = Unit {0}
HasClassObjects (Variable number) = Unit {0}
HasClassObjects (Bound depth) = Unit {0}
HasClassObjects Result = Unit {0}
HasClassObjects (StaticField field at) = Unit {0}
HasClassObjects (FieldOf object field slot) = HasClassObjects object
HasClassObjects (ElementOf array index) = HasClassObjects array × HasClassObjects index
HasClassObjects (LengthOf array) = HasClassObjects array
HasClassObjects (ClassObject class) = class.0 + 1 < 2 ^ 32
HasClassObjects (Convert w operand) = HasClassObjects operand
HasClassObjects (Unary operator operand) = HasClassObjects operand
HasClassObjects (Binary operator left right) = HasClassObjects left × HasClassObjects right
HasClassObjects (And left right) = HasClassObjects left × HasClassObjects right
HasClassObjects (Or left right) = HasClassObjects left × HasClassObjects right
HasClassObjects (Choice condition first second) = HasClassObjects condition × HasClassObjects first × HasClassObjects second
HasClassObjects (Implies left right) = HasClassObjects left × HasClassObjects right
HasClassObjects (ImpliedBy left right) = HasClassObjects left × HasClassObjects right
HasClassObjects (Old value) = HasClassObjects value
HasClassObjects (InLockset object) = HasClassObjects object
HasClassObjects (Quantified quantifier low low_bound high high_bound conjuncts body) =
    HasClassObjects low × HasClassObjects high × HasClassObjects conjuncts × HasClassObjects body

abbrev pub HaveClassObjects : List Spec → Type 0
HaveClassObjects [] = Unit {0}
HaveClassObjects (e ∷ es) = HasClassObjects e × HaveClassObjects es
