-- What modifiers say (JLS 8.1.1, 8.3.1, 8.4.3; JML Reference Manual, "Modifiers").
use Rattle.std.specs.Prelude.{Bool, true, false, cond, not, List, [], ◌∷◌, Option, Some, None}
use Rattle.std.specs.List.{list_any}
use Rattle.jr_base.specs.declared.number.Span.{Span}
use Rattle.jr_base.specs.declared.refusal.Refusal.TheVariants.{Duplicate, NotHere}
use Rattle.jr_ast.specs.declared.unit.Modifier.{Modifier}
use Rattle.jr_ast.specs.declared.unit.ModifierKind.{ModifierKind}
use Rattle.jr_ast.specs.declared.unit.ModifierKind.TheVariants as modifiers
use Rattle.jr_program.specs.declared.words.Mode.{Mode}
use Rattle.jr_program.specs.declared.words.Mode.TheVariants as modes
use Rattle.jr_typing_rules.specs.Answers.{Typing, Good, ◌>>=◌, require}

abbrev pub is_static_kind : ModifierKind → Bool
is_static_kind modifiers.Static = true
is_static_kind _ = false

abbrev pub is_synchronized_kind : ModifierKind → Bool
is_synchronized_kind modifiers.Synchronized = true
is_synchronized_kind _ = false

abbrev pub is_volatile_kind : ModifierKind → Bool
is_volatile_kind modifiers.Volatile = true
is_volatile_kind _ = false

abbrev pub is_helper_kind : ModifierKind → Bool
is_helper_kind modifiers.Helper = true
is_helper_kind _ = false

abbrev pub is_atomic_kind : ModifierKind → Bool
is_atomic_kind modifiers.Atomic = true
is_atomic_kind _ = false

-- one of them is of that kind
abbrev pub has : (ModifierKind → Bool) → List Modifier → Bool
has is all = list_any (λ (m : Modifier). is m.kind) all

-- where those of that kind stand
abbrev pub places_of : (ModifierKind → Bool) → List Modifier → List Span
places_of is [] = []
places_of is (m ∷ ms) = cond (is m.kind) (m.place ∷ places_of is ms) (places_of is ms)

-- ---- how the arithmetic of clauses is meant

abbrev pub mode_of_kind : ModifierKind → Option Mode
mode_of_kind modifiers.SpecSafeMath = Some modes.Safe
mode_of_kind modifiers.SpecJavaMath = Some modes.Java
mode_of_kind _ = None

abbrev pub first_of : Option Mode → Option Mode → Option Mode
first_of (Some m) later = Some m
first_of None later = later

-- the first that is said
abbrev pub said_mode : List Modifier → Option Mode
said_mode [] = None
said_mode (m ∷ ms) = first_of (mode_of_kind m.kind) (said_mode ms)

-- the mode that is said, else that of what stands around
abbrev pub mode_in : Mode → Option Mode → Mode
mode_in around (Some m) = m
mode_in around None = around

-- ---- where modifiers may stand

-- a declaration of which it is a modifier
pub data Holder : Type 0 where
  OnClass : Holder
  OnMethod : Holder
  OnOther : Holder

-- `helper` and `atomic` stand on a method or constructor, the modes there or on a class
abbrev pub may_stand : Holder → ModifierKind → Bool
may_stand OnMethod _ = true
may_stand OnClass modifiers.Helper = false
may_stand OnClass modifiers.Atomic = false
may_stand OnClass _ = true
may_stand OnOther modifiers.Helper = false
may_stand OnOther modifiers.Atomic = false
may_stand OnOther modifiers.SpecSafeMath = false
may_stand OnOther modifiers.SpecJavaMath = false
may_stand OnOther _ = true

abbrev pub differ : Option Mode → Option Mode → Bool
differ (Some modes.Safe) (Some modes.Java) = true
differ (Some modes.Java) (Some modes.Safe) = true
differ _ _ = false

-- each may stand there, and not both modes are said: behind one mode, the other is refused
abbrev pub well_placed : Holder → Option Mode → List Modifier → Typing (Unit {0})
well_placed holder before [] = Good tt
well_placed holder before (m ∷ ms) =
    require (may_stand holder m.kind) (NotHere m.place) >>= λ u.
    require (not (differ before (mode_of_kind m.kind))) (Duplicate m.place) >>= λ u.
    well_placed holder (first_of before (mode_of_kind m.kind)) ms

unfoldable pub modifiers_stand : Holder → List Modifier → Typing (Unit {0})
modifiers_stand holder ms = well_placed holder None ms
