-- The code's tables by name, as the lists of the rules.
use Rattle.std.specs.Prelude.{◌≡◌, ℕ, ◌+◌, Bool, true, false, List, [], map}
use Rattle.std.specs.Borrow.{Bor}
use Rattle.jr_base.specs.declared.number.ClassId.{ClassId}
use Rattle.jr_ast.specs.declared.unit.Class.{Class as ClassTree}
use Rattle.jr_ast.specs.Units.{view_class}
use Rattle.jr_typing_rules.specs.declared.words.FieldEntry.{FieldEntry}
use Rattle.jr_names.specs.declared.counts.Counts.{Counts}
use Rattle.jr_typing_rules.specs.Names.{Text, Names, named}
use Rattle.jr_typing_rules.specs.Resolution.{numbered, count_fields}

-- the entries of a table, whose names are lent
abbrev pub entries_of : {A : Type 0} → List (Bor (List ℕ) × A) → List (Text × A)
entries_of es = map (λ e. (e.0.now, e.1)) es

-- the classes by name, where nothing is known of their members
abbrev pub names_alone : List (Text × ClassId) → Names
names_alone numbers = record { numbers = numbers; classes = [] }

-- the classes of a source with their numbers
abbrev pub numbers_of : List ClassTree → List (Text × ClassId)
numbers_of classes = numbered 0 (map view_class classes)

-- each name stands for the same in both
abbrev pub AreAlike : {A : Type 0} → List (Text × A) → List (Text × A) → Type 0
AreAlike first second = (x : Text) → named x first ≡ named x second

-- ---- how many fields of a class are static, and how many are not

abbrev pub count_in : Bool → Counts → ℕ
count_in true counts = counts.statics
count_in false counts = counts.others

abbrev pub and_one : Bool → Counts → Counts
and_one true counts = record { statics = counts.statics + 1; others = counts.others }
and_one false counts = record { statics = counts.statics; others = counts.others + 1 }

abbrev pub CountsFields : Counts → List (Text × FieldEntry) → Type 0
CountsFields counts table = (is_static : Bool) → count_in is_static counts ≡ count_fields is_static table
