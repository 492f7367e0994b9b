-- The class objects, one after the other.
use Rattle.std.proofs.Common.{◌≡◌, ◌==◌, ◌+◌, ◌≤◌, ℕ, zero, suc, Bool, true, false, cond, [], map, length, Option, None, slice_get, nat_lt, refl, ap, sym, ◌∙◌, arith}
use Rattle.std.specs.Prelude.{sum_by}
use Rattle.std.specs.Option.{option_map_or}
use Rattle.std.specs.List.{range_with_len}
use Rattle.std.proofs.lemmas.Bool.{eqb-true, eqb-false, ltb-true, ltb-false, lt-ltb, le-ltb}
use Rattle.std.proofs.lemmas.List.FromFn.{map-range_with_len_more, length-map-range_with_len}
use Rattle.jr_base.specs.declared.value.Value.{Value}
use Rattle.jr_base.specs.declared.value.Cell.{Cell}
use Rattle.jr_base.specs.declared.value.Ask.{Ask}
use Rattle.jr_base.specs.declared.value.Ask.TheVariants as asks
use Rattle.jr_base.specs.declared.value.Seen.TheVariants as answers
use Rattle.jr_heap.specs.Plain.{seen_in}
use Rattle.jr_program.specs.Programs.{Program, numbered}
use Rattle.jr_program.specs.Slots.{constant_in, class_count}
use Rattle.jr_program.specs.WellFormed.{WellFormed}
use Rattle.jr_meaning.specs.World.{World, ObjectKind, ClassObject, start_world, class_slots, length_in}
use Rattle.jr_meaning.specs.Limits.{cells_in}
use Rattle.jr_meaning.specs.Heap.{heap_of, value_seen, length_seen}
use Rattle.jr_drive.specs.Counted.{Counted, StandsFor, with_object}
use Rattle.jr_drive.proofs.Constants.{constants, are-blank, no-constants}

abbrev class_object_of : ℕ → ObjectKind
class_object_of n = ClassObject (record { 0 = n })

-- the cells of the first n class objects
abbrev young_cells : Program → ℕ → Cell → Option Value
young_cells program n cell = cond (nat_lt n cell.obj.0) None (class_slots program cell.obj.0 cell.slot)

-- the world as a run starts, with the objects of the first n classes alone
abbrev pub young : Program → ℕ → World
young program n = record (start_world program) { cells = young_cells program n; objects = map class_object_of (range_with_len 0 n) }

-- ---- none

none-seen : (program : Program) (what : Ask) → answers.Absent ≡ heap_of (young program 0) what
none-seen program (asks.Cell cell) = by cell.obj.0
  where
    by : (n : ℕ) → answers.Absent ≡ value_seen (cond (nat_lt 0 n) None (class_slots program n cell.slot))
    by zero = refl
    by (suc n) = let past : nat_lt 0 (suc n) ≡ true = lt-ltb 0 (suc n) (omega arith) in rw past refl
none-seen program (asks.Length object) = by object.0
  where
    by : (n : ℕ) → answers.Absent ≡ length_seen (option_map_or length_in (numbered [] n) None)
    by zero = refl
    by (suc n) = refl

pub young-none : (program : Program) (counted : Counted) → counted.objects ≡ 0 → counted.cells ≡ 0 → ((what : Ask) → seen_in counted.heap what ≡ answers.Absent) → StandsFor program counted (young program 0)
young-none program counted objects cells none = record { shown = λ what. none what ∙ none-seen program what; objects = objects; cells = cells }

-- ---- one more

-- worlds with the same cells and objects
alike : (program : Program) (counted : Counted) (a b : World) → ((cell : Cell) → a.cells cell ≡ b.cells cell) → a.objects ≡ b.objects → StandsFor program counted a → StandsFor program counted b
alike program counted a b cells objects stands = record {
  shown = λ what. stands.shown what ∙ seen what;
  objects = stands.objects ∙ ap length objects;
  cells = stands.cells ∙ ap (λ kinds. sum_by (cells_in program) kinds) objects;
}
  where
    seen : (what : Ask) → heap_of a what ≡ heap_of b what
    seen (asks.Cell cell) = ap value_seen (cells cell)
    seen (asks.Length object) = ap (λ kinds. length_seen (option_map_or length_in (numbered kinds object.0) None)) objects

more-cells : (program : Program) (n obj slot : ℕ) (b : Bool) → (obj == n + 1) ≡ b →
    cond b (constant_in program (record { 0 = n }) true slot) (cond (nat_lt n obj) None (class_slots program obj slot)) ≡ cond (nat_lt (n + 1) obj) None (class_slots program obj slot)
more-cells program n obj slot true is =
    let same = eqb-true obj (n + 1) is in
    let next : obj ≡ suc n = omega arith in
    let past : nat_lt (n + 1) obj ≡ false = le-ltb (n + 1) obj (omega arith) in
    rw (past, next) refl
more-cells program n obj slot false is =
    let apart = eqb-false obj (n + 1) is in
    ap (λ b. cond b None (class_slots program obj slot)) (by (nat_lt n obj) refl (nat_lt (n + 1) obj) refl apart)
  where
    by : (a : Bool) → nat_lt n obj ≡ a → (b : Bool) → nat_lt (n + 1) obj ≡ b → (obj ≡ n + 1 → ⊥) → a ≡ b
    by true x true y apart = refl
    by false x false y apart = refl
    by true x false y apart = let below = ltb-true n obj x in let past = ltb-false (n + 1) obj y in absurd (apart (omega arith))
    by false x true y apart = let below = ltb-false n obj x in let past = ltb-true (n + 1) obj y in absurd (omega arith)

pub young-more : (program : Program) (counted : Counted) (n : ℕ) → StandsFor program counted (with_object program (young program n) (class_object_of n)) → StandsFor program counted (young program (n + 1))
young-more program counted n stands =
    alike program counted (with_object program (young program n) (class_object_of n)) (young program (n + 1)) cells (sym (map-range_with_len_more class_object_of 0 n n (omega arith))) stands
  where
    cells : (cell : Cell) → (with_object program (young program n) (class_object_of n)).cells cell ≡ young_cells program (n + 1) cell
    cells cell =
        ap (λ k. cond (cell.obj.0 == k + 1) (constant_in program (record { 0 = n }) true cell.slot) (young_cells program n cell)) (length-map-range_with_len class_object_of 0 n)
        ∙ more-cells program n cell.obj.0 cell.slot (cell.obj.0 == n + 1) refl

-- ---- all

past-cells : (program : Program) → WellFormed program → (obj slot : ℕ) (b : Bool) → nat_lt (class_count program) obj ≡ b → cond b None (class_slots program obj slot) ≡ class_slots program obj slot
past-cells program fine obj slot false is = refl
past-cells program fine zero slot true is = refl
past-cells program fine (suc n) slot true is =
    let past : class_count program ≤ n = let below = ltb-true (class_count program) (suc n) is in omega arith in
    let none : constants (record { 0 = n }) true program.fields ≡ [] = no-constants (record { 0 = n }) true (class_count program) program.fields (λ i field at. (fine.fields (record { 0 = i }) field at).class) past in
    ap (λ values. slice_get values slot) (sym none) ∙ (are-blank program (record { 0 = n }) true).slots slot

pub young-all : (program : Program) (counted : Counted) → WellFormed program → StandsFor program counted (young program (class_count program)) → StandsFor program counted (start_world program)
young-all program counted fine stands =
    alike program counted (young program (class_count program)) (start_world program) (λ cell. past-cells program fine cell.obj.0 cell.slot (nat_lt (class_count program) cell.obj.0) refl) refl stands
