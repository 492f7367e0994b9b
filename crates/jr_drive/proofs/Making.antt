-- What a heap shows after a write, and with an object more.
use Rattle.std.proofs.Common.{◌≡◌, ◌≢◌, ◌==◌, ◌&&◌, ◌+◌, ℕ, zero, suc, Bool, true, false, cond, List, [], ◌∷◌, ◌++◌, length, Option, Some, None, slice_get, refl, ap, sym, ◌∙◌, arith}
use Rattle.std.specs.Prelude.{pos}
use Rattle.std.specs.Option.{option_map_or}
use Rattle.std.proofs.lemmas.Bool.{eqb-true, eqb-false}
use Rattle.std.proofs.Common.{eq-eqb, subst, nat_lt}
use Rattle.std.proofs.lemmas.Bool.{ltb-true, ltb-false}
use Rattle.std.proofs.Math.Dec.{eqb-suc-zero}
use Rattle.std.proofs.Math.ListN.{replicate, length-replicate}
use Rattle.std.proofs.lemmas.List.{get_or-replicate}
use Rattle.std.proofs.lemmas.Option.{slice_get-get_or, slice_get_past}
use Rattle.jr_base.specs.Content.{default_value}
use Rattle.jr_base.specs.declared.action.Elem.{Elem}
use Rattle.jr_arith.specs.Kinds.{kind_of_element}
use Rattle.std.proofs.lemmas.List.Sums.{sum_by_push}
use Rattle.std.proofs.Common.{length-append}
use Rattle.jr_base.specs.declared.number.ObjId.{ObjId}
use Rattle.jr_base.specs.declared.value.Value.{Value}
use Rattle.jr_base.specs.declared.value.Value.TheVariants.{Int, Null}
use Rattle.jr_base.specs.declared.number.ClassId.{ClassId}
use Rattle.jr_base.specs.declared.action.NewKind.TheVariants as kinds
use Rattle.jr_base.specs.declared.value.Cell.{Cell}
use Rattle.jr_base.specs.declared.value.Ask.{Ask}
use Rattle.jr_base.specs.declared.value.Ask.TheVariants as asks
use Rattle.jr_base.specs.declared.value.Seen.TheVariants as answers
use Rattle.jr_heap.specs.Plain.{Plain, seen_in, seen_value, seen_length}
use Rattle.jr_program.specs.Programs.{Program, numbered}
use Rattle.jr_meaning.specs.Limits.{cells_in}
use Rattle.jr_meaning.specs.World.{World, ObjectKind, ClassObject, Made, same_object, same_cell, written, length_in, length_of}
use Rattle.jr_meaning.specs.Cells.{first_in}
use Rattle.jr_meaning.specs.Heap.{Heap, heap_of, value_seen, length_seen}
use Rattle.jr_drive.specs.Blanks.{IsBlank, AreBlanks, blank_of}
use Rattle.jr_drive.specs.Counted.{Counted, StandsFor, IsMadeOf, with_object}

-- both crates say alike what is seen of a value
value-seen : (o : Option Value) → seen_value o ≡ value_seen o
value-seen None = refl
value-seen (Some value) = refl

-- and of the length of an object that is an array or not
length-seen : (array : Bool) (n : ℕ) → cond array (answers.Value (Int (pos n))) answers.Absent ≡ length_seen (cond array (Some n) None)
length-seen true n = refl
length-seen false n = refl

-- equal heaps with equal numbers stand for the same world
pub stands-same : (program : Program) (a b : Counted) (world : World) → a ≡ b → StandsFor program b world → StandsFor program a world
stands-same program a b world same stands = subst (λ v. StandsFor program v world) (sym same) stands

-- ---- a write

halves : (a b : Bool) → (a && b) ≡ true → (a ≡ true) × (b ≡ true)
halves true true e = (refl, refl)
halves true false e = cc
halves false b e = cc

cells-same : (a b : Cell) → same_cell a b ≡ true → a ≡ b
cells-same a b e =
    let parts = halves (same_object a.obj b.obj) (a.slot == b.slot) e in
    let object : a.obj.0 ≡ b.obj.0 = eqb-true a.obj.0 b.obj.0 parts.0 in
    let slot : a.slot ≡ b.slot = eqb-true a.slot b.slot parts.1 in
    λ i. record { obj = record { 0 = object i }; slot = slot i }

same-cells : (n m : ℕ) → ((n == n) && (m == m)) ≡ true
same-cells n m = ap (λ b. b && (m == m)) (eq-eqb n n refl) ∙ eq-eqb m m refl

cells-apart : (a b : Cell) → same_cell a b ≡ false → a ≢ b
cells-apart a b apart same = let e = ap (λ c. same_cell c b) same in cc (apart, e, same-cells b.obj.0 b.slot)

-- the heap shows the value that was written, and all else as before
pub record HasWritten (old new : Heap) (cell : Cell) (value : Value) : Type 0 where
  pub there : new (asks.Cell cell) ≡ answers.Value value
  pub cells : (other : Cell) → other ≢ cell → new (asks.Cell other) ≡ old (asks.Cell other)
  pub lengths : (object : ObjId) → new (asks.Length object) ≡ old (asks.Length object)

pub written-shown : (old new : Heap) (world : World) (cell : Cell) (value : Value) → HasWritten old new cell value → ((what : Ask) → old what ≡ heap_of world what) →
    (what : Ask) → new what ≡ heap_of (record world { cells = written world.cells cell value }) what
written-shown old new world cell value has shown (asks.Length object) = has.lengths object ∙ shown (asks.Length object)
written-shown old new world cell value has shown (asks.Cell other) = by (same_cell other cell) refl
  where
    by : (b : Bool) → same_cell other cell ≡ b → new (asks.Cell other) ≡ value_seen (cond b (Some value) (world.cells other))
    by true is = ap (λ c. new (asks.Cell c)) (cells-same other cell is) ∙ has.there
    by false is = has.cells other (cells-apart other cell is) ∙ shown (asks.Cell other)

-- ---- an object more

-- the heap shows that object with its values, and all else as before
pub record HasMade (old new : Heap) (object : ObjId) (array : Bool) (values : List Value) : Type 0 where
  pub there : (cell : Cell) → cell.obj.0 ≡ object.0 → new (asks.Cell cell) ≡ seen_value (slice_get values cell.slot)
  pub length_there : new (asks.Length object) ≡ seen_length (Some (record { array = array; start = 0; len = length values; since = 0 }))
  pub cells : (cell : Cell) → cell.obj.0 ≢ object.0 → new (asks.Cell cell) ≡ old (asks.Cell cell)
  pub lengths : (other : ObjId) → other.0 ≢ object.0 → new (asks.Length other) ≡ old (asks.Length other)

last-there : {A : Type 0} (xs : List A) (x : A) → slice_get (xs ++ x ∷ []) (length xs) ≡ Some x
last-there [] x = refl
last-there (y ∷ xs) x = last-there xs x

others-there : {A : Type 0} (xs : List A) (x : A) (n : ℕ) → n ≢ length xs → slice_get (xs ++ x ∷ []) n ≡ slice_get xs n
others-there [] x zero other = absurd (other refl)
others-there [] x (suc n) other = refl
others-there (y ∷ xs) x zero other = refl
others-there (y ∷ xs) x (suc n) other = others-there xs x n (λ same. other (ap suc same))

next-there : {A : Type 0} (xs : List A) (x : A) (n : ℕ) → n ≡ length xs + 1 → numbered (xs ++ x ∷ []) n ≡ Some x
next-there xs x zero same = absurd (omega (arith, same))
next-there xs x (suc n) same = let e : n ≡ length xs = omega (arith, same) in ap (slice_get (xs ++ x ∷ [])) e ∙ last-there xs x

before-there : {A : Type 0} (xs : List A) (x : A) (n : ℕ) → n ≢ length xs + 1 → numbered (xs ++ x ∷ []) n ≡ numbered xs n
before-there xs x zero other = refl
before-there xs x (suc n) other = others-there xs x n (λ same. other (let next : suc n ≡ length xs + 1 = omega (arith, same) in next))

pub made-shown : (program : Program) (old new : Heap) (world : World) (object : ObjId) (kind : ObjectKind) (array : Bool) (values : List Value) →
    object.0 ≡ length world.objects + 1 → IsMadeOf program kind array values → HasMade old new object array values →
    ((what : Ask) → old what ≡ heap_of world what) → (what : Ask) → new what ≡ heap_of (with_object program world kind) what
made-shown program old new world object kind array values next made has shown (asks.Cell cell) = by (cell.obj.0 == length world.objects + 1) refl
  where
    by : (b : Bool) → (cell.obj.0 == length world.objects + 1) ≡ b → new (asks.Cell cell) ≡ value_seen (cond b (first_in program kind cell.slot) (world.cells cell))
    by true is =
        let same = eqb-true cell.obj.0 (length world.objects + 1) is in
        has.there cell (same ∙ sym next) ∙ (value-seen (slice_get values cell.slot) ∙ ap value_seen (made.slots cell.slot))
    by false is = has.cells cell (λ same. eqb-false cell.obj.0 (length world.objects + 1) is (same ∙ next)) ∙ shown (asks.Cell cell)
made-shown program old new world object kind array values next made has shown (asks.Length other) = by (other.0 == length world.objects + 1) refl
  where
    by : (b : Bool) → (other.0 == length world.objects + 1) ≡ b → new (asks.Length other) ≡ length_seen (length_of (with_object program world kind) other)
    by true is =
        let same = eqb-true other.0 (length world.objects + 1) is in
        let number : other.0 ≡ object.0 = same ∙ sym next in
        let one : other ≡ object = λ i. record { 0 = number i } in
        ap (λ o. new (asks.Length o)) one ∙ (has.length_there ∙ (length-seen array (length values) ∙ (ap length_seen (sym made.length_if)
        ∙ ap (λ k. length_seen (option_map_or length_in k None)) (sym (next-there world.objects kind other.0 same)))))
    by false is =
        let apart = eqb-false other.0 (length world.objects + 1) is in
        has.lengths other (λ same. apart (same ∙ next)) ∙ (shown (asks.Length other)
        ∙ ap (λ k. length_seen (option_map_or length_in k None)) (sym (before-there world.objects kind other.0 apart)))

-- the numbers go on with it
pub made-stands : (program : Program) (old new : Plain) (objects cells : ℕ) (world : World) (kind : ObjectKind) (array : Bool) (values : List Value) →
    IsMadeOf program kind array values → HasMade (seen_in old) (seen_in new) (record { 0 = objects + 1 }) array values →
    StandsFor program (record { heap = old; objects = objects; cells = cells }) world →
    StandsFor program (record { heap = new; objects = objects + 1; cells = cells + length values }) (with_object program world kind)
made-stands program old new objects cells world kind array values made has stands = record {
  shown = made-shown program (seen_in old) (seen_in new) world (record { 0 = objects + 1 }) kind array values (ap (λ n. n + 1) stands.objects) made has stands.shown;
  objects = let last = length-append world.objects (kind ∷ []) in let here = stands.objects in omega arith;
  cells = let all = sum_by_push (cells_in program) world.objects kind in let here = stands.cells in let size = made.size in omega arith;
}

-- ---- the kinds of objects

-- an object of a class
pub of-object : (program : Program) (blanks : List (List Value)) (class : ClassId) (values : List Value) → values ≡ blank_of blanks class → AreBlanks program blanks →
    IsMadeOf program (Made (kinds.Object class)) false values
of-object program blanks class values same all =
    let blank : IsBlank program class false values = subst (IsBlank program class false) (sym same) (all class) in
    record { slots = blank.slots; size = blank.size; length_if = refl }

thread-slots : (program : Program) (slot : ℕ) → slice_get (Null ∷ []) slot ≡ first_in program (Made kinds.Thread) slot
thread-slots program zero = refl
thread-slots program (suc slot) = let no : (suc slot == 0) ≡ false = eqb-suc-zero slot in rw no refl

pub of-thread : (program : Program) → IsMadeOf program (Made kinds.Thread) false (Null ∷ [])
of-thread program = record { slots = thread-slots program; size = refl; length_if = refl }

pub of-plain : (program : Program) → IsMadeOf program (Made kinds.Plain) false []
of-plain program = record { slots = λ slot. refl; size = refl; length_if = refl }

array-slots : (n : ℕ) (value : Value) (slot : ℕ) (b : Bool) → nat_lt slot n ≡ b → slice_get (replicate n value) slot ≡ cond b (Some value) None
array-slots n value slot true is =
    let few = ltb-true slot n is in let all = length-replicate n value in
    slice_get-get_or (replicate n value) slot value (omega arith) ∙ ap Some (get_or-replicate n slot value value few)
array-slots n value slot false is = let past = ltb-false slot n is in let all = length-replicate n value in slice_get_past (replicate n value) slot (omega arith)

pub of-array : (program : Program) (element : Elem) (n : ℕ) (values : List Value) → values ≡ replicate n (default_value (kind_of_element element)) →
    IsMadeOf program (Made (kinds.Array element n)) true values
of-array program element n values same =
    let value = default_value (kind_of_element element) in
    let made : IsMadeOf program (Made (kinds.Array element n)) true (replicate n value) = record {
      slots = λ slot. array-slots n value slot (nat_lt slot n) refl;
      size = length-replicate n value;
      length_if = ap Some (sym (length-replicate n value));
    } in
    subst (IsMadeOf program (Made (kinds.Array element n)) true) (sym same) made

-- the object of a class
pub of-class : (program : Program) (class : ClassId) (values : List Value) → IsBlank program class true values → IsMadeOf program (ClassObject class) false values
of-class program class values blank = record { slots = blank.slots; size = blank.size; length_if = refl }
