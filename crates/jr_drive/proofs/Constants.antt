-- What the fields of a class hold at first, field by field.
use Rattle.std.proofs.Common.{◌≡◌, ◌+◌, ◌<◌, ◌≤◌, ◌==◌, ◌&&◌, ℕ, zero, suc, Bool, true, false, cond, List, [], ◌∷◌, ◌++◌, map, length, take, Some, slice_get, get_or, refl, ap, sym, ◌∙◌, arith}
use Rattle.std.specs.Prelude.{option_and_then}
use Rattle.std.specs.Option.{option_map}
use Rattle.std.specs.List.{filter}
use Rattle.std.specs.Bool.{beq}
use Rattle.std.proofs.lemmas.Bool.{eqb-true}
use Rattle.std.proofs.lemmas.List.{map-append}
use Rattle.std.proofs.lemmas.List.Elements.{filter_more}
use Rattle.std.proofs.lemmas.Option.{slice_get_within, get_or_from_slice_get}
use Rattle.jr_base.specs.declared.number.ClassId.{ClassId}
use Rattle.jr_base.specs.declared.number.FieldId.{FieldId}
use Rattle.jr_base.specs.declared.value.Value.{Value}
use Rattle.jr_program.specs.Programs.{Program, Field}
use Rattle.jr_program.specs.Slots.{is_of, fields_from}
use Rattle.jr_drive.specs.Blanks.{IsBlank}

abbrev pub constant : Field → Value
constant field = field.constant

-- the constants of those fields that are a class's static ones, or its other ones
abbrev pub constants : ClassId → Bool → List Field → List Value
constants class is_static fields = map constant (filter (is_of class is_static) fields)

in-slot : (class : ClassId) (is_static : Bool) (all : List Field) (n : ℕ) (fields : List Field) → ((i : ℕ) → slice_get all (n + i) ≡ slice_get fields i) → (slot : ℕ) →
    slice_get (constants class is_static fields) slot ≡ option_and_then (λ (f : FieldId). option_map constant (slice_get all f.0)) (slice_get (fields_from class is_static n fields) slot)
in-slot class is_static all n [] same slot = refl
in-slot class is_static all n (field ∷ fields) same slot =
    by (is_of class is_static field) slot (let e : n ≡ n + 0 = omega arith in ap (slice_get all) e ∙ same 0)
    (in-slot class is_static all (n + 1) fields (λ i. let e : (n + 1) + i ≡ n + suc i = omega arith in ap (slice_get all) e ∙ same (suc i)))
  where
    by : (b : Bool) (slot : ℕ) → slice_get all n ≡ Some field →
        ((slot : ℕ) → slice_get (constants class is_static fields) slot ≡ option_and_then (λ (f : FieldId). option_map constant (slice_get all f.0)) (slice_get (fields_from class is_static (n + 1) fields) slot)) →
        slice_get (map constant (cond b (field ∷ filter (is_of class is_static) fields) (filter (is_of class is_static) fields))) slot
        ≡ option_and_then (λ (f : FieldId). option_map constant (slice_get all f.0))
        (slice_get (cond b (record { 0 = n } ∷ fields_from class is_static (n + 1) fields) (fields_from class is_static (n + 1) fields)) slot)
    by true zero here rest = ap (option_map constant) (sym here)
    by true (suc slot) here rest = rest slot
    by false slot here rest = rest slot

in-all : (class : ClassId) (is_static : Bool) (n : ℕ) (fields : List Field) → length (constants class is_static fields) ≡ length (fields_from class is_static n fields)
in-all class is_static n [] = refl
in-all class is_static n (field ∷ fields) = by (is_of class is_static field) (in-all class is_static (n + 1) fields)
  where
    by : (b : Bool) → length (constants class is_static fields) ≡ length (fields_from class is_static (n + 1) fields) → length (map constant (cond b (field ∷ filter (is_of class is_static) fields) (filter (is_of class is_static) fields)))
        ≡ length (cond b (record { 0 = n } ∷ fields_from class is_static (n + 1) fields) (fields_from class is_static (n + 1) fields))
    by true rest = ap suc rest
    by false rest = rest

-- the constants of a class's fields are what these hold at first
pub are-blank : (program : Program) (class : ClassId) (is_static : Bool) → IsBlank program class is_static (constants class is_static program.fields)
are-blank program class is_static = record {
  slots = in-slot class is_static program.fields 0 program.fields (λ i. let e : 0 + i ≡ i = omega arith in ap (slice_get program.fields) e);
  size = in-all class is_static 0 program.fields;
}

-- one field more
pub constants-more : (class : ClassId) (is_static : Bool) (fields : List Field) (n : ℕ) (field : Field) → slice_get fields n ≡ Some field →
    constants class is_static (take (n + 1) fields) ≡ constants class is_static (take n fields) ++ cond (is_of class is_static field) (field.constant ∷ []) []
constants-more class is_static fields n field at =
    ap (map constant) (filter_more (is_of class is_static) fields n field (slice_get_within fields n field at))
    ∙ (map-append constant (filter (is_of class is_static) (take n fields)) _
    ∙ ap (λ vs. constants class is_static (take n fields) ++ vs) (by (get_or fields n field) (get_or_from_slice_get fields n field field at)))
  where
    one : (b : Bool) (x : Field) → map constant (cond b (x ∷ []) []) ≡ cond b (x.constant ∷ []) []
    one true x = refl
    one false x = refl

    by : (x : Field) → x ≡ field → map constant (cond (is_of class is_static x) (x ∷ []) []) ≡ cond (is_of class is_static field) (field.constant ∷ []) []
    by x same = ap (λ (y : Field). map constant (cond (is_of class is_static y) (y ∷ []) [])) same ∙ one (is_of class is_static field) field

-- a class that isn't there has no field
pub no-constants : (class : ClassId) (is_static : Bool) (count : ℕ) (fields : List Field) → ((i : ℕ) (field : Field) → slice_get fields i ≡ Some field → field.class.0 < count) →
    count ≤ class.0 → constants class is_static fields ≡ []
no-constants class is_static count [] all past = refl
no-constants class is_static count (field ∷ fields) all past = by (field.class.0 == class.0) refl (no-constants class is_static count fields (λ i. all (suc i)) past)
  where
    by : (b : Bool) → (field.class.0 == class.0) ≡ b → constants class is_static fields ≡ [] →
        map constant (cond (b && beq field.is_static is_static) (field ∷ filter (is_of class is_static) fields) (filter (is_of class is_static) fields)) ≡ []
    by false is rest = rest
    by true is rest = let same = eqb-true field.class.0 class.0 is in let here = all 0 field refl in absurd (omega arith)
