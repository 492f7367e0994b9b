-- The kinds at places, as they stand in one list.
use Rattle.std.proofs.Common.{◌≡◌, ℕ, zero, suc, ◌+◌, ◌-◌, ◌<◌, ◌≤◌, ◌↔◌, Bool, List, [], ◌∷◌, ◌++◌, length, take, drop, map, reverse, Option, Some, None, refl, sym, ap, ◌∙◌, subst, arith, length-append}
use Rattle.std.specs.Prelude.{slice_get, slice_set, slice_index_or, option_map, replicate, is_some, IsTrue}
use Rattle.std.proofs.lemmas.Option.{slice_get-map, slice_get_read}
use Rattle.std.proofs.Common.{append_assoc}
use Rattle.std.proofs.lemmas.List.{take-append-drop, length-map, length-reverse, length-take-le, length-drop, take_all, take-append-le, drop-append-le}
use Rattle.std.proofs.Math.Seq.{drop-append_seam, take-append_seam, take-length}
use Rattle.jr_base.specs.declared.kind.SlotKind.{SlotKind}
use Rattle.jr_code.specs.declared.shapes.Span.{Span}
use Rattle.jr_code.specs.declared.shapes.Arrival.TheVariants.{First, Other}
use Rattle.jr_code.specs.Shapes.{shape_of, AreWithin, BeginsEmpty, IsLongest, IsShared}
use Rattle.jr_code.specs.Verifier.{HasArrived, IsKnown, IsDeepest}

abbrev kinds_of : List SlotKind → Span → List SlotKind
kinds_of kinds span = reverse (take span.count (drop span.first kinds))

seen : (kinds : List SlotKind) (places : List (Option Span)) (at : ℕ) (p : Option Span) → slice_get places at ≡ Some p →
    slice_get (map (shape_of kinds) places) at ≡ Some (shape_of kinds p)
seen kinds places at p e = slice_get-map (shape_of kinds) places at ∙ ap (option_map (shape_of kinds)) e

place_of : (kinds : List SlotKind) (places : List (Option Span)) (at : ℕ) (ks : List SlotKind) → slice_get (map (shape_of kinds) places) at ≡ Some (Some ks) →
    (span : Span) × (slice_get places at ≡ Some (Some span)) × (ks ≡ kinds_of kinds span)
place_of kinds [] at ks e = absurd (cc)
place_of kinds (None ∷ places) zero ks e = absurd (cc)
place_of kinds (Some span ∷ places) zero ks e = let same : kinds_of kinds span ≡ ks = cc in (span, refl, sym same)
place_of kinds (p ∷ places) (suc at) ks e = place_of kinds places at ks e

length_of : (kinds : List SlotKind) (span : Span) → span.first + span.count ≤ length kinds → length (kinds_of kinds span) ≡ span.count
length_of kinds span h =
    let rest : length (drop span.first kinds) ≡ length kinds - span.first = length-drop span.first kinds in
    length-reverse (take span.count (drop span.first kinds)) ∙ length-take-le span.count (drop span.first kinds) (omega arith)

-- kinds that come behind change none
same_part : (kinds more : List SlotKind) (span : Span) → span.first + span.count ≤ length kinds → take span.count (drop span.first (kinds ++ more)) ≡ take span.count (drop span.first kinds)
same_part kinds more span h =
    let rest : length (drop span.first kinds) ≡ length kinds - span.first = length-drop span.first kinds in
    ap (take span.count) (drop-append-le span.first kinds more (omega arith)) ∙ take-append-le span.count (drop span.first kinds) more (omega arith)

same_shapes : (kinds more : List SlotKind) (places : List (Option Span)) → AreWithin (length kinds) places → map (shape_of (kinds ++ more)) places ≡ map (shape_of kinds) places
same_shapes kinds more [] w = refl
same_shapes kinds more (None ∷ places) w = ap (λ l. None ∷ l) (same_shapes kinds more places (λ at s e. w (suc at) s e))
same_shapes kinds more (Some s ∷ places) w =
    ap (λ r. Some (reverse r) ∷ map (shape_of (kinds ++ more)) places) (same_part kinds more s (w 0 s refl))
    ∙ ap (λ l. Some (kinds_of kinds s) ∷ l) (same_shapes kinds more places (λ at s e. w (suc at) s e))

new_part : (kinds more : List SlotKind) → take (length more) (drop (length kinds) (kinds ++ more)) ≡ more
new_part kinds more = ap (take (length more)) (drop-append_seam kinds more) ∙ take_all (length more) more (omega arith)

map_set : (kinds : List SlotKind) (places : List (Option Span)) (at : ℕ) (p : Option Span) →
    map (shape_of kinds) (slice_set places at p) ≡ slice_set (map (shape_of kinds) places) at (shape_of kinds p)
map_set kinds [] at p = refl
map_set kinds (q ∷ places) zero p = refl
map_set kinds (q ∷ places) (suc at) p = ap (λ l. shape_of kinds q ∷ l) (map_set kinds places at p)

none_known : (kinds : List SlotKind) (n : ℕ) → map (shape_of kinds) (replicate n None) ≡ replicate n None
none_known kinds zero = refl
none_known kinds (suc n) = ap (λ l. None ∷ l) (none_known kinds n)

pub all_unknown : (kinds : List SlotKind) (places : List (Option Span)) (count n : ℕ) → places ≡ replicate count None → count ≡ n → map (shape_of kinds) places ≡ replicate n None
all_unknown kinds places count n e c = ap (map (shape_of kinds)) e ∙ none_known kinds count ∙ ap (λ n. replicate n None) c

set_within : (end more : ℕ) (places : List (Option Span)) (at : ℕ) (span : Span) → AreWithin end places → end ≤ more → span.first + span.count ≤ more →
    AreWithin more (slice_set places at (Some span))
set_within end more [] at span w l f k s e = absurd (cc)
set_within end more (p ∷ places) zero span w l f zero s e = let same : span ≡ s = cc in subst (λ (s : Span). s.first + s.count ≤ more) same f
set_within end more (p ∷ places) zero span w l f (suc k) s e = let h = w (suc k) s e in omega arith
set_within end more (p ∷ places) (suc at) span w l f zero s e = let h = w 0 s e in omega arith
set_within end more (p ∷ places) (suc at) span w l f (suc k) s e = set_within end more places at span (λ j t h. w (suc j) t h) l f k s e

pub stays_within : (kinds more all : List SlotKind) (places : List (Option Span)) (at : ℕ) (span : Span) → AreWithin (length kinds) places → all ≡ kinds ++ more →
    span.first + span.count ≤ length all → AreWithin (length all) (slice_set places at (Some span))
stays_within kinds more all places at span w a f =
    let size : length all ≡ length kinds + length more = ap length a ∙ length-append kinds more in
    set_within (length kinds) (length all) places at span w (omega arith) f

nil_end : (xs : List SlotKind) → xs ++ [] ≡ xs
nil_end [] = refl
nil_end (x ∷ xs) = ap (λ l. x ∷ l) (nil_end xs)

pub none_shared : (all kinds : List SlotKind) → IsShared all kinds 0
none_shared all kinds = record { few = omega arith; front = all; split = sym (nil_end all) }

pub all_shared : (all kinds : List SlotKind) → all ≡ take (length all - length kinds) all ++ kinds → IsShared all kinds (length kinds)
all_shared all kinds e = record {
  few = omega arith;
  front = take (length all - length kinds) all;
  split = e ∙ ap (λ l. take (length all - length kinds) all ++ l) (sym (take-length kinds));
}

pub front_shared : (all kinds front : List SlotKind) (last : SlotKind) → kinds ≡ front ++ last ∷ [] → all ≡ take (length all - length front) all ++ front →
    IsShared all kinds (length front)
front_shared all kinds front last q e =
    let size : length kinds ≡ length front + 1 = ap length q ∙ length-append front (last ∷ []) in
    record {
      few = omega arith;
      front = take (length all - length front) all;
      split = e ∙ ap (λ l. take (length all - length front) all ++ l) (sym (ap (take (length front)) q ∙ take-append_seam front (last ∷ [])));
    }

-- what is shared, and the rest behind it
pub shared_whole : (all kinds : List SlotKind) (n : ℕ) (s : IsShared all kinds n) → all ++ drop n kinds ≡ s.front ++ kinds
shared_whole all kinds n s =
    ap (λ l. l ++ drop n kinds) s.split ∙ append_assoc s.front (take n kinds) (drop n kinds) ∙ ap (λ l. s.front ++ l) (take-append-drop n kinds)

pub shared_length : (all kinds : List SlotKind) (n : ℕ) (s : IsShared all kinds n) → length s.front + n ≡ length all
shared_length all kinds n s =
    let size : length all ≡ length s.front + length (take n kinds) = ap length s.split ∙ length-append s.front (take n kinds) in
    let few = length-take-le n kinds s.few in
    omega arith

-- what stands at a place, and what is seen there
module _ (kinds : List SlotKind) (places : List (Option Span)) (shapes : List (Option (List SlotKind))) (view : map (shape_of kinds) places ≡ shapes) where
  place_at : (at : ℕ) (x : Option Span) → at < length shapes → x ≡ slice_index_or places at x → slice_get places at ≡ Some x
  place_at at x h e =
      let one = ap length view in
      let two = length-map places (shape_of kinds) in
      slice_get_read places (length places) at x refl (omega arith) e

  seen_at : (at : ℕ) (x p : Option Span) → at < length shapes → x ≡ slice_index_or places at x → x ≡ p → slice_get shapes at ≡ Some (shape_of kinds p)
  seen_at at x p h e is = subst (λ s. slice_get s at ≡ Some (shape_of kinds p)) view (seen kinds places at p (place_at at x h e ∙ ap Some is))

  pub known_at : (at : ℕ) (x : Option Span) (r : Bool) → at < length shapes → x ≡ slice_index_or places at x → r ≡ is_some x → IsTrue r ↔ IsKnown shapes at
  known_at at (Some span) r h e is = (λ t. (kinds_of kinds span, seen_at at (Some span) (Some span) h e refl), λ k. is)
  known_at at None r h e is = (λ t. absurd (cc), λ k. let none = seen_at at None None h e refl in let some = k.1 in absurd (cc))

  pub read_at : (at : ℕ) (x : Option Span) (span : Span) (part ks : List SlotKind) → at < length shapes → x ≡ slice_index_or places at x → x ≡ Some span →
      part ≡ take span.count (drop span.first kinds) → ks ≡ reverse part → slice_get shapes at ≡ Some (Some ks)
  read_at at x span part ks h e is p k = seen_at at x (Some span) h e is ∙ ap (λ l. Some (Some (reverse l))) (sym p) ∙ ap (λ l. Some (Some l)) (sym k)

  read_none : (at : ℕ) (x : Option Span) → at < length shapes → x ≡ slice_index_or places at x → x ≡ None → slice_get shapes at ≡ Some None
  read_none at x h e is = seen_at at x None h e is

  pub others_at : (at : ℕ) (x : Option Span) (span : Span) (part ks : List SlotKind) → at < length shapes → x ≡ slice_index_or places at x → x ≡ Some span →
      part ≡ take span.count (drop span.first kinds) → (ks ≡ reverse part → ⊥) → HasArrived shapes at ks shapes Other
  others_at at x span part ks h e is p never = (reverse part, read_at at x span part (reverse part) h e is p refl, λ (q : reverse part ≡ ks). never (sym q), refl)

  -- kinds come to a place that has none, and stand at the end
  pub arrived : (more all front new ks : List SlotKind) (at : ℕ) (x : Option Span) (span : Span) → AreWithin (length kinds) places → at < length shapes →
      x ≡ slice_index_or places at x → x ≡ None → all ≡ kinds ++ more → all ≡ front ++ new → span.first ≡ length front → span.count ≡ length new → reverse new ≡ ks →
      HasArrived shapes at ks (map (shape_of all) (slice_set places at (Some span))) First
  arrived more all front new ks at x span w h e is a b f c r =
      let part : take span.count (drop span.first all) ≡ new =
      ap (λ n. take n (drop span.first all)) c ∙ ap (λ n. take (length new) (drop n all)) f ∙ ap (λ l. take (length new) (drop (length front) l)) b ∙ new_part front new in
      let stay : map (shape_of all) places ≡ shapes = ap (λ l. map (shape_of l) places) a ∙ same_shapes kinds more places w ∙ view in (
        read_none at x h e is,
        map_set all places at (Some span)
            ∙ ap (λ s. slice_set s at (Some (reverse (take span.count (drop span.first all))))) stay
            ∙ ap (λ l. slice_set shapes at (Some l)) (ap reverse part ∙ r),
      )

  pub begins_empty : AreWithin (length kinds) places → slice_get shapes 0 ≡ Some (Some []) → BeginsEmpty places
  begins_empty w e =
      let p = place_of kinds places 0 [] (subst (λ s. slice_get s 0 ≡ Some (Some [])) (sym view) e) in
      (p.0, p.1, sym (length_of kinds p.0 (w 0 p.0 p.1)) ∙ sym (ap length p.2))

  pub deepest_of : (most : ℕ) → AreWithin (length kinds) places → IsLongest places most → IsDeepest shapes most
  deepest_of most w l = record {
    most = λ at ks e.
        let p = place_of kinds places at ks (subst (λ s. slice_get s at ≡ Some (Some ks)) (sym view) e) in
        let size : length ks ≡ p.0.count = ap length p.2 ∙ length_of kinds p.0 (w at p.0 p.1) in
        let m = l.each at p.0 p.1 in
        omega arith;
    some =
        let s = l.some in (
          s.0,
          kinds_of kinds s.1,
          subst (λ x. slice_get x s.0 ≡ Some (Some (kinds_of kinds s.1))) view (seen kinds places s.0 (Some s.1) s.2),
          length_of kinds s.1 (w s.0 s.1 s.2) ∙ s.3,
        );
  }
