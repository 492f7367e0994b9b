-- Handlers of regions that paths reach.
use Rattle.std.proofs.Common.{◌≡◌, ℕ, ◌+◌, ◌<◌, ◌≤◌, ◌⊎◌, List, [], ◌∷◌, length, min, max, Option, Some, None, sym, ap, ◌∙◌, subst, arith, inl, inr, ⊎_elim}
use Rattle.std.specs.Prelude.{slice_get, option_map, MatchOption}
use Rattle.std.proofs.lemmas.Option.{slice_get-map, slice_get_within}
use Rattle.std.proofs.lemmas.List.{length-map}
use Rattle.jr_base.specs.declared.kind.SlotKind.{SlotKind}
use Rattle.jr_base.specs.declared.kind.SlotKind.TheVariants.{Caught as CaughtKind}
use Rattle.jr_base.specs.declared.finish.Fault.{Fault}
use Rattle.jr_code.specs.declared.code.Code.{Code as CodeOfLists}
use Rattle.jr_code.specs.declared.code.MethodCode.{MethodCode as MethodOfLists}
use Rattle.jr_code.specs.declared.code.Region.{Region as RegionOfLists}
use Rattle.jr_code.specs.declared.code.RegionKind.TheVariants.{Catch}
use Rattle.jr_code.specs.Instructions.{CatchAt, Region, MethodCode, Code}
use Rattle.jr_code.specs.Coded.{plain}
use Rattle.jr_code.specs.Paths.{HandledAt, Reaches, Catches}
use Rattle.jr_code.specs.Views.{tables_of, plain_of, region_of, kind_of_region}
use Rattle.jr_code.specs.WellFormed.{plain_method, BreaksRule, Rule, Handler}
use Rattle.jr_code.specs.Verifier.{OnPaths, CatchDone, Caught, Woken, IsKnown, Untouched, IsTouched, Extends, SettledBelow, SweptTo, Pending, rounds, lower_of}
use Rattle.jr_code.proofs.Growth.{unchanged, from_lower, then_extends, settled_stays}
use Rattle.jr_code.proofs.Leaving.{before_or_there, at_most_or_above}

region_at : (code : CodeOfLists) (m : MethodOfLists) (n : ℕ) (r : RegionOfLists) → slice_get m.regions.items n ≡ Some r → slice_get (plain_method code m).regions n ≡ Some (region_of r)
region_at code m n r e = slice_get-map region_of m.regions.items n ∙ ap (option_map region_of) e

pub handled : (code : CodeOfLists) (m : MethodOfLists) (n : ℕ) (r : RegionOfLists) (fault : Fault) (at : ℕ) → slice_get m.regions.items n ≡ Some r → r.kind ≡ Catch fault →
    r.first ≤ at → at < r.past → HandledAt (plain_method code m) at r.target
handled code m n r fault at e k first past = record {
  number = n;
  region = region_of r;
  fault = fault;
  stands = region_at code m n r e;
  catches = ap (λ k. kind_of_region k r.target) k;
  first = first;
  past = past;
}

same_some : {A : Type 0} (a b : A) → Some a ≡ Some b → a ≡ b
same_some a b e = cc

⊎_swap : {A B : Type 0} → A ⊎ B → B ⊎ A
⊎_swap (inl a) = inr a
⊎_swap (inr b) = inl b

pub untouched_more : (shapes : List (Option (List SlotKind))) (from at : ℕ) → Untouched shapes from at → (IsKnown shapes at → ⊥) → Untouched shapes from (at + 1)
untouched_more shapes from at none unknown k ks low high e =
    ⊎_elim (λ (l : k < at). none k ks low l e) (λ (q : k ≡ at). unknown (ks, subst (λ k. slice_get shapes k ≡ Some (Some ks)) q e)) (before_or_there k at high)

-- a handler that is right where all that reaches the region stands before it
pub done : (code : CodeOfLists) (m : MethodOfLists) (shapes : List (Option (List SlotKind))) (n : ℕ) (r : RegionOfLists) (fault : Fault) →
    slice_get m.regions.items n ≡ Some r → r.kind ≡ Catch fault →
    ((at : ℕ) (ks : List SlotKind) → r.first ≤ at → at < r.past → slice_get shapes at ≡ Some (Some ks) → (at < r.target) × (slice_get shapes r.target ≡ Some (Some (CaughtKind ∷ [])))) →
    CatchDone (plain_method code m) shapes n
done code m shapes n r fault e k all r2 fault2 target stands kind at ks first past here =
    let same : region_of r ≡ r2 = same_some (region_of r) r2 (sym (region_at code m n r e) ∙ stands) in
    let first2 : r.first ≤ at = subst (λ (x : Region). x.first ≤ at) (sym same) first in
    let past2 : at < r.past = subst (λ (x : Region). at < x.past) (sym same) past in
    let kinds : CatchAt fault r.target ≡ CatchAt fault2 target =
    sym (ap (λ k. kind_of_region k r.target) k) ∙ ap (λ (x : Region). x.kind) same ∙ kind in
    let t : r.target ≡ target = cc in
    subst (λ t. (at < t) × (slice_get shapes t ≡ Some (Some (CaughtKind ∷ [])))) t (all at ks first2 past2 here)

pub done_untouched : (code : CodeOfLists) (m : MethodOfLists) (shapes : List (Option (List SlotKind))) (n past : ℕ) (r : RegionOfLists) (fault : Fault) →
    slice_get m.regions.items n ≡ Some r → r.kind ≡ Catch fault → past ≡ min r.past (length shapes) → Untouched shapes r.first past → CatchDone (plain_method code m) shapes n
done_untouched code m shapes n past r fault e k p none = done code m shapes n r fault e k
    (λ at ks first last here.
    let within = slice_get_within shapes at (Some ks) here in
    let before : at < past = omega arith in
    absurd (none at ks first before here))

pub done_reached : (code : CodeOfLists) (m : MethodOfLists) (shapes : List (Option (List SlotKind))) (n past from : ℕ) (r : RegionOfLists) (fault : Fault) →
    slice_get m.regions.items n ≡ Some r → r.kind ≡ Catch fault → past ≡ min r.past (length shapes) → from ≡ max r.first r.target → Untouched shapes from past →
    slice_get shapes r.target ≡ Some (Some (CaughtKind ∷ [])) → CatchDone (plain_method code m) shapes n
done_reached code m shapes n past from r fault e k p f none there = done code m shapes n r fault e k
    (λ at ks first last here.
    let within = slice_get_within shapes at (Some ks) here in
    ⊎_elim (λ (l : at < r.target). (l, there)) (λ (l : r.target ≤ at). absurd (none at ks (omega arith) (omega arith) here)) (⊎_swap (at_most_or_above r.target at)))

pub handler_wrong : (code : CodeOfLists) (m : MethodOfLists) (shapes : List (Option (List SlotKind))) (n from past at : ℕ) (r : RegionOfLists) (fault : Fault) →
    slice_get m.regions.items n ≡ Some r → r.kind ≡ Catch fault → OnPaths (plain_of code) (plain_method code m) shapes → past ≤ r.past → r.first ≤ from → IsTouched shapes from past at →
    (r.target ≤ at) ⊎ (length m.instrs.items ≤ r.target) → BreaksRule code m 0
handler_wrong code m shapes n from past at r fault e k sound p f touched wrong =
    let size = length-map m.instrs.items (plain (tables_of code)) in
    let low = touched.1 in
    let high = touched.2 in
    Rule 0 (Handler at r.target touched.0 (sound at touched.0 touched.3) (handled code m n r fault at e k (omega arith) (omega arith))
    (⊎_elim (λ (l : r.target ≤ at). inl l) (λ (l : length m.instrs.items ≤ r.target). inr (omega arith)) wrong))

pub handler_path : (code : CodeOfLists) (m : MethodOfLists) (shapes : List (Option (List SlotKind))) (n past at : ℕ) (r : RegionOfLists) (fault : Fault) (ks : List SlotKind) →
    slice_get m.regions.items n ≡ Some r → r.kind ≡ Catch fault → OnPaths (plain_of code) (plain_method code m) shapes → past ≤ r.past → IsTouched shapes r.first past at →
    ks ≡ CaughtKind ∷ [] → Reaches (plain_of code) (plain_method code m) r.target ks
handler_path code m shapes n past at r fault ks e k sound p touched same =
    let low = touched.1 in
    let high = touched.2 in
    subst (Reaches (plain_of code) (plain_method code m) r.target) (sym same)
    (Catches at r.target touched.0 (sound at touched.0 touched.3) (handled code m n r fault at e k low (omega arith)))

module _ (code : Code) (c : MethodCode) where
  below_next : (shapes : List (Option (List SlotKind))) (n : ℕ) → ((k : ℕ) → k < n → CatchDone c shapes k) → CatchDone c shapes n → (k : ℕ) → k < n + 1 → CatchDone c shapes k
  below_next shapes n all last k h = ⊎_elim (λ (l : k < n). all k l) (λ (e : k ≡ n). subst (CatchDone c shapes) (sym e) last) (before_or_there k n h)

  pub caught_more : (old middle new : List (Option (List SlotKind))) (n : ℕ) (low woken : Option ℕ) → Caught code c old middle n low →
      MatchOption woken ((new ≡ middle) × CatchDone c new n) (Woken code c middle new) → Caught code c old new (n + 1) (lower_of low woken)
  caught_more old middle new n None None h w =
      (w.0 ∙ h.0, below_next new n (subst (λ s. (k : ℕ) → k < n → CatchDone c s k) (sym w.0) h.1) w.1)
  caught_more old middle new n None (Some b) h w = subst (λ s. Woken code c s new b) h.0 w
  caught_more old middle new n (Some a) None h w = subst (λ s. Woken code c old s a) (sym w.0) h
  caught_more old middle new n (Some a) (Some b) h w =
      let one = h.less in
      let two = w.extends.fewer in
      let size = h.extends.size in
      let in_one = h.inside in
      record {
        extends = then_extends code c old middle new (min a b) (from_lower code c old middle a (min a b) (omega arith) h.extends) (from_lower code c middle new b (min a b) (omega arith) w.extends);
        less = omega arith;
        inside = omega arith;
      }

  pub caught_keeps : (middle new : List (Option (List SlotKind))) (n size : ℕ) (woken : Option ℕ) → OnPaths code c middle → length middle ≡ size →
      MatchOption woken ((new ≡ middle) × CatchDone c new n) (Woken code c middle new) → OnPaths code c new × (length new ≡ size)
  caught_keeps middle new n size None sound e w = (subst (OnPaths code c) (sym w.0) sound, ap length w.0 ∙ e)
  caught_keeps middle new n size (Some a) sound e w = (w.extends.on_paths, w.extends.size ∙ e)

  pub settled_more : (old middle swept new : List (Option (List SlotKind))) (n regions : ℕ) (start : Option ℕ) → Extends code c old middle 0 → Extends code c middle swept 0 →
      SettledBelow code c swept n → length swept ≡ n → Caught code c swept new regions start → Extends code c old new 0 × Pending code c new n regions start
  settled_more old middle swept new n regions None x y s e h = (
    subst (λ t. Extends code c old t 0) (sym h.0) (then_extends code c old middle swept 0 x y),
    (subst (λ t. SettledBelow code c t n) (sym h.0) s, h.1),
  )
  settled_more old middle swept new n regions (Some low) x y s e h =
      let inside = h.inside in (
        then_extends code c old swept new 0 (then_extends code c old middle swept 0 x y) (from_lower code c swept new low 0 (omega arith) h.extends),
        (λ p l. settled_stays code c swept new p low h.extends l (s p (omega arith)), omega arith),
      )

  pub fewer_rounds : (middle swept new : List (Option (List SlotKind))) (regions at : ℕ) (before start : Option ℕ) → before ≡ Some at → Extends code c middle swept 0 →
      Caught code c swept new regions start → rounds new start < rounds middle before
  fewer_rounds middle swept new regions at before None e y h = subst (λ b. rounds new None < rounds middle b) (sym e) (omega arith)
  fewer_rounds middle swept new regions at before (Some low) e y h =
      let one = h.less in
      let two = y.fewer in
      subst (λ b. rounds new (Some low) < rounds middle b) (sym e) (omega arith)

  -- what is settled before a place stays so before a handler that is reached first now
  pub settled_awake : (old new : List (Option (List SlotKind))) (at low : ℕ) → SettledBelow code c old at → at ≤ length old → Woken code c old new low →
      SweptTo code c old new 0 (min at low)
  settled_awake old new at low s h w =
      let inside = w.inside in
      record {
        extends = from_lower code c old new low 0 (omega arith) w.extends;
        settled = λ p l. settled_stays code c old new p low w.extends (omega arith) (s p (omega arith));
        reached = omega arith;
        inside = omega arith;
      }

  pub settled_asleep : (old new : List (Option (List SlotKind))) (at : ℕ) → SettledBelow code c old at → at ≤ length old → OnPaths code c old → new ≡ old →
      SweptTo code c old new 0 at
  settled_asleep old new at s h sound e =
      subst (λ new. SweptTo code c old new 0 at) (sym e)
      (record { extends = unchanged code c old 0 sound; settled = s; reached = omega arith; inside = h })
