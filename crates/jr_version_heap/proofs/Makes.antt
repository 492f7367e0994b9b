-- What making an object leaves.
use Rattle.std.proofs.Common.{◌≡◌, ◌≢◌, ◌<◌, ◌≤◌, ◌+◌, inl, inr, ℕ, List, [], ◌∷◌, ◌++◌, length, get_or, Option, Some, None, Bool, true, false, cond, refl, sym, ◌∙◌, ap, subst, arith}
use Rattle.std.specs.Prelude.{nat_lt, ◌==◌, slice_get}
use Rattle.std.proofs.lemmas.Bool.{cases_eq, ltb-true, ltb-false, eqb-true, eq-eqb}
use Rattle.jr_base.specs.declared.number.ObjId.{ObjId}
use Rattle.jr_base.specs.declared.value.Value.{Value}
use Rattle.jr_base.specs.declared.value.Ask.{Ask}
use Rattle.jr_base.specs.declared.value.Ask.TheVariants as asks
use Rattle.jr_base.specs.declared.value.Seen.{Seen}
use Rattle.jr_base.specs.declared.value.Seen.TheVariants as answers
use Rattle.jr_heap.specs.declared.layout.Place.{Place}
use Rattle.jr_heap.specs.Layout.{LayoutOf, object_at, slot_at, find_object, Adds}
use Rattle.jr_stamps.specs.declared.pins.Pin.{Pin}
use Rattle.jr_version_heap.specs.declared.version.Home.{Home}
use Rattle.jr_version_heap.specs.declared.version.Home.TheVariants.{Loose}
use Rattle.jr_version_heap.specs.declared.version.Past.{Past}
use Rattle.jr_version_heap.specs.declared.version.Version.{Version}
use Rattle.jr_version_heap.specs.Versions.{version_in, IsChained, HasFirsts, first_version, LAST}
use Rattle.jr_version_heap.specs.Needs.{Body, IsKept, Lasts, body, body_of, body_in}
use Rattle.jr_version_heap.specs.Histories.{IsHeap, VersionsOf, StandsFor, IsReadable, ShowsIn, ShowsAt, Change, Made, after, seen_before, place_of, slot_then, length_then}
use Rattle.jr_heap.specs.Plain.{seen_value, seen_length}
use Rattle.jr_version_heap.proofs.Lists.{has_version}
use Rattle.jr_version_heap.proofs.Stands.{shows_still, seen_more}
use Rattle.std.proofs.lemmas.Option.{slice_get-get_or, slice_get_past}
use Rattle.jr_base.specs.declared.value.Cell.{Cell}
use Rattle.jr_base.specs.declared.value.Value.TheVariants.{Null}

-- more room
pub kept_limit : (bodies : ℕ → Option Body) (pins : List (Option Pin)) (pending : List ℕ) (home : Home) (first : Option ℕ) (rest : List ℕ) (bound limit more : ℕ)
    → limit ≤ more → IsKept bodies pins pending home first rest bound limit → IsKept bodies pins pending home first rest bound more
kept_limit bodies pins pending home first rest bound limit more le ok = record {
  small = λ k b is. (let s = ok.small k b is in (s.0, omega (arith, s.1)));
  served = ok.served;
  lists = ok.lists;
  unneeded = ok.unneeded;
  waiting = ok.waiting;
  once = ok.once;
  loose_list = ok.loose_list;
  loose_all = ok.loose_all;
  loose_bound = ok.loose_bound;
  only = ok.only;
  loose_front = ok.loose_front;
  loose_chain = ok.loose_chain;
  loose_free = ok.loose_free;
}

pub added_made : (old new : LayoutOf) (o : ObjId) (p : Place) (next since : ℕ) → Adds old o p new → p.since ≤ since → next ≤ since
    → ((object : ObjId) (place : Place) → object_at old object ≡ Some place → place.since ≤ next)
    → (object : ObjId) (place : Place) → object_at new object ≡ Some place → place.since ≤ since
added_made old new o p next since adds begins later made object place found =
    elim (cases_eq object.0 o.0) [
      | inl here ↦
          let mk : ℕ → ObjId = λ n. record { 0 = n } in
          let d : object_at new o ≡ Some place = ap (λ (n : ℕ). object_at new (mk n)) (sym here) ∙ found in
          let e : place ≡ p = (let a = adds.added in cc) in
          let s = ap (λ (z : Place). z.since) e in omega arith
      | inr there ↦ let m = made object place (sym (adds.others object there) ∙ found) in omega arith
    ]

pub reserve_heap : (layout more : LayoutOf) (newest newest' : List ℕ) (versions versions' : List (Option Version)) (pins : List (Option Pin)) (pending pending' : List ℕ) (past : Past) (room room' : ℕ)
    → more.objects ≡ layout.objects → more.cells ≡ layout.cells → newest' ≡ newest → versions' ≡ versions → pending' ≡ pending → room ≤ room'
    → IsHeap layout newest versions pins pending past room → IsHeap more newest' versions' pins pending' past room'
reserve_heap layout more newest newest' versions versions' pins pending pending' past room room' objects cells n v p r heap = record {
  count = ap length n ∙ (heap.count ∙ sym cells);
  chained = subst (λ (z : List ℕ). IsChained z versions' past) (sym n) (subst (λ (z : List (Option Version)). IsChained newest z past) (sym v) heap.chained);
  kept = kept_limit (body_in versions') pins pending' Loose None [] 0 room room' r
      (subst (λ (z : List ℕ). IsKept (body_in versions') pins z Loose None [] 0 room) (sym p)
      (subst (λ (z : List (Option Version)). IsKept (body_in z) pins pending Loose None [] 0 room) (sym v) heap.kept));
  made = λ object place found. heap.made object place (ap (λ (z : List (ℕ × Place)). find_object z object.0) (sym objects) ∙ found);
}

-- ---- what the heap shows then

module _ (layout more : LayoutOf) (old new : List (Option Version)) (o : ObjId) (array : Bool) (values : List Value) (since start : ℕ)
    (absent : object_at layout o ≡ None) (adds : Adds layout o (record { array = array; start = start; len = length values; since = since }) more)
    (firsts : HasFirsts old new start values since (length values)) where
  abbrev p : Place
  p = record { array = array; start = start; len = length values; since = since }

  same_object : (d : ObjId) → d.0 ≡ o.0 → object_at more d ≡ Some p
  same_object d here = let mk : ℕ → ObjId = λ n. record { 0 = n } in ap (λ (n : ℕ). object_at more (mk n)) here ∙ adds.added

  was_absent : (d : ObjId) → d.0 ≡ o.0 → object_at layout d ≡ None
  was_absent d here = let mk : ℕ → ObjId = λ n. record { 0 = n } in ap (λ (n : ℕ). object_at layout (mk n)) here ∙ absent

  lasts : (j : ℕ) (b : Body) → body_in old j ≡ Some b → Lasts new b
  lasts j b is =
      let h = has_version (version_in old j) b is in
      record { key = j; body = b; is = ap body_of (firsts.kept j h.version h.is) ∙ ap (λ (z : Body). Some z) h.same; place = refl; value = refl; since = refl; upto = refl }

  new_slot : (slot k : ℕ) → since ≤ k → k ≤ LAST → (b : Bool) → nat_lt slot (length values) ≡ b
      → ShowsAt new (cond b (Some (start + slot)) None) k (seen_value (slice_get values slot))
  new_slot slot k late small true inside =
      let within = ltb-true _ _ inside in
      let d = get_or values slot Null in
      let f = firsts.firsts slot Null within in
      record {
        key = f.0;
        body = body (first_version (start + slot) d since);
        is = ap body_of f.1;
        place = refl;
        since = late;
        upto = small;
        value = ap seen_value (slice_get-get_or values slot Null within);
      }
  new_slot slot k late small false outside = ap seen_value (slice_get_past values slot (ltb-false _ _ outside))

  new_cell : (d : Cell) (k : ℕ) (seen : Seen) → k ≤ LAST → d.obj.0 ≡ o.0 → ShowsAt old (slot_then (object_at layout d.obj) d.slot k) k seen → (b : Bool) → nat_lt k since ≡ b
      → ShowsAt new (cond b None (slot_at (Some p) d.slot)) k (cond b seen (seen_value (slice_get values d.slot)))
  new_cell d k seen small here shown true early =
      subst (λ (z : Option Place). ShowsAt old (slot_then z d.slot k) k seen) (was_absent d.obj here) shown
  new_cell d k seen small here shown false late = new_slot d.slot k (ltb-false _ _ late) small (nat_lt d.slot (length values)) refl

  new_length : (d : ObjId) (k : ℕ) (seen : Seen) → d.0 ≡ o.0 → seen ≡ length_then (object_at layout d) k → (b : Bool) → nat_lt k since ≡ b
      → cond b seen (seen_length (Some (place_of array values since))) ≡ cond b answers.Absent (seen_length (Some p))
  new_length d k seen here shown true early = shown ∙ ap (λ (z : Option Place). length_then z k) (was_absent d here)
  new_length d k seen here shown false late = refl

  both_same : (b : Bool) (x : Seen) → cond b x x ≡ x
  both_same true x = refl
  both_same false x = refl

  pub make_shows : (what : Ask) (k : ℕ) (seen : Seen) → k < 4294967296 → ShowsIn layout old what k seen → ShowsIn more new what k (after (Made o array values since) what k seen)
  make_shows (asks.Cell d) k seen small shown = by_cell (d.obj.0 == o.0) refl
    where
      by_cell : (b : Bool) → (d.obj.0 == o.0) ≡ b
          → ShowsAt new (slot_then (object_at more d.obj) d.slot k) k (cond (nat_lt k since) seen (cond (d.obj.0 == o.0) (seen_value (slice_get values d.slot)) seen))
      by_cell true same =
          let here = eqb-true d.obj.0 o.0 same in
          subst (λ (z : Bool). ShowsAt new (slot_then (object_at more d.obj) d.slot k) k (cond (nat_lt k since) seen (cond z (seen_value (slice_get values d.slot)) seen))) (sym same)
          (subst (λ (z : Option Place). ShowsAt new (slot_then z d.slot k) k (cond (nat_lt k since) seen (seen_value (slice_get values d.slot)))) (sym (same_object d.obj here))
          (new_cell d k seen (omega arith) here shown (nat_lt k since) refl))
      by_cell false differs =
          let there : d.obj.0 ≢ o.0 = λ e. (let t = eq-eqb d.obj.0 o.0 e in cc (t, differs)) in
          subst (λ (z : Bool). ShowsAt new (slot_then (object_at more d.obj) d.slot k) k (cond (nat_lt k since) seen (cond z (seen_value (slice_get values d.slot)) seen))) (sym differs)
          (subst (λ (z : Seen). ShowsAt new (slot_then (object_at more d.obj) d.slot k) k z) (sym (both_same (nat_lt k since) seen))
          (subst (λ (z : Option Place). ShowsAt new (slot_then z d.slot k) k seen) (sym (adds.others d.obj there))
          (shows_still old new (slot_then (object_at layout d.obj) d.slot k) k seen (λ j b is s u. lasts j b is) shown)))
  make_shows (asks.Length d) k seen small shown = by_object (d.0 == o.0) refl
    where
      by_object : (b : Bool) → (d.0 == o.0) ≡ b
          → cond (nat_lt k since) seen (cond (d.0 == o.0) (seen_length (Some (place_of array values since))) seen) ≡ length_then (object_at more d) k
      by_object true same =
          let here = eqb-true d.0 o.0 same in
          ap (λ (z : Bool). cond (nat_lt k since) seen (cond z (seen_length (Some (place_of array values since))) seen)) same
          ∙ (new_length d k seen here shown (nat_lt k since) refl ∙ ap (λ (z : Option Place). length_then z k) (sym (same_object d here)))
      by_object false differs =
          let there : d.0 ≢ o.0 = λ e. (let t = eq-eqb d.0 o.0 e in cc (t, differs)) in
          ap (λ (z : Bool). cond (nat_lt k since) seen (cond z (seen_length (Some (place_of array values since))) seen)) differs
          ∙ (both_same (nat_lt k since) seen ∙ (shown ∙ ap (λ (z : Option Place). length_then z k) (sym (adds.others d there))))

pub make_stands : (m new : VersionsOf) (o : ObjId) (array : Bool) (values : List Value) (since start : ℕ) (h : List Change)
    → object_at m.layout o ≡ None → Adds m.layout o (record { array = array; start = start; len = length values; since = since }) new.layout
    → HasFirsts m.versions new.versions start values since (length values)
    → ((k : ℕ) → IsReadable new k → IsReadable m k) → StandsFor m h → StandsFor new (h ++ Made o array values since ∷ [])
make_stands m new o array values since start h absent adds firsts readable stands what k small may =
    subst (ShowsIn new.layout new.versions what k) (sym (seen_more _ h (Made o array values since) what k))
    (make_shows m.layout new.layout m.versions new.versions o array values since start absent adds firsts what k (seen_before h what k) small (stands what k small (readable k may)))
