-- What the heap shows after each change.
use Rattle.std.proofs.Common.{◌≡◌, ◌≢◌, ◌<◌, ◌≤◌, ◌+◌, ◌-◌, ◌⊎◌, inl, inr, ℕ, List, [], ◌∷◌, ◌++◌, Option, Some, None, Bool, true, false, cond, refl, sym, ◌∙◌, ap, subst, arith}
use Rattle.std.specs.Prelude.{nat_lt, ◌==◌}
use Rattle.std.proofs.lemmas.Bool.{cases_eq, ltb-true, ltb-false, eqb-true, eq-eqb, and_parts, and_from}
use Rattle.jr_base.specs.declared.number.ObjId.{ObjId}
use Rattle.jr_base.specs.declared.value.Cell.{Cell}
use Rattle.jr_base.specs.declared.value.Value.{Value}
use Rattle.jr_base.specs.declared.value.Ask.{Ask}
use Rattle.jr_base.specs.declared.value.Ask.TheVariants as asks
use Rattle.jr_base.specs.declared.value.Seen.{Seen}
use Rattle.jr_base.specs.declared.value.Seen.TheVariants as answers
use Rattle.jr_heap.specs.declared.layout.Place.{Place}
use Rattle.jr_heap.specs.Layout.{LayoutOf, object_at, slot_at, cell_at, HasOwnPlaces}
use Rattle.jr_stamps.specs.declared.pins.Pin.{Pin}
use Rattle.jr_stamps.specs.Pins.{PinsOf, pin_in, IsPinned}
use Rattle.jr_version_heap.specs.declared.version.Version.{Version}
use Rattle.jr_version_heap.specs.Versions.{version_in, IsAdvanced, newest_version, LAST}
use Rattle.jr_version_heap.specs.Needs.{Body, body, body_of, body_in, IsPlaced, SameStamps, Lasts, stamp_of}
use Rattle.jr_version_heap.specs.Histories.{Change, Wrote, after, seen_from, same_cell, slot_then, IsShown, ShowsAt, ShowsIn, room_of}
use Rattle.jr_version_heap.proofs.Lists.{one_body}

-- ---- a history with one more change

pub seen_more : (before : Seen) (h : List Change) (c : Change) (what : Ask) (k : ℕ) → seen_from before (h ++ c ∷ []) what k ≡ after c what k (seen_from before h what k)
seen_more before [] c what k = refl
seen_more before (d ∷ ds) c what k = seen_more (after d what k before) ds c what k

-- ---- versions that are there still

pub shown_still : (old new : List (Option Version)) (at k : ℕ) (seen : Seen)
    → ((j : ℕ) (b : Body) → body_in old j ≡ Some b → b.place ≡ at → b.since ≤ k → k ≤ b.upto → Lasts new b) → IsShown old at k seen → IsShown new at k seen
shown_still old new at k seen lasts s =
    let l = lasts s.key s.body s.is s.place s.since s.upto in
    record {
      key = l.key;
      body = l.body;
      is = l.is;
      place = l.place ∙ s.place;
      since = (let e = l.since in let b = s.since in omega arith);
      upto = (let e = l.upto in let b = s.upto in omega arith);
      value = s.value ∙ ap (λ (z : Value). answers.Value z) (sym l.value);
    }

pub shows_still : (old new : List (Option Version)) (slot : Option ℕ) (k : ℕ) (seen : Seen)
    → ((j : ℕ) (b : Body) → body_in old j ≡ Some b → b.since ≤ k → k ≤ b.upto → Lasts new b) → ShowsAt old slot k seen → ShowsAt new slot k seen
shows_still old new None k seen lasts s = s
shows_still old new (Some at) k seen lasts s = shown_still old new at k seen (λ j b is place since upto. lasts j b is since upto) s

-- a placed version lasts, and so does each other
pub placed_lasts : (old new : List (Option Version)) (key : ℕ) → IsPlaced old new key → (j : ℕ) (b : Body) → body_in old j ≡ Some b → Lasts new b
placed_lasts old new key p j b is =
    elim (cases_eq j key) [
      | inl here ↦
          let e = one_body (body_in old) j key b p.was is p.was_is here in
          record {
            key = key;
            body = p.now;
            is = p.now_is;
            place = p.place ∙ ap (λ (z : Body). z.place) (sym e);
            value = p.value ∙ ap (λ (z : Body). z.value) (sym e);
            since = p.since ∙ ap (λ (z : Body). z.since) (sym e);
            upto = p.upto ∙ ap (λ (z : Body). z.upto) (sym e);
          }
      | inr there ↦ record { key = j; body = b; is = p.others j there ∙ is; place = refl; value = refl; since = refl; upto = refl }
    ]

-- ---- places of slots

pub record FoundThen (p : Option Place) (slot k at : ℕ) : Type 0 where
  pub place : Place
  pub is : p ≡ Some place
  pub since : place.since ≤ k
  pub there : slot_at p slot ≡ Some at

found_by : (q : Place) (slot k at : ℕ) (b : Bool) → nat_lt k q.since ≡ b → cond b None (slot_at (Some q) slot) ≡ Some at → FoundThen (Some q) slot k at
found_by q slot k at true early found = cc
found_by q slot k at false late found = record { place = q; is = refl; since = ltb-false _ _ late; there = found }

pub found_then : (p : Option Place) (slot k at : ℕ) → slot_then p slot k ≡ Some at → FoundThen p slot k at
found_then None slot k at found = cc
found_then (Some q) slot k at found = found_by q slot k at (nat_lt k q.since) refl found

-- a slot of an object that was made by then
pub slot_late : (p : Option Place) (slot k at : ℕ) → ((q : Place) → p ≡ Some q → q.since ≤ k) → slot_at p slot ≡ Some at → slot_then p slot k ≡ Some at
slot_late None slot k at late there = cc
slot_late (Some q) slot k at late there = by_test (nat_lt k q.since) refl
  where
    by_test : (b : Bool) → nat_lt k q.since ≡ b → cond (nat_lt k q.since) None (slot_at (Some q) slot) ≡ Some at
    by_test true early = absurd (let l = ltb-true _ _ early in let m = late q refl in omega arith)
    by_test false late' = ap (λ (z : Bool). cond z None (slot_at (Some q) slot)) late' ∙ there

eq_self : (n : ℕ) → (n == n) ≡ true
eq_self n = eq-eqb n n refl

-- ---- cells by their numbers

same_cell_is : (d c : Cell) → same_cell d c ≡ true → d ≡ c
same_cell_is d c same =
    let parts = and_parts (d.obj.0 == c.obj.0) (d.slot == c.slot) same in
    let o = eqb-true d.obj.0 c.obj.0 parts.0 in
    let t = eqb-true d.slot c.slot parts.1 in
    let cell : ℕ → ℕ → Cell = λ n m. record { obj = record { 0 = n }; slot = m } in
    ap (λ (z : ℕ). cell z d.slot) o ∙ ap (λ (z : ℕ). cell c.obj.0 z) t

pub test_true : (b : Bool) {A : Type 0} (x y : A) → b ≡ true → cond b x y ≡ x
test_true b x y e = ap (λ (z : Bool). cond z x y) e

pub test_false : (b : Bool) {A : Type 0} (x y : A) → b ≡ false → cond b x y ≡ y
test_false b x y e = ap (λ (z : Bool). cond z x y) e

-- ---- a write

module _ (layout : LayoutOf) (old middle new : List (Option Version)) (r n place at next : ℕ) (value : Value) (c : Cell)
    (own : HasOwnPlaces layout) (there : cell_at layout c ≡ Some place)
    (made : (object : ObjId) (p : Place) → object_at layout object ≡ Some p → p.since ≤ next) (later : next ≤ at)
    (a : IsAdvanced old middle r n place at value) (settled : IsPlaced middle new r) where
  new_other : n ≢ r
  new_other same = let e = sym (ap (version_in old) same) ∙ a.fresh in let f = a.was_is in cc

  -- a version of another cell, and any version up to the step of the write, is there still
  write_lasts : (k : ℕ) (j : ℕ) (b : Body) → body_in old j ≡ Some b → (b.place ≢ place) ⊎ (k ≤ at) → b.since ≤ k → k ≤ b.upto → IsShown new b.place k (answers.Value b.value)
  write_lasts k j b is which since upto =
      elim (cases_eq j r) [
        | inl here ↦
            let e = one_body (body_in old) j r b (body a.was) is (ap body_of a.was_is) here in
            let p = ap (λ (z : Body). z.place) e ∙ a.was_place in
            elim which [
              | inl other ↦ absurd (other p)
              | inr early ↦
                  let l = placed_lasts middle new r settled r (body (record a.was { upto = at; home = _; newer = Some n; next = None })) (ap body_of a.now) in
                  record {
                    key = l.key;
                    body = l.body;
                    is = l.is;
                    place = l.place ∙ ap (λ (z : Body). z.place) (sym e);
                    since = (let x = l.since in let y = ap (λ (z : Body). z.since) e in omega arith);
                    upto = (let x = l.upto in omega arith);
                    value = ap (λ (z : Body). answers.Value z.value) e ∙ ap (λ (z : Value). answers.Value z) (sym l.value);
                  }
            ]
        | inr apart ↦
            let fresh : j ≢ n = λ same. (let e = sym (ap (body_in old) same) ∙ is in let f = ap body_of a.fresh in cc (e, f)) in
            let l = placed_lasts middle new r settled j b (ap body_of (a.others j fresh apart) ∙ is) in
            record {
              key = l.key;
              body = l.body;
              is = l.is;
              place = l.place;
              since = (let x = l.since in omega arith);
              upto = (let x = l.upto in omega arith);
              value = ap (λ (z : Value). answers.Value z) (sym l.value);
            }
      ]

  write_still : (k i : ℕ) (seen : Seen) → (i ≢ place) ⊎ (k ≤ at) → IsShown old i k seen → IsShown new i k seen
  write_still k i seen which s =
      let l = write_lasts k s.key s.body s.is (elim which [ inl other ↦ inl (λ e. other (sym s.place ∙ e)) | inr early ↦ inr early ]) s.since s.upto in
      record { key = l.key; body = l.body; is = l.is; place = l.place ∙ s.place; since = l.since; upto = l.upto; value = s.value ∙ l.value }

  write_new : (k : ℕ) → at < k → k ≤ LAST → IsShown new place k (answers.Value value)
  write_new k lt small =
      let l = placed_lasts middle new r settled n (body (newest_version place value at r)) (ap body_of a.front) in
      record {
        key = l.key;
        body = l.body;
        is = l.is;
        place = l.place;
        since = (let e = l.since in omega arith);
        upto = (let e = l.upto in omega arith);
        value = ap (λ (z : Value). answers.Value z) (sym l.value);
      }

  slot_cell : (d : Cell) (k i : ℕ) → slot_then (object_at layout d.obj) d.slot k ≡ Some i → cell_at layout d ≡ Some i
  slot_cell d k i found =
      let f = found_then (object_at layout d.obj) d.slot k i found in
      ap (λ (z : Option Place). slot_at z d.slot) (f.is) ∙ (ap (λ (z : Option Place). slot_at z d.slot) (sym f.is) ∙ f.there)

  written_slot : (k : ℕ) → at < k → slot_then (object_at layout c.obj) c.slot k ≡ Some place
  written_slot k lt = slot_late (object_at layout c.obj) c.slot k place (λ q is. (let m = made c.obj q is in omega arith)) there

  -- the cell that was written, and each other
  write_cell : (d : Cell) (k : ℕ) (seen : Seen) → k ≤ LAST → ShowsAt old (slot_then (object_at layout d.obj) d.slot k) k seen
      → ShowsAt new (slot_then (object_at layout d.obj) d.slot k) k (after (Wrote c value (at + 1)) (asks.Cell d) k seen)
  write_cell d k seen small s = by_time (nat_lt k (at + 1)) refl
    where
      by_slot : (slot : Option ℕ) → slot_then (object_at layout d.obj) d.slot k ≡ slot → ((i : ℕ) → slot ≡ Some i → (i ≢ place) ⊎ (k ≤ at)) → ShowsAt old slot k seen → ShowsAt new slot k seen
      by_slot None is which shown = shown
      by_slot (Some i) is which shown = write_still k i seen (which i refl) shown

      by_cell : (b : Bool) → same_cell d c ≡ b → at < k → ShowsAt new (slot_then (object_at layout d.obj) d.slot k) k (cond b (answers.Value value) seen)
      by_cell true same lt =
          let e = same_cell_is d c same in
          let f : slot_then (object_at layout d.obj) d.slot k ≡ Some place = ap (λ (z : Cell). slot_then (object_at layout z.obj) z.slot k) e ∙ written_slot k lt in
          subst (λ (z : Option ℕ). ShowsAt new z k (answers.Value value)) (sym f) (write_new k lt small)
      by_cell false differs lt =
          by_slot (slot_then (object_at layout d.obj) d.slot k) refl
          (λ i is. inl (λ e. (let same : d ≡ c = own.own c d place there (slot_cell d k i is ∙ ap (λ (z : ℕ). Some z) e) in
          let t : same_cell d c ≡ true = ap (λ (z : Cell). same_cell z c) same ∙ same_self c in cc (t, differs)))) s
        where
          same_self : (z : Cell) → same_cell z z ≡ true
          same_self z = and_from (z.obj.0 == z.obj.0) (z.slot == z.slot) (eq_self z.obj.0) (eq_self z.slot)

      by_time : (b : Bool) → nat_lt k (at + 1) ≡ b
          → ShowsAt new (slot_then (object_at layout d.obj) d.slot k) k (cond (nat_lt k (at + 1)) seen (cond (same_cell d c) (answers.Value value) seen))
      by_time true early =
          subst (λ (z : Bool). ShowsAt new (slot_then (object_at layout d.obj) d.slot k) k (cond z seen (cond (same_cell d c) (answers.Value value) seen))) (sym early)
          (by_slot (slot_then (object_at layout d.obj) d.slot k) refl (λ i is. inr (let l = ltb-true _ _ early in omega arith)) s)
      by_time false late =
          subst (λ (z : Bool). ShowsAt new (slot_then (object_at layout d.obj) d.slot k) k (cond z seen (cond (same_cell d c) (answers.Value value) seen))) (sym late)
          (by_cell (same_cell d c) refl (let l = ltb-false _ _ late in omega arith))

  -- whatever is asked
  pub write_shows : (what : Ask) (k : ℕ) (seen : Seen) → k < 4294967296 → ShowsIn layout old what k seen → ShowsIn layout new what k (after (Wrote c value (at + 1)) what k seen)
  write_shows (asks.Cell d) k seen small s = write_cell d k seen (omega arith) s
  write_shows (asks.Length o) k seen small s = s

-- ---- pins

pub had_stamp : (o : Option Pin) (stamp : ℕ) → stamp_of o ≡ Some stamp → (pin : Pin) × (o ≡ Some pin) × (pin.stamp.0 ≡ stamp)
had_stamp None stamp is = cc
had_stamp (Some pin) stamp is = (pin, refl, cc)

-- a stamp that is pinned was pinned, where each pin has the stamp that it had
pub pinned_was : (old new : PinsOf) (k : ℕ) → SameStamps old.pins new.pins → IsPinned new k → IsPinned old k
pinned_was old new k same pinned =
    let e : stamp_of (pin_in old.pins pinned.0) ≡ Some k = sym (same pinned.0) ∙ (ap stamp_of pinned.2 ∙ ap (λ (z : ℕ). Some z) pinned.3) in
    let h = had_stamp (pin_in old.pins pinned.0) k e in
    (pinned.0, h.0, h.1, h.2)

-- ---- room

pub room_small : (capacity pending count : ℕ) → 0 < room_of capacity pending - count → (capacity ≤ 4294967295) × (capacity ≤ pending) × (count < capacity)
room_small capacity pending count spare = by_test (nat_lt 4294967295 capacity) (nat_lt pending capacity) refl refl spare
  where
    by_test : (a b : Bool) → nat_lt 4294967295 capacity ≡ a → nat_lt pending capacity ≡ b → 0 < cond a 0 (cond b 0 capacity) - count → (capacity ≤ 4294967295) × (capacity ≤ pending) × (count < capacity)
    by_test true b large e r = absurd (omega arith)
    by_test false true fits large r = absurd (omega arith)
    by_test false false fits within r = (ltb-false _ _ fits, ltb-false _ _ within, omega arith)
