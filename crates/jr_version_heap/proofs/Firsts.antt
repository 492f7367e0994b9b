-- The first objects, one after another.
use Rattle.std.proofs.Common.{◌≡◌, ◌≢◌, ◌<◌, ◌≤◌, ◌+◌, inl, inr, ℕ, List, [], ◌∷◌, ◌++◌, length, get_or, take, Some, None, false, refl, sym, ◌∙◌, ap, subst, arith}
use Rattle.std.specs.Prelude.{slice_get}
use Rattle.std.proofs.lemmas.Bool.{cases_eq, cases_lt}
use Rattle.std.proofs.lemmas.List.{take_more, take_all, length-take-le}
use Rattle.std.proofs.lemmas.Option.{slice_get-get_or, slice_get_past}
use Rattle.jr_base.specs.Spare.{Spare}
use Rattle.jr_base.specs.declared.number.ObjId.{ObjId}
use Rattle.jr_base.specs.declared.value.Value.{Value}
use Rattle.jr_heap.specs.declared.layout.Place.{Place}
use Rattle.jr_heap.specs.Layout.{LayoutOf, object_at, find_object, Adds}
use Rattle.jr_stamps.specs.Pins.{PinsOf, pin_at}
use Rattle.jr_version_heap.specs.declared.version.Past.{Past}
use Rattle.jr_version_heap.specs.Histories.{Change, Made, VersionsOf, StandsFor, first_objects, IsFirst, HasFirstObjects}

-- one more object
first_objects-append : (k : ℕ) (xs : List (Spare Value)) (x : Spare Value)
    → first_objects k (xs ++ x ∷ []) ≡ first_objects k xs ++ Made (record { 0 = k + length xs }) false x.items 0 ∷ []
first_objects-append k [] x = ap (λ (n : ℕ). Made (record { 0 = n }) false x.items 0 ∷ []) (let e : k ≡ k + 0 = omega arith in e)
first_objects-append k (y ∷ ys) x =
    ap (λ (h : List Change). Made (record { 0 = k }) false y.items 0 ∷ h) (first_objects-append (k + 1) ys x)
    ∙ ap (λ (n : ℕ). Made (record { 0 = k }) false y.items 0 ∷ (first_objects (k + 1) ys ++ Made (record { 0 = n }) false x.items 0 ∷ []))
    (let e : (k + 1) + length ys ≡ k + length (y ∷ ys) = omega arith in e)

pub first_more : (first : List (Spare Value)) (n : ℕ) (x : Spare Value) → n < length first → x ≡ get_or first n x → length (take n first) ≡ n
    → first_objects 1 (take (n + 1) first) ≡ first_objects 1 (take n first) ++ Made (record { 0 = n + 1 }) false x.items 0 ∷ []
first_more first n x within is size =
    ap (first_objects 1) (take_more first n x within)
    ∙ (ap (λ (z : Spare Value). first_objects 1 (take n first ++ z ∷ [])) (sym is)
    ∙ (first_objects-append 1 (take n first) x
    ∙ ap (λ (m : ℕ). first_objects 1 (take n first) ++ Made (record { 0 = m }) false x.items 0 ∷ []) (let e : 1 + length (take n first) ≡ n + 1 = omega arith in e)))

-- the first so many objects are there
pub record AreThere (layout : LayoutOf) (first : List (Spare Value)) (n : ℕ) : Type 0 where
  pub there : (i : ℕ) (values : Spare Value) → i < n → slice_get first i ≡ Some values
      → (p : Place) × (object_at layout (record { 0 = i + 1 }) ≡ Some p) × IsFirst p (length values.items)
  pub none : object_at layout (record { 0 = 0 }) ≡ None
  pub others : (o : ObjId) → n < o.0 → object_at layout o ≡ None

pub none_there : (layout : LayoutOf) (first : List (Spare Value)) → layout.objects ≡ [] → AreThere layout first 0
none_there layout first empty =
    let absent : (o : ObjId) → object_at layout o ≡ None = λ o. ap (λ (z : List (ℕ × Place)). find_object z o.0) empty in
    record { there = λ i values lt is. absurd (omega arith); none = absent (record { 0 = 0 }); others = λ o lt. absent o }

pub more_there : (old middle new : LayoutOf) (first : List (Spare Value)) (n start : ℕ) (x : Spare Value) → AreThere old first n → middle.objects ≡ old.objects
    → Adds middle (record { 0 = n + 1 }) (record { array = false; start = start; len = length x.items; since = 0 }) new → n < length first → x ≡ get_or first n x
    → AreThere new first (n + 1)
more_there old middle new first n start x ok same adds within is =
    let keeps : (o : ObjId) → o.0 ≢ n + 1 → object_at new o ≡ object_at old o =
    λ o other. adds.others o other ∙ ap (λ (z : List (ℕ × Place)). find_object z o.0) same in
    record {
      there = λ i values lt found. elim (cases_eq i n) [
        | inl here ↦
            let at : slice_get first n ≡ Some x = slice_get-get_or first n x within ∙ ap (λ (z : Spare Value). Some z) (sym is) in
            let e : x ≡ values = (let f = ap (slice_get first) (sym here) ∙ found in cc (f, at)) in (
              record { array = false; start = start; len = length x.items; since = 0 },
              ap (λ (m : ℕ). object_at new (record { 0 = m + 1 })) here ∙ adds.added,
              record { array = refl; len = ap (λ (z : Spare Value). length z.items) e; since = refl },
            )
        | inr there ↦
            let t = ok.there i values (omega arith) found in
            (t.0, keeps (record { 0 = i + 1 }) (λ e. (omega arith)) ∙ t.1, t.2)
      ];
      none = keeps (record { 0 = 0 }) (λ e. (omega arith)) ∙ ok.none;
      others = λ o lt. keeps o (λ e. (omega arith)) ∙ ok.others o (omega arith);
    }

pub all_there : (layout : LayoutOf) (first : List (Spare Value)) (n : ℕ) → AreThere layout first n → n ≡ length first → HasFirstObjects layout first
all_there layout first n ok all = record {
  there = λ i values found. ok.there i values (elim (cases_lt i n) [
    | inl within ↦ within
    | inr behind ↦ absurd (let f = slice_get_past first i (omega arith) in cc (f, found))
  ]) found;
  none = ok.none;
  others = λ o lt. ok.others o (omega arith);
}

-- so many of the first objects are made, and nothing else was done
pub record IsBegun (heap : VersionsOf) (first : List (Spare Value)) (n : ℕ) : Type 0 where
  pub history : StandsFor heap (first_objects 1 (take n first))
  pub layout : AreThere heap.layout first n
  pub pins : (p : ℕ) → pin_at heap.pins p ≡ None
  pub pending : heap.pending ≡ []
  pub changes : heap.past.changes ≡ 0
  pub writes : heap.past.writes ≡ 0

-- one more is made, into room that was reserved for it
pub begun_more : (old middle new : VersionsOf) (first : List (Spare Value)) (n number start : ℕ) (values : List Value) (x : Spare Value)
    → IsBegun old first n → number ≡ n → values ≡ x.items → n < length first → x ≡ get_or first n x
    → middle.layout.objects ≡ old.layout.objects → middle ≡ record old { layout = middle.layout; spare_cells = middle.spare_cells; room = middle.room }
    → ((h : List Change) → StandsFor old h → StandsFor middle h)
    → ((h : List Change) → StandsFor middle h → StandsFor new (h ++ Made (record { 0 = number + 1 }) false values 0 ∷ []))
    → Adds middle.layout (record { 0 = number + 1 }) (record { array = false; start = start; len = length values; since = 0 }) new.layout
    → new.pins ≡ middle.pins → new.pending ≡ middle.pending → new.past ≡ record middle.past { changes = 0 }
    → IsBegun new first (n + 1)
begun_more old middle new first n number start values x ok counted read within is objects same room made adds pins pending past =
    let more = first_more first n x within is (length-take-le n first (omega arith)) in
    record {
      history = subst (StandsFor new) (sym more)
          (subst (λ (m : ℕ). StandsFor new (first_objects 1 (take n first) ++ Made (record { 0 = m + 1 }) false x.items 0 ∷ [])) counted
          (subst (λ (v : List Value). StandsFor new (first_objects 1 (take n first) ++ Made (record { 0 = number + 1 }) false v 0 ∷ [])) read
          (made (first_objects 1 (take n first)) (room (first_objects 1 (take n first)) ok.history))));
      layout = more_there old.layout middle.layout new.layout first n start x ok.layout objects
          (subst (λ (m : ℕ). Adds middle.layout (record { 0 = m + 1 }) (record { array = false; start = start; len = length x.items; since = 0 }) new.layout) counted
          (subst (λ (v : List Value). Adds middle.layout (record { 0 = number + 1 }) (record { array = false; start = start; len = length v; since = 0 }) new.layout) read adds)) within is;
      pins = λ p. ap (λ (z : PinsOf). pin_at z p) (pins ∙ ap (λ (m : VersionsOf). m.pins) same) ∙ ok.pins p;
      pending = pending ∙ (ap (λ (m : VersionsOf). m.pending) same ∙ ok.pending);
      changes = ap (λ (z : Past). z.changes) past;
      writes = ap (λ (z : Past). z.writes) past ∙ (ap (λ (m : VersionsOf). m.past.writes) same ∙ ok.writes);
    }

pub begun_empty : (heap : VersionsOf) (first : List (Spare Value)) → StandsFor heap [] → heap.layout.objects ≡ [] → ((p : ℕ) → pin_at heap.pins p ≡ None)
    → heap.pending ≡ [] → heap.past ≡ record { changes = 0; writes = 0 } → IsBegun heap first 0
begun_empty heap first history objects pins pending past = record {
  history = history;
  layout = none_there heap.layout first objects;
  pins = pins;
  pending = pending;
  changes = ap (λ (z : Past). z.changes) past;
  writes = ap (λ (z : Past). z.writes) past;
}

pub begun_history : (heap : VersionsOf) (first : List (Spare Value)) (n : ℕ) → IsBegun heap first n → length first ≤ n → StandsFor heap (first_objects 1 first)
begun_history heap first n ok all = subst (λ (z : List (Spare Value)). StandsFor heap (first_objects 1 z)) (take_all n first all) ok.history

pub begun_past : (past : Past) → past.changes ≡ 0 → past.writes ≡ 0 → past ≡ record { changes = 0; writes = 0 }
begun_past past changes writes =
    let mk : ℕ → ℕ → Past = λ c w. record { changes = c; writes = w } in
    ap (λ (c : ℕ). mk c past.writes) changes ∙ ap (mk 0) writes
