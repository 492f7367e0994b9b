-- A walk along a chain finds what a stamp shows.
use Rattle.std.proofs.Common.{◌≡◌, ◌<◌, ◌≤◌, ◌+◌, ◌⊎◌, inl, inr, ℕ, List, Option, Some, None, Bool, true, false, cond, refl, sym, ◌∙◌, ap, subst, arith}
use Rattle.std.proofs.lemmas.Bool.{cases_Bool, lt-ltb}
use Rattle.jr_base.specs.declared.value.Cell.{Cell}
use Rattle.jr_base.specs.declared.value.Value.{Value}
use Rattle.jr_base.specs.declared.value.Ask.TheVariants as asks
use Rattle.jr_base.specs.declared.value.Seen.{Seen}
use Rattle.jr_base.specs.declared.value.Seen.TheVariants as answers
use Rattle.jr_heap.specs.declared.layout.Place.{Place}
use Rattle.jr_heap.specs.Layout.{LayoutOf, object_at, slot_at}
use Rattle.jr_stamps.specs.Pins.{PinsOf, IsPinned}
use Rattle.jr_version_heap.specs.declared.version.Past.{Past}
use Rattle.jr_version_heap.specs.declared.version.Version.{Version}
use Rattle.jr_version_heap.specs.declared.version.Home.{Home}
use Rattle.jr_version_heap.specs.declared.version.Home.TheVariants.{Newest, Loose, Dead, Pending}
use Rattle.jr_version_heap.specs.Versions.{version_in, is_newest, is_pending, Serves}
use Rattle.jr_version_heap.specs.Needs.{Body}
use Rattle.jr_version_heap.specs.Histories.{slot_then, IsShown, ShowsIn, ShowsAt, IsHeap}
use Rattle.jr_version_heap.proofs.Lists.{has_version}
use Rattle.jr_version_heap.proofs.Stands.{slot_late}

pending_behind : (h : Home) → is_pending h ≡ true → is_newest h ≡ false
pending_behind Newest w = cc
pending_behind Loose w = refl
pending_behind (Dead p) w = refl
pending_behind Pending w = refl

-- what the walk found is what the stamp shows
pub record Found (result : Option Value) (seen : Seen) : Type 0 where
  pub value : Value
  pub is : result ≡ Some value
  pub seen_is : seen ≡ answers.Value value

-- the slot of an object that was made by then
pub slot_there : (p : Place) (o : Option Place) (slot k : ℕ) → o ≡ Some p → p.since ≤ k → slot < p.len → slot_then o slot k ≡ Some (p.start + slot)
slot_there p o slot k is since within =
    slot_late o slot k (p.start + slot) (λ q found. (let e : q ≡ p = cc in let s = ap (λ (z : Place). z.since) e in omega arith))
    (ap (λ (z : Option Place). slot_at z slot) is ∙ ap (λ (z : Bool). cond z (Some (p.start + slot)) None) (lt-ltb slot p.len within))

pub read_found : (layout : LayoutOf) (newest : List ℕ) (versions : List (Option Version)) (pins : PinsOf) (pending : List ℕ) (past : Past) (room k : ℕ) (cell : Cell) (p : Place) (seen : Seen) (result : Option Value)
    → IsHeap layout newest versions pins.pins pending past room → IsPinned pins k ⊎ (past.writes ≤ k)
    → object_at layout cell.obj ≡ Some p → p.since ≤ k → cell.slot < p.len
    → ((key : ℕ) (v : Version) → version_in versions key ≡ Some v → v.place ≡ p.start + cell.slot → is_pending v.home ≡ false → Serves v k → result ≡ Some v.value)
    → ShowsIn layout versions (asks.Cell cell) k seen → Found result seen
read_found layout newest versions pins pending past room k cell p seen result heap readable object since within found shows =
    let slot = slot_there p (object_at layout cell.obj) cell.slot k object since within in
    let s : IsShown versions (p.start + cell.slot) k seen = subst (λ (z : Option ℕ). ShowsAt versions z k seen) slot shows in
    let h = has_version (version_in versions s.key) s.body s.is in
    let e_since = ap (λ (z : Body). z.since) h.same in
    let e_upto = ap (λ (z : Body). z.upto) h.same in
    let b = s.since in
    let u = s.upto in
    let stands : is_pending h.version.home ≡ false = elim (cases_Bool (is_pending h.version.home)) [
      | inl waits ↦ absurd (
          let free = heap.kept.unneeded s.key s.body s.is (ap (λ (z : Body). is_pending z.home) (sym h.same) ∙ waits) in
          elim readable [
            | inl pinned ↦ (let a = free.0 pinned.0 pinned.1 pinned.2 (let t = pinned.3 in omega arith) in let t = pinned.3 in omega arith)
            | inr late ↦ (let a = (heap.chained.span s.key h.version h.is (pending_behind h.version.home waits)).1 in omega arith)
          ])
      | inr stands ↦ stands
    ] in
    let f = found s.key h.version h.is (ap (λ (z : Body). z.place) h.same ∙ s.place) stands (record { since = omega arith; upto = omega arith }) in
    record { value = h.version.value; is = f; seen_is = s.value ∙ ap (λ (z : Body). answers.Value z.value) (sym h.same) }
