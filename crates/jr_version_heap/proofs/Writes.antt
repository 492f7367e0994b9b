-- What a write leaves.
use Rattle.std.proofs.Common.{◌≡◌, ◌<◌, ◌≤◌, ◌+◌, inl, inr, ℕ, List, [], ◌∷◌, ◌++◌, length, Option, Some, refl, sym, ◌∙◌, ap, subst, arith}
use Rattle.jr_base.specs.declared.number.Stamp.{Stamp}
use Rattle.jr_base.specs.declared.number.ObjId.{ObjId}
use Rattle.jr_base.specs.declared.value.Cell.{Cell}
use Rattle.jr_base.specs.declared.value.Value.{Value}
use Rattle.jr_heap.specs.declared.layout.Place.{Place}
use Rattle.jr_heap.specs.Layout.{LayoutOf, object_at, cell_at, HasOwnPlaces}
use Rattle.jr_stamps.specs.declared.pins.Pin.{Pin}
use Rattle.jr_stamps.specs.declared.pins.PinId.{PinId}
use Rattle.jr_stamps.specs.Pins.{PinsOf, IsPinned, IsLatest}
use Rattle.jr_version_heap.specs.declared.version.Past.{Past}
use Rattle.jr_version_heap.specs.declared.version.Version.{Version}
use Rattle.jr_version_heap.specs.declared.version.Home.TheVariants.{Loose}
use Rattle.jr_version_heap.specs.Versions.{IsChained, IsAdvanced}
use Rattle.jr_version_heap.specs.Needs.{Placing, IsToPlace, IsPlacedSo, IsPlaced, SameStamps, body_of, body_in}
use Rattle.jr_version_heap.specs.Histories.{VersionsOf, StandsFor, IsReadable, ShowsIn, IsHeap, seen_before, Change, Wrote}
use Rattle.jr_version_heap.proofs.Keeps.{kept_advanced, kept_done}
use Rattle.jr_version_heap.proofs.Stands.{write_shows, pinned_was, seen_more}

-- what is known between the two parts of a write
abbrev pub placing : List ℕ → List ℕ → ℕ → ℕ → Placing
placing newest pending r at = record { newest = newest; past = record { changes = at + 1; writes = at + 1 }; pending = pending; loose = Loose; first = Some r; rest = []; bound = at }

module _ (layout : LayoutOf) (was newest : List ℕ) (old middle : List (Option Version)) (pins : PinsOf) (pending : List ℕ) (past : Past) (room r n place at : ℕ) (value : Value) (latest : Option (PinId × Stamp))
    (heap : IsHeap layout was old pins.pins pending past room)
    (chained : IsChained newest middle (record { changes = at + 1; writes = at + 1 })) (a : IsAdvanced old middle r n place at value) (small : (n < 4294967295) × (n < room))
    (not_later : (k : ℕ) → IsPinned pins k → k ≤ at) (answer : IsLatest pins.pins at latest) where
  pub write_to_place : IsToPlace middle pins.pins latest r room (placing newest pending r at)
  write_to_place = record {
    chained = chained;
    kept = kept_advanced old middle pins.pins pending room r n place at value heap.kept a small
        (λ p pin is. not_later pin.stamp.0 (p, pin, is, refl));
    latest_is = answer;
  }

  pub write_heap : (new : List (Option Version)) (after : List (Option Pin)) (later : List ℕ) → IsPlacedSo middle new after later r room (placing newest pending r at)
      → length newest ≡ length was → past.changes ≤ at → IsHeap layout newest new after later (record { changes = at + 1; writes = at + 1 }) room
  write_heap new after later so size late = record {
    count = size ∙ heap.count;
    chained = so.chained;
    kept = kept_done (body_in new) after later Loose _ at room (so.kept _ (ap body_of a.now));
    made = λ object p is. (let m = heap.made object p is in omega arith);
  }

-- the history has one more write
pub write_stands : (m new : VersionsOf) (middle : List (Option Version)) (r n place at : ℕ) (value : Value) (c : Cell) (h : List Change)
    → new.layout ≡ m.layout → HasOwnPlaces m.layout → cell_at m.layout c ≡ Some place
    → ((object : ObjId) (p : Place) → object_at m.layout object ≡ Some p → p.since ≤ m.past.changes) → m.past.writes ≤ m.past.changes → m.past.changes ≤ at → new.past.writes ≡ at + 1 → SameStamps m.pins.pins new.pins.pins
    → IsAdvanced m.versions middle r n place at value → IsPlaced middle new.versions r
    → StandsFor m h → StandsFor new (h ++ Wrote c value (at + 1) ∷ [])
write_stands m new middle r n place at value c h layout own there made writes later next stamps a placed stands what k small readable =
    let was : IsReadable m k = elim readable [
      | inl pinned ↦ inl (pinned_was m.pins new.pins k stamps pinned)
      | inr late ↦ inr (omega arith)
    ] in
    let s = write_shows m.layout m.versions middle new.versions r n place at m.past.changes value c own there made later a placed what k (seen_before h what k) small (stands what k small was) in
    let t = subst (ShowsIn m.layout new.versions what k) (sym (seen_more _ h (Wrote c value (at + 1)) what k)) s in
    subst (λ (z : LayoutOf). ShowsIn z new.versions what k (seen_before (h ++ Wrote c value (at + 1) ∷ []) what k)) (sym layout) t
