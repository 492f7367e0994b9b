-- The new version stands in front, and the one that it replaced is placed.
use Rattle.std.proofs.Common.{◌≡◌, ◌<◌, ◌≤◌, ◌+◌, ap, sym, refl, arith, subst}
use Rattle.std.specs.Prelude.{ℕ, vec_capacity}
use Rattle.slab.specs.Slab.{slab_len}
use Rattle.jr_stamps.specs.Pins.{IsPinned}
use Rattle.jr_version_heap.specs.contracts.heap.VersionHeap.{the_view}
use Rattle.jr_version_heap.specs.Histories.{VersionsOf, StandsFor, spare_versions}
use Rattle.jr_version_heap.proofs.Stands.{room_small}
use Rattle.jr_version_heap.proofs.Writes.{placing, write_to_place, write_heap, write_stands}
use Rattle.jr_version_heap.proofs.heap.VersionHeap.write.Goals as goal

pub settle-requires : goal.settle-requires
settle-requires c =
    let same : c.self.inside.pins ≡ c.args.self.now.pins = ap (λ (m : VersionsOf). m.pins) c.self.view_is in
    let small = room_small c.self.inside.versions.capacity (vec_capacity c.self.inside.pending) (slab_len c.self.inside.versions) (subst (λ (m : VersionsOf). 0 < spare_versions m) (sym c.self.view_is) c.requires.versions) in
    let not_later : (k : ℕ) → IsPinned c.self.inside.pins k → k ≤ c.args.at.0 = rw same c.requires.pinned in
    let a = c.advance-replaced.ensures.advanced in
    let limit = c.advance-replaced.ensures.capacity in (
      placing c.advance-replaced.new.newest.items c.self.inside.pending.items c.advance-replaced.result c.args.at.0,
      write_to_place c.self.inside.layout c.self.inside.newest.items c.advance-replaced.new.newest.items c.self.inside.versions.slots c.advance-replaced.new.versions.slots c.self.inside.pins
          c.self.inside.pending.items c.self.inside.past (vec_capacity c.self.inside.pending) c.advance-replaced.result a.0 c.in-Some.place c.args.at.0 c.args.value
          c.latest-latest.result c.self.invariant c.advance-replaced.ensures.chained a.2 (let b = a.1 in (omega arith, omega arith)) not_later c.latest-latest.ensures,
      refl,
    )

pub invariant_of-self : goal.invariant_of-self
invariant_of-self c =
    let same : c.self.inside.pins ≡ c.args.self.now.pins = ap (λ (m : VersionsOf). m.pins) c.self.view_is in
    let small = room_small c.self.inside.versions.capacity (vec_capacity c.self.inside.pending) (slab_len c.self.inside.versions) (subst (λ (m : VersionsOf). 0 < spare_versions m) (sym c.self.view_is) c.requires.versions) in
    let not_later : (k : ℕ) → IsPinned c.self.inside.pins k → k ≤ c.args.at.0 = rw same c.requires.pinned in
    let a = c.advance-replaced.ensures.advanced in
    let limit = c.advance-replaced.ensures.capacity in
    let g = placing c.advance-replaced.new.newest.items c.self.inside.pending.items c.advance-replaced.result c.args.at.0 in
    let p = write_to_place c.self.inside.layout c.self.inside.newest.items c.advance-replaced.new.newest.items c.self.inside.versions.slots c.advance-replaced.new.versions.slots c.self.inside.pins
    c.self.inside.pending.items c.self.inside.past (vec_capacity c.self.inside.pending) c.advance-replaced.result a.0 c.in-Some.place c.args.at.0 c.args.value
    c.latest-latest.result c.self.invariant c.advance-replaced.ensures.chained a.2 (let b = a.1 in (omega arith, omega arith)) not_later c.latest-latest.ensures in
    let so = c.settle.ensures.so g p refl in
    rw c.settle.ensures.room
    (write_heap c.self.inside.layout c.self.inside.newest.items c.advance-replaced.new.newest.items c.self.inside.versions.slots c.advance-replaced.new.versions.slots c.self.inside.pins
    c.self.inside.pending.items c.self.inside.past (vec_capacity c.self.inside.pending) c.advance-replaced.result a.0 c.in-Some.place c.args.at.0 c.args.value
    c.latest-latest.result c.self.invariant c.advance-replaced.ensures.chained a.2 (let b = a.1 in (omega arith, omega arith)) not_later c.latest-latest.ensures
    c.settle.new.versions.slots c.settle.new.pins.pins c.settle.new.pending.items so
    (omega arith) (let e = ap (λ (m : VersionsOf). m.past.changes) c.self.view_is in let l = c.requires.later in omega arith))

pub returns-clause-history : goal.returns-clause-history
returns-clause-history c = λ h stands.
    let a = c.advance-replaced.ensures.advanced in
    let e = ap (λ (m : VersionsOf). m.past.changes) c.self.view_is in
    let new : VersionsOf = record {
      layout = c.self.inside.layout;
      versions = c.settle.new.versions.slots;
      pins = c.settle.new.pins;
      pending = c.settle.new.pending.items;
      past = record { changes = c.args.at.0 + 1; writes = c.args.at.0 + 1 };
      spare_cells = 0;
      room = 0;
    } in
    write_stands (the_view c.self.inside) new c.advance-replaced.new.versions.slots c.advance-replaced.result a.0 c.in-Some.place c.args.at.0 c.args.value c.args.cell h
    refl c.in-Some.ensures.places (sym c.in-Some.ensures.place) c.self.invariant.made c.self.invariant.chained.writes (let l = c.requires.later in omega arith) refl c.settle.ensures.stamps a.2 c.settle.ensures.placed
    (subst (λ (m : VersionsOf). StandsFor m h) (sym c.self.view_is) stands)
