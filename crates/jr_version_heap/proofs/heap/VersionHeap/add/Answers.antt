-- The new cells stand behind the others.
use Rattle.std.proofs.Common.{◌≡◌, ◌<◌, ap, sym, subst, arith, length}
use Rattle.std.specs.Prelude.{ℕ, None, vec_len, vec_capacity}
use Rattle.jr_heap.specs.Layout.{object_at}
use Rattle.jr_version_heap.specs.Versions.{HasFirsts}
use Rattle.jr_version_heap.specs.contracts.heap.VersionHeap.{the_view}
use Rattle.slab.specs.Slab.{slab_len}
use Rattle.jr_version_heap.specs.Histories.{VersionsOf, StandsFor, spare_versions}
use Rattle.jr_version_heap.proofs.Chains.{chained_later}
use Rattle.jr_version_heap.proofs.Stands.{room_small}
use Rattle.jr_version_heap.proofs.Makes.{added_made, make_stands}
use Rattle.jr_version_heap.proofs.heap.VersionHeap.add.Goals as goal

pub add-requires-clause-room : goal.add-requires-clause-room
add-requires-clause-room c =
    let e = ap (λ (m : VersionsOf). m.spare_cells) c.self.view_is in
    let r = c.requires.cells in
    let b = c.cells-cells.ensures in
    omega (arith, e, r, b.count, b.bound)

pub add_cells-requires-clause-few : goal.add_cells-requires-clause-few
add_cells-requires-clause-few c =
    let e = ap (λ (m : VersionsOf). m.spare_cells) c.self.view_is in
    let r = c.requires.cells in
    let b = c.cells-cells.ensures in
    let n = c.self.invariant.count in
    omega (arith, e, r, b.count, b.bound, n)

pub add_cells-requires-clause-chained : goal.add_cells-requires-clause-chained
add_cells-requires-clause-chained c = (
  record c.self.inside.past { changes = c.args.since },
  omega arith,
  (let n = ap (λ (m : VersionsOf). m.past.changes) c.self.view_is in
      chained_later c.self.inside.newest.items c.self.inside.versions.slots c.self.inside.past c.args.since (let r = c.requires.later in omega arith) (let r = c.requires.short in omega arith) c.self.invariant.chained),
)

pub invariant_of-self : goal.invariant_of-self
invariant_of-self c =
    let h = c.self.invariant in
    let n = ap (λ (m : VersionsOf). m.past.changes) c.self.view_is in
    record {
      count = (let x = c.add_cells.ensures.count in let y = c.add.ensures.cells in let z = h.count in omega arith);
      chained = c.add_cells.ensures.chained (record c.self.inside.past { changes = c.args.since }) (omega arith) (let n = ap (λ (m : VersionsOf). m.past.changes) c.self.view_is in
          chained_later c.self.inside.newest.items c.self.inside.versions.slots c.self.inside.past c.args.since (let r = c.requires.later in omega arith) (let r = c.requires.short in omega arith) c.self.invariant.chained);
      kept = c.add_cells.ensures.kept c.self.inside.pins.pins c.self.inside.pending.items (vec_capacity c.self.inside.pending)
          (λ some. (let pos : 0 < spare_versions c.args.self.now = (let r = c.requires.versions in omega arith) in
          let s = room_small c.self.inside.versions.capacity (vec_capacity c.self.inside.pending) (slab_len c.self.inside.versions) (subst (λ (m : VersionsOf). 0 < spare_versions m) (sym c.self.view_is) pos) in
          (s.1, (let t = s.0 in omega arith)))) h.kept;
      made = added_made c.self.inside.layout c.add.new.self c.args.object _ c.self.inside.past.changes c.args.since c.add.ensures.added (omega arith) (let r = c.requires.later in omega arith) h.made;
    }

pub returns-clause-history : goal.returns-clause-history
returns-clause-history c = λ h stands.
    let new : VersionsOf = record {
      layout = c.add.new.self;
      versions = c.add_cells.new.versions.slots;
      pins = c.self.inside.pins;
      pending = c.self.inside.pending.items;
      past = record c.self.inside.past { changes = c.args.since };
      spare_cells = 0;
      room = 0;
    } in
    let n = ap (λ (m : VersionsOf). m.past.changes) c.self.view_is in
    let start : vec_len c.self.inside.newest ≡ c.self.inside.layout.cells = (let e = c.self.invariant.count in omega arith) in
    make_stands (the_view c.self.inside) new c.args.object c.args.array c.args.values.now c.args.since c.self.inside.layout.cells h
    (subst (λ (m : VersionsOf). object_at m.layout c.args.object ≡ None) (sym c.self.view_is) c.requires.absent) c.add.ensures.added
    (subst (λ (z : ℕ). HasFirsts c.self.inside.versions.slots c.add_cells.new.versions.slots z c.args.values.now c.args.since (length c.args.values.now)) start c.add_cells.ensures.firsts)
    (λ k may. may)
    (subst (λ (m : VersionsOf). StandsFor m h) (sym c.self.view_is) stands)
