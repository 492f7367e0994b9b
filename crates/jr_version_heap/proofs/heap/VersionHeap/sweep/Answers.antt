-- No stamp that may be read shows a version that is freed.
use Rattle.std.proofs.Common.{sym, refl, subst}
use Rattle.jr_version_heap.specs.Histories.{VersionsOf, StandsFor}
use Rattle.jr_version_heap.specs.contracts.heap.VersionHeap.{the_view}
use Rattle.jr_version_heap.proofs.Pinned.{sweep_stands}
use Rattle.jr_version_heap.proofs.heap.VersionHeap.sweep.Goals as goal

pub invariant_of-self : goal.invariant_of-self
invariant_of-self c =
    let h = c.self.invariant in
    let s = c.free.ensures.so c.self.inside.newest.items c.self.inside.past c.self.inside.pins.pins h.chained h.kept in
    rw c.free.ensures.room
    (record { count = h.count; chained = s.0; kept = s.1; made = h.made })

pub returns-clause-history : goal.returns-clause-history
returns-clause-history c = λ h stands.
    let new : VersionsOf = record {
      layout = c.self.inside.layout;
      versions = c.free.new.versions.slots;
      pins = c.self.inside.pins;
      pending = c.free.new.pending.items;
      past = c.self.inside.past;
      spare_cells = 0;
      room = 0;
    } in
    sweep_stands (the_view c.self.inside) new c.self.inside.newest.items _ h c.self.invariant refl c.free.ensures.kept (λ k readable. readable)
    (subst (λ (m : VersionsOf). StandsFor m h) (sym c.self.view_is) stands)
