-- The versions of the pin's dead list are placed anew.
use Rattle.std.proofs.Common.{ap, sym, ◌∙◌, refl, subst}
use Rattle.std.specs.Prelude.{ℕ, vec_capacity}
use Rattle.jr_base.specs.declared.number.Stamp.{Stamp}
use Rattle.jr_stamps.specs.Pins.{pin_in, IsLatest}
use Rattle.jr_version_heap.specs.Needs.{LosesPin, stamp_of}
use Rattle.jr_version_heap.specs.Histories.{VersionsOf, StandsFor}
use Rattle.jr_version_heap.specs.contracts.heap.VersionHeap.{the_view}
use Rattle.jr_version_heap.proofs.Pinned.{unpin_list, unpin_heap, still_stands, lost_readable, no_stamp}
use Rattle.jr_version_heap.proofs.heap.VersionHeap.unpin.Goals as goal

pub settle_all-requires : goal.settle_all-requires
settle_all-requires c =
    let t = c.stamp-stamp.ensures in
    let h = c.head-first.ensures in
    let answer = c.latest-latest.ensures in
    let stamp_is = ap (λ (z : Stamp). z.0) t.2 in
    let u = unpin_list c.self.inside.layout c.self.inside.newest.items c.self.inside.versions.slots c.self.inside.pins c.unpin.new.self c.self.inside.pending.items c.self.inside.past
    (vec_capacity c.self.inside.pending) c.args.pin t.0 h.0 c.head-first.result c.latest-latest.result c.self.invariant t.1 h.1 h.2 c.unpin.ensures.unpinned
    (subst (λ (z : ℕ). IsLatest c.unpin.new.self.pins z c.latest-latest.result) stamp_is answer) in
    (u.0, u.1, u.2, u.3)

pub invariant_of-self : goal.invariant_of-self
invariant_of-self c =
    let t = c.stamp-stamp.ensures in
    let h = c.head-first.ensures in
    let answer = c.latest-latest.ensures in
    let stamp_is = ap (λ (z : Stamp). z.0) t.2 in
    let u = unpin_list c.self.inside.layout c.self.inside.newest.items c.self.inside.versions.slots c.self.inside.pins c.unpin.new.self c.self.inside.pending.items c.self.inside.past
    (vec_capacity c.self.inside.pending) c.args.pin t.0 h.0 c.head-first.result c.latest-latest.result c.self.invariant t.1 h.1 h.2 c.unpin.ensures.unpinned
    (subst (λ (z : ℕ). IsLatest c.unpin.new.self.pins z c.latest-latest.result) stamp_is answer) in
    rw c.settle_all.ensures.room
    (unpin_heap c.self.inside.layout c.self.inside.newest.items c.self.inside.versions.slots c.settle_all.new.versions.slots c.self.inside.pins.pins c.settle_all.new.pins.pins
    c.self.inside.pending.items c.settle_all.new.pending.items c.self.inside.past (vec_capacity c.self.inside.pending) u.0 c.self.invariant u.4 u.5
    (c.settle_all.ensures.so u.0 u.1 u.2 u.3))

pub returns-clause-history : goal.returns-clause-history
returns-clause-history c = λ h stands.
    let new : VersionsOf = record {
      layout = c.self.inside.layout;
      versions = c.settle_all.new.versions.slots;
      pins = c.settle_all.new.pins;
      pending = c.settle_all.new.pending.items;
      past = c.self.inside.past;
      spare_cells = 0;
      room = 0;
    } in
    let lost : LosesPin c.self.inside.pins.pins c.args.pin.0 c.settle_all.new.pins.pins = record {
      gone = no_stamp (pin_in c.settle_all.new.pins.pins c.args.pin.0) (c.settle_all.ensures.stamps c.args.pin.0 ∙ ap stamp_of c.unpin.ensures.unpinned.changed);
      others = λ q other. c.settle_all.ensures.stamps q ∙ ap stamp_of (c.unpin.ensures.unpinned.others q other);
    } in
    still_stands (the_view c.self.inside) new h refl c.settle_all.ensures.last
    (λ k readable. lost_readable c.self.inside.pins c.settle_all.new.pins c.self.inside.past.writes c.args.pin.0 k lost readable)
    (subst (λ (m : VersionsOf). StandsFor m h) (sym c.self.view_is) stands)
