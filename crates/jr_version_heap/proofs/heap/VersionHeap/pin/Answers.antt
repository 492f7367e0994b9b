-- A stamp that may be pinned could be read before.
use Rattle.std.proofs.Common.{sym, subst}
use Rattle.jr_version_heap.specs.Histories.{VersionsOf, IsReadable, StandsFor}
use Rattle.jr_version_heap.proofs.Pinned.{pin_heap, pin_readable}
use Rattle.jr_version_heap.proofs.heap.VersionHeap.pin.Goals as goal

pub invariant_of-self : goal.invariant_of-self
invariant_of-self c =
    pin_heap c.self.inside.layout c.self.inside.newest.items c.self.inside.versions.slots c.self.inside.pins c.pin.new.self c.self.inside.pending.items c.self.inside.past _ c.pin.result.0 c.args.s
    c.self.invariant (subst (λ (m : VersionsOf). IsReadable m c.args.s.0) (sym c.self.view_is) c.requires.allowed) c.pin.ensures.fresh c.pin.ensures.pinned

pub returns-clause-history : goal.returns-clause-history
returns-clause-history c = λ h stands what k small readable.
    let was = subst (λ (m : VersionsOf). StandsFor m h) (sym c.self.view_is) stands in
    was what k small
    (pin_readable c.self.inside.pins c.pin.new.self c.self.inside.past.writes c.pin.result.0 k c.args.s
    (subst (λ (m : VersionsOf). IsReadable m c.args.s.0) (sym c.self.view_is) c.requires.allowed) c.pin.ensures.pinned readable)
