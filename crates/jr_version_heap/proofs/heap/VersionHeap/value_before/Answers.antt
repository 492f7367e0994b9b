-- The chain of the cell has the version that the stamp shows.
use Rattle.std.proofs.Common.{◌≡◌, ap, sym, ◌∙◌, subst}
use Rattle.jr_base.specs.declared.value.Ask.TheVariants as asks
use Rattle.jr_base.specs.declared.value.Seen.TheVariants as answers
use Rattle.jr_base.specs.declared.value.Value.{Value}
use Rattle.jr_version_heap.specs.Histories.{VersionsOf, Shows, IsReadable}
use Rattle.jr_version_heap.proofs.Walks.{read_found}
use Rattle.jr_version_heap.proofs.heap.VersionHeap.value_before.Goals as goal

pub returns-in-Some-find : goal.returns-in-Some-find
returns-in-Some-find c = λ seen shows.
    let f = read_found c.self.inside.layout c.self.inside.newest.items c.self.inside.versions.slots c.self.inside.pins c.self.inside.pending.items c.self.inside.past _ c.args.step
    c.args.cell c.in-Some.object seen c.find.result c.self.invariant (subst (λ (m : VersionsOf). IsReadable m c.args.step) (sym c.self.view_is) c.requires)
    (sym c.object.ensures.place ∙ c.in-Some.is) c.if-object-step.true c.if-cell-object.true c.find.ensures
    (subst (λ (m : VersionsOf). Shows m (asks.Cell c.args.cell) c.args.step seen) (sym c.self.view_is) shows) in
    let e : c.in-Some-find.value ≡ f.value = cc (f.is, c.in-Some-find.is) in
    ap (λ (z : Value). answers.Value z) e ∙ sym f.seen_is

pub returns-in-None : goal.returns-in-None
returns-in-None c = λ seen shows.
    let f = read_found c.self.inside.layout c.self.inside.newest.items c.self.inside.versions.slots c.self.inside.pins c.self.inside.pending.items c.self.inside.past _ c.args.step
    c.args.cell c.in-Some.object seen c.find.result c.self.invariant (subst (λ (m : VersionsOf). IsReadable m c.args.step) (sym c.self.view_is) c.requires)
    (sym c.object.ensures.place ∙ c.in-Some.is) c.if-object-step.true c.if-cell-object.true c.find.ensures
    (subst (λ (m : VersionsOf). Shows m (asks.Cell c.args.cell) c.args.step seen) (sym c.self.view_is) shows) in
    cc (f.is, c.in-None.is)
