-- The guest's list has that object too.
use Rattle.std.proofs.Common.{◌≡◌, Contains, None, sym, subst}
use Rattle.jr_base.specs.Rising.{HasAlso}
use Rattle.jr_monitors.specs.Roster.{owner_in}
use Rattle.jr_monitors.proofs.Owning.{lent, held-by_none, take-keeps, owns_by}
use Rattle.jr_monitors.proofs.owners.Owners.take.Goals as goal

pub add-requires-clause-absent : goal.add-requires-clause-absent
add-requires-clause-absent c =
    let inside = c.self.inside in let are = c.self.invariant in
    let free = subst (λ v. owner_in v.owners c.args.object ≡ None) (sym c.self.view_is) c.requires.free in
    let is = lent inside.locks.items c.args.guest c.index_mut.result.now are.count c.requires.first c.requires.last c.index_mut.ensures.value in
    λ held. held-by_none inside.owners.entries inside.locks.items are c.args.guest c.args.object free (subst (λ l. Contains l c.args.object) is held)

pub invariant_of-self : goal.invariant_of-self
invariant_of-self c =
    let inside = c.self.inside in let are = c.self.invariant in
    let free = subst (λ v. owner_in v.owners c.args.object ≡ None) (sym c.self.view_is) c.requires.free in
    let is = lent inside.locks.items c.args.guest c.index_mut.result.now are.count c.requires.first c.requires.last c.index_mut.ensures.value in
    take-keeps inside.owners.entries c.insert.new.self.entries inside.locks.items are c.args.object c.args.guest c.add.new.self
    c.requires.first c.requires.last c.args.depth free (subst (λ l. HasAlso l c.args.object c.add.new.self) is c.add.ensures.members)
    (owns_by inside.owners.entries c.insert.new.self.entries c.args.object _ (c.in-Ok.ensures.updates.0))
