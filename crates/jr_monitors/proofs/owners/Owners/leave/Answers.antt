-- The guest's list has that object no longer.
use Rattle.std.proofs.Common.{◌≡◌, Some, sym, subst, arith}
use Rattle.jr_monitors.specs.Roster.{owner_in, Without}
use Rattle.jr_monitors.proofs.Owning.{lent, leave-keeps, owns_by, owner-index}
use Rattle.jr_monitors.proofs.owners.Owners.leave.Goals as goal

pub overflow_sub-at : goal.overflow_sub-at
overflow_sub-at c =
    let was = c.requires.owned in
    let is = subst (λ v. owner_in v.owners c.args.object ≡ Some was.0) (sym c.self.view_is) was.1 in
    (owner-index c.self.inside.owners.entries c.self.inside.locks.items c.self.invariant c.args.object was.0 c.args.guest is was.2).0

pub index-requires : goal.index-requires
index-requires c =
    let was = c.requires.owned in
    let is = subst (λ v. owner_in v.owners c.args.object ≡ Some was.0) (sym c.self.view_is) was.1 in
    let number = owner-index c.self.inside.owners.entries c.self.inside.locks.items c.self.invariant c.args.object was.0 c.args.guest is was.2 in
    let count = c.self.invariant.count in
    omega (arith, number.0, number.1, count, c.self.inside.locks.ok.0)

pub index_mut-requires : goal.index_mut-requires
index_mut-requires c =
    let was = c.requires.owned in
    let is = subst (λ v. owner_in v.owners c.args.object ≡ Some was.0) (sym c.self.view_is) was.1 in
    let number = owner-index c.self.inside.owners.entries c.self.inside.locks.items c.self.invariant c.args.object was.0 c.args.guest is was.2 in
    let count = c.self.invariant.count in
    omega (arith, number.0, number.1, count, c.self.inside.locks.ok.0)

pub invariant_of-self : goal.invariant_of-self
invariant_of-self c =
    let inside = c.self.inside in let are = c.self.invariant in
    let was = c.requires.owned in
    let is = subst (λ v. owner_in v.owners c.args.object ≡ Some was.0) (sym c.self.view_is) was.1 in
    let number = owner-index inside.owners.entries inside.locks.items are c.args.object was.0 c.args.guest is was.2 in
    let list = lent inside.locks.items c.args.guest c.index.result.now are.count number.0 number.1 c.index.ensures in
    leave-keeps inside.owners.entries c.swap_remove.new.self.entries inside.locks.items are c.args.object c.args.guest c.without.result
    number.0 number.1 was.0 is was.2 (subst (λ l. Without l c.args.object c.without.result) list c.without.ensures)
    (owns_by inside.owners.entries c.swap_remove.new.self.entries c.args.object _ c.swap_remove.ensures.updates.0)
