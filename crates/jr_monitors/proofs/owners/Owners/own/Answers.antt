use Rattle.std.proofs.Common.{◌≡◌, Some, sym, subst}
use Rattle.jr_monitors.specs.Roster.{owner_in}
use Rattle.jr_monitors.proofs.Owning.{own-keeps}
use Rattle.jr_monitors.proofs.owners.Owners.own.Goals as goal

pub invariant_of-self : goal.invariant_of-self
invariant_of-self c =
    let inside = c.self.inside in
    let same = c.requires.same in
    let is = subst (λ v. owner_in v.owners c.args.object ≡ Some same.0) (sym c.self.view_is) same.1 in
    own-keeps inside.owners.entries c.put.new.owners.entries inside.locks.items c.self.invariant c.args.object same.0 c.args.owner is same.2 c.put.ensures.owner
