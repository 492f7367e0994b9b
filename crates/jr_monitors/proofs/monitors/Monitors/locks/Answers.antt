use Rattle.std.proofs.Common.{◌↔◌, IsTrue, Contains, subst}
use Rattle.jr_base.specs.declared.number.ObjId.{ObjId}
use Rattle.jr_meaning.specs.Machine.{holds}
use Rattle.jr_monitors.specs.Roster.{Roster, hold_in}
use Rattle.jr_monitors.proofs.Seen.{locks-are}
use Rattle.jr_monitors.proofs.monitors.Monitors.locks.Goals as goal

pub returns : goal.returns
returns c = λ world stands.
    let g = c.args.guest in
    let now = subst (λ (r : Roster). (o : ObjId) → Contains c.locks.result o ↔ IsTrue (holds g (hold_in r.owned.owners o))) c.self.view_is c.locks.ensures.owned in
    locks-are world g c.locks.result c.locks.ensures.rising
    (λ o. subst (λ h. Contains c.locks.result o ↔ IsTrue (holds g h)) (stands.agrees.holds o) (now o))
    (λ o own. stands.objects.owned o g own)
