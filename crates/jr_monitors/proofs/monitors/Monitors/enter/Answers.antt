use Rattle.std.proofs.Common.{◌≡◌, Some, sym, subst}
use Rattle.jr_monitors.specs.declared.member.Owner.{Owner}
use Rattle.jr_monitors.specs.Roster.{Roster, owner_in}
use Rattle.jr_monitors.proofs.Steps.{live-number, owning}
use Rattle.jr_monitors.proofs.monitors.Monitors.enter.Goals as goal

pub own-requires : goal.own-requires
own-requires c = record {
  same = subst (λ (r : Roster). (was : Owner) × (owner_in r.owned.owners c.args.object ≡ Some was) × (was.guest ≡ c.args.guest)) (sym c.self.view_is)
      (owning c.args.guest (owner_in c.args.self.now.owned.owners c.args.object) c.depth.result c.in-Some.depth c.depth.ensures c.in-Some.is);
}

pub take-requires-clause-last : goal.take-requires-clause-last
take-requires-clause-last c = live-number c.args.self.now c.args.guest c.requires.few c.requires.live
