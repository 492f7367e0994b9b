use Rattle.jr_typing.proofs.Scoping.{asserted}
use Rattle.jr_typing.proofs.scopes.Scopes.assert.Goals as goal

pub invariant_of-self-2 : goal.invariant_of-self-2
invariant_of-self-2 c = record {
  in_scope =
      rw c.in_ok-push.ensures.items
      (asserted c.args.self.now.variables.items c.args.self.now.steps.items c.args.self.now.asserts c.in_ok-asserts.asserts c.args.place c.args.condition c.args.self.now.in_scope c.in_ok-asserts.ensures);
}
