use Rattle.jr_clause_eval.proofs.Owned.{owned_by_test}
use Rattle.jr_clause_eval.proofs.scene.Scene.owns.Goals as goal

pub returns-in-Ref : goal.returns-in-Ref
returns-in-Ref c = rw c.in-Ref.is (owned_by_test c.args.self.now.locks.now c.in-Ref.object c.has.result c.has.ensures)
