use Rattle.std.proofs.Common.{◌≡◌, slice_get}
use Rattle.jr_clause_eval.specs.Scenes.{bindings}
use Rattle.jr_clause_eval.proofs.scene.Bindings.get.Given as goal

abbrev pub invariant-loop-at : goal.invariant-loop-at
invariant-loop-at l = slice_get (bindings l.at) l.left ≡ slice_get (bindings l.fn.self) l.fn.depth
