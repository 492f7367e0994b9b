use Rattle.std.proofs.Common.{◌≡◌, map, take}
use Rattle.jr_safepoints.proofs.whole.texts_of.Given as goal

abbrev pub invariant-loop-text : goal.invariant-loop-text
invariant-loop-text l = l.owned ≡ map (λ t. t.now) (take l.text-index l.texts)
