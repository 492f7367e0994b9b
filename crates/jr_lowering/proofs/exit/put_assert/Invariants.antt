use Rattle.std.proofs.Common.{◌≡◌, ◌+◌, map, take}
use Rattle.jr_lowering.specs.ExprCode.{shift}
use Rattle.jr_lowering.proofs.exit.put_assert.Given as goal

abbrev pub invariant-loop-number : goal.invariant-loop-number
invariant-loop-number l = l.scope.items ≡ map (λ number. shift l.locals.is_static + number) (take l.number-index l.numbers)
