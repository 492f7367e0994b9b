use Rattle.std.proofs.Common.{◌≡◌, ◌++◌, map, take, drop}
use Rattle.jr_base.specs.Content.{unset}
use Rattle.jr_thread_machine.proofs.locals.Locals.push_unset.Given as goal

-- the locals so far
abbrev pub invariant-loop-kind : goal.invariant-loop-kind
invariant-loop-kind l = l.self ≡ l.initial.self ++ map unset (take l.kind-index (drop l.from l.kinds))
