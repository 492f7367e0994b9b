use Rattle.std.proofs.Common.{length}
use Rattle.jr_code.specs.Handlers.{AreNumbers}
use Rattle.jr_code.proofs.handler.handlers_of.Given as goal

abbrev pub invariant-loop-number : goal.invariant-loop-number
invariant-loop-number l = AreNumbers (length l.fn.method.regions.items) l.handlers.items
