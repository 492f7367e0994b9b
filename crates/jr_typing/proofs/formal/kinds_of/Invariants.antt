use Rattle.std.proofs.Common.{◌≡◌, take, map}
use Rattle.jr_typing_rules.specs.Types.{kind_of}
use Rattle.jr_typing.proofs.formal.kinds_of.Given as goal

abbrev pub invariant-loop-of : goal.invariant-loop-of
invariant-loop-of l = l.kinds ≡ map kind_of (take l.of-index l.types)
