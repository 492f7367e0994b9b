use Rattle.std.proofs.Common.{◌≡◌, drop}
use Rattle.jr_typing_rules.specs.Denotations.{all_fit}
use Rattle.jr_typing.proofs.call.all_fit.Given as goal

abbrev pub invariant-loop-place : goal.invariant-loop-place
invariant-loop-place l = all_fit l.names.names (drop l.place l.formals) (drop l.place l.heads) ≡ all_fit l.names.names l.formals l.heads
