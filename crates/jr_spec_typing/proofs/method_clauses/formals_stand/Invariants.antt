use Rattle.std.proofs.Common.{◌≡◌, drop}
use Rattle.jr_typing_rules.specs.Answers.{all_hold}
use Rattle.jr_typing_rules.specs.Specifications.{formal_stands}
use Rattle.jr_spec_typing.proofs.method_clauses.formals_stand.Given as goal

abbrev pub invariant-loop-formal : goal.invariant-loop-formal
invariant-loop-formal l = all_hold formal_stands (drop l.formal-index l.formals) ≡ all_hold formal_stands l.formals
