use Rattle.std.proofs.Common.{◌≡◌, drop}
use Rattle.jr_typing_rules.specs.Modifiers.{first_of, said_mode}
use Rattle.jr_spec_typing.proofs.modifiers.said_mode.Given as goal

abbrev pub invariant-loop-modifier : goal.invariant-loop-modifier
invariant-loop-modifier l = first_of l.said (said_mode (drop l.modifier-index l.modifiers)) ≡ said_mode l.modifiers
