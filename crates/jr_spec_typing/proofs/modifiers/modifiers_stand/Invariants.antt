use Rattle.std.proofs.Common.{◌≡◌, drop, None}
use Rattle.jr_typing_rules.specs.Modifiers.{well_placed}
use Rattle.jr_spec_typing.specs.Holders.{view_holder}
use Rattle.jr_spec_typing.proofs.modifiers.modifiers_stand.Given as goal

abbrev pub invariant-loop-modifier : goal.invariant-loop-modifier
invariant-loop-modifier l = well_placed (view_holder l.holder) l.before (drop l.modifier-index l.modifiers) ≡ well_placed (view_holder l.holder) None l.modifiers
