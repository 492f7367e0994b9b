use Rattle.std.proofs.Common.{◌≡◌, drop}
use Rattle.std.specs.List.{flat_map}
use Rattle.jr_ast.specs.declared.unit.Modifier.{Modifier}
use Rattle.jr_typing_rules.specs.Notes.{in_modifier}
use Rattle.jr_spec_typing.specs.Noted.{and_words, view_noted}
use Rattle.jr_spec_typing.proofs.unjudged.Noted.add_modifiers.Given as goal

abbrev pub invariant-loop-modifier : goal.invariant-loop-modifier
invariant-loop-modifier l = and_words (view_noted l.self) (flat_map (λ (m : Modifier). in_modifier m.place m.kind) (drop l.modifier-index l.all)) ≡ and_words (view_noted l.initial.self) (flat_map (λ (m : Modifier). in_modifier m.place m.kind) l.all)
