use Rattle.std.proofs.Common.{◌≡◌, drop}
use Rattle.std.specs.List.{flat_map}
use Rattle.jr_ast.specs.Units.{view_class}
use Rattle.jr_typing_rules.specs.Notes.{in_class}
use Rattle.jr_spec_typing.specs.Noted.{and_words, view_noted}
use Rattle.jr_spec_typing.proofs.unjudged.Noted.add_classes.Given as goal

abbrev pub invariant-loop-class : goal.invariant-loop-class
invariant-loop-class l = and_words (view_noted l.self) (flat_map (λ x. in_class (view_class x)) (drop l.class-index l.all)) ≡ and_words (view_noted l.initial.self) (flat_map (λ x. in_class (view_class x)) l.all)
