use Rattle.std.proofs.Common.{◌≡◌, drop}
use Rattle.std.specs.List.{flat_map}
use Rattle.jr_ast.specs.Units.{view_member}
use Rattle.jr_typing_rules.specs.Notes.{in_member}
use Rattle.jr_spec_typing.specs.Noted.{and_words, view_noted}
use Rattle.jr_spec_typing.proofs.unjudged.Noted.add_members.Given as goal

abbrev pub invariant-loop-member : goal.invariant-loop-member
invariant-loop-member l = and_words (view_noted l.self) (flat_map (λ x. in_member (view_member x)) (drop l.member-index l.all)) ≡ and_words (view_noted l.initial.self) (flat_map (λ x. in_member (view_member x)) l.all)
