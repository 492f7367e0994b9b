use Rattle.std.proofs.Common.{◌≡◌, drop}
use Rattle.std.specs.List.{flat_map}
use Rattle.jr_typing_rules.specs.Notes.{in_formal}
use Rattle.jr_spec_typing.specs.Noted.{and_words, view_noted}
use Rattle.jr_spec_typing.proofs.unjudged.Noted.add_formals.Given as goal

abbrev pub invariant-loop-formal : goal.invariant-loop-formal
invariant-loop-formal l = and_words (view_noted l.self) (flat_map (in_formal) (drop l.formal-index l.all)) ≡ and_words (view_noted l.initial.self) (flat_map (in_formal) l.all)
