use Rattle.std.proofs.Common.{◌≡◌, drop}
use Rattle.std.specs.List.{flat_map}
use Rattle.jr_ast.specs.Clauses.{view_method_clause}
use Rattle.jr_typing_rules.specs.Notes.{in_clause}
use Rattle.jr_spec_typing.specs.Noted.{and_words, view_noted}
use Rattle.jr_spec_typing.proofs.unjudged.Noted.add_clauses.Given as goal

abbrev pub invariant-loop-clause : goal.invariant-loop-clause
invariant-loop-clause l = and_words (view_noted l.self) (flat_map (λ x. in_clause (view_method_clause x)) (drop l.clause-index l.all)) ≡ and_words (view_noted l.initial.self) (flat_map (λ x. in_clause (view_method_clause x)) l.all)
