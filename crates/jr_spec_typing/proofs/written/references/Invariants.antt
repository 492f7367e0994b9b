use Rattle.std.proofs.Common.{◌≡◌, drop, map}
use Rattle.jr_ast.specs.Expressions.{view_spec}
use Rattle.jr_program.specs.ClauseViews.{view_expr}
use Rattle.jr_typing_rules.specs.Answers.{each}
use Rattle.jr_typing_rules.specs.Predicates.{states_reference}
use Rattle.jr_spec_typing.specs.Views.{view_stand}
use Rattle.jr_spec_typing.proofs.Members.{behind}
use Rattle.jr_spec_typing.proofs.written.references.Given as goal

abbrev pub invariant-loop-member : goal.invariant-loop-member
invariant-loop-member l =
    behind (map view_expr l.members) (each (states_reference (view_stand l.stand)) (map view_spec (drop l.member-index l.all)))
    ≡ each (states_reference (view_stand l.stand)) (map view_spec l.all)
