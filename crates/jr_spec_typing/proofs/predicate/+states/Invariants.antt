use Rattle.std.proofs.Common.{◌≡◌, None, map, option_map, drop}
use Rattle.jr_ast.specs.Expressions.{exprs, view_expr as view_source, view_suffix}
use Rattle.jr_program.specs.ClauseViews.{view_expr}
use Rattle.jr_typing_rules.specs.Answers.{one_by_one}
use Rattle.jr_typing_rules.specs.Predicates.{conjuncts}
use Rattle.jr_spec_typing.specs.Parts.{member}
use Rattle.jr_spec_typing.specs.Views.{view_stand, view_term}
use Rattle.jr_spec_typing.proofs.predicate.+states.Given as goal

abbrev pub invariant-conjuncts-loop-expr : goal.invariant-conjuncts-loop-expr
invariant-conjuncts-loop-expr l =
    conjuncts (view_stand l.stand) (option_map view_expr l.before) (exprs (map view_source (drop l.expr-index l.all))) ≡ conjuncts (view_stand l.stand) None (exprs (map view_source l.all))

abbrev pub invariant-with_suffixes-loop-suffix : goal.invariant-with_suffixes-loop-suffix
invariant-with_suffixes-loop-suffix l =
    one_by_one (member (view_stand l.stand) l.at) (view_term l.term) (map view_suffix (drop l.suffix-index l.all)) ≡ one_by_one (member (view_stand l.stand) l.at) (view_term l.initial.term) (map view_suffix l.all)
