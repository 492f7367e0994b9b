use Rattle.std.proofs.Common.{map, rules, arith}
use Rattle.std.proofs.lemmas.Grind.{common_steps}
use Rattle.jr_program.specs.declared.clause.ClauseShape.TheFolds.{the_lemmas}
use Rattle.jr_program.specs.ClauseViews.{view_expr, view_suffix}
use Rattle.jr_clause_eval.proofs.Suffixes.{result_objects}
use Rattle.jr_clause_eval.proofs.tests.parts.chain.Goals as goal

pub returns : goal.returns
returns c =
    result_objects c.suffixed.result (view_expr c.in_ok-this.this) (map view_suffix c.in_ok-suffixes.suffixes) c.suffixed.ensures
    (first_of (search (rules, the_lemmas), grind (the_lemmas, arith, common_steps))) c.in_ok-suffixes.ensures
