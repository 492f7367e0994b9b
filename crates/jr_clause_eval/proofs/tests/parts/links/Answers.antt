use Rattle.std.proofs.Common.{List, map, subst, rules, arith}
use Rattle.std.proofs.lemmas.Grind.{common_steps}
use Rattle.jr_program.specs.declared.clause.ClauseShape.TheFolds.{the_lemmas}
use Rattle.jr_program.specs.declared.clause.ClauseSuffix.{ClauseSuffix}
use Rattle.jr_program.specs.declared.clause.ClauseSuffix.TheVariants as suffix
use Rattle.jr_program.specs.ClauseViews.{view_suffix}
use Rattle.jr_clause_eval.specs.Suffixes.{SuffixHasClassObjects, SuffixesHaveClassObjects}
use Rattle.jr_clause_eval.proofs.Suffixes.{one_more_suffix}
use Rattle.jr_clause_eval.proofs.tests.parts.links.Goals as goal

pub loop-preserved : goal.loop-preserved
loop-preserved c =
    let first : SuffixHasClassObjects (view_suffix (suffix.Field (record { 0 = 0 }) 0)) = first_of (search (rules, the_lemmas), grind (the_lemmas, arith, common_steps)) in
    subst (λ (xs : List ClauseSuffix). SuffixesHaveClassObjects (map view_suffix xs)) (first_of (search rules, grind (arith, common_steps)))
    (one_more_suffix c.loop.suffixes (suffix.Field (record { 0 = 0 }) 0) c.loop.invariant first)
