use Rattle.std.proofs.Common.{◌≡◌, ◌<◌, true, false, List, map, ap, sym, ◌∙◌, subst, rules, arith, SFits, w32}
use borrow.Author.Rules.{get_or_read}
use Rattle.std.proofs.lemmas.Grind.{common_steps}
use Rattle.std.proofs.lemmas.Int.{to_z-of_z}
use Rattle.jr_program.specs.declared.clause.ClauseShape.TheFolds.{the_lemmas}
use Rattle.jr_program.specs.declared.clause.ClauseSuffix.{ClauseSuffix}
use Rattle.jr_program.specs.ClauseViews.{view_expr, view_suffix, view_quantified}
use Rattle.jr_meaning.specs.Worth.{Worth, worth, with_value, truth}
use Rattle.jr_clause_eval.specs.ClassObjects.{HasClassObjects}
use Rattle.jr_clause_eval.specs.Instances.{instance_worth}
use Rattle.jr_clause_eval.specs.Outcomes.{worth_of}
use Rattle.jr_clause_eval.specs.Scenes.{setting_in}
use Rattle.jr_clause_eval.specs.Shown.{Shown}
use Rattle.jr_clause_eval.specs.Suffixes.{suffixes_worth, SuffixesHaveClassObjects}
use Rattle.jr_clause_eval.proofs.Quantified.{whole, decided, still_open, undecided}
use Rattle.jr_clause_eval.proofs.Suffixes.{suffixed_worth, suffixed_objects}
use Rattle.jr_clause_eval.proofs.expr.+evaluate.Goals as goal

pub value_of_shape-value-start-requires : goal.value_of_shape-value-start-requires
value_of_shape-value-start-requires g t c κs within =
    let objects : HasClassObjects (view_expr c.in-Suffixed.primary) =
    (suffixed_objects c.args.shape.now c.in-Suffixed.primary c.in-Suffixed.suffixes c.in-Suffixed.is c.requires).0 in
    first_of (search (rules, the_lemmas, get_or_read), grind (the_lemmas, arith, common_steps) steps 2000000)

pub value_of_shape-value_behind-requires : goal.value_of_shape-value_behind-requires
value_of_shape-value_behind-requires g t c κs within =
    let objects : SuffixesHaveClassObjects (map view_suffix c.as_slice.result.now) =
    subst (λ (xs : List ClauseSuffix). SuffixesHaveClassObjects (map view_suffix xs)) (sym c.as_slice.ensures)
    (suffixed_objects c.args.shape.now c.in-Suffixed.primary c.in-Suffixed.suffixes c.in-Suffixed.is c.requires).1 in
    first_of (search (rules, the_lemmas, get_or_read), grind (the_lemmas, arith, common_steps) steps 2000000)

pub value_of_shape-returns-in-Suffixed-clause-worth : goal.value_of_shape-returns-in-Suffixed-clause-worth
value_of_shape-returns-in-Suffixed-clause-worth g t c =
    let mode = c.args.scene.now.mode in
    let s = setting_in c.args.scene.now (g.H.Heaps.shown c.args.heaps.now) in
    c.value_behind.ensures.worth
    ∙ ap (λ (xs : List ClauseSuffix). with_value (worth_of c.value-start.result) (suffixes_worth mode (setting_in c.args.scene.now (g.H.Heaps.shown c.value-start.new.heaps)) (map view_suffix xs))) c.as_slice.ensures
    ∙ ap (λ (h : Shown). with_value (worth_of c.value-start.result) (suffixes_worth mode (setting_in c.args.scene.now h) (map view_suffix c.in-Suffixed.suffixes))) c.value-start.ensures.same
    ∙ ap (λ (w : Worth). with_value w (suffixes_worth mode s (map view_suffix c.in-Suffixed.suffixes))) c.value-start.ensures.worth
    ∙ sym (suffixed_worth mode s c.args.shape.now c.in-Suffixed.primary c.in-Suffixed.suffixes c.in-Suffixed.is)

pub value_over_instances-loop-k-init : goal.value_over_instances-loop-k-init
value_over_instances-loop-k-init g t c = record {
  worth = whole c.args.scene.now.mode (setting_in c.args.scene.now (g.H.Heaps.shown c.args.heaps.now)) c.args.quantified.now
      c.in_ok-low.low c.in_ok-high.high c.in_ok-instances.instances
      c.in_ok-low.ensures.worth
      (c.in_ok-high.ensures.worth ∙ ap (λ (h : Shown). worth c.args.scene.now.mode (setting_in c.args.scene.now h) (view_expr c.args.quantified.now.high)) c.value.ensures.same)
      c.in_ok-instances.ensures.worth;
  same = c.value-2.ensures.same ∙ c.value.ensures.same;
  follows = λ start known. c.value-2.ensures.follows start (c.value.ensures.follows start known);
}

pub value_over_instances-loop-k-preserved : goal.value_over_instances-loop-k-preserved
value_over_instances-loop-k-preserved g t c =
    let s = setting_in c.args.scene.now (g.H.Heaps.shown c.args.heaps.now) in
    let opened : c.leaves_open.result ≡ true = first_of (search rules, grind (arith, common_steps)) in
    let below : c.loop-k.k < c.in_ok-instances.instances.count = omega arith in
    let fits : SFits w32 c.at.result = search rules in
    let outcome = simp to_z-of_z at c.value_of_instance-outcome.ensures.worth in
    record {
      worth = still_open c.args.quantified.now.quantifier c.in_ok-instances.instances.count c.loop-k.k c.in_ok-instances.instances.first c.at.result
          (instance_worth c.args.scene.now.mode s c.args.quantified.now) (worth_of c.value_of_instance-outcome.result)
          (worth c.args.scene.now.mode s (view_quantified c.args.quantified.now)) c.leaves_open.result
          below c.at.ensures c.loop-k.invariant.worth
          (outcome
          ∙ ap (λ (h : Shown). instance_worth c.args.scene.now.mode (setting_in c.args.scene.now h) c.args.quantified.now c.at.result) c.loop-k.invariant.same)
          c.leaves_open.ensures opened;
      same = c.value_of_instance-outcome.ensures.same ∙ c.loop-k.invariant.same;
      follows = λ start known. c.value_of_instance-outcome.ensures.follows start (c.loop-k.invariant.follows start known);
    }

pub value_over_instances-returns-then-not-leaves_open-clause-worth : goal.value_over_instances-returns-then-not-leaves_open-clause-worth
value_over_instances-returns-then-not-leaves_open-clause-worth g t c =
    let s = setting_in c.args.scene.now (g.H.Heaps.shown c.args.heaps.now) in
    let closed : c.leaves_open.result ≡ false = first_of (search rules, grind (arith, common_steps)) in
    let below : c.loop-k.k < c.in_ok-instances.instances.count = omega arith in
    let fits : SFits w32 c.at.result = search rules in
    let outcome = simp to_z-of_z at c.value_of_instance-outcome.ensures.worth in
    decided c.args.quantified.now.quantifier c.in_ok-instances.instances.count c.loop-k.k c.in_ok-instances.instances.first c.at.result
    (instance_worth c.args.scene.now.mode s c.args.quantified.now) (worth_of c.value_of_instance-outcome.result)
    (worth c.args.scene.now.mode s (view_quantified c.args.quantified.now)) c.leaves_open.result
    below c.at.ensures c.loop-k.invariant.worth
    (outcome
    ∙ ap (λ (h : Shown). instance_worth c.args.scene.now.mode (setting_in c.args.scene.now h) c.args.quantified.now c.at.result) c.loop-k.invariant.same)
    c.leaves_open.ensures closed

pub value_over_instances-returns-clause-worth : goal.value_over_instances-returns-clause-worth
value_over_instances-returns-clause-worth g t c =
    let s = setting_in c.args.scene.now (g.H.Heaps.shown c.args.heaps.now) in
    let over : c.in_ok-instances.instances.count ≡ c.loop-k.k = omega arith in
    ap truth c.goes_on.ensures
    ∙ undecided c.args.quantified.now.quantifier c.in_ok-instances.instances.count c.loop-k.k _ (instance_worth c.args.scene.now.mode s c.args.quantified.now)
    (worth c.args.scene.now.mode s (view_quantified c.args.quantified.now)) over c.loop-k.invariant.worth
