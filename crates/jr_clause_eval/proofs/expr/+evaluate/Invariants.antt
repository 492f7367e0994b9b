use Rattle.std.proofs.Common.{◌≡◌, ◌-◌, map, drop}
use Rattle.std.specs.Prelude.{pos, ◌+ℤ◌}
use Rattle.jr_program.specs.ClauseViews.{view_suffix, view_quantified}
use Rattle.jr_meaning.specs.Worth.{worth, with_value, each_of}
use Rattle.jr_clause_eval.specs.Instances.{instance_worth}
use Rattle.jr_clause_eval.specs.Outcomes.{worth_of}
use Rattle.jr_clause_eval.specs.Scenes.{setting_in}
use Rattle.jr_clause_eval.specs.Suffixes.{suffixes_worth, SuffixesHaveClassObjects}
use Rattle.jr_clause_eval.proofs.expr.+evaluate.Given as goal

abbrev pub invariant-value_behind-loop-suffix : goal.invariant-value_behind-loop-suffix
invariant-value_behind-loop-suffix g l = record {
  worth : suffixes_worth l.scene.mode (setting_in l.scene (g.H.Heaps.shown l.initial.heaps)) (map view_suffix (drop l.suffix-index l.suffixes)) l.reached
      ≡ with_value (worth_of l.fn.start) (suffixes_worth l.scene.mode (setting_in l.scene (g.H.Heaps.shown l.initial.heaps)) (map view_suffix l.suffixes));
  objects : SuffixesHaveClassObjects (map view_suffix (drop l.suffix-index l.suffixes));
  same : g.H.Heaps.shown l.heaps ≡ g.H.Heaps.shown l.initial.heaps;
  follows : (start : _) → g.H.Heaps.follows start l.initial.heaps → g.H.Heaps.follows start l.heaps;
}

abbrev pub invariant-value_over_instances-loop-k : goal.invariant-value_over_instances-loop-k
invariant-value_over_instances-loop-k g l = record {
  worth : each_of l.quantified.quantifier (l.instances.count - l.k) (l.instances.first +ℤ pos l.k) (instance_worth l.scene.mode (setting_in l.scene (g.H.Heaps.shown l.fn.heaps)) l.quantified)
      ≡ worth l.scene.mode (setting_in l.scene (g.H.Heaps.shown l.fn.heaps)) (view_quantified l.quantified);
  same : g.H.Heaps.shown l.heaps ≡ g.H.Heaps.shown l.fn.heaps;
  follows : (start : _) → g.H.Heaps.follows start l.fn.heaps → g.H.Heaps.follows start l.heaps;
}
