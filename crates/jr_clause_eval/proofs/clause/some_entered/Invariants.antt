use Rattle.std.proofs.Common.{◌≡◌, map, drop}
use Rattle.jr_program.specs.ClauseViews.{view_expr}
use Rattle.jr_meaning.specs.Judge.{some_entered}
use Rattle.jr_clause_eval.specs.ClassObjects.{HaveClassObjects}
use Rattle.jr_clause_eval.specs.Scenes.{setting_in}
use Rattle.jr_clause_eval.proofs.clause.some_entered.Given as goal

abbrev pub invariant-loop-member : goal.invariant-loop-member
invariant-loop-member g l = record {
  value : some_entered l.scene.mode (setting_in l.scene (g.H.Heaps.shown l.initial.heaps)) (map view_expr (drop l.member-index l.members))
      ≡ some_entered l.scene.mode (setting_in l.scene (g.H.Heaps.shown l.initial.heaps)) (map view_expr l.members);
  objects : HaveClassObjects (map view_expr (drop l.member-index l.members));
  same : g.H.Heaps.shown l.heaps ≡ g.H.Heaps.shown l.initial.heaps;
  follows : (start : _) → g.H.Heaps.follows start l.initial.heaps → g.H.Heaps.follows start l.heaps;
}
