-- The instances of a quantifier.
use Rattle.std.specs.Prelude.{◌^◌, ℤ, pos, neg_ℤ, ◌+ℤ◌, ◌≤ℤ◌, Result, Ok, Err}
use Rattle.jr_program.specs.declared.words.Quantifier.{Quantifier}
use Rattle.jr_program.specs.declared.words.Mode.{Mode}
use Rattle.jr_program.specs.declared.clause.QuantifiedExpr.{QuantifiedExpr}
use Rattle.jr_program.specs.ClauseViews.{view_expr}
use Rattle.jr_meaning.specs.Worth.{Worth, Setting, binding, worth, in_range, each_of}
use Rattle.jr_clause_eval.specs.declared.outcome.Stuck.{Stuck}
use Rattle.jr_clause_eval.specs.declared.range.Instances.{Instances}
use Rattle.jr_clause_eval.specs.Outcomes.{stuck_worth}

-- what a quantifier is worth over these instances, or why it is stuck
abbrev pub over_instances : Result Instances Stuck → Quantifier → (ℤ → Worth) → Worth
over_instances (Ok instances) quantifier instance = each_of quantifier instances.count instances.first instance
over_instances (Err why) quantifier instance = stuck_worth why

-- each of them is an int
pub record AreInts (instances : Instances) : Type 0 where
  pub least : neg_ℤ (pos (2 ^ 31)) ≤ℤ instances.first
  pub most : (instances.first +ℤ pos instances.count) ≤ℤ pos (2 ^ 31)

-- what the instance of a number is worth
abbrev pub instance_worth : Mode → Setting → QuantifiedExpr → ℤ → Worth
instance_worth mode s q i = in_range q.quantifier (worth mode (binding s i) (view_expr q.conjuncts)) (worth mode (binding s i) (view_expr q.body))
