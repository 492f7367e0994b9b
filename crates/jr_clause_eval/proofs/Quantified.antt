-- A quantifier, by its instances.
use Rattle.std.proofs.Common.{◌≡◌, ℕ, ◌+◌, ◌-◌, ◌<◌, Bool, true, false, cond, sym, ap, ◌∙◌, arith}
use Rattle.std.specs.Prelude.{ℤ, pos, ◌+ℤ◌}
use Rattle.std.proofs.lemmas.Int.{ints}
use Rattle.jr_base.specs.declared.value.Value.{Value}
use Rattle.jr_program.specs.declared.words.Mode.{Mode}
use Rattle.jr_program.specs.declared.words.Quantifier.{Quantifier}
use Rattle.jr_program.specs.declared.clause.QuantifiedExpr.{QuantifiedExpr}
use Rattle.jr_program.specs.ClauseViews.{Suffix, shape_view, suffix_view, expr_view, quantified_view, view_expr, view_quantified}
use Rattle.jr_program.specs.declared.clause.ClauseShape.TheFolds.{fold_out-QuantifiedExpr}
use Rattle.jr_program.specs.Clauses.{Spec, Quantified}
use Rattle.jr_meaning.specs.Worth.{Worth, Has, Setting, worth, quantified, each_of, decide, truth, goes_on}
use Rattle.jr_clause_eval.specs.declared.range.Instances.{Instances}
use Rattle.jr_clause_eval.specs.Instances.{instance_worth}
use Rattle.jr_clause_eval.proofs.Instances.{each_next, each_none}

view_parts : (q : QuantifiedExpr) → view_quantified q ≡ Quantified q.quantifier (view_expr q.low) q.low_bound (view_expr q.high) q.high_bound (view_expr q.conjuncts) (view_expr q.body)
view_parts q = fold_out-QuantifiedExpr Spec Suffix Spec Spec shape_view suffix_view expr_view quantified_view q

-- a quantifier whose bounds have values, over its instances from the first on
pub whole : (mode : Mode) (s : Setting) (q : QuantifiedExpr) (low high : Value) (instances : Instances)
    → Has low ≡ worth mode s (view_expr q.low) → Has high ≡ worth mode s (view_expr q.high)
    → ((word : Quantifier) (instance : ℤ → Worth) → quantified word q.low_bound q.high_bound low high instance ≡ each_of word instances.count instances.first instance)
    → each_of q.quantifier (instances.count - 0) (instances.first +ℤ pos 0) (instance_worth mode s q) ≡ worth mode s (view_quantified q)
whole mode s q low high instances is_low is_high over =
    let n : instances.count - 0 ≡ instances.count = omega arith in
    let i : (instances.first +ℤ pos 0) ≡ instances.first = omega (arith, ints) in
    rw (n, i, view_parts q, ← is_low, ← is_high) (sym (over q.quantifier (instance_worth mode s q)))

-- an instance that decides
pub decided : (quantifier : Quantifier) (count k : ℕ) (first i : ℤ) (instance : ℤ → Worth) (outcome all : Worth) (open_ : Bool) → k < count → i ≡ (first +ℤ pos k)
    → each_of quantifier (count - k) (first +ℤ pos k) instance ≡ all → outcome ≡ instance i
    → ((rest : Worth) → decide quantifier outcome rest ≡ cond open_ rest outcome) → open_ ≡ false → outcome ≡ all
decided quantifier count k first i instance outcome all open_ below is before comes deciding closed =
    let rest = each_of quantifier (count - (k + 1)) (first +ℤ pos (k + 1)) instance in
    sym (deciding rest ∙ ap (λ b. cond b rest outcome) closed)
    ∙ ap (λ w. decide quantifier w rest) (comes ∙ ap instance is)
    ∙ sym (each_next quantifier count k first instance below) ∙ before

-- an instance that leaves it open
pub still_open : (quantifier : Quantifier) (count k : ℕ) (first i : ℤ) (instance : ℤ → Worth) (outcome all : Worth) (open_ : Bool) → k < count → i ≡ (first +ℤ pos k)
    → each_of quantifier (count - k) (first +ℤ pos k) instance ≡ all → outcome ≡ instance i
    → ((rest : Worth) → decide quantifier outcome rest ≡ cond open_ rest outcome) → open_ ≡ true
    → each_of quantifier (count - (k + 1)) (first +ℤ pos (k + 1)) instance ≡ all
still_open quantifier count k first i instance outcome all open_ below is before comes deciding opened =
    let rest = each_of quantifier (count - (k + 1)) (first +ℤ pos (k + 1)) instance in
    sym (deciding rest ∙ ap (λ b. cond b rest outcome) opened)
    ∙ ap (λ w. decide quantifier w rest) (comes ∙ ap instance is)
    ∙ sym (each_next quantifier count k first instance below) ∙ before

-- no instance is left
pub undecided : (quantifier : Quantifier) (count k : ℕ) (i : ℤ) (instance : ℤ → Worth) (all : Worth) → count ≡ k → each_of quantifier (count - k) i instance ≡ all → truth (goes_on quantifier) ≡ all
undecided quantifier count k i instance all e before = sym (each_none quantifier count k i instance e) ∙ before
