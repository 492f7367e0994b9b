-- The conjuncts of a quantifier's range, from left to right.
use Rattle.std.proofs.Common.{◌≡◌, ℕ, ◌+◌, ◌<◌, ◌≤◌, List, Option, Some, length, get_or, drop, map, sym, ap, ◌∙◌}
use Rattle.jr_base.specs.declared.refusal.Fail.{Fail}
use Rattle.jr_base.specs.declared.refusal.Fail.TheVariants.{Refused, Memory}
use Rattle.jr_ast.specs.declared.expr.Expr.{Expr as ExprTree}
use Rattle.jr_ast.specs.Expressions.{exprs, view_expr}
use Rattle.jr_program.specs.Clauses.{Spec}
use Rattle.jr_typing_rules.specs.Answers.{Typing, Good, ◌>>=◌}
use Rattle.jr_typing_rules.specs.Predicates.{Stand, Stated, conjoined, conjuncts}
use Rattle.jr_names.specs.Answered.{Fails}
use Rattle.jr_names.proofs.Turns.{cut, uncut}
use Rattle.jr_spec_typing.specs.Parts.{boolean_value}

next_conjunct : (stand : Stand) (before : Option Spec) (all : List ExprTree) (d : ExprTree) (k : ℕ) → k < length all
    → conjuncts stand before (exprs (map view_expr (drop k all))) ≡ (boolean_value stand (view_expr (get_or all k d)) >>= λ v. conjuncts stand (Some (conjoined before v.node)) (exprs (map view_expr (drop (k + 1) all))))
next_conjunct stand before all d k below = ap (λ es. conjuncts stand before (exprs (map view_expr es))) (cut all k d below)

pub conjunct_fails : (stand : Stand) (before : Option Spec) (all : List ExprTree) (d : ExprTree) (k : ℕ) (whole : Typing (Option Spec)) (e : Fail)
    → conjuncts stand before (exprs (map view_expr (drop k all))) ≡ whole → k < length all
    → Fails e (boolean_value stand (view_expr (get_or all k d))) → Fails e whole
conjunct_fails stand before all d k whole Memory so_far below h = tt
conjunct_fails stand before all d k whole (Refused r) so_far below h =
    sym so_far ∙ next_conjunct stand before all d k below ∙ ap (λ is. is >>= λ (v : Stated). conjuncts stand (Some (conjoined before v.node)) (exprs (map view_expr (drop (k + 1) all)))) h

pub conjunct_goes_on : (stand : Stand) (before : Option Spec) (all : List ExprTree) (d : ExprTree) (k : ℕ) (whole : Typing (Option Spec)) (v : Stated)
    → conjuncts stand before (exprs (map view_expr (drop k all))) ≡ whole → k < length all
    → boolean_value stand (view_expr (get_or all k d)) ≡ Good v
    → conjuncts stand (Some (conjoined before v.node)) (exprs (map view_expr (drop (k + 1) all))) ≡ whole
conjunct_goes_on stand before all d k whole v so_far below is =
    sym (next_conjunct stand before all d k below ∙ ap (λ is. is >>= λ (v : Stated). conjuncts stand (Some (conjoined before v.node)) (exprs (map view_expr (drop (k + 1) all)))) is) ∙ so_far

pub no_conjunct_left : (stand : Stand) (before : Option Spec) (all : List ExprTree) (k : ℕ) (whole : Typing (Option Spec))
    → conjuncts stand before (exprs (map view_expr (drop k all))) ≡ whole → length all ≤ k → whole ≡ Good before
no_conjunct_left stand before all k whole so_far done =
    sym so_far ∙ ap (λ es. conjuncts stand before (exprs (map view_expr es))) (uncut all k done)
