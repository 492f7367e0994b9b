-- A quantifier, whose parts stand inside of it or outside.
use Rattle.std.proofs.Common.{◌≡◌, Bool, true, false, None, map, length, refl, ap, ◌∙◌}
use Rattle.std.specs.Prelude.{nat_lt}
use Rattle.jr_base.specs.declared.number.Span.{Span}
use Rattle.jr_base.specs.declared.refusal.Refusal.TheVariants.{Duplicate, NotHere}
use Rattle.jr_ast.specs.declared.expr.QuantifiedExpr.{QuantifiedExpr, out-QuantifiedExpr}
use Rattle.jr_ast.specs.declared.expr.Shape.TheFolds.{fold_out-QuantifiedExpr}
use Rattle.jr_ast.specs.Expressions.{Expr, Suffix, Quantified, Placed, exprs, shape_view, suffix_view, expr_view, quantified_view, view_expr}
use Rattle.jr_program.specs.ClauseKinds.{deepest_quantifier}
use Rattle.jr_program.specs.Clauses as clause
use Rattle.jr_typing_rules.specs.Answers.{Typing, Good, ◌>>=◌, require}
use Rattle.jr_typing_rules.specs.Types.{boolean}
use Rattle.jr_typing_rules.specs.Predicates.{Stand, Term, TheValue, states, conjuncts, quantifier, bound, all_conjoined, is_new, and_quantified}
use Rattle.jr_spec_typing.specs.Parts.{int_value, boolean_value, inside, view_quantified}

view_parts : (q : QuantifiedExpr) (at : Span) → view_quantified q at ≡ Quantified at (out-QuantifiedExpr q).quantifier (out-QuantifiedExpr q).variable (view_expr (out-QuantifiedExpr q).low) (out-QuantifiedExpr q).low_bound (view_expr (out-QuantifiedExpr q).high) (out-QuantifiedExpr q).high_bound (exprs (map view_expr (out-QuantifiedExpr q).conjuncts)) (view_expr (out-QuantifiedExpr q).body)
view_parts q at = ap (λ v. v at) (fold_out-QuantifiedExpr Placed Suffix Expr Placed shape_view suffix_view expr_view quantified_view q)

-- what the parts state, where the inside is known
abbrev parts_state : Stand → QuantifiedExpr → Stand → Typing Term
parts_state stand q within =
    int_value stand (view_expr (out-QuantifiedExpr q).low) >>= λ l.
    int_value stand (view_expr (out-QuantifiedExpr q).high) >>= λ h.
    conjuncts within None (exprs (map view_expr (out-QuantifiedExpr q).conjuncts)) >>= λ range.
    boolean_value within (view_expr (out-QuantifiedExpr q).body) >>= λ body.
    Good (TheValue boolean (clause.Quantified (quantifier (out-QuantifiedExpr q).quantifier) l.node (bound (out-QuantifiedExpr q).low_bound) h.node (bound (out-QuantifiedExpr q).high_bound) (all_conjoined range) body.node))

both_required : {A B : Type 0} (a b : Bool) (at : Span) (x : Span) (s : A) (f : A → Typing B)
    → (require a (NotHere at) >>= λ u. require b (Duplicate x) >>= λ u. f s) ≡ ((require a (NotHere at) >>= λ u. require b (Duplicate x) >>= λ u. Good s) >>= f)
both_required true true at x s f = refl
both_required true false at x s f = refl
both_required false b at x s f = refl

pub states_inside : (stand : Stand) (at : Span) (q : QuantifiedExpr) → states stand (view_quantified q at) ≡ (inside stand at (out-QuantifiedExpr q).variable >>= parts_state stand q)
states_inside stand at q =
    ap (states stand) (view_parts q at)
    ∙ both_required (nat_lt (length stand.quantified) deepest_quantifier) (is_new stand (out-QuantifiedExpr q).variable.text) at (out-QuantifiedExpr q).variable.place (and_quantified stand (out-QuantifiedExpr q).variable) (parts_state stand q)
