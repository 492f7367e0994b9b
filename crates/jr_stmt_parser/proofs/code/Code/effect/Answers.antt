use Rattle.std.proofs.Common.{arith, refl, sym, ◌∙◌}
use Rattle.jr_stmt_parser.proofs.Gives.{blamed, exits, fails_first, found_made, found_then, found_when}
use Rattle.jr_stmt_parser.proofs.Begins.{no_truth}
use Rattle.jr_stmt_parser.proofs.Gives.{blamed, nothing_rest}
use Rattle.jr_stmt_parser.proofs.code.Code.effect.Goals as goal

pub returns-in_err-value : goal.returns-in_err-value
returns-in_err-value c = exits _ _ c.from_residual.ensures.1 (fails_first c.in_err-value.ensures)

pub returns-then-has_effect : goal.returns-then-has_effect
returns-then-has_effect c = found_then c.in_ok-value.ensures (found_when (sym c.has_effect.ensures ∙ c.if-has_effect.true) (found_made refl))

pub returns : goal.returns
returns c = blamed c.args.at (omega arith) (nothing_rest _ c.in_ok-value.ensures (λ l y m (t, q). no_truth (sym c.if-has_effect.false ∙ (c.has_effect.ensures ∙ t)))) c.refusal.ensures
