use Rattle.std.proofs.Common.{arith, sym, ◌∙◌}
use Rattle.jr_stmt_parser.proofs.Gives.{blamed, exits_in, leaf, fails_first, fails_inside, found_made, found_then, found_when}
use Rattle.jr_stmt_parser.proofs.Views.{view_commit}
use Rattle.jr_stmt_parser.proofs.Begins.{no_truth}
use Rattle.jr_stmt_parser.proofs.EachForm.{label_taken, label_refused}
use Rattle.jr_stmt_parser.proofs.Gives.{blamed, nothing_rest}
use Rattle.jr_stmt_parser.proofs.Gives.{no}
use Rattle.jr_stmt_parser.proofs.Begun.{behind_label}
use Rattle.jr_stmt_parser.proofs.reader.Reader.commits.Goals as goal

pub returns-in_err-start : goal.returns-in_err-start
returns-in_err-start g c = exits_in _ _ c.from_residual.ensures.1 (λ o w. fails_first (leaf c.in_err-start.ensures))

pub returns-in_err-statement : goal.returns-in_err-statement
returns-in_err-statement g c = exits_in _ _ c.from_residual-in_err-statement.ensures.1 (λ o w. fails_inside (let p = c.in_ok-start.ensures in (label_taken _ _ p.it.0 p.it.1).0) (let p = c.in_ok-start.ensures in (label_taken _ _ p.it.0 p.it.1).1) c.in_ok-start.ensures (fails_first (c.in_err-statement.ensures o (behind_label _ _ w c.in_ok-start.ensures))))

pub returns : goal.returns
returns g c = found_then c.in_ok-start.ensures (found_then c.in_ok-statement.ensures (found_when (sym c.is_locals.ensures ∙ c.if-is_locals.false) (found_made (sym (view_commit _ _)))))

pub returns-then-is_locals : goal.returns-then-is_locals
returns-then-is_locals g c = λ o w. blamed c.in_ok-start.start (let p = c.in_ok-start.ensures in let on = p.on in omega arith) (nothing_rest _ c.in_ok-start.ensures (nothing_rest _ c.in_ok-statement.ensures (λ l y m (t, q). no_truth (sym t ∙ (sym c.is_locals.ensures ∙ c.if-is_locals.true))))) c.refusal.ensures

pub returns-then-not-is_label : goal.returns-then-not-is_label
returns-then-not-is_label g c = λ o w. label_refused _ _ _ _ w c.requires.name c.requires.colon (no c.is_label.ensures.value c.if-not-is_label.true) c.other_label.ensures
