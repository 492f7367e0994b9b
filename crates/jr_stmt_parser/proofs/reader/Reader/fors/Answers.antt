use Rattle.std.proofs.Common.{ap, sym, ◌∙◌}
use Rattle.jr_stmt_parser.proofs.Gives.{exits_in, leaf, fails_first, fails_pair, fails_rest, found_made, found_pair, found_then}
use Rattle.jr_stmt_parser.proofs.Views.{view_for}
use Rattle.jr_lexer.specs.Reading.{span_at}
use Rattle.jr_ast.specs.Statements.{view_form}
use Rattle.jr_ast.specs.declared.stmt.Form.TheVariants as form
use Rattle.jr_stmt_parser.proofs.Begun.{in_for}
use Rattle.jr_stmt_parser.proofs.reader.Reader.fors.Goals as goal

pub returns-in_err-open : goal.returns-in_err-open
returns-in_err-open g c = exits_in _ _ c.from_residual.ensures.1 (λ o w. fails_first (leaf c.in_err-open.ensures))

pub returns-in_err-start : goal.returns-in_err-start
returns-in_err-start g c = exits_in _ _ c.from_residual-in_err-start.ensures.1 (λ o w. fails_rest c.in_ok-open.ensures (fails_first (leaf c.in_err-start.ensures)))

pub returns-in_err-init : goal.returns-in_err-init
returns-in_err-init g c = exits_in _ _ c.from_residual-in_err-init.ensures.1 (λ o w. fails_rest c.in_ok-open.ensures (fails_rest c.in_ok-start.ensures (fails_first (leaf c.in_err-init.ensures))))

pub returns-in_err-middle : goal.returns-in_err-middle
returns-in_err-middle g c = exits_in _ _ c.from_residual-in_err-middle.ensures.1 (λ o w. fails_rest c.in_ok-open.ensures (fails_rest c.in_ok-start.ensures (fails_rest c.in_ok-init.ensures (fails_first (leaf c.in_err-middle.ensures)))))

pub returns-in_err-condition : goal.returns-in_err-condition
returns-in_err-condition g c = exits_in _ _ c.from_residual-in_err-condition.ensures.1 (λ o w. fails_rest c.in_ok-open.ensures (fails_rest c.in_ok-start.ensures (fails_rest c.in_ok-init.ensures (fails_rest c.in_ok-middle.ensures (fails_first (leaf c.in_err-condition.ensures))))))

pub returns-in_err-last : goal.returns-in_err-last
returns-in_err-last g c = exits_in _ _ c.from_residual-in_err-last.ensures.1 (λ o w. fails_rest c.in_ok-open.ensures (fails_rest c.in_ok-start.ensures (fails_rest c.in_ok-init.ensures (fails_rest c.in_ok-middle.ensures (fails_rest c.in_ok-condition.ensures (fails_first (leaf c.in_err-last.ensures)))))))

pub returns-in_err-updates : goal.returns-in_err-updates
returns-in_err-updates g c = exits_in _ _ c.from_residual-in_err-updates.ensures.1 (λ o w. fails_rest c.in_ok-open.ensures (fails_rest c.in_ok-start.ensures (fails_rest c.in_ok-init.ensures (fails_rest c.in_ok-middle.ensures (fails_rest c.in_ok-condition.ensures (fails_rest c.in_ok-last.ensures (fails_first (leaf c.in_err-updates.ensures))))))))

pub returns-in_err-body : goal.returns-in_err-body
returns-in_err-body g c = exits_in _ _ c.from_residual-in_err-body.ensures.1 (λ o w. fails_rest c.in_ok-open.ensures (fails_rest c.in_ok-start.ensures (fails_rest c.in_ok-init.ensures (fails_rest c.in_ok-middle.ensures (fails_rest c.in_ok-condition.ensures (fails_rest c.in_ok-last.ensures (fails_rest c.in_ok-updates.ensures (fails_pair (c.in_err-body.ensures o (in_for _ _ _ c.requires.above c.requires.depth w c.in_ok-open.ensures c.in_ok-start.ensures c.in_ok-init.ensures c.in_ok-middle.ensures c.in_ok-condition.ensures c.in_ok-last.ensures c.in_ok-updates.ensures))))))))))

pub returns : goal.returns
returns g c = found_then c.in_ok-open.ensures (found_then c.in_ok-start.ensures (found_then c.in_ok-init.ensures (found_then c.in_ok-middle.ensures (found_then c.in_ok-condition.ensures (found_then c.in_ok-last.ensures (found_then c.in_ok-updates.ensures (found_pair c.in_ok-body.ensures (found_made (sym (ap (λ t. view_form (form.For t) (span_at c.args.self.now.code.tokens.now c.args.at)) c.in_ok-turn.ensures ∙ view_for _ _))))))))))
