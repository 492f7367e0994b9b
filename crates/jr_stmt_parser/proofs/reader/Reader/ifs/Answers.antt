use Rattle.std.proofs.Common.{sym}
use Rattle.jr_stmt_parser.proofs.Gives.{exits_in, leaf, fails_first, fails_pair, fails_rest, fails_split_first, found_first, found_made, found_pair, found_second, found_then, no, rest_pair, yes}
use Rattle.std.proofs.Common.{Some, None}
use Rattle.jr_lexer.specs.Reading.{span_at}
use Rattle.jr_ast.proofs.Views.{view_if}
use Rattle.jr_stmt_parser.proofs.Begun.{in_then, in_other}
use Rattle.jr_stmt_parser.proofs.reader.Reader.ifs.Goals as goal

pub returns-in_err-start : goal.returns-in_err-start
returns-in_err-start g c = exits_in _ _ c.from_residual.ensures.1 (λ o w. fails_first (leaf c.in_err-start.ensures))

pub returns-in_err-condition : goal.returns-in_err-condition
returns-in_err-condition g c = exits_in _ _ c.from_residual-in_err-condition.ensures.1 (λ o w. fails_rest c.in_ok-start.ensures (fails_pair (leaf c.in_err-condition.ensures)))

pub returns-in_err-then : goal.returns-in_err-then
returns-in_err-then g c = exits_in _ _ c.from_residual-in_err-then.ensures.1 (λ o w. fails_rest c.in_ok-start.ensures (rest_pair c.in_ok-condition.ensures (fails_pair (c.in_err-then.ensures o (in_then _ _ _ w c.in_ok-start.ensures c.in_ok-condition.ensures)))))

pub returns-in_err-other : goal.returns-in_err-other
returns-in_err-other g c = exits_in _ _ c.from_residual-in_err-other.ensures.1 (λ o w. fails_rest c.in_ok-start.ensures (rest_pair c.in_ok-condition.ensures (rest_pair c.in_ok-then.ensures (fails_split_first (yes c.sees.ensures c.if-sees.true) (fails_pair (c.in_err-other.ensures o (in_other _ _ _ _ w c.in_ok-start.ensures c.in_ok-condition.ensures c.in_ok-then.ensures)))))))

pub returns-then-sees : goal.returns-then-sees
returns-then-sees g c = found_then c.in_ok-start.ensures (found_pair c.in_ok-condition.ensures (found_pair c.in_ok-then.ensures (found_first (yes c.sees.ensures c.if-sees.true) (found_pair c.in_ok-other.ensures (found_made (sym (view_if c.in_ok-condition.condition c.in_ok-then.then (Some c.in_ok-other.other) (span_at c.args.self.now.code.tokens.now c.args.at))))))))

pub returns : goal.returns
returns g c = found_then c.in_ok-start.ensures (found_pair c.in_ok-condition.ensures (found_pair c.in_ok-then.ensures (found_second (no c.sees.ensures c.if-sees.false) (found_made (sym (view_if c.in_ok-condition.condition c.in_ok-then.then None (span_at c.args.self.now.code.tokens.now c.args.at)))))))
