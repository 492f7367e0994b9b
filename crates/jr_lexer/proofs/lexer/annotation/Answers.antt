use Rattle.std.proofs.Common.{◌∙◌, sym, arith, rules}
use Rattle.std.proofs.lemmas.List.{take_rest}
use Rattle.std.proofs.lemmas.Result.{err_from_is_err_and}
use Rattle.jr_lexer.specs.Lexical.{annotation, jml_piece, is_fresh}
use Rattle.jr_lexer.proofs.Pieces.{goes_on, gives_up, ends}
use Rattle.jr_lexer.proofs.lexer.annotation.Goals as goal

pub returns-in_err-len-clause-value : goal.returns-in_err-len-clause-value
unfolding annotation
returns-in_err-len-clause-value c =
    let p = err_from_is_err_and c.from_residual.result c.from_residual.ensures.1 in
    rw (p.1, p.2) (gives_up jml_piece is_fresh c.loop-rest.tokens c.loop-rest.fresh c.loop-rest.at c.loop-rest.rest.now _ _ (omega arith) c.in_err-len.ensures.value c.loop-rest.invariant.read)

pub loop-rest-preserved : goal.loop-rest-preserved
loop-rest-preserved c =
    let on = goes_on jml_piece is_fresh c.loop-rest.tokens c.loop-rest.fresh c.loop-rest.at c.loop-rest.rest.now _ _ (omega arith) c.in_ok-len.ensures.value c.in_ok-len.ensures.moves.0 in
    record { read = rw (take_rest c.loop-rest.rest.now c.in_ok-len.len, c.is_fresh-fresh.ensures) (on ∙ c.loop-rest.invariant.read); left = search rules; count = search rules }

pub returns-clause-value : goal.returns-clause-value
unfolding annotation
returns-clause-value c = sym c.loop-rest.invariant.read ∙ ends jml_piece is_fresh c.loop-rest.tokens c.loop-rest.fresh c.loop-rest.at c.loop-rest.rest.now (omega arith)
