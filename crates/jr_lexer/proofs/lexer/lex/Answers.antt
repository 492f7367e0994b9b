use Rattle.std.proofs.Common.{◌∙◌}
use Rattle.jr_lexer.proofs.Sources.{not_utf8, utf8}
use Rattle.jr_lexer.proofs.lexer.lex.Goals as goal

pub returns-in-Err : goal.returns-in-Err
returns-in-Err c = not_utf8 c.args.bytes.now _ _ c.in-Err.ensures.cases.0 (c.valid_up_to.ensures ∙ c.in-Err.ensures.valid_len) c.here.ensures

pub returns-in-Ok : goal.returns-in-Ok
returns-in-Ok c = rw (utf8 c.args.bytes.now c.in-Ok.ensures.cases.1) c.java_tokens.ensures
