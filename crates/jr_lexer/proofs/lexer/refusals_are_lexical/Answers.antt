use Rattle.jr_lexer.proofs.Refused.{of_tokens}
use Rattle.jr_lexer.proofs.lexer.refusals_are_lexical.Goals as goal

pub returns : goal.returns
returns c = of_tokens
