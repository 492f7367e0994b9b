use Rattle.jr_stmt_parser.proofs.Gives.{gives_second, no}
use Rattle.jr_stmt_parser.proofs.code.Code.updates.Goals as goal

pub returns : goal.returns
returns c = gives_second _ _ _ _ _ _ _ (no c.sees.ensures c.if-sees.false) c.effects.ensures
