use Rattle.jr_stmt_parser.proofs.Suffixes.{by_last}
use Rattle.jr_stmt_parser.proofs.effects.+shape_has_effect.Goals as goal

pub returns-in-len1-up : goal.returns-in-len1-up
returns-in-len1-up t c = by_last _ _ _ _ _ _ c.in-Suffixed.is c.as_slice.ensures c.last-item.is c.in-len1-up.len_at_least c.is_call.ensures
