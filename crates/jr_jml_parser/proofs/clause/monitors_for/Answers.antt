use Rattle.jr_jml_parser.proofs.Classes.{monitors_read}
use Rattle.jr_jml_parser.proofs.clause.monitors_for.Goals as goal

pub returns : goal.returns
returns c = monitors_read _ _ _ _ _ _ _ _ _ _ c.requires.keyword c.in_ok-sign.ensures c.in_ok-start.ensures c.in_ok-field.ensures c.text.ensures c.span.ensures c.in_ok-owned.ensures
