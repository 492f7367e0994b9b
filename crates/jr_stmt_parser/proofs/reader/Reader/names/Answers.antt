use Rattle.jr_stmt_parser.proofs.Gives.{in_first, in_second, leaf_gives, no, yes}
use Rattle.jr_stmt_parser.proofs.Begins.{front_of}
use Rattle.jr_stmt_parser.proofs.reader.Reader.names.Goals as goal

pub returns-then-begins_print : goal.returns-then-begins_print
returns-then-begins_print g c = in_first _ _ _ _ _ _ _ _ (yes c.begins_print.ensures.value c.if-begins_print.true) (leaf_gives _ _ _ _ _ _ _ c.print.ensures)

pub returns-then-colon_behind : goal.returns-then-colon_behind
returns-then-colon_behind g c = in_second _ _ _ _ _ _ _ _ (no c.begins_print.ensures.value c.if-begins_print.false) (in_first _ _ _ _ _ _ _ _ (yes c.colon_behind.ensures c.if-colon_behind.true) c.commits.ensures)

pub returns-then-begins_locals : goal.returns-then-begins_locals
returns-then-begins_locals g c = in_second _ _ _ _ _ _ _ _ (no c.begins_print.ensures.value c.if-begins_print.false) (in_second _ _ _ _ _ _ _ _ (no c.colon_behind.ensures c.if-colon_behind.false) (in_first _ _ _ _ _ _ _ _ (yes c.begins_locals.ensures c.if-begins_locals.true) (leaf_gives _ _ _ _ _ _ _ c.declaration.ensures)))

pub returns : goal.returns
returns g c = in_second _ _ _ _ _ _ _ _ (no c.begins_print.ensures.value c.if-begins_print.false) (in_second _ _ _ _ _ _ _ _ (no c.colon_behind.ensures c.if-colon_behind.false) (in_second _ _ _ _ _ _ _ _ (no c.begins_locals.ensures c.if-begins_locals.false) (leaf_gives _ _ _ _ _ _ _ c.evaluation.ensures)))

pub evaluation-requires : goal.evaluation-requires
evaluation-requires g c = front_of _ _ c.requires.begins
