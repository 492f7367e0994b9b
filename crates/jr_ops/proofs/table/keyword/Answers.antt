use Rattle.std.proofs.Common.{◌∙◌, ap}
use Rattle.jr_ops.specs.Keywords.{keywords, row_from, keyword_row}
use Rattle.jr_ops.proofs.Rows.{found, nowhere}
use Rattle.jr_ops.proofs.table.keyword.Goals as goal

pub returns-clause-value : goal.returns-clause-value
unfolding keyword_row
returns-clause-value c = c.row_of.ensures ∙ ap (λ ws. row_from 0 ws c.args.text.now) c.words_of.ensures.value

pub returns-clause-found : goal.returns-clause-found
returns-clause-found c = found (keywords c.args.jml) _ _ (c.row_of.ensures ∙ ap (λ ws. row_from 0 ws c.args.text.now) c.words_of.ensures.value)

pub returns-clause-none : goal.returns-clause-none
returns-clause-none c = nowhere (keywords c.args.jml) _ _ (c.row_of.ensures ∙ ap (λ ws. row_from 0 ws c.args.text.now) c.words_of.ensures.value)
