use Rattle.std.proofs.Common.{refl}
use Rattle.jr_ops.specs.Keywords.{keywords}
use Rattle.jr_ops.proofs.table.words_of.Goals as goal

pub returns-then-jml-clause-value : goal.returns-then-jml-clause-value
unfolding keywords
returns-then-jml-clause-value c = rw c.if-jml.true refl

pub returns-else-jml-clause-value : goal.returns-else-jml-clause-value
unfolding keywords
returns-else-jml-clause-value c = rw c.if-jml.false refl
