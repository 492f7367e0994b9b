use Rattle.std.proofs.Common.{refl}
use Rattle.jr_clause_eval.proofs.Showing.{shows_as_before, shows_old_as_before}
use Rattle.jr_clause_eval.proofs.clause.over_snapshots.Goals as goal

pub returns-clause-moment_reference : goal.returns-clause-moment_reference
returns-clause-moment_reference g c = (c.value_over.ensures.follows c.args.heaps.now (refl, refl)).0

pub returns-clause-before_reference : goal.returns-clause-before_reference
returns-clause-before_reference g c = (c.value_over.ensures.follows c.args.heaps.now (refl, refl)).1

pub returns-clause-now : goal.returns-clause-now
returns-clause-now g c = shows_as_before _ _ c.value_over.ensures.same

pub returns-clause-old : goal.returns-clause-old
returns-clause-old g c = shows_old_as_before _ _ c.value_over.ensures.same
