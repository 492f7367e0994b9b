use Rattle.jr_built.proofs.Moments.{clauses-at-the-moment}
use Rattle.jr_built.proofs.laws.built_clauses_look_at_the_moment.Goals as goal

pub returns : goal.returns
returns c = clauses-at-the-moment
