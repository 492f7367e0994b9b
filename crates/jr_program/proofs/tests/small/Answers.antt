use Rattle.std.proofs.Common.{true, ◌∙◌}
use Rattle.jr_program.proofs.StatementEquations.{view_skip}
use Rattle.jr_program.proofs.ClauseEquations.{view_truth}
use Rattle.jr_program.proofs.SmallUnit.{parts_hold}
use Rattle.jr_program.proofs.tests.small.Goals as goal

pub returns : goal.returns
returns c =
    parts_hold _ c.in_ok-first.first c.in_ok-second.second c.in_ok-condition.condition
    (cc (c.in_ok-one_class.ensures, c.in_ok-one_field.ensures, c.in_ok-methods.ensures, c.in_ok-clauses.ensures, c.new-4.ensures, c.new-5.ensures))
    (c.in_ok-first.ensures ∙ view_skip)
    (c.in_ok-second.ensures ∙ view_skip)
    (c.in_ok-condition.ensures ∙ view_truth true)
