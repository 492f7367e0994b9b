use Rattle.std.proofs.Common.{◌∙◌}
use Rattle.jr_program.proofs.StatementEquations.{view_skip}
use Rattle.jr_built.proofs.SmallUnit.{parts_hold}
use Rattle.jr_built.proofs.tests.small.Goals as goal

pub returns : goal.returns
returns c =
    parts_hold c.args.extends_thread c.args.is_synchronized _ c.in_ok-body.body
    (cc (c.in_ok-classes.ensures, c.in_ok-methods.ensures, c.new-2.ensures, c.new-3.ensures, c.new-4.ensures, c.new-5.ensures))
    (c.in_ok-body.ensures ∙ view_skip)
