use Rattle.jr_typing.specs.Views.{view_scope}
use Rattle.jr_typing.proofs.Prefixes.{prefix_answered}
use Rattle.jr_typing.proofs.expression.+denoted.Goals as goal

pub denotation_of_shape-returns-in-Prefix : goal.denotation_of_shape-returns-in-Prefix
denotation_of_shape-returns-in-Prefix t c =
    prefix_answered (view_scope c.args.scope.now) c.args.shape.now c.in-Prefix.operator c.in-Prefix.operand c.args.at c.with_prefix.result c.in-Prefix.is c.with_prefix.ensures
