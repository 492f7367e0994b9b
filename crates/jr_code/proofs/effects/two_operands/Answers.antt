use Rattle.std.proofs.Common.{[], ◌∷◌, Some}
use Rattle.jr_arith.specs.Kinds.{left_kind, right_kind, result_kind}
use Rattle.jr_code.specs.Instructions.{TwoOperands}
use Rattle.jr_code.specs.Views.{plain_of}
use Rattle.jr_code.specs.WellFormed.{plain_method}
use Rattle.jr_code.proofs.Applied.{changed}
use Rattle.jr_code.proofs.effects.two_operands.Goals as goal

pub returns : goal.returns
returns c =
    changed (plain_of c.args.code.now) (plain_method c.args.code.now c.args.method.now) (TwoOperands c.args.operator)
    (left_kind c.args.operator ∷ right_kind c.args.operator ∷ []) (Some (result_kind c.args.operator)) c.args.kinds.now c.change.new.self
    (λ a x. x) (λ a x. x) c.change.result (rw (c.left_kind.ensures, c.right_kind.ensures, c.result_kind.ensures) at c.change.ensures)
