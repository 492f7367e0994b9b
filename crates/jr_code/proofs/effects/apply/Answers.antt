use Rattle.std.proofs.Common.{[], ◌∷◌, Some, sym, subst}
use Rattle.jr_base.specs.declared.kind.SlotKind.TheVariants.{Int, Ref as Reference}
use Rattle.jr_arith.specs.Kinds.{kind_of_width, kind_converted, unary_kind}
use Rattle.jr_code.specs.declared.instruction.Instruction.TheVariants as rows
use Rattle.jr_code.specs.Instructions.{OneOperand, ConvertTo, ArrayLength}
use Rattle.jr_code.specs.Decoded.{meaning}
use Rattle.jr_code.specs.Views.{tables_of, plain_of}
use Rattle.jr_code.specs.WellFormed.{plain_method}
use Rattle.jr_code.specs.Verifier.{HasEffect}
use Rattle.jr_code.proofs.Applied.{of_row, changed}
use Rattle.jr_code.proofs.effects.apply.Goals as goal

pub returns-in-Load : goal.returns-in-Load
returns-in-Load c =
    of_row (tables_of c.args.code.now) (plain_of c.args.code.now) (plain_method c.args.code.now c.args.method.now) c.args.kinds.now c.load.new.kinds
    c.load.result c.args.instruction (rows.Load c.in-Load.place) c.in-Load.is c.load.ensures

pub returns-in-Store : goal.returns-in-Store
returns-in-Store c =
    subst (λ i. HasEffect (plain_of c.args.code.now) (plain_method c.args.code.now c.args.method.now) (meaning (tables_of c.args.code.now) i) c.args.kinds.now c.store.new.kinds c.store.result)
    (sym c.in-Store.is) c.store.ensures

pub returns-in-Dup : goal.returns-in-Dup
returns-in-Dup c =
    of_row (tables_of c.args.code.now) (plain_of c.args.code.now) (plain_method c.args.code.now c.args.method.now) c.args.kinds.now c.dup.new.kinds
    c.dup.result c.args.instruction (rows.Dup) c.in-Dup.is c.dup.ensures

pub returns-in-Dup2 : goal.returns-in-Dup2
returns-in-Dup2 c =
    of_row (tables_of c.args.code.now) (plain_of c.args.code.now) (plain_method c.args.code.now c.args.method.now) c.args.kinds.now c.dup2.new.kinds
    c.dup2.result c.args.instruction (rows.Dup2) c.in-Dup2.is c.dup2.ensures

pub returns-in-DupX1 : goal.returns-in-DupX1
returns-in-DupX1 c =
    of_row (tables_of c.args.code.now) (plain_of c.args.code.now) (plain_method c.args.code.now c.args.method.now) c.args.kinds.now c.dup_x1.new.kinds
    c.dup_x1.result c.args.instruction (rows.DupX1) c.in-DupX1.is c.dup_x1.ensures

pub returns-in-DupX2 : goal.returns-in-DupX2
returns-in-DupX2 c =
    of_row (tables_of c.args.code.now) (plain_of c.args.code.now) (plain_method c.args.code.now c.args.method.now) c.args.kinds.now c.dup_x2.new.kinds
    c.dup_x2.result c.args.instruction (rows.DupX2) c.in-DupX2.is c.dup_x2.ensures

pub returns-in-OneOperand : goal.returns-in-OneOperand
returns-in-OneOperand c =
    of_row (tables_of c.args.code.now) (plain_of c.args.code.now) (plain_method c.args.code.now c.args.method.now) c.args.kinds.now c.change-in-OneOperand.new.self
    c.change-in-OneOperand.result c.args.instruction (rows.OneOperand c.in-OneOperand.operator) c.in-OneOperand.is
    (changed (plain_of c.args.code.now) (plain_method c.args.code.now c.args.method.now) (OneOperand c.in-OneOperand.operator) (unary_kind c.in-OneOperand.operator ∷ []) (Some (unary_kind c.in-OneOperand.operator)) c.args.kinds.now c.change-in-OneOperand.new.self
    (λ a x. x) (λ a x. x) c.change-in-OneOperand.result (rw (c.kind.ensures, c.kind-in-OneOperand.ensures) at c.change-in-OneOperand.ensures))

pub returns-in-TwoOperands : goal.returns-in-TwoOperands
returns-in-TwoOperands c =
    of_row (tables_of c.args.code.now) (plain_of c.args.code.now) (plain_method c.args.code.now c.args.method.now) c.args.kinds.now c.two_operands.new.kinds
    c.two_operands.result c.args.instruction (rows.TwoOperands c.in-TwoOperands.operator) c.in-TwoOperands.is c.two_operands.ensures

pub returns-in-ConvertTo : goal.returns-in-ConvertTo
returns-in-ConvertTo c =
    of_row (tables_of c.args.code.now) (plain_of c.args.code.now) (plain_method c.args.code.now c.args.method.now) c.args.kinds.now c.change-in-ConvertTo.new.self
    c.change-in-ConvertTo.result c.args.instruction (rows.ConvertTo c.in-ConvertTo.width) c.in-ConvertTo.is
    (changed (plain_of c.args.code.now) (plain_method c.args.code.now c.args.method.now) (ConvertTo c.in-ConvertTo.width) (kind_converted c.in-ConvertTo.width ∷ []) (Some (kind_of_width c.in-ConvertTo.width)) c.args.kinds.now c.change-in-ConvertTo.new.self
    (λ a x. x) (λ a x. x) c.change-in-ConvertTo.result (rw (c.kind_converted.ensures, c.kind-in-ConvertTo.ensures) at c.change-in-ConvertTo.ensures))

pub returns-in-ArrayLength : goal.returns-in-ArrayLength
returns-in-ArrayLength c =
    of_row (tables_of c.args.code.now) (plain_of c.args.code.now) (plain_method c.args.code.now c.args.method.now) c.args.kinds.now c.change-in-ArrayLength.new.self
    c.change-in-ArrayLength.result c.args.instruction (rows.ArrayLength) c.in-ArrayLength.is
    (changed (plain_of c.args.code.now) (plain_method c.args.code.now c.args.method.now) (ArrayLength) (Reference ∷ []) (Some (Int)) c.args.kinds.now c.change-in-ArrayLength.new.self
    (λ a x. x) (λ a x. x) c.change-in-ArrayLength.result c.change-in-ArrayLength.ensures)

pub returns-in-CallStaticMethod : goal.returns-in-CallStaticMethod
returns-in-CallStaticMethod c =
    of_row (tables_of c.args.code.now) (plain_of c.args.code.now) (plain_method c.args.code.now c.args.method.now) c.args.kinds.now c.call_static.new.kinds
    c.call_static.result c.args.instruction (rows.CallStaticMethod c.in-CallStaticMethod.called) c.in-CallStaticMethod.is c.call_static.ensures

pub returns-in-CallMethodOn : goal.returns-in-CallMethodOn
returns-in-CallMethodOn c =
    of_row (tables_of c.args.code.now) (plain_of c.args.code.now) (plain_method c.args.code.now c.args.method.now) c.args.kinds.now c.call_on.new.kinds
    c.call_on.result c.args.instruction (rows.CallMethodOn c.in-CallMethodOn.called) c.in-CallMethodOn.is c.call_on.ensures

pub returns-in-ReturnTop : goal.returns-in-ReturnTop
returns-in-ReturnTop c =
    subst (λ i. HasEffect (plain_of c.args.code.now) (plain_method c.args.code.now c.args.method.now) (meaning (tables_of c.args.code.now) i) c.args.kinds.now c.return_top.new.kinds c.return_top.result)
    (sym c.in-ReturnTop.is) c.return_top.ensures
