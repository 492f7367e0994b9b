-- Each arm is what its row does.
use Rattle.std.proofs.Common.{sym, subst}
use Rattle.jr_code.specs.declared.instruction.Instruction.{Instruction as Row}
use Rattle.jr_code.specs.declared.instruction.Instruction.TheVariants as rows
use Rattle.jr_thread_machine.specs.declared.flow.Flow.TheVariants as flows
use Rattle.jr_thread_machine.specs.Frames.{frame_of}
use Rattle.jr_thread_machine.specs.Stopping.{MayStop}
use Rattle.jr_thread_machine.proofs.Halting.{by_result}
use Rattle.jr_thread_machine.proofs.Tables.{of_row}
use Rattle.jr_thread_machine.proofs.frame.Frame.go.Goals as goal

pub returns-in-TwoOperands : goal.returns-in-TwoOperands
returns-in-TwoOperands c =
    let f = frame_of c.args.self.now in
    let P : Row → Type 0 = λ i. MayStop i f in
    by_result c.two_operands.result _ _ _ _
    (λ s plain t. of_row plain t c.args.instruction (rows.TwoOperands c.in-TwoOperands.operator) flows.Goes f (frame_of c.two_operands.new.self) c.in-TwoOperands.is (s plain))
    (λ h. (h.0, subst P (sym c.in-TwoOperands.is) h.1)) c.two_operands.ensures

pub returns-in-PushBool : goal.returns-in-PushBool
returns-in-PushBool c = λ plain t. of_row plain t c.args.instruction (rows.PushBool c.in-PushBool.b) flows.Goes _ _ c.in-PushBool.is (c.constant.ensures plain)

pub returns-in-PushNull : goal.returns-in-PushNull
returns-in-PushNull c = λ plain t. of_row plain t c.args.instruction rows.PushNull flows.Goes _ _ c.in-PushNull.is (c.constant-in-PushNull.ensures plain)

pub returns-in-Load : goal.returns-in-Load
returns-in-Load c = λ plain t. of_row plain t c.args.instruction (rows.Load c.in-Load.place) flows.Goes _ _ c.in-Load.is (c.load.ensures plain)

pub returns-in-Store : goal.returns-in-Store
returns-in-Store c = λ plain t. of_row plain t c.args.instruction (rows.Store c.in-Store.place) flows.Goes _ _ c.in-Store.is (c.store.ensures plain)

pub returns-in-Pop : goal.returns-in-Pop
returns-in-Pop c = λ plain t. of_row plain t c.args.instruction rows.Pop flows.Goes _ _ c.in-Pop.is (c.pop.ensures plain)

pub returns-in-Dup : goal.returns-in-Dup
returns-in-Dup c = λ plain t. of_row plain t c.args.instruction rows.Dup flows.Goes _ _ c.in-Dup.is (c.dup.ensures plain)

pub returns-in-Dup2 : goal.returns-in-Dup2
returns-in-Dup2 c = λ plain t. of_row plain t c.args.instruction rows.Dup2 flows.Goes _ _ c.in-Dup2.is (c.dup2.ensures plain)

pub returns-in-DupX1 : goal.returns-in-DupX1
returns-in-DupX1 c = λ plain t. of_row plain t c.args.instruction rows.DupX1 flows.Goes _ _ c.in-DupX1.is (c.dup_x1.ensures plain)

pub returns-in-DupX2 : goal.returns-in-DupX2
returns-in-DupX2 c = λ plain t. of_row plain t c.args.instruction rows.DupX2 flows.Goes _ _ c.in-DupX2.is (c.dup_x2.ensures plain)

pub returns-in-OneOperand : goal.returns-in-OneOperand
returns-in-OneOperand c = λ plain t. of_row plain t c.args.instruction (rows.OneOperand c.in-OneOperand.operator) flows.Goes _ _ c.in-OneOperand.is (c.one_operand.ensures plain)

pub returns-in-ConvertTo : goal.returns-in-ConvertTo
returns-in-ConvertTo c = λ plain t. of_row plain t c.args.instruction (rows.ConvertTo c.in-ConvertTo.width) flows.Goes _ _ c.in-ConvertTo.is (c.convert.ensures plain)

pub returns-in-Jump : goal.returns-in-Jump
returns-in-Jump c = λ plain t. of_row plain t c.args.instruction (rows.Jump c.in-Jump.to) flows.Goes _ _ c.in-Jump.is (c.jump.ensures plain)

pub returns-in-JumpIf : goal.returns-in-JumpIf
returns-in-JumpIf c = λ plain t. of_row plain t c.args.instruction (rows.JumpIf c.in-JumpIf.to) flows.Goes _ _ c.in-JumpIf.is (c.jump_if.ensures plain)

pub returns-in-JumpNot : goal.returns-in-JumpNot
returns-in-JumpNot c = λ plain t. of_row plain t c.args.instruction (rows.JumpNot c.in-JumpNot.to) flows.Goes _ _ c.in-JumpNot.is (c.jump_not.ensures plain)
