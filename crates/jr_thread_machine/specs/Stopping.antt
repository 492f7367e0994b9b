-- The instructions at which a call may stop or throw.
use Rattle.std.specs.Prelude.{◌≡◌, None}
use Rattle.jr_arith.specs.declared.operator.Binary.{Binary}
use Rattle.jr_arith.specs.Operators.{binary_value}
use Rattle.jr_code.specs.declared.instruction.Instruction.{Instruction as Row}
use Rattle.jr_code.specs.declared.instruction.Instruction.TheVariants as rows
use Rattle.jr_code.specs.Machine.{StackFrame, top, under}

-- an operator that gives no value between the topmost operands throws (JLS 15.17.2)
abbrev pub HasNoValue : Binary → StackFrame → Type 0
HasNoValue operator f = binary_value operator (top (under f.stack)) (top f.stack) ≡ None

-- any but those that work on operands and locals alone
abbrev pub MayStop : Row → StackFrame → Type 0
MayStop (rows.PushInt n) f = ⊥
MayStop (rows.PushBool b) f = ⊥
MayStop rows.PushNull f = ⊥
MayStop (rows.Load x) f = ⊥
MayStop (rows.Store x) f = ⊥
MayStop rows.Pop f = ⊥
MayStop rows.Dup f = ⊥
MayStop rows.Dup2 f = ⊥
MayStop rows.DupX1 f = ⊥
MayStop rows.DupX2 f = ⊥
MayStop (rows.OneOperand operator) f = ⊥
MayStop (rows.TwoOperands operator) f = HasNoValue operator f
MayStop (rows.ConvertTo w) f = ⊥
MayStop (rows.Jump to) f = ⊥
MayStop (rows.JumpIf to) f = ⊥
MayStop (rows.JumpNot to) f = ⊥
MayStop _ f = Unit {0}
