-- What an emitted instruction is.
use Rattle.jr_base.specs.Threads.{class_object}
use Rattle.jr_base.specs.declared.value.Value.TheVariants as values
use Rattle.jr_lowering.specs.declared.op.Op.{Op}
use Rattle.jr_lowering.specs.declared.op.Op.TheVariants as ops
use Rattle.jr_code.specs.Instructions.{Instruction, Push, Load, Store, Pop, Dup, Dup2, DupX1, DupX2, OneOperand, TwoOperands, ConvertTo, Jump, JumpNot, BackTo, GetField, PutField, GetStatic, PutStatic, GetElement, PutElement, ArrayLength, Make, MakeArray, EnterMonitor, ExitMonitor, OnObject, WaitForTime, SleepFor, YieldNow, CallStaticMethod, CallMethodOn, ReturnNothing, ReturnTop, CommitNow, AssertThat, PrintAll, ThrowNew, ThrowLocal}

abbrev pub means : Op → Instruction
means (ops.PushInt n) = Push (values.Int n)
means (ops.PushLong n) = Push (values.Long n)
means (ops.PushTruth b) = Push (values.Bool b)
means ops.PushNull = Push values.Null
means (ops.PushClass class) = Push (values.Ref (class_object class))
means (ops.Load x) = Load x
means (ops.Store x) = Store x
means ops.Pop = Pop
means ops.Dup = Dup
means ops.Dup2 = Dup2
means ops.DupX1 = DupX1
means ops.DupX2 = DupX2
means (ops.OneOperand operator) = OneOperand operator
means (ops.TwoOperands operator) = TwoOperands operator
means (ops.ConvertTo w) = ConvertTo w
means (ops.Jump to) = Jump to
means (ops.JumpNot to) = JumpNot to
means (ops.BackTo to) = BackTo to
means (ops.GetField slot kind) = GetField slot kind
means (ops.PutField slot kind) = PutField slot kind
means (ops.GetStatic at kind) = GetStatic at kind
means (ops.PutStatic at kind) = PutStatic at kind
means (ops.GetElement element) = GetElement element
means (ops.PutElement element) = PutElement element
means ops.ArrayLength = ArrayLength
means (ops.Make kind) = Make kind
means (ops.MakeArray element) = MakeArray element
means ops.EnterMonitor = EnterMonitor
means ops.ExitMonitor = ExitMonitor
means (ops.OnObject called) = OnObject called
means ops.WaitForTime = WaitForTime
means ops.SleepFor = SleepFor
means ops.YieldNow = YieldNow
means (ops.CallStaticMethod m) = CallStaticMethod m
means (ops.CallMethodOn m) = CallMethodOn m
means ops.ReturnNothing = ReturnNothing
means ops.ReturnTop = ReturnTop
means ops.CommitNow = CommitNow
means (ops.AssertThat a) = AssertThat a.clause a.scope.items
means (ops.PrintAll parts) = PrintAll parts.items
means (ops.ThrowNew fault) = ThrowNew fault
means (ops.ThrowLocal x) = ThrowLocal x
