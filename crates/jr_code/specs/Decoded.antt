-- What an instruction means over the tables whose places it names.
use Rattle.jr_base.specs.Threads.{class_object, cell}
use Rattle.jr_base.specs.declared.value.Value.TheVariants as values
use Rattle.jr_code.specs.declared.instruction.Instruction.{Instruction as Row}
use Rattle.jr_code.specs.declared.instruction.Instruction.TheVariants as rows
use Rattle.jr_code.specs.Instructions.{Instruction, Push, Load, Store, Pop, Dup, Dup2, DupX1, DupX2, OneOperand, TwoOperands, ConvertTo, Jump, JumpIf, JumpNot, BackTo, GetField, PutField, GetStatic, PutStatic, GetElement, PutElement, ArrayLength, Make, MakeArray, EnterMonitor, ExitMonitor, OnObject, WaitForTime, SleepFor, YieldNow, CallStaticMethod, CallMethodOn, ReturnNothing, ReturnTop, CommitNow, AssertThat, PrintAll, ThrowNew, ThrowLocal}
use Rattle.jr_code.specs.Coded.{Tables, entry, instance_field, static_field}

-- the instruction, or Unknown where its argument names nothing
abbrev pub meaning : Tables → Row → Instruction
meaning t (rows.PushInt n) = Push (values.Int n)
meaning t (rows.PushBool b) = Push (values.Bool b)
meaning t rows.PushNull = Push values.Null
meaning t (rows.PushClass c) = entry (λ c. Push (values.Ref (class_object c))) t.classes c
meaning t (rows.PushLong p) = entry (λ n. Push (values.Long n)) t.longs p
meaning t (rows.Load x) = Load x
meaning t (rows.Store x) = Store x
meaning t rows.Pop = Pop
meaning t rows.Dup = Dup
meaning t rows.Dup2 = Dup2
meaning t rows.DupX1 = DupX1
meaning t rows.DupX2 = DupX2
meaning t (rows.OneOperand operator) = OneOperand operator
meaning t (rows.TwoOperands operator) = TwoOperands operator
meaning t (rows.ConvertTo w) = ConvertTo w
meaning t (rows.Jump to) = Jump to
meaning t (rows.JumpIf to) = JumpIf to
meaning t (rows.JumpNot to) = JumpNot to
meaning t (rows.BackTo to) = BackTo to
meaning t (rows.GetField f) = entry (instance_field GetField) t.fields f
meaning t (rows.PutField f) = entry (instance_field PutField) t.fields f
meaning t (rows.GetStatic f) = entry (static_field (λ home slot kind. GetStatic (cell home slot) kind)) t.fields f
meaning t (rows.PutStatic f) = entry (static_field (λ home slot kind. PutStatic (cell home slot) kind)) t.fields f
meaning t (rows.GetElement e) = entry GetElement t.elems e
meaning t (rows.PutElement e) = entry PutElement t.elems e
meaning t rows.ArrayLength = ArrayLength
meaning t (rows.Make k) = entry Make t.makes k
meaning t (rows.MakeArray e) = entry MakeArray t.elems e
meaning t rows.EnterMonitor = EnterMonitor
meaning t rows.ExitMonitor = ExitMonitor
meaning t (rows.OnObject called) = OnObject called
meaning t rows.WaitForTime = WaitForTime
meaning t rows.SleepFor = SleepFor
meaning t rows.YieldNow = YieldNow
meaning t (rows.CallStaticMethod m) = CallStaticMethod m
meaning t (rows.CallMethodOn m) = CallMethodOn m
meaning t rows.ReturnNothing = ReturnNothing
meaning t rows.ReturnTop = ReturnTop
meaning t rows.CommitNow = CommitNow
meaning t (rows.AssertThat a) = entry (λ a. AssertThat a.clause a.scope) t.asserts a
meaning t (rows.PrintAll p) = entry PrintAll t.prints p
meaning t (rows.ThrowNew e) = entry ThrowNew t.faults e
meaning t (rows.ThrowLocal x) = ThrowLocal x
