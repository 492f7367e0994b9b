-- Each arm is what its row does.
use Rattle.jr_code.specs.Views.{tables_of, plain_of}
use Rattle.jr_code.specs.declared.instruction.Instruction.TheVariants as rows
use Rattle.jr_thread_machine.proofs.Tables.{of_row, of_row_ok}
use Rattle.jr_thread_machine.proofs.frame.Frame.act.Goals as goal

pub returns-in-PushClass-clause-ok : goal.returns-in-PushClass-clause-ok
returns-in-PushClass-clause-ok c = of_row_ok (plain_of c.args.code.now) (tables_of c.args.code.now) c.args.instruction (rows.PushClass c.in-PushClass.class) _ _ _ c.in-PushClass.is c.push_class.ensures.ok

pub returns-in-PushLong-clause-ok : goal.returns-in-PushLong-clause-ok
returns-in-PushLong-clause-ok c = of_row (plain_of c.args.code.now) (tables_of c.args.code.now) c.args.instruction (rows.PushLong c.in-PushLong.place) _ _ _ c.in-PushLong.is (c.push_long.ensures (plain_of c.args.code.now))

pub returns-in-BackTo-clause-ok : goal.returns-in-BackTo-clause-ok
returns-in-BackTo-clause-ok c = of_row (plain_of c.args.code.now) (tables_of c.args.code.now) c.args.instruction (rows.BackTo c.in-BackTo.to) _ _ _ c.in-BackTo.is (c.back_to.ensures (plain_of c.args.code.now))

pub returns-in-GetField-clause-ok : goal.returns-in-GetField-clause-ok
returns-in-GetField-clause-ok c = of_row (plain_of c.args.code.now) (tables_of c.args.code.now) c.args.instruction (rows.GetField c.in-GetField.place) _ _ _ c.in-GetField.is (c.get_field.ensures (plain_of c.args.code.now))

pub returns-in-PutField-clause-ok : goal.returns-in-PutField-clause-ok
returns-in-PutField-clause-ok c = of_row (plain_of c.args.code.now) (tables_of c.args.code.now) c.args.instruction (rows.PutField c.in-PutField.place) _ _ _ c.in-PutField.is (c.put_field.ensures (plain_of c.args.code.now))

pub returns-in-GetStatic-clause-ok : goal.returns-in-GetStatic-clause-ok
returns-in-GetStatic-clause-ok c = of_row (plain_of c.args.code.now) (tables_of c.args.code.now) c.args.instruction (rows.GetStatic c.in-GetStatic.place) _ _ _ c.in-GetStatic.is (c.get_static.ensures (plain_of c.args.code.now))

pub returns-in-PutStatic-clause-ok : goal.returns-in-PutStatic-clause-ok
returns-in-PutStatic-clause-ok c = of_row (plain_of c.args.code.now) (tables_of c.args.code.now) c.args.instruction (rows.PutStatic c.in-PutStatic.place) _ _ _ c.in-PutStatic.is (c.put_static.ensures (plain_of c.args.code.now))

pub returns-in-GetElement-clause-ok : goal.returns-in-GetElement-clause-ok
returns-in-GetElement-clause-ok c = of_row_ok (plain_of c.args.code.now) (tables_of c.args.code.now) c.args.instruction (rows.GetElement c.in-GetElement.place) _ _ _ c.in-GetElement.is c.get_element.ensures.ok

pub returns-in-PutElement-clause-ok : goal.returns-in-PutElement-clause-ok
returns-in-PutElement-clause-ok c = of_row_ok (plain_of c.args.code.now) (tables_of c.args.code.now) c.args.instruction (rows.PutElement c.in-PutElement.place) _ _ _ c.in-PutElement.is c.put_element.ensures.ok

pub returns-in-ArrayLength-clause-ok : goal.returns-in-ArrayLength-clause-ok
returns-in-ArrayLength-clause-ok c = of_row (plain_of c.args.code.now) (tables_of c.args.code.now) c.args.instruction rows.ArrayLength _ _ _ c.in-ArrayLength.is (c.array_length.ensures (plain_of c.args.code.now))

pub returns-in-Make-clause-ok : goal.returns-in-Make-clause-ok
returns-in-Make-clause-ok c = of_row (plain_of c.args.code.now) (tables_of c.args.code.now) c.args.instruction (rows.Make c.in-Make.place) _ _ _ c.in-Make.is (c.make.ensures (plain_of c.args.code.now))

pub returns-in-MakeArray-clause-ok : goal.returns-in-MakeArray-clause-ok
returns-in-MakeArray-clause-ok c = of_row_ok (plain_of c.args.code.now) (tables_of c.args.code.now) c.args.instruction (rows.MakeArray c.in-MakeArray.place) _ _ _ c.in-MakeArray.is c.make_array.ensures.ok

pub returns-in-EnterMonitor-clause-ok : goal.returns-in-EnterMonitor-clause-ok
returns-in-EnterMonitor-clause-ok c = of_row (plain_of c.args.code.now) (tables_of c.args.code.now) c.args.instruction rows.EnterMonitor _ _ _ c.in-EnterMonitor.is (c.enter.ensures (plain_of c.args.code.now))

pub returns-in-ExitMonitor-clause-ok : goal.returns-in-ExitMonitor-clause-ok
returns-in-ExitMonitor-clause-ok c = of_row (plain_of c.args.code.now) (tables_of c.args.code.now) c.args.instruction rows.ExitMonitor _ _ _ c.in-ExitMonitor.is (c.exit.ensures (plain_of c.args.code.now))

pub returns-in-OnObject-clause-ok : goal.returns-in-OnObject-clause-ok
returns-in-OnObject-clause-ok c = of_row (plain_of c.args.code.now) (tables_of c.args.code.now) c.args.instruction (rows.OnObject c.in-OnObject.called) _ _ _ c.in-OnObject.is (c.on_object.ensures (plain_of c.args.code.now))

pub returns-in-WaitForTime-clause-ok : goal.returns-in-WaitForTime-clause-ok
returns-in-WaitForTime-clause-ok c = of_row (plain_of c.args.code.now) (tables_of c.args.code.now) c.args.instruction rows.WaitForTime _ _ _ c.in-WaitForTime.is (c.wait_for.ensures (plain_of c.args.code.now))

pub returns-in-SleepFor-clause-ok : goal.returns-in-SleepFor-clause-ok
returns-in-SleepFor-clause-ok c = of_row (plain_of c.args.code.now) (tables_of c.args.code.now) c.args.instruction rows.SleepFor _ _ _ c.in-SleepFor.is (c.sleep.ensures (plain_of c.args.code.now))

pub returns-in-YieldNow-clause-ok : goal.returns-in-YieldNow-clause-ok
returns-in-YieldNow-clause-ok c = of_row (plain_of c.args.code.now) (tables_of c.args.code.now) c.args.instruction rows.YieldNow _ _ _ c.in-YieldNow.is (c.yield_now.ensures (plain_of c.args.code.now))

pub returns-in-CallStaticMethod-clause-ok : goal.returns-in-CallStaticMethod-clause-ok
returns-in-CallStaticMethod-clause-ok c = of_row (plain_of c.args.code.now) (tables_of c.args.code.now) c.args.instruction (rows.CallStaticMethod c.in-CallStaticMethod.method) _ _ _ c.in-CallStaticMethod.is (c.call_static.ensures (plain_of c.args.code.now))

pub returns-in-CallMethodOn-clause-ok : goal.returns-in-CallMethodOn-clause-ok
returns-in-CallMethodOn-clause-ok c = of_row (plain_of c.args.code.now) (tables_of c.args.code.now) c.args.instruction (rows.CallMethodOn c.in-CallMethodOn.method) _ _ _ c.in-CallMethodOn.is c.call_on.ensures

pub returns-in-ReturnNothing-clause-ok : goal.returns-in-ReturnNothing-clause-ok
returns-in-ReturnNothing-clause-ok c = of_row (plain_of c.args.code.now) (tables_of c.args.code.now) c.args.instruction rows.ReturnNothing _ _ _ c.in-ReturnNothing.is (c.return_nothing.ensures (plain_of c.args.code.now))

pub returns-in-ReturnTop-clause-ok : goal.returns-in-ReturnTop-clause-ok
returns-in-ReturnTop-clause-ok c = of_row (plain_of c.args.code.now) (tables_of c.args.code.now) c.args.instruction rows.ReturnTop _ _ _ c.in-ReturnTop.is (c.return_top.ensures (plain_of c.args.code.now))

pub returns-in-CommitNow-clause-ok : goal.returns-in-CommitNow-clause-ok
returns-in-CommitNow-clause-ok c = of_row (plain_of c.args.code.now) (tables_of c.args.code.now) c.args.instruction rows.CommitNow _ _ _ c.in-CommitNow.is (c.commit.ensures (plain_of c.args.code.now))

pub returns-in-AssertThat-clause-ok : goal.returns-in-AssertThat-clause-ok
returns-in-AssertThat-clause-ok c = of_row_ok (plain_of c.args.code.now) (tables_of c.args.code.now) c.args.instruction (rows.AssertThat c.in-AssertThat.place) _ _ _ c.in-AssertThat.is c.assert_that.ensures.ok

pub returns-in-PrintAll-clause-ok : goal.returns-in-PrintAll-clause-ok
returns-in-PrintAll-clause-ok c = of_row_ok (plain_of c.args.code.now) (tables_of c.args.code.now) c.args.instruction (rows.PrintAll c.in-PrintAll.place) _ _ _ c.in-PrintAll.is c.print_all.ensures.ok

pub returns-in-ThrowNew-clause-ok : goal.returns-in-ThrowNew-clause-ok
returns-in-ThrowNew-clause-ok c = of_row (plain_of c.args.code.now) (tables_of c.args.code.now) c.args.instruction (rows.ThrowNew c.in-ThrowNew.place) _ _ _ c.in-ThrowNew.is (c.throw_new.ensures (plain_of c.args.code.now))

pub returns-in-ThrowLocal-clause-ok : goal.returns-in-ThrowLocal-clause-ok
returns-in-ThrowLocal-clause-ok c = of_row (plain_of c.args.code.now) (tables_of c.args.code.now) c.args.instruction (rows.ThrowLocal c.in-ThrowLocal.place) _ _ _ c.in-ThrowLocal.is (c.throw_local.ensures (plain_of c.args.code.now))
