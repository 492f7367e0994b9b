-- A program and its run by the serial rule with seed 0.
--     class T extends Thread {
--       static Object o = null;
--       int n;
--       T(int n) { this.n = n; }
--       public void run() {
--         synchronized (T.class) {
--           try { T.class.wait(n); } catch (InterruptedException e) { }
--           System.out.println("woke " + n);
--           if (n == 2) T.class.notify();
--         }
--       }
--       public static void main(String[] args) throws InterruptedException {
--         for (int i = 0; i < 4; i++) new T(i).start();
--         synchronized (T.class) { T.class.wait(9L); }
--         synchronized (T.class) { T.class.wait(); }
--       }
--     }
use Rattle.std.specs.Prelude.{◌≡◌, pos, true, false, List, [], ◌∷◌, Some, None}
use Rattle.jr_base.specs.Deed.{Deed}
use Rattle.jr_base.specs.Deed as deeds
use Rattle.jr_base.specs.declared.action.NewKind.TheVariants as makes
use Rattle.jr_base.specs.declared.action.Reply.TheVariants as replies
use Rattle.jr_base.specs.declared.action.LeaveHow.TheVariants as leaves
use Rattle.jr_base.specs.declared.action.EndHow.TheVariants as ends
use Rattle.jr_base.specs.declared.action.Way.TheVariants as ways
use Rattle.jr_base.specs.declared.action.PrintPart.TheVariants as shows
use Rattle.jr_base.specs.declared.value.Value.TheVariants as values
use Rattle.jr_base.specs.declared.finish.Fault.TheVariants as faults
use Rattle.jr_base.specs.declared.finish.Finish.{Finish}
use Rattle.jr_base.specs.declared.finish.Finish.TheVariants as finishes
use Rattle.jr_base.specs.declared.kind.SlotKind.TheVariants as kinds
use Rattle.jr_arith.specs.declared.operator.Width.TheVariants as widths
use Rattle.jr_arith.specs.declared.operator.Comparison.TheVariants as comparisons
use Rattle.jr_arith.specs.declared.operator.Binary.TheVariants as binaries
use Rattle.jr_base.specs.declared.kind.ObjectCall.TheVariants as calls
use Rattle.jr_program.specs.Programs as code
use Rattle.jr_program.specs.Programs.{Program}
use Rattle.jr_meaning.specs.Event.{Event}
use Rattle.jr_meaning.specs.Right.{IsRightRun}
use Rattle.jr_meaning.specs.Serial.{serial}
use Rattle.jr_meaning.proofs.SerialRuns.{serial-right}
use Rattle.jr_meaning.proofs.Runs.{made, woke}
use Rattle.std.proofs.Common.{refl, subst}
use Rattle.std.specs.Int.{int_wrap}

abbrev pub program : Program
program = record {
  classes =
      record { name = []; extends_thread = true; implements_runnable = false; run = (Some (record { 0 = 1 })); constructor = (Some (record { 0 = 0 })) }
      ∷ [];
  fields =
      record { class = (record { 0 = 0 }); is_static = true; is_volatile = false; kind = kinds.Ref; constant = values.Null }
      ∷ record { class = (record { 0 = 0 }); is_static = false; is_volatile = false; kind = kinds.Int; constant = (values.Int (pos 0)) }
      ∷ [];
  methods =
      record {
        name = [];
        class = (record { 0 = 0 });
        is_static = false;
        is_constructor = true;
        is_synchronized = false;
        is_helper = false;
        formals = (kinds.Int ∷ []);
        locals = [];
        result = None;
        body = (code.Do (code.Evaluate (code.Assign (code.FieldOf code.This (record { 0 = 1 })) (code.Read (code.Local 0)))));
      }
      ∷ record {
        name = [];
        class = (record { 0 = 0 });
        is_static = false;
        is_constructor = false;
        is_synchronized = false;
        is_helper = false;
        formals = [];
        locals = (kinds.Caught ∷ []);
        result = None;
        body = (code.Synchronized (code.ClassObject (record { 0 = 0 })) (code.Then (code.Try (code.Do (code.WaitFor (code.ClassObject (record { 0 = 0 })) (code.Convert widths.Long (code.Read (code.FieldOf code.This (record { 0 = 1 })))))) (code.or_catch faults.InterruptedException 0 code.Skip code.no_catch)) (code.Then (code.Println ((code.Literal (record { 0 = 0 })) ∷ (code.Shown (code.Read (code.FieldOf code.This (record { 0 = 1 })))) ∷ [])) (code.If (code.Binary (binaries.Compare comparisons.Equal widths.Int) (code.Read (code.FieldOf code.This (record { 0 = 1 }))) (code.Number widths.Int (pos 2))) (code.Do (code.CallObject calls.Notify (code.ClassObject (record { 0 = 0 })))) code.Skip))));
      }
      ∷ record {
        name = [];
        class = (record { 0 = 0 });
        is_static = true;
        is_constructor = false;
        is_synchronized = false;
        is_helper = false;
        formals = [];
        locals = (kinds.Int ∷ []);
        result = None;
        body = (code.Then (code.Then (code.Declare 0 (code.Number widths.Int (pos 0))) (code.Loop (code.Binary (binaries.Compare comparisons.Less widths.Int) (code.Read (code.Local 0)) (code.Number widths.Int (pos 4))) ((code.Evaluate (code.PostfixIncrement widths.Int (code.Local 0) (pos 1))) ∷ []) (code.Do (code.CallObject calls.Start (code.NewObject (record { 0 = 0 }) (code.and_then (code.Read (code.Local 0)) code.no_more)))))) (code.Then (code.Synchronized (code.ClassObject (record { 0 = 0 })) (code.Do (code.WaitFor (code.ClassObject (record { 0 = 0 })) (code.Number widths.Long (pos 9))))) (code.Synchronized (code.ClassObject (record { 0 = 0 })) (code.Do (code.CallObject calls.Wait (code.ClassObject (record { 0 = 0 })))))));
      }
      ∷ [];
  clauses = [];
  notes = [];
  texts = ((119 ∷ 111 ∷ 107 ∷ 101 ∷ 32 ∷ []) ∷ []);
  main = (record { 0 = 2 });
}

abbrev pub journal : List Event
journal =
    made 1 (deeds.Call (record { 0 = 2 }) None []) replies.Unit
    ∷ made 1 (deeds.New (makes.Object (record { 0 = 0 }))) (replies.Made (record { 0 = 2 }))
    ∷ made 1 (deeds.Call (record { 0 = 0 }) (Some (record { 0 = 2 })) ((values.Int (pos 0)) ∷ [])) replies.Unit
    ∷ made 1 (deeds.Put (record { obj = (record { 0 = 2 }); slot = 0 }) (values.Int (pos 0))) replies.Unit
    ∷ made 1 (deeds.Leave (record { 0 = 0 }) (leaves.Normal None)) replies.Unit
    ∷ made 1 (deeds.Start (record { 0 = 2 })) (replies.Started (record { 0 = 2 }) (Some (record { method = (record { 0 = 1 }); this = (Some (record { 0 = 2 })) })))
    ∷ made 1 (deeds.Back) replies.Unit
    ∷ made 1 (deeds.New (makes.Object (record { 0 = 0 }))) (replies.Made (record { 0 = 3 }))
    ∷ made 1 (deeds.Call (record { 0 = 0 }) (Some (record { 0 = 3 })) ((values.Int (pos 1)) ∷ [])) replies.Unit
    ∷ made 1 (deeds.Put (record { obj = (record { 0 = 3 }); slot = 0 }) (values.Int (pos 1))) replies.Unit
    ∷ made 1 (deeds.Leave (record { 0 = 0 }) (leaves.Normal None)) replies.Unit
    ∷ made 1 (deeds.Start (record { 0 = 3 })) (replies.Started (record { 0 = 3 }) (Some (record { method = (record { 0 = 1 }); this = (Some (record { 0 = 3 })) })))
    ∷ made 1 (deeds.Back) replies.Unit
    ∷ made 1 (deeds.New (makes.Object (record { 0 = 0 }))) (replies.Made (record { 0 = 4 }))
    ∷ made 1 (deeds.Call (record { 0 = 0 }) (Some (record { 0 = 4 })) ((values.Int (pos 2)) ∷ [])) replies.Unit
    ∷ made 1 (deeds.Put (record { obj = (record { 0 = 4 }); slot = 0 }) (values.Int (pos 2))) replies.Unit
    ∷ made 1 (deeds.Leave (record { 0 = 0 }) (leaves.Normal None)) replies.Unit
    ∷ made 1 (deeds.Start (record { 0 = 4 })) (replies.Started (record { 0 = 4 }) (Some (record { method = (record { 0 = 1 }); this = (Some (record { 0 = 4 })) })))
    ∷ made 1 (deeds.Back) replies.Unit
    ∷ made 1 (deeds.New (makes.Object (record { 0 = 0 }))) (replies.Made (record { 0 = 5 }))
    ∷ made 1 (deeds.Call (record { 0 = 0 }) (Some (record { 0 = 5 })) ((values.Int (pos 3)) ∷ [])) replies.Unit
    ∷ made 1 (deeds.Put (record { obj = (record { 0 = 5 }); slot = 0 }) (values.Int (pos 3))) replies.Unit
    ∷ made 1 (deeds.Leave (record { 0 = 0 }) (leaves.Normal None)) replies.Unit
    ∷ made 1 (deeds.Start (record { 0 = 5 })) (replies.Started (record { 0 = 5 }) (Some (record { method = (record { 0 = 1 }); this = (Some (record { 0 = 5 })) })))
    ∷ made 1 (deeds.Back) replies.Unit
    ∷ made 1 (deeds.Enter (record { 0 = 1 }) ways.Block) replies.Unit
    ∷ made 1 (deeds.TimedWait (record { 0 = 1 })) replies.Unit
    ∷ made 2 (deeds.Call (record { 0 = 1 }) (Some (record { 0 = 2 })) []) replies.Unit
    ∷ made 2 (deeds.Enter (record { 0 = 1 }) ways.Block) replies.Unit
    ∷ made 2 (deeds.Get (record { obj = (record { 0 = 2 }); slot = 0 })) (replies.Value (values.Int (pos 0)))
    ∷ made 2 (deeds.Wait (record { 0 = 1 })) replies.Unit
    ∷ made 3 (deeds.Call (record { 0 = 1 }) (Some (record { 0 = 3 })) []) replies.Unit
    ∷ made 3 (deeds.Enter (record { 0 = 1 }) ways.Block) replies.Unit
    ∷ made 3 (deeds.Get (record { obj = (record { 0 = 3 }); slot = 0 })) (replies.Value (values.Int (pos 1)))
    ∷ made 3 (deeds.TimedWait (record { 0 = 1 })) replies.Unit
    ∷ made 4 (deeds.Call (record { 0 = 1 }) (Some (record { 0 = 4 })) []) replies.Unit
    ∷ made 4 (deeds.Enter (record { 0 = 1 }) ways.Block) replies.Unit
    ∷ made 4 (deeds.Get (record { obj = (record { 0 = 4 }); slot = 0 })) (replies.Value (values.Int (pos 2)))
    ∷ made 4 (deeds.TimedWait (record { 0 = 1 })) replies.Unit
    ∷ made 5 (deeds.Call (record { 0 = 1 }) (Some (record { 0 = 5 })) []) replies.Unit
    ∷ made 5 (deeds.Enter (record { 0 = 1 }) ways.Block) replies.Unit
    ∷ made 5 (deeds.Get (record { obj = (record { 0 = 5 }); slot = 0 })) (replies.Value (values.Int (pos 3)))
    ∷ made 5 (deeds.TimedWait (record { 0 = 1 })) replies.Unit
    ∷ woke 1
    ∷ made 1 (deeds.Resume (record { 0 = 1 })) replies.Unit
    ∷ made 1 (deeds.Exit (record { 0 = 1 })) replies.Unit
    ∷ made 1 (deeds.Enter (record { 0 = 1 }) ways.Block) replies.Unit
    ∷ made 1 (deeds.Wait (record { 0 = 1 })) replies.Unit
    ∷ woke 3
    ∷ made 3 (deeds.Resume (record { 0 = 1 })) replies.Unit
    ∷ made 3 (deeds.Get (record { obj = (record { 0 = 3 }); slot = 0 })) (replies.Value (values.Int (pos 1)))
    ∷ made 3 (deeds.Print ((shows.Text (record { 0 = 0 })) ∷ (shows.Val (values.Int (pos 1))) ∷ [])) replies.Unit
    ∷ made 3 (deeds.Get (record { obj = (record { 0 = 3 }); slot = 0 })) (replies.Value (values.Int (pos 1)))
    ∷ made 3 (deeds.Exit (record { 0 = 1 })) replies.Unit
    ∷ made 3 (deeds.Leave (record { 0 = 1 }) (leaves.Normal None)) replies.Unit
    ∷ made 3 (deeds.End ends.Normal) replies.Unit
    ∷ woke 4
    ∷ made 4 (deeds.Resume (record { 0 = 1 })) replies.Unit
    ∷ made 4 (deeds.Get (record { obj = (record { 0 = 4 }); slot = 0 })) (replies.Value (values.Int (pos 2)))
    ∷ made 4 (deeds.Print ((shows.Text (record { 0 = 0 })) ∷ (shows.Val (values.Int (pos 2))) ∷ [])) replies.Unit
    ∷ made 4 (deeds.Get (record { obj = (record { 0 = 4 }); slot = 0 })) (replies.Value (values.Int (pos 2)))
    ∷ made 4 (deeds.Notify (record { 0 = 1 })) (replies.Woke (record { 0 = 1 }))
    ∷ made 4 (deeds.Exit (record { 0 = 1 })) replies.Unit
    ∷ made 1 (deeds.Resume (record { 0 = 1 })) replies.Unit
    ∷ made 1 (deeds.Exit (record { 0 = 1 })) replies.Unit
    ∷ made 1 (deeds.Leave (record { 0 = 2 }) (leaves.Normal None)) replies.Unit
    ∷ made 1 (deeds.End ends.Normal) replies.Unit
    ∷ made 4 (deeds.Leave (record { 0 = 1 }) (leaves.Normal None)) replies.Unit
    ∷ made 4 (deeds.End ends.Normal) replies.Unit
    ∷ woke 5
    ∷ made 5 (deeds.Resume (record { 0 = 1 })) replies.Unit
    ∷ made 5 (deeds.Get (record { obj = (record { 0 = 5 }); slot = 0 })) (replies.Value (values.Int (pos 3)))
    ∷ made 5 (deeds.Print ((shows.Text (record { 0 = 0 })) ∷ (shows.Val (values.Int (pos 3))) ∷ [])) replies.Unit
    ∷ made 5 (deeds.Get (record { obj = (record { 0 = 5 }); slot = 0 })) (replies.Value (values.Int (pos 3)))
    ∷ made 5 (deeds.Exit (record { 0 = 1 })) replies.Unit
    ∷ made 5 (deeds.Leave (record { 0 = 1 }) (leaves.Normal None)) replies.Unit
    ∷ made 5 (deeds.End ends.Normal) replies.Unit
    ∷ []

abbrev pub finish : Finish
finish = finishes.Deadlock

pub is_serial : serial program 200000 0 0 ≡ record { history = journal; finish = finish }
unfolding int_wrap
is_serial = refl

pub is_right : IsRightRun program 200000 (record { history = journal; finish = finish })
is_right = subst (IsRightRun program 200000) is_serial (serial-right program 200000 0 0)
