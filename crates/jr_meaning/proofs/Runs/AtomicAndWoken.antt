-- A program and its run by the serial rule with seed 0.
--     class S extends Thread {
--       static int a;
--       boolean writes;
--       S(boolean w) { writes = w; }
--       public void run() { int x = a; if (writes) { a = x + 1; } }
--       /*@ atomic @*/ static int look(S t) throws InterruptedException { int x = a; t.start(); t.join(); return x; }
--     }
--     class W extends Thread {
--       static Object o;
--       static int n;
--       boolean notifies;
--       public void run() {
--         synchronized (o) {
--           if (notifies) { o.notify(); } else { n++; o.wait(); n--; }
--         }
--       }
--       //@ ensures n == \old(n) - 1;
--       static void rest(W a, W b) { synchronized (o) { o.notifyAll(); } a.join(); b.join(); }
--       public static void main(String[] args) throws InterruptedException {
--         S.a = 3;
--         S s = new S(true);
--         s.start();
--         s.join();
--         System.out.println(S.look(new S(false)));
--         System.out.println(S.look(new S(true)));
--         o = new Object();
--         W v = new W();
--         W w = new W();
--         v.start();
--         w.start();
--         W t = new W();
--         t.notifies = true;
--         t.start();
--         t.join();
--         synchronized (o) { System.out.println(n); o.notify(); o.notify(); }
--         rest(v, w);
--       }
--     }
use Rattle.std.specs.Prelude.{◌≡◌, pos, negsuc, true, false, List, [], ◌∷◌, Some, None}
use Rattle.jr_base.specs.Deed.{Deed}
use Rattle.jr_base.specs.Deed as deeds
use Rattle.jr_base.specs.declared.action.NewKind.TheVariants as makes
use Rattle.jr_base.specs.declared.action.Reply.TheVariants as replies
use Rattle.jr_base.specs.declared.action.LeaveHow.TheVariants as leaves
use Rattle.jr_base.specs.declared.action.EndHow.TheVariants as ends
use Rattle.jr_base.specs.declared.action.Way.TheVariants as ways
use Rattle.jr_base.specs.declared.action.PrintPart.TheVariants as shows
use Rattle.jr_base.specs.declared.value.Value.TheVariants as values
use Rattle.jr_base.specs.declared.finish.Verdict.TheVariants as verdicts
use Rattle.jr_base.specs.declared.finish.Finish.{Finish}
use Rattle.jr_base.specs.declared.finish.Finish.TheVariants as finishes
use Rattle.jr_base.specs.declared.kind.SlotKind.TheVariants as kinds
use Rattle.jr_arith.specs.declared.operator.Width.TheVariants as widths
use Rattle.jr_arith.specs.declared.operator.Arithmetic.TheVariants as arithmetics
use Rattle.jr_arith.specs.declared.operator.Comparison.TheVariants as comparisons
use Rattle.jr_program.specs.declared.words.Mode.TheVariants as modes
use Rattle.jr_arith.specs.declared.operator.Binary.TheVariants as binaries
use Rattle.jr_base.specs.declared.kind.ObjectCall.TheVariants as calls
use Rattle.jr_program.specs.declared.words.ClauseKind.TheVariants as clauses
use Rattle.jr_program.specs.Clauses as specs
use Rattle.jr_program.specs.Programs as code
use Rattle.jr_program.specs.Programs.{Program}
use Rattle.jr_meaning.specs.Event.{Event}
use Rattle.jr_meaning.specs.Right.{IsRightRun}
use Rattle.jr_meaning.specs.Serial.{serial}
use Rattle.jr_meaning.proofs.SerialRuns.{serial-right}
use Rattle.jr_meaning.proofs.Runs.{made, judged}
use Rattle.std.proofs.Common.{refl, subst}
use Rattle.std.specs.Int.{int_wrap}

abbrev pub program : Program
program = record {
  classes =
      record { name = []; extends_thread = true; implements_runnable = false; run = (Some (record { 0 = 1 })); constructor = (Some (record { 0 = 0 })) }
      ∷ record { name = []; extends_thread = true; implements_runnable = false; run = (Some (record { 0 = 3 })); constructor = None }
      ∷ [];
  fields =
      record { class = (record { 0 = 0 }); is_static = true; is_volatile = false; kind = kinds.Int; constant = (values.Int (pos 0)) }
      ∷ record { class = (record { 0 = 0 }); is_static = false; is_volatile = false; kind = kinds.Bool; constant = (values.Bool false) }
      ∷ record { class = (record { 0 = 1 }); is_static = true; is_volatile = false; kind = kinds.Ref; constant = values.Null }
      ∷ record { class = (record { 0 = 1 }); is_static = true; is_volatile = false; kind = kinds.Int; constant = (values.Int (pos 0)) }
      ∷ record { class = (record { 0 = 1 }); is_static = false; is_volatile = false; kind = kinds.Bool; constant = (values.Bool false) }
      ∷ [];
  methods =
      record {
        name = [];
        class = (record { 0 = 0 });
        is_static = false;
        is_constructor = true;
        is_synchronized = false;
        is_helper = false;
        formals = (kinds.Bool ∷ []);
        locals = [];
        result = None;
        body = (code.Do (code.Evaluate (code.Assign (code.FieldOf code.This (record { 0 = 1 })) (code.Read (code.Local 0)))));
      }
      ∷ record {
        name = [];
        class = (record { 0 = 0 });
        is_static = false;
        is_constructor = false;
        is_synchronized = false;
        is_helper = false;
        formals = [];
        locals = (kinds.Int ∷ []);
        result = None;
        body = (code.Then (code.Declare 0 (code.Read (code.StaticField (record { 0 = 0 })))) (code.If (code.Read (code.FieldOf code.This (record { 0 = 1 }))) (code.Do (code.Evaluate (code.Assign (code.StaticField (record { 0 = 0 })) (code.Binary (binaries.Arithmetic arithmetics.Add widths.Int) (code.Read (code.Local 0)) (code.Number widths.Int (pos 1)))))) code.Skip));
      }
      ∷ record {
        name = [];
        class = (record { 0 = 0 });
        is_static = true;
        is_constructor = false;
        is_synchronized = false;
        is_helper = false;
        formals = (kinds.Ref ∷ []);
        locals = (kinds.Int ∷ []);
        result = (Some kinds.Int);
        body = (code.Then (code.Declare 1 (code.Read (code.StaticField (record { 0 = 0 })))) (code.Then (code.Do (code.CallObject calls.Start (code.Read (code.Local 0)))) (code.Then (code.Do (code.CallObject calls.Join (code.Read (code.Local 0)))) (code.ReturnValue (code.Read (code.Local 1))))));
      }
      ∷ record {
        name = [];
        class = (record { 0 = 1 });
        is_static = false;
        is_constructor = false;
        is_synchronized = false;
        is_helper = false;
        formals = [];
        locals = [];
        result = None;
        body = (code.Synchronized (code.Read (code.StaticField (record { 0 = 2 }))) (code.If (code.Read (code.FieldOf code.This (record { 0 = 4 }))) (code.Do (code.CallObject calls.Notify (code.Read (code.StaticField (record { 0 = 2 }))))) (code.Then (code.Do (code.Evaluate (code.PostfixIncrement widths.Int (code.StaticField (record { 0 = 3 })) (pos 1)))) (code.Then (code.Do (code.CallObject calls.Wait (code.Read (code.StaticField (record { 0 = 2 }))))) (code.Do (code.Evaluate (code.PostfixIncrement widths.Int (code.StaticField (record { 0 = 3 })) (negsuc 0))))))));
      }
      ∷ record {
        name = [];
        class = (record { 0 = 1 });
        is_static = true;
        is_constructor = false;
        is_synchronized = false;
        is_helper = false;
        formals = (kinds.Ref ∷ kinds.Ref ∷ []);
        locals = [];
        result = None;
        body = (code.Then (code.Synchronized (code.Read (code.StaticField (record { 0 = 2 }))) (code.Do (code.CallObject calls.NotifyAll (code.Read (code.StaticField (record { 0 = 2 })))))) (code.Then (code.Do (code.CallObject calls.Join (code.Read (code.Local 0)))) (code.Do (code.CallObject calls.Join (code.Read (code.Local 1))))));
      }
      ∷ record {
        name = [];
        class = (record { 0 = 1 });
        is_static = true;
        is_constructor = false;
        is_synchronized = false;
        is_helper = false;
        formals = [];
        locals = (kinds.Ref ∷ kinds.Ref ∷ kinds.Ref ∷ kinds.Ref ∷ []);
        result = None;
        body = (code.Then (code.Do (code.Evaluate (code.Assign (code.StaticField (record { 0 = 0 })) (code.Number widths.Int (pos 3))))) (code.Then (code.Declare 0 (code.NewObject (record { 0 = 0 }) (code.and_then (code.Truth true) code.no_more))) (code.Then (code.Do (code.CallObject calls.Start (code.Read (code.Local 0)))) (code.Then (code.Do (code.CallObject calls.Join (code.Read (code.Local 0)))) (code.Then (code.Println ((code.Shown (code.ResultOf (code.CallStatic (record { 0 = 2 }) (code.and_then (code.NewObject (record { 0 = 0 }) (code.and_then (code.Truth false) code.no_more)) code.no_more)))) ∷ [])) (code.Then (code.Println ((code.Shown (code.ResultOf (code.CallStatic (record { 0 = 2 }) (code.and_then (code.NewObject (record { 0 = 0 }) (code.and_then (code.Truth true) code.no_more)) code.no_more)))) ∷ [])) (code.Then (code.Do (code.Evaluate (code.Assign (code.StaticField (record { 0 = 2 })) code.NewPlain))) (code.Then (code.Declare 1 (code.NewObject (record { 0 = 1 }) code.no_more)) (code.Then (code.Declare 2 (code.NewObject (record { 0 = 1 }) code.no_more)) (code.Then (code.Do (code.CallObject calls.Start (code.Read (code.Local 1)))) (code.Then (code.Do (code.CallObject calls.Start (code.Read (code.Local 2)))) (code.Then (code.Declare 3 (code.NewObject (record { 0 = 1 }) code.no_more)) (code.Then (code.Do (code.Evaluate (code.Assign (code.FieldOf (code.Read (code.Local 3)) (record { 0 = 4 })) (code.Truth true)))) (code.Then (code.Do (code.CallObject calls.Start (code.Read (code.Local 3)))) (code.Then (code.Do (code.CallObject calls.Join (code.Read (code.Local 3)))) (code.Then (code.Synchronized (code.Read (code.StaticField (record { 0 = 2 }))) (code.Then (code.Println ((code.Shown (code.Read (code.StaticField (record { 0 = 3 })))) ∷ [])) (code.Then (code.Do (code.CallObject calls.Notify (code.Read (code.StaticField (record { 0 = 2 }))))) (code.Do (code.CallObject calls.Notify (code.Read (code.StaticField (record { 0 = 2 })))))))) (code.Do (code.Invoke (code.CallStatic (record { 0 = 4 }) (code.and_then (code.Read (code.Local 1)) (code.and_then (code.Read (code.Local 2)) code.no_more)))))))))))))))))))));
      }
      ∷ [];
  clauses =
      record { kind = clauses.Atomic; owner = (specs.OfMethod (record { 0 = 2 })); mode = modes.Java; is_static = false; place = record { line = 6; column = 7 }; states = [] }
      ∷ record { kind = clauses.Ensures; owner = (specs.OfMethod (record { 0 = 4 })); mode = modes.Java; is_static = true; place = record { line = 17; column = 7 }; states = ((specs.Binary (binaries.Compare comparisons.Equal widths.Int) (specs.StaticField (record { 0 = 3 }) (record { obj = (record { 0 = 2 }); slot = 1 })) (specs.Binary (binaries.Arithmetic arithmetics.Subtract widths.Int) (specs.Old (specs.StaticField (record { 0 = 3 }) (record { obj = (record { 0 = 2 }); slot = 1 }))) (specs.Number widths.Int (pos 1)))) ∷ []) }
      ∷ [];
  notes = [];
  texts = [];
  main = (record { 0 = 5 });
}

abbrev pub journal : List Event
journal =
    made 1 (deeds.Call (record { 0 = 5 }) None []) replies.Unit
    ∷ made 1 (deeds.Put (record { obj = (record { 0 = 1 }); slot = 0 }) (values.Int (pos 3))) replies.Unit
    ∷ made 1 (deeds.New (makes.Object (record { 0 = 0 }))) (replies.Made (record { 0 = 3 }))
    ∷ made 1 (deeds.Call (record { 0 = 0 }) (Some (record { 0 = 3 })) ((values.Bool true) ∷ [])) replies.Unit
    ∷ made 1 (deeds.Put (record { obj = (record { 0 = 3 }); slot = 0 }) (values.Bool true)) replies.Unit
    ∷ made 1 (deeds.Leave (record { 0 = 0 }) (leaves.Normal None)) replies.Unit
    ∷ made 1 (deeds.Start (record { 0 = 3 })) (replies.Started (record { 0 = 2 }) (Some (record { method = (record { 0 = 1 }); this = (Some (record { 0 = 3 })) })))
    ∷ made 2 (deeds.Call (record { 0 = 1 }) (Some (record { 0 = 3 })) []) replies.Unit
    ∷ made 2 (deeds.Get (record { obj = (record { 0 = 1 }); slot = 0 })) (replies.Value (values.Int (pos 3)))
    ∷ made 2 (deeds.Get (record { obj = (record { 0 = 3 }); slot = 0 })) (replies.Value (values.Bool true))
    ∷ made 2 (deeds.Put (record { obj = (record { 0 = 1 }); slot = 0 }) (values.Int (pos 4))) replies.Unit
    ∷ made 2 (deeds.Leave (record { 0 = 1 }) (leaves.Normal None)) replies.Unit
    ∷ made 2 (deeds.End ends.Normal) replies.Unit
    ∷ made 1 (deeds.Join (record { 0 = 3 })) replies.Unit
    ∷ made 1 (deeds.New (makes.Object (record { 0 = 0 }))) (replies.Made (record { 0 = 4 }))
    ∷ made 1 (deeds.Call (record { 0 = 0 }) (Some (record { 0 = 4 })) ((values.Bool false) ∷ [])) replies.Unit
    ∷ made 1 (deeds.Put (record { obj = (record { 0 = 4 }); slot = 0 }) (values.Bool false)) replies.Unit
    ∷ made 1 (deeds.Leave (record { 0 = 0 }) (leaves.Normal None)) replies.Unit
    ∷ made 1 (deeds.Call (record { 0 = 2 }) None ((values.Ref (record { 0 = 4 })) ∷ [])) replies.Unit
    ∷ made 1 (deeds.Get (record { obj = (record { 0 = 1 }); slot = 0 })) (replies.Value (values.Int (pos 4)))
    ∷ made 1 (deeds.Start (record { 0 = 4 })) (replies.Started (record { 0 = 3 }) (Some (record { method = (record { 0 = 1 }); this = (Some (record { 0 = 4 })) })))
    ∷ made 3 (deeds.Call (record { 0 = 1 }) (Some (record { 0 = 4 })) []) replies.Unit
    ∷ made 3 (deeds.Get (record { obj = (record { 0 = 1 }); slot = 0 })) (replies.Value (values.Int (pos 4)))
    ∷ made 3 (deeds.Get (record { obj = (record { 0 = 4 }); slot = 0 })) (replies.Value (values.Bool false))
    ∷ made 3 (deeds.Leave (record { 0 = 1 }) (leaves.Normal None)) replies.Unit
    ∷ made 3 (deeds.End ends.Normal) replies.Unit
    ∷ made 1 (deeds.Join (record { 0 = 4 })) replies.Unit
    ∷ made 1 (deeds.Leave (record { 0 = 2 }) (leaves.Normal (Some (values.Int (pos 4))))) replies.Unit
    ∷ judged 27 0 verdicts.True
    ∷ made 1 (deeds.Print ((shows.Val (values.Int (pos 4))) ∷ [])) replies.Unit
    ∷ made 1 (deeds.New (makes.Object (record { 0 = 0 }))) (replies.Made (record { 0 = 5 }))
    ∷ made 1 (deeds.Call (record { 0 = 0 }) (Some (record { 0 = 5 })) ((values.Bool true) ∷ [])) replies.Unit
    ∷ made 1 (deeds.Put (record { obj = (record { 0 = 5 }); slot = 0 }) (values.Bool true)) replies.Unit
    ∷ made 1 (deeds.Leave (record { 0 = 0 }) (leaves.Normal None)) replies.Unit
    ∷ made 1 (deeds.Call (record { 0 = 2 }) None ((values.Ref (record { 0 = 5 })) ∷ [])) replies.Unit
    ∷ made 1 (deeds.Get (record { obj = (record { 0 = 1 }); slot = 0 })) (replies.Value (values.Int (pos 4)))
    ∷ made 1 (deeds.Start (record { 0 = 5 })) (replies.Started (record { 0 = 4 }) (Some (record { method = (record { 0 = 1 }); this = (Some (record { 0 = 5 })) })))
    ∷ made 4 (deeds.Call (record { 0 = 1 }) (Some (record { 0 = 5 })) []) replies.Unit
    ∷ made 4 (deeds.Get (record { obj = (record { 0 = 1 }); slot = 0 })) (replies.Value (values.Int (pos 4)))
    ∷ made 4 (deeds.Get (record { obj = (record { 0 = 5 }); slot = 0 })) (replies.Value (values.Bool true))
    ∷ made 4 (deeds.Put (record { obj = (record { 0 = 1 }); slot = 0 }) (values.Int (pos 5))) replies.Unit
    ∷ made 4 (deeds.Leave (record { 0 = 1 }) (leaves.Normal None)) replies.Unit
    ∷ made 4 (deeds.End ends.Normal) replies.Unit
    ∷ made 1 (deeds.Join (record { 0 = 5 })) replies.Unit
    ∷ made 1 (deeds.Leave (record { 0 = 2 }) (leaves.Normal (Some (values.Int (pos 4))))) replies.Unit
    ∷ judged 43 0 verdicts.False
    ∷ made 1 (deeds.Print ((shows.Val (values.Int (pos 4))) ∷ [])) replies.Unit
    ∷ made 1 (deeds.New makes.Plain) (replies.Made (record { 0 = 6 }))
    ∷ made 1 (deeds.Put (record { obj = (record { 0 = 2 }); slot = 0 }) (values.Ref (record { 0 = 6 }))) replies.Unit
    ∷ made 1 (deeds.New (makes.Object (record { 0 = 1 }))) (replies.Made (record { 0 = 7 }))
    ∷ made 1 (deeds.New (makes.Object (record { 0 = 1 }))) (replies.Made (record { 0 = 8 }))
    ∷ made 1 (deeds.Start (record { 0 = 7 })) (replies.Started (record { 0 = 5 }) (Some (record { method = (record { 0 = 3 }); this = (Some (record { 0 = 7 })) })))
    ∷ made 1 (deeds.Start (record { 0 = 8 })) (replies.Started (record { 0 = 6 }) (Some (record { method = (record { 0 = 3 }); this = (Some (record { 0 = 8 })) })))
    ∷ made 1 (deeds.New (makes.Object (record { 0 = 1 }))) (replies.Made (record { 0 = 9 }))
    ∷ made 1 (deeds.Put (record { obj = (record { 0 = 9 }); slot = 0 }) (values.Bool true)) replies.Unit
    ∷ made 1 (deeds.Start (record { 0 = 9 })) (replies.Started (record { 0 = 7 }) (Some (record { method = (record { 0 = 3 }); this = (Some (record { 0 = 9 })) })))
    ∷ made 5 (deeds.Call (record { 0 = 3 }) (Some (record { 0 = 7 })) []) replies.Unit
    ∷ made 5 (deeds.Get (record { obj = (record { 0 = 2 }); slot = 0 })) (replies.Value (values.Ref (record { 0 = 6 })))
    ∷ made 5 (deeds.Enter (record { 0 = 6 }) ways.Block) replies.Unit
    ∷ made 5 (deeds.Get (record { obj = (record { 0 = 7 }); slot = 0 })) (replies.Value (values.Bool false))
    ∷ made 5 (deeds.Get (record { obj = (record { 0 = 2 }); slot = 1 })) (replies.Value (values.Int (pos 0)))
    ∷ made 5 (deeds.Put (record { obj = (record { 0 = 2 }); slot = 1 }) (values.Int (pos 1))) replies.Unit
    ∷ made 5 (deeds.Get (record { obj = (record { 0 = 2 }); slot = 0 })) (replies.Value (values.Ref (record { 0 = 6 })))
    ∷ made 5 (deeds.Wait (record { 0 = 6 })) replies.Unit
    ∷ made 6 (deeds.Call (record { 0 = 3 }) (Some (record { 0 = 8 })) []) replies.Unit
    ∷ made 6 (deeds.Get (record { obj = (record { 0 = 2 }); slot = 0 })) (replies.Value (values.Ref (record { 0 = 6 })))
    ∷ made 6 (deeds.Enter (record { 0 = 6 }) ways.Block) replies.Unit
    ∷ made 6 (deeds.Get (record { obj = (record { 0 = 8 }); slot = 0 })) (replies.Value (values.Bool false))
    ∷ made 6 (deeds.Get (record { obj = (record { 0 = 2 }); slot = 1 })) (replies.Value (values.Int (pos 1)))
    ∷ made 6 (deeds.Put (record { obj = (record { 0 = 2 }); slot = 1 }) (values.Int (pos 2))) replies.Unit
    ∷ made 6 (deeds.Get (record { obj = (record { 0 = 2 }); slot = 0 })) (replies.Value (values.Ref (record { 0 = 6 })))
    ∷ made 6 (deeds.Wait (record { 0 = 6 })) replies.Unit
    ∷ made 7 (deeds.Call (record { 0 = 3 }) (Some (record { 0 = 9 })) []) replies.Unit
    ∷ made 7 (deeds.Get (record { obj = (record { 0 = 2 }); slot = 0 })) (replies.Value (values.Ref (record { 0 = 6 })))
    ∷ made 7 (deeds.Enter (record { 0 = 6 }) ways.Block) replies.Unit
    ∷ made 7 (deeds.Get (record { obj = (record { 0 = 9 }); slot = 0 })) (replies.Value (values.Bool true))
    ∷ made 7 (deeds.Get (record { obj = (record { 0 = 2 }); slot = 0 })) (replies.Value (values.Ref (record { 0 = 6 })))
    ∷ made 7 (deeds.Notify (record { 0 = 6 })) (replies.Woke (record { 0 = 5 }))
    ∷ made 7 (deeds.Exit (record { 0 = 6 })) replies.Unit
    ∷ made 5 (deeds.Resume (record { 0 = 6 })) replies.Unit
    ∷ made 5 (deeds.Get (record { obj = (record { 0 = 2 }); slot = 1 })) (replies.Value (values.Int (pos 2)))
    ∷ made 5 (deeds.Put (record { obj = (record { 0 = 2 }); slot = 1 }) (values.Int (pos 1))) replies.Unit
    ∷ made 5 (deeds.Exit (record { 0 = 6 })) replies.Unit
    ∷ made 5 (deeds.Leave (record { 0 = 3 }) (leaves.Normal None)) replies.Unit
    ∷ made 5 (deeds.End ends.Normal) replies.Unit
    ∷ made 7 (deeds.Leave (record { 0 = 3 }) (leaves.Normal None)) replies.Unit
    ∷ made 7 (deeds.End ends.Normal) replies.Unit
    ∷ made 1 (deeds.Join (record { 0 = 9 })) replies.Unit
    ∷ made 1 (deeds.Get (record { obj = (record { 0 = 2 }); slot = 0 })) (replies.Value (values.Ref (record { 0 = 6 })))
    ∷ made 1 (deeds.Enter (record { 0 = 6 }) ways.Block) replies.Unit
    ∷ made 1 (deeds.Get (record { obj = (record { 0 = 2 }); slot = 1 })) (replies.Value (values.Int (pos 1)))
    ∷ made 1 (deeds.Print ((shows.Val (values.Int (pos 1))) ∷ [])) replies.Unit
    ∷ made 1 (deeds.Get (record { obj = (record { 0 = 2 }); slot = 0 })) (replies.Value (values.Ref (record { 0 = 6 })))
    ∷ made 1 (deeds.Notify (record { 0 = 6 })) (replies.Woke (record { 0 = 6 }))
    ∷ made 1 (deeds.Get (record { obj = (record { 0 = 2 }); slot = 0 })) (replies.Value (values.Ref (record { 0 = 6 })))
    ∷ made 1 (deeds.Notify (record { 0 = 6 })) replies.Nobody
    ∷ made 1 (deeds.Exit (record { 0 = 6 })) replies.Unit
    ∷ made 1 (deeds.Call (record { 0 = 4 }) None ((values.Ref (record { 0 = 7 })) ∷ (values.Ref (record { 0 = 8 })) ∷ [])) replies.Unit
    ∷ made 1 (deeds.Get (record { obj = (record { 0 = 2 }); slot = 0 })) (replies.Value (values.Ref (record { 0 = 6 })))
    ∷ made 1 (deeds.Enter (record { 0 = 6 }) ways.Block) replies.Unit
    ∷ made 1 (deeds.Get (record { obj = (record { 0 = 2 }); slot = 0 })) (replies.Value (values.Ref (record { 0 = 6 })))
    ∷ made 1 (deeds.NotifyAll (record { 0 = 6 })) replies.Unit
    ∷ made 1 (deeds.Exit (record { 0 = 6 })) replies.Unit
    ∷ made 1 (deeds.Join (record { 0 = 7 })) replies.Unit
    ∷ made 6 (deeds.Resume (record { 0 = 6 })) replies.Unit
    ∷ made 6 (deeds.Get (record { obj = (record { 0 = 2 }); slot = 1 })) (replies.Value (values.Int (pos 1)))
    ∷ made 6 (deeds.Put (record { obj = (record { 0 = 2 }); slot = 1 }) (values.Int (pos 0))) replies.Unit
    ∷ made 6 (deeds.Exit (record { 0 = 6 })) replies.Unit
    ∷ made 6 (deeds.Leave (record { 0 = 3 }) (leaves.Normal None)) replies.Unit
    ∷ made 6 (deeds.End ends.Normal) replies.Unit
    ∷ made 1 (deeds.Join (record { 0 = 8 })) replies.Unit
    ∷ made 1 (deeds.Leave (record { 0 = 4 }) (leaves.Normal None)) replies.Unit
    ∷ judged 109 0 verdicts.True
    ∷ made 1 (deeds.Leave (record { 0 = 5 }) (leaves.Normal None)) replies.Unit
    ∷ made 1 (deeds.End ends.Normal) replies.Unit
    ∷ []

abbrev pub finish : Finish
finish = finishes.Finished

pub is_serial : serial program 200000 0 0 ≡ record { history = journal; finish = finish }
unfolding int_wrap
is_serial = refl

pub is_right : IsRightRun program 200000 (record { history = journal; finish = finish })
is_right = subst (IsRightRun program 200000) is_serial (serial-right program 200000 0 0)
