-- A program and its run by the serial rule with seed 0.
--     class Buffer {
--       private int[] items;
--       private int count, in, out;
--       //@ monitors_for count = this;
--       //@ invariant 0 <= count && count <= items.length;
--       Buffer(int size) { items = new int[size]; }
--       //@ when count < items.length;
--       //@ ensures count >= 1;
--       public synchronized void put(int x) {
--         while (count == items.length) {
--           try { wait(); } catch (InterruptedException e) { }
--         }
--         commit: items[in] = x;
--         in = (in + 1) % items.length;
--         count++;
--         notifyAll();
--       }
--       //@ when count > 0;
--       public synchronized int take() {
--         int x = 0;
--         while (count == 0) {
--           try { wait(); } catch (InterruptedException e) { }
--         }
--         commit: x = items[out];
--         out = (out + 1) % items.length;
--         count--;
--         notifyAll();
--         return x;
--       }
--     }
--     class Producer extends Thread {
--       private Buffer b;
--       Producer(Buffer b) { this.b = b; }
--       public void run() { for (int i = 1; i <= 3; i++) b.put(i); }
--     }
--     class Main {
--       public static void main(String[] args) {
--         Buffer b = new Buffer(2);
--         Producer p = new Producer(b);
--         p.start();
--         for (int i = 0; i < 3; i++) System.out.println(b.take());
--       }
--     }
use Rattle.std.specs.Prelude.{◌≡◌, pos, negsuc, true, false, List, [], ◌∷◌, Some, None}
use Rattle.jr_base.specs.Deed.{Deed}
use Rattle.jr_base.specs.Deed as deeds
use Rattle.jr_base.specs.declared.action.Elem.TheVariants as elems
use Rattle.jr_base.specs.declared.action.NewKind.TheVariants as makes
use Rattle.jr_base.specs.declared.action.Reply.TheVariants as replies
use Rattle.jr_base.specs.declared.action.LeaveHow.TheVariants as leaves
use Rattle.jr_base.specs.declared.action.EndHow.TheVariants as ends
use Rattle.jr_base.specs.declared.action.Way.TheVariants as ways
use Rattle.jr_base.specs.declared.action.PrintPart.TheVariants as shows
use Rattle.jr_base.specs.declared.value.Value.TheVariants as values
use Rattle.jr_base.specs.declared.finish.Fault.TheVariants as faults
use Rattle.jr_base.specs.declared.finish.Verdict.TheVariants as verdicts
use Rattle.jr_base.specs.declared.finish.Finish.{Finish}
use Rattle.jr_base.specs.declared.finish.Finish.TheVariants as finishes
use Rattle.jr_base.specs.declared.kind.SlotKind.TheVariants as kinds
use Rattle.jr_arith.specs.declared.operator.Width.TheVariants as widths
use Rattle.jr_arith.specs.declared.operator.Arithmetic.TheVariants as arithmetics
use Rattle.jr_arith.specs.declared.operator.Comparison.TheVariants as comparisons
use Rattle.jr_program.specs.declared.words.Mode.TheVariants as modes
use Rattle.jr_arith.specs.declared.operator.Binary.TheVariants as binaries
use Rattle.jr_base.specs.declared.kind.ObjectCall.TheVariants as calls
use Rattle.jr_program.specs.declared.words.ClauseKind.TheVariants as clauses
use Rattle.jr_program.specs.Clauses as specs
use Rattle.jr_program.specs.Programs as code
use Rattle.jr_program.specs.Programs.{Program}
use Rattle.jr_meaning.specs.Event.{Event}
use Rattle.jr_meaning.specs.Right.{IsRightRun}
use Rattle.jr_meaning.specs.Serial.{serial}
use Rattle.jr_meaning.proofs.SerialRuns.{serial-right}
use Rattle.jr_meaning.proofs.Runs.{made, judged}
use Rattle.std.proofs.Common.{refl, subst}
use Rattle.std.specs.Int.{int_wrap}

abbrev pub program : Program
program = record {
  classes =
      record { name = []; extends_thread = false; implements_runnable = false; run = None; constructor = (Some (record { 0 = 0 })) }
      ∷ record { name = []; extends_thread = true; implements_runnable = false; run = (Some (record { 0 = 4 })); constructor = (Some (record { 0 = 3 })) }
      ∷ record { name = []; extends_thread = false; implements_runnable = false; run = None; constructor = None }
      ∷ [];
  fields =
      record { class = (record { 0 = 0 }); is_static = false; is_volatile = false; kind = kinds.Ref; constant = values.Null }
      ∷ record { class = (record { 0 = 0 }); is_static = false; is_volatile = false; kind = kinds.Int; constant = (values.Int (pos 0)) }
      ∷ record { class = (record { 0 = 0 }); is_static = false; is_volatile = false; kind = kinds.Int; constant = (values.Int (pos 0)) }
      ∷ record { class = (record { 0 = 0 }); is_static = false; is_volatile = false; kind = kinds.Int; constant = (values.Int (pos 0)) }
      ∷ record { class = (record { 0 = 1 }); is_static = false; is_volatile = false; kind = kinds.Ref; constant = values.Null }
      ∷ [];
  methods =
      record {
        name = [];
        class = (record { 0 = 0 });
        is_static = false;
        is_constructor = true;
        is_synchronized = false;
        is_helper = false;
        formals = (kinds.Int ∷ []);
        locals = [];
        result = None;
        body = (code.Do (code.Evaluate (code.Assign (code.FieldOf code.This (record { 0 = 0 })) (code.NewArray elems.Int (code.Read (code.Local 0))))));
      }
      ∷ record {
        name = [];
        class = (record { 0 = 0 });
        is_static = false;
        is_constructor = false;
        is_synchronized = true;
        is_helper = false;
        formals = (kinds.Int ∷ []);
        locals = (kinds.Caught ∷ []);
        result = None;
        body = (code.Then (code.Loop (code.Binary (binaries.Compare comparisons.Equal widths.Int) (code.Read (code.FieldOf code.This (record { 0 = 1 }))) (code.LengthOf (code.Read (code.FieldOf code.This (record { 0 = 0 }))))) [] (code.Try (code.Do (code.CallObject calls.Wait code.This)) (code.or_catch faults.InterruptedException 1 code.Skip code.no_catch))) (code.Then (code.Commit (code.Do (code.Evaluate (code.Assign (code.ElementOf elems.Int (code.Read (code.FieldOf code.This (record { 0 = 0 }))) (code.Read (code.FieldOf code.This (record { 0 = 2 })))) (code.Read (code.Local 0)))))) (code.Then (code.Do (code.Evaluate (code.Assign (code.FieldOf code.This (record { 0 = 2 })) (code.Binary (binaries.Arithmetic arithmetics.Remainder widths.Int) (code.Binary (binaries.Arithmetic arithmetics.Add widths.Int) (code.Read (code.FieldOf code.This (record { 0 = 2 }))) (code.Number widths.Int (pos 1))) (code.LengthOf (code.Read (code.FieldOf code.This (record { 0 = 0 })))))))) (code.Then (code.Do (code.Evaluate (code.PostfixIncrement widths.Int (code.FieldOf code.This (record { 0 = 1 })) (pos 1)))) (code.Do (code.CallObject calls.NotifyAll code.This))))));
      }
      ∷ record {
        name = [];
        class = (record { 0 = 0 });
        is_static = false;
        is_constructor = false;
        is_synchronized = true;
        is_helper = false;
        formals = [];
        locals = (kinds.Int ∷ kinds.Caught ∷ []);
        result = (Some kinds.Int);
        body = (code.Then (code.Declare 0 (code.Number widths.Int (pos 0))) (code.Then (code.Loop (code.Binary (binaries.Compare comparisons.Equal widths.Int) (code.Read (code.FieldOf code.This (record { 0 = 1 }))) (code.Number widths.Int (pos 0))) [] (code.Try (code.Do (code.CallObject calls.Wait code.This)) (code.or_catch faults.InterruptedException 1 code.Skip code.no_catch))) (code.Then (code.Commit (code.Do (code.Evaluate (code.Assign (code.Local 0) (code.Read (code.ElementOf elems.Int (code.Read (code.FieldOf code.This (record { 0 = 0 }))) (code.Read (code.FieldOf code.This (record { 0 = 3 }))))))))) (code.Then (code.Do (code.Evaluate (code.Assign (code.FieldOf code.This (record { 0 = 3 })) (code.Binary (binaries.Arithmetic arithmetics.Remainder widths.Int) (code.Binary (binaries.Arithmetic arithmetics.Add widths.Int) (code.Read (code.FieldOf code.This (record { 0 = 3 }))) (code.Number widths.Int (pos 1))) (code.LengthOf (code.Read (code.FieldOf code.This (record { 0 = 0 })))))))) (code.Then (code.Do (code.Evaluate (code.PostfixIncrement widths.Int (code.FieldOf code.This (record { 0 = 1 })) (negsuc 0)))) (code.Then (code.Do (code.CallObject calls.NotifyAll code.This)) (code.ReturnValue (code.Read (code.Local 0)))))))));
      }
      ∷ record {
        name = [];
        class = (record { 0 = 1 });
        is_static = false;
        is_constructor = true;
        is_synchronized = false;
        is_helper = false;
        formals = (kinds.Ref ∷ []);
        locals = [];
        result = None;
        body = (code.Do (code.Evaluate (code.Assign (code.FieldOf code.This (record { 0 = 4 })) (code.Read (code.Local 0)))));
      }
      ∷ record {
        name = [];
        class = (record { 0 = 1 });
        is_static = false;
        is_constructor = false;
        is_synchronized = false;
        is_helper = false;
        formals = [];
        locals = (kinds.Int ∷ []);
        result = None;
        body = (code.Then (code.Declare 0 (code.Number widths.Int (pos 1))) (code.Loop (code.Binary (binaries.Compare comparisons.LessEqual widths.Int) (code.Read (code.Local 0)) (code.Number widths.Int (pos 3))) ((code.Evaluate (code.PostfixIncrement widths.Int (code.Local 0) (pos 1))) ∷ []) (code.Do (code.Invoke (code.CallOn (code.Read (code.FieldOf code.This (record { 0 = 4 }))) (record { 0 = 1 }) (code.and_then (code.Read (code.Local 0)) code.no_more))))));
      }
      ∷ record {
        name = [];
        class = (record { 0 = 2 });
        is_static = true;
        is_constructor = false;
        is_synchronized = false;
        is_helper = false;
        formals = [];
        locals = (kinds.Ref ∷ kinds.Ref ∷ kinds.Int ∷ []);
        result = None;
        body = (code.Then (code.Declare 0 (code.NewObject (record { 0 = 0 }) (code.and_then (code.Number widths.Int (pos 2)) code.no_more))) (code.Then (code.Declare 1 (code.NewObject (record { 0 = 1 }) (code.and_then (code.Read (code.Local 0)) code.no_more))) (code.Then (code.Do (code.CallObject calls.Start (code.Read (code.Local 1)))) (code.Then (code.Declare 2 (code.Number widths.Int (pos 0))) (code.Loop (code.Binary (binaries.Compare comparisons.Less widths.Int) (code.Read (code.Local 2)) (code.Number widths.Int (pos 3))) ((code.Evaluate (code.PostfixIncrement widths.Int (code.Local 2) (pos 1))) ∷ []) (code.Println ((code.Shown (code.ResultOf (code.CallOn (code.Read (code.Local 0)) (record { 0 = 2 }) code.no_more))) ∷ [])))))));
      }
      ∷ [];
  clauses =
      record { kind = clauses.MonitorsFor; owner = (specs.OfField (record { 0 = 1 })); mode = modes.Java; is_static = false; place = record { line = 4; column = 7 }; states = (specs.This ∷ []) }
      ∷ record { kind = clauses.Invariant; owner = (specs.OfClass (record { 0 = 0 })); mode = modes.Java; is_static = false; place = record { line = 5; column = 7 }; states = ((specs.And (specs.Binary (binaries.Compare comparisons.LessEqual widths.Int) (specs.Number widths.Int (pos 0)) (specs.FieldOf specs.This (record { 0 = 1 }) 1)) (specs.Binary (binaries.Compare comparisons.LessEqual widths.Int) (specs.FieldOf specs.This (record { 0 = 1 }) 1) (specs.LengthOf (specs.FieldOf specs.This (record { 0 = 0 }) 0)))) ∷ []) }
      ∷ record { kind = clauses.When; owner = (specs.OfMethod (record { 0 = 1 })); mode = modes.Java; is_static = false; place = record { line = 7; column = 7 }; states = ((specs.Binary (binaries.Compare comparisons.Less widths.Int) (specs.FieldOf specs.This (record { 0 = 1 }) 1) (specs.LengthOf (specs.FieldOf specs.This (record { 0 = 0 }) 0))) ∷ []) }
      ∷ record { kind = clauses.Ensures; owner = (specs.OfMethod (record { 0 = 1 })); mode = modes.Java; is_static = false; place = record { line = 8; column = 7 }; states = ((specs.Binary (binaries.Compare comparisons.GreaterEqual widths.Int) (specs.FieldOf specs.This (record { 0 = 1 }) 1) (specs.Number widths.Int (pos 1))) ∷ []) }
      ∷ record { kind = clauses.When; owner = (specs.OfMethod (record { 0 = 2 })); mode = modes.Java; is_static = false; place = record { line = 18; column = 7 }; states = ((specs.Binary (binaries.Compare comparisons.Greater widths.Int) (specs.FieldOf specs.This (record { 0 = 1 }) 1) (specs.Number widths.Int (pos 0))) ∷ []) }
      ∷ [];
  notes = [];
  texts = [];
  main = (record { 0 = 5 });
}

abbrev pub journal : List Event
journal =
    made 1 (deeds.Call (record { 0 = 5 }) None []) replies.Unit
    ∷ made 1 (deeds.New (makes.Object (record { 0 = 0 }))) (replies.Made (record { 0 = 4 }))
    ∷ made 1 (deeds.Call (record { 0 = 0 }) (Some (record { 0 = 4 })) ((values.Int (pos 2)) ∷ [])) replies.Unit
    ∷ made 1 (deeds.New (makes.Array elems.Int 2)) (replies.Made (record { 0 = 5 }))
    ∷ made 1 (deeds.Put (record { obj = (record { 0 = 4 }); slot = 0 }) (values.Ref (record { 0 = 5 }))) replies.Unit
    ∷ made 1 (deeds.Leave (record { 0 = 0 }) (leaves.Normal None)) replies.Unit
    ∷ judged 5 0 verdicts.True
    ∷ made 1 (deeds.New (makes.Object (record { 0 = 1 }))) (replies.Made (record { 0 = 6 }))
    ∷ made 1 (deeds.Call (record { 0 = 3 }) (Some (record { 0 = 6 })) ((values.Ref (record { 0 = 4 })) ∷ [])) replies.Unit
    ∷ made 1 (deeds.Put (record { obj = (record { 0 = 6 }); slot = 0 }) (values.Ref (record { 0 = 4 }))) replies.Unit
    ∷ made 1 (deeds.Leave (record { 0 = 3 }) (leaves.Normal None)) replies.Unit
    ∷ made 1 (deeds.Start (record { 0 = 6 })) (replies.Started (record { 0 = 2 }) (Some (record { method = (record { 0 = 4 }); this = (Some (record { 0 = 6 })) })))
    ∷ made 1 (deeds.Enter (record { 0 = 4 }) ways.Method) replies.Unit
    ∷ made 1 (deeds.Call (record { 0 = 2 }) (Some (record { 0 = 4 })) []) replies.Unit
    ∷ judged 12 0 verdicts.True
    ∷ made 1 (deeds.Get (record { obj = (record { 0 = 4 }); slot = 1 })) (replies.Value (values.Int (pos 0)))
    ∷ judged 13 0 verdicts.True
    ∷ made 1 (deeds.Wait (record { 0 = 4 })) replies.Unit
    ∷ made 2 (deeds.Call (record { 0 = 4 }) (Some (record { 0 = 6 })) []) replies.Unit
    ∷ made 2 (deeds.Get (record { obj = (record { 0 = 6 }); slot = 0 })) (replies.Value (values.Ref (record { 0 = 4 })))
    ∷ made 2 (deeds.Enter (record { 0 = 4 }) ways.Method) replies.Unit
    ∷ made 2 (deeds.Call (record { 0 = 1 }) (Some (record { 0 = 4 })) ((values.Int (pos 1)) ∷ [])) replies.Unit
    ∷ judged 18 0 verdicts.True
    ∷ made 2 (deeds.Get (record { obj = (record { 0 = 4 }); slot = 1 })) (replies.Value (values.Int (pos 0)))
    ∷ judged 19 0 verdicts.True
    ∷ made 2 (deeds.Get (record { obj = (record { 0 = 4 }); slot = 0 })) (replies.Value (values.Ref (record { 0 = 5 })))
    ∷ made 2 (deeds.Len (record { 0 = 5 })) (replies.Value (values.Int (pos 2)))
    ∷ made 2 (deeds.Commit (record { 0 = 1 })) replies.Unit
    ∷ judged 22 0 verdicts.True
    ∷ made 2 (deeds.Get (record { obj = (record { 0 = 4 }); slot = 0 })) (replies.Value (values.Ref (record { 0 = 5 })))
    ∷ made 2 (deeds.Get (record { obj = (record { 0 = 4 }); slot = 2 })) (replies.Value (values.Int (pos 0)))
    ∷ made 2 (deeds.Put (record { obj = (record { 0 = 5 }); slot = 0 }) (values.Int (pos 1))) replies.Unit
    ∷ made 2 (deeds.Get (record { obj = (record { 0 = 4 }); slot = 2 })) (replies.Value (values.Int (pos 0)))
    ∷ made 2 (deeds.Get (record { obj = (record { 0 = 4 }); slot = 0 })) (replies.Value (values.Ref (record { 0 = 5 })))
    ∷ made 2 (deeds.Len (record { 0 = 5 })) (replies.Value (values.Int (pos 2)))
    ∷ made 2 (deeds.Put (record { obj = (record { 0 = 4 }); slot = 2 }) (values.Int (pos 1))) replies.Unit
    ∷ made 2 (deeds.Get (record { obj = (record { 0 = 4 }); slot = 1 })) (replies.Value (values.Int (pos 0)))
    ∷ judged 30 0 verdicts.True
    ∷ made 2 (deeds.Put (record { obj = (record { 0 = 4 }); slot = 1 }) (values.Int (pos 1))) replies.Unit
    ∷ judged 31 0 verdicts.True
    ∷ made 2 (deeds.NotifyAll (record { 0 = 4 })) replies.Unit
    ∷ made 2 (deeds.Leave (record { 0 = 1 }) (leaves.Normal None)) replies.Unit
    ∷ judged 33 0 verdicts.True
    ∷ judged 33 1 verdicts.True
    ∷ made 2 (deeds.Exit (record { 0 = 4 })) replies.Unit
    ∷ made 1 (deeds.Resume (record { 0 = 4 })) replies.Unit
    ∷ made 1 (deeds.Back) replies.Unit
    ∷ made 1 (deeds.Get (record { obj = (record { 0 = 4 }); slot = 1 })) (replies.Value (values.Int (pos 1)))
    ∷ judged 37 0 verdicts.True
    ∷ made 1 (deeds.Commit (record { 0 = 2 })) replies.Unit
    ∷ judged 38 0 verdicts.True
    ∷ made 1 (deeds.Get (record { obj = (record { 0 = 4 }); slot = 0 })) (replies.Value (values.Ref (record { 0 = 5 })))
    ∷ made 1 (deeds.Get (record { obj = (record { 0 = 4 }); slot = 3 })) (replies.Value (values.Int (pos 0)))
    ∷ made 1 (deeds.Get (record { obj = (record { 0 = 5 }); slot = 0 })) (replies.Value (values.Int (pos 1)))
    ∷ made 1 (deeds.Get (record { obj = (record { 0 = 4 }); slot = 3 })) (replies.Value (values.Int (pos 0)))
    ∷ made 1 (deeds.Get (record { obj = (record { 0 = 4 }); slot = 0 })) (replies.Value (values.Ref (record { 0 = 5 })))
    ∷ made 1 (deeds.Len (record { 0 = 5 })) (replies.Value (values.Int (pos 2)))
    ∷ made 1 (deeds.Put (record { obj = (record { 0 = 4 }); slot = 3 }) (values.Int (pos 1))) replies.Unit
    ∷ made 1 (deeds.Get (record { obj = (record { 0 = 4 }); slot = 1 })) (replies.Value (values.Int (pos 1)))
    ∷ judged 46 0 verdicts.True
    ∷ made 1 (deeds.Put (record { obj = (record { 0 = 4 }); slot = 1 }) (values.Int (pos 0))) replies.Unit
    ∷ judged 47 0 verdicts.True
    ∷ made 1 (deeds.NotifyAll (record { 0 = 4 })) replies.Unit
    ∷ made 1 (deeds.Leave (record { 0 = 2 }) (leaves.Normal (Some (values.Int (pos 1))))) replies.Unit
    ∷ judged 49 0 verdicts.True
    ∷ made 1 (deeds.Exit (record { 0 = 4 })) replies.Unit
    ∷ made 1 (deeds.Print ((shows.Val (values.Int (pos 1))) ∷ [])) replies.Unit
    ∷ made 1 (deeds.Back) replies.Unit
    ∷ made 1 (deeds.Enter (record { 0 = 4 }) ways.Method) replies.Unit
    ∷ made 1 (deeds.Call (record { 0 = 2 }) (Some (record { 0 = 4 })) []) replies.Unit
    ∷ judged 54 0 verdicts.True
    ∷ made 1 (deeds.Get (record { obj = (record { 0 = 4 }); slot = 1 })) (replies.Value (values.Int (pos 0)))
    ∷ judged 55 0 verdicts.True
    ∷ made 1 (deeds.Wait (record { 0 = 4 })) replies.Unit
    ∷ made 2 (deeds.Back) replies.Unit
    ∷ made 2 (deeds.Get (record { obj = (record { 0 = 6 }); slot = 0 })) (replies.Value (values.Ref (record { 0 = 4 })))
    ∷ made 2 (deeds.Enter (record { 0 = 4 }) ways.Method) replies.Unit
    ∷ made 2 (deeds.Call (record { 0 = 1 }) (Some (record { 0 = 4 })) ((values.Int (pos 2)) ∷ [])) replies.Unit
    ∷ judged 60 0 verdicts.True
    ∷ made 2 (deeds.Get (record { obj = (record { 0 = 4 }); slot = 1 })) (replies.Value (values.Int (pos 0)))
    ∷ judged 61 0 verdicts.True
    ∷ made 2 (deeds.Get (record { obj = (record { 0 = 4 }); slot = 0 })) (replies.Value (values.Ref (record { 0 = 5 })))
    ∷ made 2 (deeds.Len (record { 0 = 5 })) (replies.Value (values.Int (pos 2)))
    ∷ made 2 (deeds.Commit (record { 0 = 1 })) replies.Unit
    ∷ judged 64 0 verdicts.True
    ∷ made 2 (deeds.Get (record { obj = (record { 0 = 4 }); slot = 0 })) (replies.Value (values.Ref (record { 0 = 5 })))
    ∷ made 2 (deeds.Get (record { obj = (record { 0 = 4 }); slot = 2 })) (replies.Value (values.Int (pos 1)))
    ∷ made 2 (deeds.Put (record { obj = (record { 0 = 5 }); slot = 1 }) (values.Int (pos 2))) replies.Unit
    ∷ made 2 (deeds.Get (record { obj = (record { 0 = 4 }); slot = 2 })) (replies.Value (values.Int (pos 1)))
    ∷ made 2 (deeds.Get (record { obj = (record { 0 = 4 }); slot = 0 })) (replies.Value (values.Ref (record { 0 = 5 })))
    ∷ made 2 (deeds.Len (record { 0 = 5 })) (replies.Value (values.Int (pos 2)))
    ∷ made 2 (deeds.Put (record { obj = (record { 0 = 4 }); slot = 2 }) (values.Int (pos 0))) replies.Unit
    ∷ made 2 (deeds.Get (record { obj = (record { 0 = 4 }); slot = 1 })) (replies.Value (values.Int (pos 0)))
    ∷ judged 72 0 verdicts.True
    ∷ made 2 (deeds.Put (record { obj = (record { 0 = 4 }); slot = 1 }) (values.Int (pos 1))) replies.Unit
    ∷ judged 73 0 verdicts.True
    ∷ made 2 (deeds.NotifyAll (record { 0 = 4 })) replies.Unit
    ∷ made 2 (deeds.Leave (record { 0 = 1 }) (leaves.Normal None)) replies.Unit
    ∷ judged 75 0 verdicts.True
    ∷ judged 75 1 verdicts.True
    ∷ made 2 (deeds.Exit (record { 0 = 4 })) replies.Unit
    ∷ made 1 (deeds.Resume (record { 0 = 4 })) replies.Unit
    ∷ made 1 (deeds.Back) replies.Unit
    ∷ made 1 (deeds.Get (record { obj = (record { 0 = 4 }); slot = 1 })) (replies.Value (values.Int (pos 1)))
    ∷ judged 79 0 verdicts.True
    ∷ made 1 (deeds.Commit (record { 0 = 2 })) replies.Unit
    ∷ judged 80 0 verdicts.True
    ∷ made 1 (deeds.Get (record { obj = (record { 0 = 4 }); slot = 0 })) (replies.Value (values.Ref (record { 0 = 5 })))
    ∷ made 1 (deeds.Get (record { obj = (record { 0 = 4 }); slot = 3 })) (replies.Value (values.Int (pos 1)))
    ∷ made 1 (deeds.Get (record { obj = (record { 0 = 5 }); slot = 1 })) (replies.Value (values.Int (pos 2)))
    ∷ made 1 (deeds.Get (record { obj = (record { 0 = 4 }); slot = 3 })) (replies.Value (values.Int (pos 1)))
    ∷ made 1 (deeds.Get (record { obj = (record { 0 = 4 }); slot = 0 })) (replies.Value (values.Ref (record { 0 = 5 })))
    ∷ made 1 (deeds.Len (record { 0 = 5 })) (replies.Value (values.Int (pos 2)))
    ∷ made 1 (deeds.Put (record { obj = (record { 0 = 4 }); slot = 3 }) (values.Int (pos 0))) replies.Unit
    ∷ made 1 (deeds.Get (record { obj = (record { 0 = 4 }); slot = 1 })) (replies.Value (values.Int (pos 1)))
    ∷ judged 88 0 verdicts.True
    ∷ made 1 (deeds.Put (record { obj = (record { 0 = 4 }); slot = 1 }) (values.Int (pos 0))) replies.Unit
    ∷ judged 89 0 verdicts.True
    ∷ made 1 (deeds.NotifyAll (record { 0 = 4 })) replies.Unit
    ∷ made 1 (deeds.Leave (record { 0 = 2 }) (leaves.Normal (Some (values.Int (pos 2))))) replies.Unit
    ∷ judged 91 0 verdicts.True
    ∷ made 1 (deeds.Exit (record { 0 = 4 })) replies.Unit
    ∷ made 1 (deeds.Print ((shows.Val (values.Int (pos 2))) ∷ [])) replies.Unit
    ∷ made 1 (deeds.Back) replies.Unit
    ∷ made 1 (deeds.Enter (record { 0 = 4 }) ways.Method) replies.Unit
    ∷ made 1 (deeds.Call (record { 0 = 2 }) (Some (record { 0 = 4 })) []) replies.Unit
    ∷ judged 96 0 verdicts.True
    ∷ made 1 (deeds.Get (record { obj = (record { 0 = 4 }); slot = 1 })) (replies.Value (values.Int (pos 0)))
    ∷ judged 97 0 verdicts.True
    ∷ made 1 (deeds.Wait (record { 0 = 4 })) replies.Unit
    ∷ made 2 (deeds.Back) replies.Unit
    ∷ made 2 (deeds.Get (record { obj = (record { 0 = 6 }); slot = 0 })) (replies.Value (values.Ref (record { 0 = 4 })))
    ∷ made 2 (deeds.Enter (record { 0 = 4 }) ways.Method) replies.Unit
    ∷ made 2 (deeds.Call (record { 0 = 1 }) (Some (record { 0 = 4 })) ((values.Int (pos 3)) ∷ [])) replies.Unit
    ∷ judged 102 0 verdicts.True
    ∷ made 2 (deeds.Get (record { obj = (record { 0 = 4 }); slot = 1 })) (replies.Value (values.Int (pos 0)))
    ∷ judged 103 0 verdicts.True
    ∷ made 2 (deeds.Get (record { obj = (record { 0 = 4 }); slot = 0 })) (replies.Value (values.Ref (record { 0 = 5 })))
    ∷ made 2 (deeds.Len (record { 0 = 5 })) (replies.Value (values.Int (pos 2)))
    ∷ made 2 (deeds.Commit (record { 0 = 1 })) replies.Unit
    ∷ judged 106 0 verdicts.True
    ∷ made 2 (deeds.Get (record { obj = (record { 0 = 4 }); slot = 0 })) (replies.Value (values.Ref (record { 0 = 5 })))
    ∷ made 2 (deeds.Get (record { obj = (record { 0 = 4 }); slot = 2 })) (replies.Value (values.Int (pos 0)))
    ∷ made 2 (deeds.Put (record { obj = (record { 0 = 5 }); slot = 0 }) (values.Int (pos 3))) replies.Unit
    ∷ made 2 (deeds.Get (record { obj = (record { 0 = 4 }); slot = 2 })) (replies.Value (values.Int (pos 0)))
    ∷ made 2 (deeds.Get (record { obj = (record { 0 = 4 }); slot = 0 })) (replies.Value (values.Ref (record { 0 = 5 })))
    ∷ made 2 (deeds.Len (record { 0 = 5 })) (replies.Value (values.Int (pos 2)))
    ∷ made 2 (deeds.Put (record { obj = (record { 0 = 4 }); slot = 2 }) (values.Int (pos 1))) replies.Unit
    ∷ made 2 (deeds.Get (record { obj = (record { 0 = 4 }); slot = 1 })) (replies.Value (values.Int (pos 0)))
    ∷ judged 114 0 verdicts.True
    ∷ made 2 (deeds.Put (record { obj = (record { 0 = 4 }); slot = 1 }) (values.Int (pos 1))) replies.Unit
    ∷ judged 115 0 verdicts.True
    ∷ made 2 (deeds.NotifyAll (record { 0 = 4 })) replies.Unit
    ∷ made 2 (deeds.Leave (record { 0 = 1 }) (leaves.Normal None)) replies.Unit
    ∷ judged 117 0 verdicts.True
    ∷ judged 117 1 verdicts.True
    ∷ made 2 (deeds.Exit (record { 0 = 4 })) replies.Unit
    ∷ made 1 (deeds.Resume (record { 0 = 4 })) replies.Unit
    ∷ made 1 (deeds.Back) replies.Unit
    ∷ made 1 (deeds.Get (record { obj = (record { 0 = 4 }); slot = 1 })) (replies.Value (values.Int (pos 1)))
    ∷ judged 121 0 verdicts.True
    ∷ made 1 (deeds.Commit (record { 0 = 2 })) replies.Unit
    ∷ judged 122 0 verdicts.True
    ∷ made 1 (deeds.Get (record { obj = (record { 0 = 4 }); slot = 0 })) (replies.Value (values.Ref (record { 0 = 5 })))
    ∷ made 1 (deeds.Get (record { obj = (record { 0 = 4 }); slot = 3 })) (replies.Value (values.Int (pos 0)))
    ∷ made 1 (deeds.Get (record { obj = (record { 0 = 5 }); slot = 0 })) (replies.Value (values.Int (pos 3)))
    ∷ made 1 (deeds.Get (record { obj = (record { 0 = 4 }); slot = 3 })) (replies.Value (values.Int (pos 0)))
    ∷ made 1 (deeds.Get (record { obj = (record { 0 = 4 }); slot = 0 })) (replies.Value (values.Ref (record { 0 = 5 })))
    ∷ made 1 (deeds.Len (record { 0 = 5 })) (replies.Value (values.Int (pos 2)))
    ∷ made 1 (deeds.Put (record { obj = (record { 0 = 4 }); slot = 3 }) (values.Int (pos 1))) replies.Unit
    ∷ made 1 (deeds.Get (record { obj = (record { 0 = 4 }); slot = 1 })) (replies.Value (values.Int (pos 1)))
    ∷ judged 130 0 verdicts.True
    ∷ made 1 (deeds.Put (record { obj = (record { 0 = 4 }); slot = 1 }) (values.Int (pos 0))) replies.Unit
    ∷ judged 131 0 verdicts.True
    ∷ made 1 (deeds.NotifyAll (record { 0 = 4 })) replies.Unit
    ∷ made 1 (deeds.Leave (record { 0 = 2 }) (leaves.Normal (Some (values.Int (pos 3))))) replies.Unit
    ∷ judged 133 0 verdicts.True
    ∷ made 1 (deeds.Exit (record { 0 = 4 })) replies.Unit
    ∷ made 1 (deeds.Print ((shows.Val (values.Int (pos 3))) ∷ [])) replies.Unit
    ∷ made 1 (deeds.Back) replies.Unit
    ∷ made 1 (deeds.Leave (record { 0 = 5 }) (leaves.Normal None)) replies.Unit
    ∷ made 1 (deeds.End ends.Normal) replies.Unit
    ∷ made 2 (deeds.Back) replies.Unit
    ∷ made 2 (deeds.Leave (record { 0 = 4 }) (leaves.Normal None)) replies.Unit
    ∷ made 2 (deeds.End ends.Normal) replies.Unit
    ∷ []

abbrev pub finish : Finish
finish = finishes.Finished

pub is_serial : serial program 200000 0 0 ≡ record { history = journal; finish = finish }
unfolding int_wrap
is_serial = refl

pub is_right : IsRightRun program 200000 (record { history = journal; finish = finish })
is_right = subst (IsRightRun program 200000) is_serial (serial-right program 200000 0 0)
