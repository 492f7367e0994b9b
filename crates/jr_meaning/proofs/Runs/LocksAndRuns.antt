-- A program and its run by the serial rule with seed 0.
--     class Q implements Runnable {
--       static Q other;
--       Object a;
--       int n;
--       boolean[] flags;
--       //@ monitors_for n = this;
--       Q(Q q) {
--         a = new Object();
--         n = 1;
--         if (q != null) { q.n = 2; }
--         touch();
--         flags = new boolean[2];
--       }
--       void touch() { n = n + 1; }
--       //@ locks a;
--       void swap() {
--         Object was = a;
--         a = this;
--         synchronized (was) { synchronized (was) { held(); } }
--         synchronized (a) { a = was; }
--       }
--       synchronized void held() { n = n + 1; }
--       //@ locks this, a;
--       //@ ensures \result ==> \lockset.has(a);
--       boolean inner() {
--         held();
--         synchronized (this) { return flags[0] || flags[1]; }
--       }
--       public void run() { synchronized (a) { n = n + 1; a.notify(); a.notify(); } }
--       //@ requires q != null ==> q.n > 0;
--       //@ requires q == null <== q.n < 0;
--       //@ requires (\forall int i; 1 < i && i <= 3; i == 2 || i == 3) && !(\exists int i; 3 <= i && i < 3; true);
--       static void none(Q q) { }
--       /*@ atomic @*/
--       static void all(Q q) throws InterruptedException {
--         Object o = q.a;
--         synchronized (o) { synchronized (o) {
--           Thread t = new Thread(q);
--           t.start();
--           o.wait();
--           //@ assert \lockset.has(o);
--           q.n = q.n + 1;
--         }
--         //@ assert \lockset.has(o) && !\lockset[q];
--         }
--         //@ assert !\lockset.has(o);
--       }
--       public static void main(String[] args) throws InterruptedException {
--         other = new Q(null);
--         Q q = new Q(other);
--         q.swap();
--         System.out.println(q.inner());
--         all(q);
--         none(null);
--         none(q);
--         Thread t = new Thread(q);
--         t.start();
--         try { t.start(); } catch (IllegalThreadStateException e) { System.out.println("again"); }
--         t.join();
--         try { q.a.notifyAll(); } catch (IllegalMonitorStateException e) { fail(1); }
--       }
--       //@ ensures false;
--       static void fail(int d) { if (d > 0) { fail(d - 1); } throw new RuntimeException(); }
--     }
use Rattle.std.specs.Prelude.{◌≡◌, pos, true, false, List, [], ◌∷◌, Some, None}
use Rattle.jr_base.specs.Deed.{Deed}
use Rattle.jr_base.specs.Deed as deeds
use Rattle.jr_base.specs.declared.action.Elem.TheVariants as elems
use Rattle.jr_base.specs.declared.action.NewKind.TheVariants as makes
use Rattle.jr_base.specs.declared.action.Reply.TheVariants as replies
use Rattle.jr_base.specs.declared.action.LeaveHow.TheVariants as leaves
use Rattle.jr_base.specs.declared.action.EndHow.TheVariants as ends
use Rattle.jr_base.specs.declared.action.Way.TheVariants as ways
use Rattle.jr_base.specs.declared.action.PrintPart.TheVariants as shows
use Rattle.jr_base.specs.declared.value.Value.TheVariants as values
use Rattle.jr_base.specs.declared.finish.Fault.TheVariants as faults
use Rattle.jr_base.specs.declared.finish.Verdict.TheVariants as verdicts
use Rattle.jr_base.specs.declared.finish.Finish.{Finish}
use Rattle.jr_base.specs.declared.finish.Finish.TheVariants as finishes
use Rattle.jr_base.specs.declared.kind.SlotKind.TheVariants as kinds
use Rattle.jr_arith.specs.declared.operator.Width.TheVariants as widths
use Rattle.jr_arith.specs.declared.operator.Arithmetic.TheVariants as arithmetics
use Rattle.jr_arith.specs.declared.operator.Comparison.TheVariants as comparisons
use Rattle.jr_program.specs.declared.words.Mode.TheVariants as modes
use Rattle.jr_arith.specs.declared.operator.Unary.TheVariants as unaries
use Rattle.jr_arith.specs.declared.operator.Binary.TheVariants as binaries
use Rattle.jr_base.specs.declared.kind.ObjectCall.TheVariants as calls
use Rattle.jr_program.specs.declared.words.ClauseKind.TheVariants as clauses
use Rattle.jr_program.specs.declared.words.Bound.TheVariants as sides
use Rattle.jr_program.specs.declared.words.Quantifier.TheVariants as quantifiers
use Rattle.jr_program.specs.Clauses as specs
use Rattle.jr_program.specs.Programs as code
use Rattle.jr_program.specs.Programs.{Program}
use Rattle.jr_meaning.specs.Event.{Event}
use Rattle.jr_meaning.specs.Right.{IsRightRun}
use Rattle.jr_meaning.specs.Serial.{serial}
use Rattle.jr_meaning.proofs.SerialRuns.{serial-right}
use Rattle.jr_meaning.proofs.Runs.{made, judged}
use Rattle.std.proofs.Common.{refl, subst}
use Rattle.std.specs.Int.{int_wrap}

abbrev pub program : Program
program = record {
  classes =
      record { name = []; extends_thread = false; implements_runnable = true; run = (Some (record { 0 = 5 })); constructor = (Some (record { 0 = 0 })) }
      ∷ [];
  fields =
      record { class = (record { 0 = 0 }); is_static = true; is_volatile = false; kind = kinds.Ref; constant = values.Null }
      ∷ record { class = (record { 0 = 0 }); is_static = false; is_volatile = false; kind = kinds.Ref; constant = values.Null }
      ∷ record { class = (record { 0 = 0 }); is_static = false; is_volatile = false; kind = kinds.Int; constant = (values.Int (pos 0)) }
      ∷ record { class = (record { 0 = 0 }); is_static = false; is_volatile = false; kind = kinds.Ref; constant = values.Null }
      ∷ [];
  methods =
      record {
        name = [];
        class = (record { 0 = 0 });
        is_static = false;
        is_constructor = true;
        is_synchronized = false;
        is_helper = false;
        formals = (kinds.Ref ∷ []);
        locals = [];
        result = None;
        body = (code.Then (code.Do (code.Evaluate (code.Assign (code.FieldOf code.This (record { 0 = 1 })) code.NewPlain))) (code.Then (code.Do (code.Evaluate (code.Assign (code.FieldOf code.This (record { 0 = 2 })) (code.Number widths.Int (pos 1))))) (code.Then (code.If (code.Binary binaries.OtherReference (code.Read (code.Local 0)) code.Null) (code.Do (code.Evaluate (code.Assign (code.FieldOf (code.Read (code.Local 0)) (record { 0 = 2 })) (code.Number widths.Int (pos 2))))) code.Skip) (code.Then (code.Do (code.Invoke (code.CallOn code.This (record { 0 = 1 }) code.no_more))) (code.Do (code.Evaluate (code.Assign (code.FieldOf code.This (record { 0 = 3 })) (code.NewArray elems.Bool (code.Number widths.Int (pos 2))))))))));
      }
      ∷ record {
        name = [];
        class = (record { 0 = 0 });
        is_static = false;
        is_constructor = false;
        is_synchronized = false;
        is_helper = false;
        formals = [];
        locals = [];
        result = None;
        body = (code.Do (code.Evaluate (code.Assign (code.FieldOf code.This (record { 0 = 2 })) (code.Binary (binaries.Arithmetic arithmetics.Add widths.Int) (code.Read (code.FieldOf code.This (record { 0 = 2 }))) (code.Number widths.Int (pos 1))))));
      }
      ∷ record {
        name = [];
        class = (record { 0 = 0 });
        is_static = false;
        is_constructor = false;
        is_synchronized = false;
        is_helper = false;
        formals = [];
        locals = (kinds.Ref ∷ []);
        result = None;
        body = (code.Then (code.Declare 0 (code.Read (code.FieldOf code.This (record { 0 = 1 })))) (code.Then (code.Do (code.Evaluate (code.Assign (code.FieldOf code.This (record { 0 = 1 })) code.This))) (code.Then (code.Synchronized (code.Read (code.Local 0)) (code.Synchronized (code.Read (code.Local 0)) (code.Do (code.Invoke (code.CallOn code.This (record { 0 = 3 }) code.no_more))))) (code.Synchronized (code.Read (code.FieldOf code.This (record { 0 = 1 }))) (code.Do (code.Evaluate (code.Assign (code.FieldOf code.This (record { 0 = 1 })) (code.Read (code.Local 0)))))))));
      }
      ∷ record {
        name = [];
        class = (record { 0 = 0 });
        is_static = false;
        is_constructor = false;
        is_synchronized = true;
        is_helper = false;
        formals = [];
        locals = [];
        result = None;
        body = (code.Do (code.Evaluate (code.Assign (code.FieldOf code.This (record { 0 = 2 })) (code.Binary (binaries.Arithmetic arithmetics.Add widths.Int) (code.Read (code.FieldOf code.This (record { 0 = 2 }))) (code.Number widths.Int (pos 1))))));
      }
      ∷ record {
        name = [];
        class = (record { 0 = 0 });
        is_static = false;
        is_constructor = false;
        is_synchronized = false;
        is_helper = false;
        formals = [];
        locals = [];
        result = (Some kinds.Bool);
        body = (code.Then (code.Do (code.Invoke (code.CallOn code.This (record { 0 = 3 }) code.no_more))) (code.Synchronized code.This (code.ReturnValue (code.Or (code.Read (code.ElementOf elems.Bool (code.Read (code.FieldOf code.This (record { 0 = 3 }))) (code.Number widths.Int (pos 0)))) (code.Read (code.ElementOf elems.Bool (code.Read (code.FieldOf code.This (record { 0 = 3 }))) (code.Number widths.Int (pos 1))))))));
      }
      ∷ record {
        name = [];
        class = (record { 0 = 0 });
        is_static = false;
        is_constructor = false;
        is_synchronized = false;
        is_helper = false;
        formals = [];
        locals = [];
        result = None;
        body = (code.Synchronized (code.Read (code.FieldOf code.This (record { 0 = 1 }))) (code.Then (code.Do (code.Evaluate (code.Assign (code.FieldOf code.This (record { 0 = 2 })) (code.Binary (binaries.Arithmetic arithmetics.Add widths.Int) (code.Read (code.FieldOf code.This (record { 0 = 2 }))) (code.Number widths.Int (pos 1)))))) (code.Then (code.Do (code.CallObject calls.Notify (code.Read (code.FieldOf code.This (record { 0 = 1 }))))) (code.Do (code.CallObject calls.Notify (code.Read (code.FieldOf code.This (record { 0 = 1 }))))))));
      }
      ∷ record {
        name = [];
        class = (record { 0 = 0 });
        is_static = true;
        is_constructor = false;
        is_synchronized = false;
        is_helper = false;
        formals = (kinds.Ref ∷ []);
        locals = [];
        result = None;
        body = code.Skip;
      }
      ∷ record {
        name = [];
        class = (record { 0 = 0 });
        is_static = true;
        is_constructor = false;
        is_synchronized = false;
        is_helper = false;
        formals = (kinds.Ref ∷ []);
        locals = (kinds.Ref ∷ kinds.Ref ∷ []);
        result = None;
        body = (code.Then (code.Declare 1 (code.Read (code.FieldOf (code.Read (code.Local 0)) (record { 0 = 1 })))) (code.Then (code.Synchronized (code.Read (code.Local 1)) (code.Then (code.Synchronized (code.Read (code.Local 1)) (code.Then (code.Declare 2 (code.NewThread (code.Read (code.Local 0)))) (code.Then (code.Do (code.CallObject calls.Start (code.Read (code.Local 2)))) (code.Then (code.Do (code.CallObject calls.Wait (code.Read (code.Local 1)))) (code.Then (code.Assert (record { 0 = 9 }) (0 ∷ 1 ∷ 2 ∷ [])) (code.Do (code.Evaluate (code.Assign (code.FieldOf (code.Read (code.Local 0)) (record { 0 = 2 })) (code.Binary (binaries.Arithmetic arithmetics.Add widths.Int) (code.Read (code.FieldOf (code.Read (code.Local 0)) (record { 0 = 2 }))) (code.Number widths.Int (pos 1))))))))))) (code.Assert (record { 0 = 10 }) (0 ∷ 1 ∷ [])))) (code.Assert (record { 0 = 11 }) (0 ∷ 1 ∷ []))));
      }
      ∷ record {
        name = [];
        class = (record { 0 = 0 });
        is_static = true;
        is_constructor = false;
        is_synchronized = false;
        is_helper = false;
        formals = [];
        locals = (kinds.Ref ∷ kinds.Ref ∷ kinds.Caught ∷ kinds.Caught ∷ []);
        result = None;
        body = (code.Then (code.Do (code.Evaluate (code.Assign (code.StaticField (record { 0 = 0 })) (code.NewObject (record { 0 = 0 }) (code.and_then code.Null code.no_more))))) (code.Then (code.Declare 0 (code.NewObject (record { 0 = 0 }) (code.and_then (code.Read (code.StaticField (record { 0 = 0 }))) code.no_more))) (code.Then (code.Do (code.Invoke (code.CallOn (code.Read (code.Local 0)) (record { 0 = 2 }) code.no_more))) (code.Then (code.Println ((code.Shown (code.ResultOf (code.CallOn (code.Read (code.Local 0)) (record { 0 = 4 }) code.no_more))) ∷ [])) (code.Then (code.Do (code.Invoke (code.CallStatic (record { 0 = 7 }) (code.and_then (code.Read (code.Local 0)) code.no_more)))) (code.Then (code.Do (code.Invoke (code.CallStatic (record { 0 = 6 }) (code.and_then code.Null code.no_more)))) (code.Then (code.Do (code.Invoke (code.CallStatic (record { 0 = 6 }) (code.and_then (code.Read (code.Local 0)) code.no_more)))) (code.Then (code.Declare 1 (code.NewThread (code.Read (code.Local 0)))) (code.Then (code.Do (code.CallObject calls.Start (code.Read (code.Local 1)))) (code.Then (code.Try (code.Do (code.CallObject calls.Start (code.Read (code.Local 1)))) (code.or_catch faults.IllegalThreadStateException 2 (code.Println ((code.Literal (record { 0 = 0 })) ∷ [])) code.no_catch)) (code.Then (code.Do (code.CallObject calls.Join (code.Read (code.Local 1)))) (code.Try (code.Do (code.CallObject calls.NotifyAll (code.Read (code.FieldOf (code.Read (code.Local 0)) (record { 0 = 1 }))))) (code.or_catch faults.IllegalMonitorStateException 3 (code.Do (code.Invoke (code.CallStatic (record { 0 = 9 }) (code.and_then (code.Number widths.Int (pos 1)) code.no_more)))) code.no_catch)))))))))))));
      }
      ∷ record {
        name = [];
        class = (record { 0 = 0 });
        is_static = true;
        is_constructor = false;
        is_synchronized = false;
        is_helper = false;
        formals = (kinds.Int ∷ []);
        locals = [];
        result = None;
        body = (code.Then (code.If (code.Binary (binaries.Compare comparisons.Greater widths.Int) (code.Read (code.Local 0)) (code.Number widths.Int (pos 0))) (code.Do (code.Invoke (code.CallStatic (record { 0 = 9 }) (code.and_then (code.Binary (binaries.Arithmetic arithmetics.Subtract widths.Int) (code.Read (code.Local 0)) (code.Number widths.Int (pos 1))) code.no_more)))) code.Skip) (code.Throw faults.RuntimeException));
      }
      ∷ [];
  clauses =
      record { kind = clauses.MonitorsFor; owner = (specs.OfField (record { 0 = 2 })); mode = modes.Java; is_static = false; place = record { line = 6; column = 7 }; states = (specs.This ∷ []) }
      ∷ record { kind = clauses.Locks; owner = (specs.OfMethod (record { 0 = 2 })); mode = modes.Java; is_static = false; place = record { line = 15; column = 7 }; states = ((specs.FieldOf specs.This (record { 0 = 1 }) 0) ∷ []) }
      ∷ record { kind = clauses.Locks; owner = (specs.OfMethod (record { 0 = 4 })); mode = modes.Java; is_static = false; place = record { line = 23; column = 7 }; states = (specs.This ∷ (specs.FieldOf specs.This (record { 0 = 1 }) 0) ∷ []) }
      ∷ record { kind = clauses.Ensures; owner = (specs.OfMethod (record { 0 = 4 })); mode = modes.Java; is_static = false; place = record { line = 24; column = 7 }; states = ((specs.Implies specs.Result (specs.InLockset (specs.FieldOf specs.This (record { 0 = 1 }) 0))) ∷ []) }
      ∷ record { kind = clauses.Requires; owner = (specs.OfMethod (record { 0 = 6 })); mode = modes.Java; is_static = true; place = record { line = 30; column = 7 }; states = ((specs.Implies (specs.Binary binaries.OtherReference (specs.Variable 0) specs.Null) (specs.Binary (binaries.Compare comparisons.Greater widths.Int) (specs.FieldOf (specs.Variable 0) (record { 0 = 2 }) 1) (specs.Number widths.Int (pos 0)))) ∷ []) }
      ∷ record { kind = clauses.Requires; owner = (specs.OfMethod (record { 0 = 6 })); mode = modes.Java; is_static = true; place = record { line = 31; column = 7 }; states = ((specs.ImpliedBy (specs.Binary binaries.SameReference (specs.Variable 0) specs.Null) (specs.Binary (binaries.Compare comparisons.Less widths.Int) (specs.FieldOf (specs.Variable 0) (record { 0 = 2 }) 1) (specs.Number widths.Int (pos 0)))) ∷ []) }
      ∷ record { kind = clauses.Requires; owner = (specs.OfMethod (record { 0 = 6 })); mode = modes.Java; is_static = true; place = record { line = 32; column = 7 }; states = ((specs.And (specs.Quantified quantifiers.ForAll (specs.Number widths.Int (pos 1)) sides.Exclusive (specs.Number widths.Int (pos 3)) sides.Inclusive (specs.Truth true) (specs.Or (specs.Binary (binaries.Compare comparisons.Equal widths.Int) (specs.Bound 0) (specs.Number widths.Int (pos 2))) (specs.Binary (binaries.Compare comparisons.Equal widths.Int) (specs.Bound 0) (specs.Number widths.Int (pos 3))))) (specs.Unary unaries.Not (specs.Quantified quantifiers.Exists (specs.Number widths.Int (pos 3)) sides.Inclusive (specs.Number widths.Int (pos 3)) sides.Exclusive (specs.Truth true) (specs.Truth true)))) ∷ []) }
      ∷ record { kind = clauses.Atomic; owner = (specs.OfMethod (record { 0 = 7 })); mode = modes.Java; is_static = false; place = record { line = 34; column = 7 }; states = [] }
      ∷ record { kind = clauses.Assert; owner = (specs.OfMethod (record { 0 = 7 })); mode = modes.Java; is_static = true; place = record { line = 41; column = 11 }; states = ((specs.InLockset (specs.Variable 1)) ∷ []) }
      ∷ record { kind = clauses.Assert; owner = (specs.OfMethod (record { 0 = 7 })); mode = modes.Java; is_static = true; place = record { line = 44; column = 9 }; states = ((specs.And (specs.InLockset (specs.Variable 1)) (specs.Unary unaries.Not (specs.InLockset (specs.Variable 0)))) ∷ []) }
      ∷ record { kind = clauses.Assert; owner = (specs.OfMethod (record { 0 = 7 })); mode = modes.Java; is_static = true; place = record { line = 46; column = 9 }; states = ((specs.Unary unaries.Not (specs.InLockset (specs.Variable 1))) ∷ []) }
      ∷ record { kind = clauses.Ensures; owner = (specs.OfMethod (record { 0 = 9 })); mode = modes.Java; is_static = true; place = record { line = 62; column = 7 }; states = ((specs.Truth false) ∷ []) }
      ∷ [];
  notes = [];
  texts = ((97 ∷ 103 ∷ 97 ∷ 105 ∷ 110 ∷ []) ∷ []);
  main = (record { 0 = 8 });
}

abbrev pub journal : List Event
journal =
    made 1 (deeds.Call (record { 0 = 8 }) None []) replies.Unit
    ∷ made 1 (deeds.New (makes.Object (record { 0 = 0 }))) (replies.Made (record { 0 = 2 }))
    ∷ made 1 (deeds.Call (record { 0 = 0 }) (Some (record { 0 = 2 })) (values.Null ∷ [])) replies.Unit
    ∷ made 1 (deeds.New makes.Plain) (replies.Made (record { 0 = 3 }))
    ∷ made 1 (deeds.Put (record { obj = (record { 0 = 2 }); slot = 0 }) (values.Ref (record { 0 = 3 }))) replies.Unit
    ∷ made 1 (deeds.Put (record { obj = (record { 0 = 2 }); slot = 1 }) (values.Int (pos 1))) replies.Unit
    ∷ made 1 (deeds.Call (record { 0 = 1 }) (Some (record { 0 = 2 })) []) replies.Unit
    ∷ made 1 (deeds.Get (record { obj = (record { 0 = 2 }); slot = 1 })) (replies.Value (values.Int (pos 1)))
    ∷ judged 7 0 verdicts.False
    ∷ made 1 (deeds.Put (record { obj = (record { 0 = 2 }); slot = 1 }) (values.Int (pos 2))) replies.Unit
    ∷ judged 8 0 verdicts.False
    ∷ made 1 (deeds.Leave (record { 0 = 1 }) (leaves.Normal None)) replies.Unit
    ∷ made 1 (deeds.New (makes.Array elems.Bool 2)) (replies.Made (record { 0 = 4 }))
    ∷ made 1 (deeds.Put (record { obj = (record { 0 = 2 }); slot = 2 }) (values.Ref (record { 0 = 4 }))) replies.Unit
    ∷ made 1 (deeds.Leave (record { 0 = 0 }) (leaves.Normal None)) replies.Unit
    ∷ made 1 (deeds.Put (record { obj = (record { 0 = 1 }); slot = 0 }) (values.Ref (record { 0 = 2 }))) replies.Unit
    ∷ made 1 (deeds.New (makes.Object (record { 0 = 0 }))) (replies.Made (record { 0 = 5 }))
    ∷ made 1 (deeds.Get (record { obj = (record { 0 = 1 }); slot = 0 })) (replies.Value (values.Ref (record { 0 = 2 })))
    ∷ made 1 (deeds.Call (record { 0 = 0 }) (Some (record { 0 = 5 })) ((values.Ref (record { 0 = 2 })) ∷ [])) replies.Unit
    ∷ made 1 (deeds.New makes.Plain) (replies.Made (record { 0 = 6 }))
    ∷ made 1 (deeds.Put (record { obj = (record { 0 = 5 }); slot = 0 }) (values.Ref (record { 0 = 6 }))) replies.Unit
    ∷ made 1 (deeds.Put (record { obj = (record { 0 = 5 }); slot = 1 }) (values.Int (pos 1))) replies.Unit
    ∷ made 1 (deeds.Put (record { obj = (record { 0 = 2 }); slot = 1 }) (values.Int (pos 2))) replies.Unit
    ∷ judged 20 0 verdicts.False
    ∷ made 1 (deeds.Call (record { 0 = 1 }) (Some (record { 0 = 5 })) []) replies.Unit
    ∷ made 1 (deeds.Get (record { obj = (record { 0 = 5 }); slot = 1 })) (replies.Value (values.Int (pos 1)))
    ∷ judged 22 0 verdicts.False
    ∷ made 1 (deeds.Put (record { obj = (record { 0 = 5 }); slot = 1 }) (values.Int (pos 2))) replies.Unit
    ∷ judged 23 0 verdicts.False
    ∷ made 1 (deeds.Leave (record { 0 = 1 }) (leaves.Normal None)) replies.Unit
    ∷ made 1 (deeds.New (makes.Array elems.Bool 2)) (replies.Made (record { 0 = 7 }))
    ∷ made 1 (deeds.Put (record { obj = (record { 0 = 5 }); slot = 2 }) (values.Ref (record { 0 = 7 }))) replies.Unit
    ∷ made 1 (deeds.Leave (record { 0 = 0 }) (leaves.Normal None)) replies.Unit
    ∷ made 1 (deeds.Call (record { 0 = 2 }) (Some (record { 0 = 5 })) []) replies.Unit
    ∷ made 1 (deeds.Get (record { obj = (record { 0 = 5 }); slot = 0 })) (replies.Value (values.Ref (record { 0 = 6 })))
    ∷ made 1 (deeds.Put (record { obj = (record { 0 = 5 }); slot = 0 }) (values.Ref (record { 0 = 5 }))) replies.Unit
    ∷ made 1 (deeds.Enter (record { 0 = 6 }) ways.Block) replies.Unit
    ∷ judged 31 0 verdicts.True
    ∷ made 1 (deeds.Enter (record { 0 = 6 }) ways.Block) replies.Unit
    ∷ made 1 (deeds.Enter (record { 0 = 5 }) ways.Method) replies.Unit
    ∷ made 1 (deeds.Call (record { 0 = 3 }) (Some (record { 0 = 5 })) []) replies.Unit
    ∷ made 1 (deeds.Get (record { obj = (record { 0 = 5 }); slot = 1 })) (replies.Value (values.Int (pos 2)))
    ∷ judged 35 0 verdicts.True
    ∷ made 1 (deeds.Put (record { obj = (record { 0 = 5 }); slot = 1 }) (values.Int (pos 3))) replies.Unit
    ∷ judged 36 0 verdicts.True
    ∷ made 1 (deeds.Leave (record { 0 = 3 }) (leaves.Normal None)) replies.Unit
    ∷ made 1 (deeds.Exit (record { 0 = 5 })) replies.Unit
    ∷ made 1 (deeds.Exit (record { 0 = 6 })) replies.Unit
    ∷ made 1 (deeds.Exit (record { 0 = 6 })) replies.Unit
    ∷ made 1 (deeds.Get (record { obj = (record { 0 = 5 }); slot = 0 })) (replies.Value (values.Ref (record { 0 = 5 })))
    ∷ made 1 (deeds.Enter (record { 0 = 5 }) ways.Block) replies.Unit
    ∷ judged 42 0 verdicts.False
    ∷ made 1 (deeds.Put (record { obj = (record { 0 = 5 }); slot = 0 }) (values.Ref (record { 0 = 6 }))) replies.Unit
    ∷ made 1 (deeds.Exit (record { 0 = 5 })) replies.Unit
    ∷ made 1 (deeds.Leave (record { 0 = 2 }) (leaves.Normal None)) replies.Unit
    ∷ made 1 (deeds.Call (record { 0 = 4 }) (Some (record { 0 = 5 })) []) replies.Unit
    ∷ made 1 (deeds.Enter (record { 0 = 5 }) ways.Method) replies.Unit
    ∷ made 1 (deeds.Call (record { 0 = 3 }) (Some (record { 0 = 5 })) []) replies.Unit
    ∷ made 1 (deeds.Get (record { obj = (record { 0 = 5 }); slot = 1 })) (replies.Value (values.Int (pos 3)))
    ∷ judged 49 0 verdicts.True
    ∷ made 1 (deeds.Put (record { obj = (record { 0 = 5 }); slot = 1 }) (values.Int (pos 4))) replies.Unit
    ∷ judged 50 0 verdicts.True
    ∷ made 1 (deeds.Leave (record { 0 = 3 }) (leaves.Normal None)) replies.Unit
    ∷ made 1 (deeds.Exit (record { 0 = 5 })) replies.Unit
    ∷ made 1 (deeds.Enter (record { 0 = 5 }) ways.Block) replies.Unit
    ∷ judged 53 0 verdicts.True
    ∷ made 1 (deeds.Get (record { obj = (record { 0 = 5 }); slot = 2 })) (replies.Value (values.Ref (record { 0 = 7 })))
    ∷ made 1 (deeds.Get (record { obj = (record { 0 = 7 }); slot = 0 })) (replies.Value (values.Bool false))
    ∷ made 1 (deeds.Get (record { obj = (record { 0 = 5 }); slot = 2 })) (replies.Value (values.Ref (record { 0 = 7 })))
    ∷ made 1 (deeds.Get (record { obj = (record { 0 = 7 }); slot = 1 })) (replies.Value (values.Bool false))
    ∷ made 1 (deeds.Exit (record { 0 = 5 })) replies.Unit
    ∷ made 1 (deeds.Leave (record { 0 = 4 }) (leaves.Normal (Some (values.Bool false)))) replies.Unit
    ∷ judged 59 0 verdicts.True
    ∷ made 1 (deeds.Print ((shows.Val (values.Bool false)) ∷ [])) replies.Unit
    ∷ made 1 (deeds.Call (record { 0 = 7 }) None ((values.Ref (record { 0 = 5 })) ∷ [])) replies.Unit
    ∷ made 1 (deeds.Get (record { obj = (record { 0 = 5 }); slot = 0 })) (replies.Value (values.Ref (record { 0 = 6 })))
    ∷ made 1 (deeds.Enter (record { 0 = 6 }) ways.Block) replies.Unit
    ∷ made 1 (deeds.Enter (record { 0 = 6 }) ways.Block) replies.Unit
    ∷ made 1 (deeds.New makes.Thread) (replies.Made (record { 0 = 8 }))
    ∷ made 1 (deeds.Put (record { obj = (record { 0 = 8 }); slot = 0 }) (values.Ref (record { 0 = 5 }))) replies.Unit
    ∷ made 1 (deeds.Start (record { 0 = 8 })) (replies.Started (record { 0 = 2 }) (Some (record { method = (record { 0 = 5 }); this = (Some (record { 0 = 5 })) })))
    ∷ made 1 (deeds.Wait (record { 0 = 6 })) replies.Unit
    ∷ made 2 (deeds.Call (record { 0 = 5 }) (Some (record { 0 = 5 })) []) replies.Unit
    ∷ made 2 (deeds.Get (record { obj = (record { 0 = 5 }); slot = 0 })) (replies.Value (values.Ref (record { 0 = 6 })))
    ∷ made 2 (deeds.Enter (record { 0 = 6 }) ways.Block) replies.Unit
    ∷ made 2 (deeds.Get (record { obj = (record { 0 = 5 }); slot = 1 })) (replies.Value (values.Int (pos 4)))
    ∷ judged 72 0 verdicts.False
    ∷ made 2 (deeds.Put (record { obj = (record { 0 = 5 }); slot = 1 }) (values.Int (pos 5))) replies.Unit
    ∷ judged 73 0 verdicts.False
    ∷ made 2 (deeds.Get (record { obj = (record { 0 = 5 }); slot = 0 })) (replies.Value (values.Ref (record { 0 = 6 })))
    ∷ made 2 (deeds.Notify (record { 0 = 6 })) (replies.Woke (record { 0 = 1 }))
    ∷ made 2 (deeds.Get (record { obj = (record { 0 = 5 }); slot = 0 })) (replies.Value (values.Ref (record { 0 = 6 })))
    ∷ made 2 (deeds.Notify (record { 0 = 6 })) replies.Nobody
    ∷ made 2 (deeds.Exit (record { 0 = 6 })) replies.Unit
    ∷ made 1 (deeds.Resume (record { 0 = 6 })) replies.Unit
    ∷ made 1 (deeds.Assert (record { 0 = 9 }) (values.Null ∷ (values.Ref (record { 0 = 5 })) ∷ (values.Ref (record { 0 = 6 })) ∷ (values.Ref (record { 0 = 8 })) ∷ [])) replies.Unit
    ∷ judged 80 0 verdicts.True
    ∷ made 1 (deeds.Get (record { obj = (record { 0 = 5 }); slot = 1 })) (replies.Value (values.Int (pos 5)))
    ∷ judged 81 0 verdicts.False
    ∷ made 1 (deeds.Put (record { obj = (record { 0 = 5 }); slot = 1 }) (values.Int (pos 6))) replies.Unit
    ∷ judged 82 0 verdicts.False
    ∷ made 1 (deeds.Exit (record { 0 = 6 })) replies.Unit
    ∷ made 1 (deeds.Assert (record { 0 = 10 }) (values.Null ∷ (values.Ref (record { 0 = 5 })) ∷ (values.Ref (record { 0 = 6 })) ∷ [])) replies.Unit
    ∷ judged 84 0 verdicts.True
    ∷ made 1 (deeds.Exit (record { 0 = 6 })) replies.Unit
    ∷ made 1 (deeds.Assert (record { 0 = 11 }) (values.Null ∷ (values.Ref (record { 0 = 5 })) ∷ (values.Ref (record { 0 = 6 })) ∷ [])) replies.Unit
    ∷ judged 86 0 verdicts.True
    ∷ made 1 (deeds.Leave (record { 0 = 7 }) (leaves.Normal None)) replies.Unit
    ∷ judged 87 0 verdicts.False
    ∷ made 1 (deeds.Call (record { 0 = 6 }) None (values.Null ∷ [])) replies.Unit
    ∷ judged 88 0 verdicts.True
    ∷ judged 88 1 verdicts.True
    ∷ judged 88 2 verdicts.True
    ∷ made 1 (deeds.Leave (record { 0 = 6 }) (leaves.Normal None)) replies.Unit
    ∷ made 1 (deeds.Call (record { 0 = 6 }) None ((values.Ref (record { 0 = 5 })) ∷ [])) replies.Unit
    ∷ judged 90 0 verdicts.True
    ∷ judged 90 1 verdicts.True
    ∷ judged 90 2 verdicts.True
    ∷ made 1 (deeds.Leave (record { 0 = 6 }) (leaves.Normal None)) replies.Unit
    ∷ made 1 (deeds.New makes.Thread) (replies.Made (record { 0 = 9 }))
    ∷ made 1 (deeds.Put (record { obj = (record { 0 = 9 }); slot = 0 }) (values.Ref (record { 0 = 5 }))) replies.Unit
    ∷ made 1 (deeds.Start (record { 0 = 9 })) (replies.Started (record { 0 = 3 }) (Some (record { method = (record { 0 = 5 }); this = (Some (record { 0 = 5 })) })))
    ∷ made 1 (deeds.Start (record { 0 = 9 })) replies.Illegal
    ∷ made 1 (deeds.Print ((shows.Text (record { 0 = 0 })) ∷ [])) replies.Unit
    ∷ made 2 (deeds.Leave (record { 0 = 5 }) (leaves.Normal None)) replies.Unit
    ∷ made 2 (deeds.End ends.Normal) replies.Unit
    ∷ made 3 (deeds.Call (record { 0 = 5 }) (Some (record { 0 = 5 })) []) replies.Unit
    ∷ made 3 (deeds.Get (record { obj = (record { 0 = 5 }); slot = 0 })) (replies.Value (values.Ref (record { 0 = 6 })))
    ∷ made 3 (deeds.Enter (record { 0 = 6 }) ways.Block) replies.Unit
    ∷ made 3 (deeds.Get (record { obj = (record { 0 = 5 }); slot = 1 })) (replies.Value (values.Int (pos 6)))
    ∷ judged 102 0 verdicts.False
    ∷ made 3 (deeds.Put (record { obj = (record { 0 = 5 }); slot = 1 }) (values.Int (pos 7))) replies.Unit
    ∷ judged 103 0 verdicts.False
    ∷ made 3 (deeds.Get (record { obj = (record { 0 = 5 }); slot = 0 })) (replies.Value (values.Ref (record { 0 = 6 })))
    ∷ made 3 (deeds.Notify (record { 0 = 6 })) replies.Nobody
    ∷ made 3 (deeds.Get (record { obj = (record { 0 = 5 }); slot = 0 })) (replies.Value (values.Ref (record { 0 = 6 })))
    ∷ made 3 (deeds.Notify (record { 0 = 6 })) replies.Nobody
    ∷ made 3 (deeds.Exit (record { 0 = 6 })) replies.Unit
    ∷ made 3 (deeds.Leave (record { 0 = 5 }) (leaves.Normal None)) replies.Unit
    ∷ made 3 (deeds.End ends.Normal) replies.Unit
    ∷ made 1 (deeds.Join (record { 0 = 9 })) replies.Unit
    ∷ made 1 (deeds.Get (record { obj = (record { 0 = 5 }); slot = 0 })) (replies.Value (values.Ref (record { 0 = 6 })))
    ∷ made 1 (deeds.NotifyAll (record { 0 = 6 })) replies.Illegal
    ∷ made 1 (deeds.Call (record { 0 = 9 }) None ((values.Int (pos 1)) ∷ [])) replies.Unit
    ∷ made 1 (deeds.Call (record { 0 = 9 }) None ((values.Int (pos 0)) ∷ [])) replies.Unit
    ∷ made 1 (deeds.Leave (record { 0 = 9 }) leaves.Abrupt) replies.Unit
    ∷ made 1 (deeds.Leave (record { 0 = 9 }) leaves.Abrupt) replies.Unit
    ∷ made 1 (deeds.Leave (record { 0 = 8 }) leaves.Abrupt) replies.Unit
    ∷ made 1 (deeds.End (ends.Uncaught faults.RuntimeException)) replies.Unit
    ∷ []

abbrev pub finish : Finish
finish = finishes.Finished

pub is_serial : serial program 200000 0 0 ≡ record { history = journal; finish = finish }
unfolding int_wrap
is_serial = refl

pub is_right : IsRightRun program 200000 (record { history = journal; finish = finish })
is_right = subst (IsRightRun program 200000) is_serial (serial-right program 200000 0 0)
