-- A program and its run by the serial rule with seed 0.
--     class Box {
--       int count;
--       //@ when count > 0;
--       synchronized void take() {
--         if (count == 0) { try { wait(); } catch (InterruptedException e) { } }
--         commit: count--;
--       }
--       synchronized void put() { count++; notifyAll(); }
--     }
--     class Taker extends Thread {
--       Box b;
--       Taker(Box b) { this.b = b; }
--       public void run() { b.take(); }
--     }
--     class Putter extends Thread {
--       Box b;
--       Putter(Box b) { this.b = b; }
--       public void run() { b.put(); }
--     }
--     class Main {
--       public static void main(String[] args) {
--         Box b = new Box();
--         new Taker(b).start();
--         new Putter(b).start();
--         b.take();
--       }
--     }
use Rattle.std.specs.Prelude.{◌≡◌, pos, negsuc, true, false, List, [], ◌∷◌, Some, None}
use Rattle.jr_base.specs.Deed.{Deed}
use Rattle.jr_base.specs.Deed as deeds
use Rattle.jr_base.specs.declared.action.NewKind.TheVariants as makes
use Rattle.jr_base.specs.declared.action.Reply.TheVariants as replies
use Rattle.jr_base.specs.declared.action.LeaveHow.TheVariants as leaves
use Rattle.jr_base.specs.declared.action.EndHow.TheVariants as ends
use Rattle.jr_base.specs.declared.action.Way.TheVariants as ways
use Rattle.jr_base.specs.declared.value.Value.TheVariants as values
use Rattle.jr_base.specs.declared.finish.Fault.TheVariants as faults
use Rattle.jr_base.specs.declared.finish.Verdict.TheVariants as verdicts
use Rattle.jr_base.specs.declared.finish.Finish.{Finish}
use Rattle.jr_base.specs.declared.finish.Finish.TheVariants as finishes
use Rattle.jr_base.specs.declared.kind.SlotKind.TheVariants as kinds
use Rattle.jr_arith.specs.declared.operator.Width.TheVariants as widths
use Rattle.jr_arith.specs.declared.operator.Comparison.TheVariants as comparisons
use Rattle.jr_program.specs.declared.words.Mode.TheVariants as modes
use Rattle.jr_arith.specs.declared.operator.Binary.TheVariants as binaries
use Rattle.jr_base.specs.declared.kind.ObjectCall.TheVariants as calls
use Rattle.jr_program.specs.declared.words.ClauseKind.TheVariants as clauses
use Rattle.jr_program.specs.Clauses as specs
use Rattle.jr_program.specs.Programs as code
use Rattle.jr_program.specs.Programs.{Program}
use Rattle.jr_meaning.specs.Event.{Event}
use Rattle.jr_meaning.specs.Right.{IsRightRun}
use Rattle.jr_meaning.specs.Serial.{serial}
use Rattle.jr_meaning.proofs.SerialRuns.{serial-right}
use Rattle.jr_meaning.proofs.Runs.{made, judged}
use Rattle.std.proofs.Common.{refl, subst}
use Rattle.std.specs.Int.{int_wrap}

abbrev pub program : Program
program = record {
  classes =
      record { name = []; extends_thread = false; implements_runnable = false; run = None; constructor = None }
      ∷ record { name = []; extends_thread = true; implements_runnable = false; run = (Some (record { 0 = 3 })); constructor = (Some (record { 0 = 2 })) }
      ∷ record { name = []; extends_thread = true; implements_runnable = false; run = (Some (record { 0 = 5 })); constructor = (Some (record { 0 = 4 })) }
      ∷ record { name = []; extends_thread = false; implements_runnable = false; run = None; constructor = None }
      ∷ [];
  fields =
      record { class = (record { 0 = 0 }); is_static = false; is_volatile = false; kind = kinds.Int; constant = (values.Int (pos 0)) }
      ∷ record { class = (record { 0 = 1 }); is_static = false; is_volatile = false; kind = kinds.Ref; constant = values.Null }
      ∷ record { class = (record { 0 = 2 }); is_static = false; is_volatile = false; kind = kinds.Ref; constant = values.Null }
      ∷ [];
  methods =
      record {
        name = [];
        class = (record { 0 = 0 });
        is_static = false;
        is_constructor = false;
        is_synchronized = true;
        is_helper = false;
        formals = [];
        locals = (kinds.Caught ∷ []);
        result = None;
        body = (code.Then (code.If (code.Binary (binaries.Compare comparisons.Equal widths.Int) (code.Read (code.FieldOf code.This (record { 0 = 0 }))) (code.Number widths.Int (pos 0))) (code.Try (code.Do (code.CallObject calls.Wait code.This)) (code.or_catch faults.InterruptedException 0 code.Skip code.no_catch)) code.Skip) (code.Commit (code.Do (code.Evaluate (code.PostfixIncrement widths.Int (code.FieldOf code.This (record { 0 = 0 })) (negsuc 0))))));
      }
      ∷ record {
        name = [];
        class = (record { 0 = 0 });
        is_static = false;
        is_constructor = false;
        is_synchronized = true;
        is_helper = false;
        formals = [];
        locals = [];
        result = None;
        body = (code.Then (code.Do (code.Evaluate (code.PostfixIncrement widths.Int (code.FieldOf code.This (record { 0 = 0 })) (pos 1)))) (code.Do (code.CallObject calls.NotifyAll code.This)));
      }
      ∷ record {
        name = [];
        class = (record { 0 = 1 });
        is_static = false;
        is_constructor = true;
        is_synchronized = false;
        is_helper = false;
        formals = (kinds.Ref ∷ []);
        locals = [];
        result = None;
        body = (code.Do (code.Evaluate (code.Assign (code.FieldOf code.This (record { 0 = 1 })) (code.Read (code.Local 0)))));
      }
      ∷ record {
        name = [];
        class = (record { 0 = 1 });
        is_static = false;
        is_constructor = false;
        is_synchronized = false;
        is_helper = false;
        formals = [];
        locals = [];
        result = None;
        body = (code.Do (code.Invoke (code.CallOn (code.Read (code.FieldOf code.This (record { 0 = 1 }))) (record { 0 = 0 }) code.no_more)));
      }
      ∷ record {
        name = [];
        class = (record { 0 = 2 });
        is_static = false;
        is_constructor = true;
        is_synchronized = false;
        is_helper = false;
        formals = (kinds.Ref ∷ []);
        locals = [];
        result = None;
        body = (code.Do (code.Evaluate (code.Assign (code.FieldOf code.This (record { 0 = 2 })) (code.Read (code.Local 0)))));
      }
      ∷ record {
        name = [];
        class = (record { 0 = 2 });
        is_static = false;
        is_constructor = false;
        is_synchronized = false;
        is_helper = false;
        formals = [];
        locals = [];
        result = None;
        body = (code.Do (code.Invoke (code.CallOn (code.Read (code.FieldOf code.This (record { 0 = 2 }))) (record { 0 = 1 }) code.no_more)));
      }
      ∷ record {
        name = [];
        class = (record { 0 = 3 });
        is_static = true;
        is_constructor = false;
        is_synchronized = false;
        is_helper = false;
        formals = [];
        locals = (kinds.Ref ∷ []);
        result = None;
        body = (code.Then (code.Declare 0 (code.NewObject (record { 0 = 0 }) code.no_more)) (code.Then (code.Do (code.CallObject calls.Start (code.NewObject (record { 0 = 1 }) (code.and_then (code.Read (code.Local 0)) code.no_more)))) (code.Then (code.Do (code.CallObject calls.Start (code.NewObject (record { 0 = 2 }) (code.and_then (code.Read (code.Local 0)) code.no_more)))) (code.Do (code.Invoke (code.CallOn (code.Read (code.Local 0)) (record { 0 = 0 }) code.no_more))))));
      }
      ∷ [];
  clauses =
      record { kind = clauses.When; owner = (specs.OfMethod (record { 0 = 0 })); mode = modes.Java; is_static = false; place = record { line = 3; column = 7 }; states = ((specs.Binary (binaries.Compare comparisons.Greater widths.Int) (specs.FieldOf specs.This (record { 0 = 0 }) 0) (specs.Number widths.Int (pos 0))) ∷ []) }
      ∷ [];
  notes = [];
  texts = [];
  main = (record { 0 = 6 });
}

abbrev pub journal : List Event
journal =
    made 1 (deeds.Call (record { 0 = 6 }) None []) replies.Unit
    ∷ made 1 (deeds.New (makes.Object (record { 0 = 0 }))) (replies.Made (record { 0 = 5 }))
    ∷ made 1 (deeds.New (makes.Object (record { 0 = 1 }))) (replies.Made (record { 0 = 6 }))
    ∷ made 1 (deeds.Call (record { 0 = 2 }) (Some (record { 0 = 6 })) ((values.Ref (record { 0 = 5 })) ∷ [])) replies.Unit
    ∷ made 1 (deeds.Put (record { obj = (record { 0 = 6 }); slot = 0 }) (values.Ref (record { 0 = 5 }))) replies.Unit
    ∷ made 1 (deeds.Leave (record { 0 = 2 }) (leaves.Normal None)) replies.Unit
    ∷ made 1 (deeds.Start (record { 0 = 6 })) (replies.Started (record { 0 = 2 }) (Some (record { method = (record { 0 = 3 }); this = (Some (record { 0 = 6 })) })))
    ∷ made 1 (deeds.New (makes.Object (record { 0 = 2 }))) (replies.Made (record { 0 = 7 }))
    ∷ made 1 (deeds.Call (record { 0 = 4 }) (Some (record { 0 = 7 })) ((values.Ref (record { 0 = 5 })) ∷ [])) replies.Unit
    ∷ made 1 (deeds.Put (record { obj = (record { 0 = 7 }); slot = 0 }) (values.Ref (record { 0 = 5 }))) replies.Unit
    ∷ made 1 (deeds.Leave (record { 0 = 4 }) (leaves.Normal None)) replies.Unit
    ∷ made 1 (deeds.Start (record { 0 = 7 })) (replies.Started (record { 0 = 3 }) (Some (record { method = (record { 0 = 5 }); this = (Some (record { 0 = 7 })) })))
    ∷ made 1 (deeds.Enter (record { 0 = 5 }) ways.Method) replies.Unit
    ∷ made 1 (deeds.Call (record { 0 = 0 }) (Some (record { 0 = 5 })) []) replies.Unit
    ∷ made 1 (deeds.Get (record { obj = (record { 0 = 5 }); slot = 0 })) (replies.Value (values.Int (pos 0)))
    ∷ made 1 (deeds.Wait (record { 0 = 5 })) replies.Unit
    ∷ made 2 (deeds.Call (record { 0 = 3 }) (Some (record { 0 = 6 })) []) replies.Unit
    ∷ made 2 (deeds.Get (record { obj = (record { 0 = 6 }); slot = 0 })) (replies.Value (values.Ref (record { 0 = 5 })))
    ∷ made 2 (deeds.Enter (record { 0 = 5 }) ways.Method) replies.Unit
    ∷ made 2 (deeds.Call (record { 0 = 0 }) (Some (record { 0 = 5 })) []) replies.Unit
    ∷ made 2 (deeds.Get (record { obj = (record { 0 = 5 }); slot = 0 })) (replies.Value (values.Int (pos 0)))
    ∷ made 2 (deeds.Wait (record { 0 = 5 })) replies.Unit
    ∷ made 3 (deeds.Call (record { 0 = 5 }) (Some (record { 0 = 7 })) []) replies.Unit
    ∷ made 3 (deeds.Get (record { obj = (record { 0 = 7 }); slot = 0 })) (replies.Value (values.Ref (record { 0 = 5 })))
    ∷ made 3 (deeds.Enter (record { 0 = 5 }) ways.Method) replies.Unit
    ∷ made 3 (deeds.Call (record { 0 = 1 }) (Some (record { 0 = 5 })) []) replies.Unit
    ∷ made 3 (deeds.Get (record { obj = (record { 0 = 5 }); slot = 0 })) (replies.Value (values.Int (pos 0)))
    ∷ made 3 (deeds.Put (record { obj = (record { 0 = 5 }); slot = 0 }) (values.Int (pos 1))) replies.Unit
    ∷ made 3 (deeds.NotifyAll (record { 0 = 5 })) replies.Unit
    ∷ made 3 (deeds.Leave (record { 0 = 1 }) (leaves.Normal None)) replies.Unit
    ∷ made 3 (deeds.Exit (record { 0 = 5 })) replies.Unit
    ∷ made 1 (deeds.Resume (record { 0 = 5 })) replies.Unit
    ∷ made 1 (deeds.Commit (record { 0 = 0 })) replies.Unit
    ∷ judged 32 0 verdicts.True
    ∷ made 1 (deeds.Get (record { obj = (record { 0 = 5 }); slot = 0 })) (replies.Value (values.Int (pos 1)))
    ∷ made 1 (deeds.Put (record { obj = (record { 0 = 5 }); slot = 0 }) (values.Int (pos 0))) replies.Unit
    ∷ made 1 (deeds.Leave (record { 0 = 0 }) (leaves.Normal None)) replies.Unit
    ∷ made 1 (deeds.Exit (record { 0 = 5 })) replies.Unit
    ∷ made 1 (deeds.Leave (record { 0 = 6 }) (leaves.Normal None)) replies.Unit
    ∷ made 1 (deeds.End ends.Normal) replies.Unit
    ∷ made 2 (deeds.Resume (record { 0 = 5 })) replies.Unit
    ∷ made 2 (deeds.Commit (record { 0 = 0 })) replies.Unit
    ∷ judged 40 0 verdicts.False
    ∷ made 2 (deeds.Get (record { obj = (record { 0 = 5 }); slot = 0 })) (replies.Value (values.Int (pos 0)))
    ∷ made 2 (deeds.Put (record { obj = (record { 0 = 5 }); slot = 0 }) (values.Int (negsuc 0))) replies.Unit
    ∷ made 2 (deeds.Leave (record { 0 = 0 }) (leaves.Normal None)) replies.Unit
    ∷ made 2 (deeds.Exit (record { 0 = 5 })) replies.Unit
    ∷ made 2 (deeds.Leave (record { 0 = 3 }) (leaves.Normal None)) replies.Unit
    ∷ made 2 (deeds.End ends.Normal) replies.Unit
    ∷ made 3 (deeds.Leave (record { 0 = 5 }) (leaves.Normal None)) replies.Unit
    ∷ made 3 (deeds.End ends.Normal) replies.Unit
    ∷ []

abbrev pub finish : Finish
finish = finishes.Finished

pub is_serial : serial program 200000 0 0 ≡ record { history = journal; finish = finish }
unfolding int_wrap
is_serial = refl

pub is_right : IsRightRun program 200000 (record { history = journal; finish = finish })
is_right = subst (IsRightRun program 200000) is_serial (serial-right program 200000 0 0)
