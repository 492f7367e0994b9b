-- Two threads wait for one item.
use Rattle.std.proofs.Common.{◌≡◌, List, [], ◌∷◌, refl, None, Some, pos, negsuc, true, false}
use Rattle.std.specs.Int.{int_wrap}
use Rattle.jr_base.specs.declared.action.Reply.TheVariants as replies
use Rattle.jr_base.specs.declared.action.LeaveHow.TheVariants as leaves
use Rattle.jr_base.specs.declared.action.EndHow.TheVariants as ends
use Rattle.jr_base.specs.declared.action.Way.TheVariants as ways
use Rattle.jr_base.specs.declared.action.NewKind.TheVariants as kinds
use Rattle.jr_base.specs.declared.value.Value.TheVariants as values
use Rattle.jr_base.specs.declared.finish.Fault.TheVariants as faults
use Rattle.jr_base.specs.Deed as deeds
use Rattle.jr_base.specs.declared.kind.SlotKind.TheVariants as kind
use Rattle.jr_arith.specs.declared.operator.Width.TheVariants as width
use Rattle.jr_arith.specs.declared.operator.Comparison.TheVariants as compare
use Rattle.jr_arith.specs.declared.operator.Binary.TheVariants as binary
use Rattle.jr_base.specs.declared.kind.ObjectCall.TheVariants as calls
use Rattle.jr_program.specs.declared.words.ClauseKind.TheVariants as clauses
use Rattle.jr_program.specs.declared.words.Mode.TheVariants as modes
use Rattle.jr_program.specs.Clauses as spec
use Rattle.jr_program.specs.Programs.{Program, Number, This, Read, Binary, Assign, PostfixIncrement, NewObject, Local, FieldOf, CallOn, no_more, and_then, no_catch, or_catch, Skip, Then, Declare, Evaluate, Invoke, CallObject, Do, If, Try, Commit}
use Rattle.jr_meaning.specs.Next.{Ended}
use Rattle.jr_meaning.specs.Objects.{cell}
use Rattle.jr_meaning.proofs.Guest.{Answered, class, field, method, object, guest, does, each_of}

--   class Box {
--     int count;
--     //@ when count > 0;
--     synchronized void take() {
--       if (count == 0) { try { wait(); } catch (InterruptedException e) { } }
--       commit: count--;
--     }
--     synchronized void put() { count++; notifyAll(); }
--   }
--   class Taker extends Thread {
--     Box b;
--     Taker(Box b) { this.b = b; }
--     public void run() { b.take(); }
--   }
--   class Putter extends Thread {
--     Box b;
--     Putter(Box b) { this.b = b; }
--     public void run() { b.put(); }
--   }
--   class Main {
--     public static void main(String[] args) {
--       Box b = new Box();
--       new Taker(b).start();
--       new Putter(b).start();
--       b.take();
--     }
--   }
box : Program
box = record {
  classes =
      record { name = []; extends_thread = false; implements_runnable = false; run = None; constructor = None }
      ∷ record { name = []; extends_thread = true; implements_runnable = false; run = (Some (method 3)); constructor = (Some (method 2)) }
      ∷ record { name = []; extends_thread = true; implements_runnable = false; run = (Some (method 5)); constructor = (Some (method 4)) }
      ∷ record { name = []; extends_thread = false; implements_runnable = false; run = None; constructor = None }
      ∷ [];
  fields =
      record { class = (class 0); is_static = false; is_volatile = false; kind = kind.Int; constant = (values.Int (pos 0)) }
      ∷ record { class = (class 1); is_static = false; is_volatile = false; kind = kind.Ref; constant = values.Null }
      ∷ record { class = (class 2); is_static = false; is_volatile = false; kind = kind.Ref; constant = values.Null }
      ∷ [];
  methods =
      record {
        name = [];
        class = (class 0);
        is_static = false;
        is_constructor = false;
        is_synchronized = true;
        is_helper = false;
        formals = [];
        locals = (kind.Caught ∷ []);
        result = None;
        body = (Then (If (Binary (binary.Compare compare.Equal width.Int) (Read (FieldOf This (field 0))) (Number width.Int (pos 0))) (Try (Do (CallObject calls.Wait This)) (or_catch faults.InterruptedException 0 Skip no_catch)) Skip) (Commit (Do (Evaluate (PostfixIncrement width.Int (FieldOf This (field 0)) (negsuc 0))))));
      }
      ∷ record {
        name = [];
        class = (class 0);
        is_static = false;
        is_constructor = false;
        is_synchronized = true;
        is_helper = false;
        formals = [];
        locals = [];
        result = None;
        body = (Then (Do (Evaluate (PostfixIncrement width.Int (FieldOf This (field 0)) (pos 1)))) (Do (CallObject calls.NotifyAll This)));
      }
      ∷ record {
        name = [];
        class = (class 1);
        is_static = false;
        is_constructor = true;
        is_synchronized = false;
        is_helper = false;
        formals = (kind.Ref ∷ []);
        locals = [];
        result = None;
        body = (Do (Evaluate (Assign (FieldOf This (field 1)) (Read (Local 0)))));
      }
      ∷ record {
        name = [];
        class = (class 1);
        is_static = false;
        is_constructor = false;
        is_synchronized = false;
        is_helper = false;
        formals = [];
        locals = [];
        result = None;
        body = (Do (Invoke (CallOn (Read (FieldOf This (field 1))) (method 0) no_more)));
      }
      ∷ record {
        name = [];
        class = (class 2);
        is_static = false;
        is_constructor = true;
        is_synchronized = false;
        is_helper = false;
        formals = (kind.Ref ∷ []);
        locals = [];
        result = None;
        body = (Do (Evaluate (Assign (FieldOf This (field 2)) (Read (Local 0)))));
      }
      ∷ record {
        name = [];
        class = (class 2);
        is_static = false;
        is_constructor = false;
        is_synchronized = false;
        is_helper = false;
        formals = [];
        locals = [];
        result = None;
        body = (Do (Invoke (CallOn (Read (FieldOf This (field 2))) (method 1) no_more)));
      }
      ∷ record {
        name = [];
        class = (class 3);
        is_static = true;
        is_constructor = false;
        is_synchronized = false;
        is_helper = false;
        formals = [];
        locals = (kind.Ref ∷ []);
        result = None;
        body = (Then (Declare 0 (NewObject (class 0) no_more)) (Then (Do (CallObject calls.Start (NewObject (class 1) (and_then (Read (Local 0)) no_more)))) (Then (Do (CallObject calls.Start (NewObject (class 2) (and_then (Read (Local 0)) no_more)))) (Do (Invoke (CallOn (Read (Local 0)) (method 0) no_more))))));
      }
      ∷ [];
  clauses =
      record { kind = clauses.When; owner = (spec.OfMethod (method 0)); mode = modes.Java; is_static = false; place = record { line = 3; column = 7 }; states = ((spec.Binary (binary.Compare compare.Greater width.Int) (spec.FieldOf spec.This (field 0) 0) (spec.Number width.Int (pos 0))) ∷ []) }
      ∷ [];
  notes = [];
  texts = [];
  main = (method 6);
}

guest_1 : List Answered
guest_1 =
    record { deed = deeds.Call (method 6) None []; reply = replies.Unit }
    ∷ record { deed = deeds.New (kinds.Object (class 0)); reply = replies.Made (object 5) }
    ∷ record { deed = deeds.New (kinds.Object (class 1)); reply = replies.Made (object 6) }
    ∷ record { deed = deeds.Call (method 2) (Some (object 6)) ((values.Ref (object 5)) ∷ []); reply = replies.Unit }
    ∷ record { deed = deeds.Put (cell (object 6) 0) (values.Ref (object 5)); reply = replies.Unit }
    ∷ record { deed = deeds.Leave (method 2) (leaves.Normal None); reply = replies.Unit }
    ∷ record { deed = deeds.Start (object 6); reply = replies.Started (guest 2) (Some (record { method = (method 3); this = (Some (object 6)) })) }
    ∷ record { deed = deeds.New (kinds.Object (class 2)); reply = replies.Made (object 7) }
    ∷ record { deed = deeds.Call (method 4) (Some (object 7)) ((values.Ref (object 5)) ∷ []); reply = replies.Unit }
    ∷ record { deed = deeds.Put (cell (object 7) 0) (values.Ref (object 5)); reply = replies.Unit }
    ∷ record { deed = deeds.Leave (method 4) (leaves.Normal None); reply = replies.Unit }
    ∷ record { deed = deeds.Start (object 7); reply = replies.Started (guest 3) (Some (record { method = (method 5); this = (Some (object 7)) })) }
    ∷ record { deed = deeds.Enter (object 5) ways.Method; reply = replies.Unit }
    ∷ record { deed = deeds.Call (method 0) (Some (object 5)) []; reply = replies.Unit }
    ∷ record { deed = deeds.Get (cell (object 5) 0); reply = replies.Value (values.Int (pos 0)) }
    ∷ record { deed = deeds.Wait (object 5); reply = replies.Unit }
    ∷ record { deed = deeds.Resume (object 5); reply = replies.Unit }
    ∷ record { deed = deeds.Commit (method 0); reply = replies.Unit }
    ∷ record { deed = deeds.Get (cell (object 5) 0); reply = replies.Value (values.Int (pos 1)) }
    ∷ record { deed = deeds.Put (cell (object 5) 0) (values.Int (pos 0)); reply = replies.Unit }
    ∷ record { deed = deeds.Leave (method 0) (leaves.Normal None); reply = replies.Unit }
    ∷ record { deed = deeds.Exit (object 5); reply = replies.Unit }
    ∷ record { deed = deeds.Leave (method 6) (leaves.Normal None); reply = replies.Unit }
    ∷ record { deed = deeds.End ends.Normal; reply = replies.Unit }
    ∷ []

guest_1_does : does box (Some (record { method = (method 6); this = None })) guest_1 ≡ each_of guest_1 Ended
unfolding box guest_1 int_wrap
guest_1_does = refl

guest_2 : List Answered
guest_2 =
    record { deed = deeds.Call (method 3) (Some (object 6)) []; reply = replies.Unit }
    ∷ record { deed = deeds.Get (cell (object 6) 0); reply = replies.Value (values.Ref (object 5)) }
    ∷ record { deed = deeds.Enter (object 5) ways.Method; reply = replies.Unit }
    ∷ record { deed = deeds.Call (method 0) (Some (object 5)) []; reply = replies.Unit }
    ∷ record { deed = deeds.Get (cell (object 5) 0); reply = replies.Value (values.Int (pos 0)) }
    ∷ record { deed = deeds.Wait (object 5); reply = replies.Unit }
    ∷ record { deed = deeds.Resume (object 5); reply = replies.Unit }
    ∷ record { deed = deeds.Commit (method 0); reply = replies.Unit }
    ∷ record { deed = deeds.Get (cell (object 5) 0); reply = replies.Value (values.Int (pos 0)) }
    ∷ record { deed = deeds.Put (cell (object 5) 0) (values.Int (negsuc 0)); reply = replies.Unit }
    ∷ record { deed = deeds.Leave (method 0) (leaves.Normal None); reply = replies.Unit }
    ∷ record { deed = deeds.Exit (object 5); reply = replies.Unit }
    ∷ record { deed = deeds.Leave (method 3) (leaves.Normal None); reply = replies.Unit }
    ∷ record { deed = deeds.End ends.Normal; reply = replies.Unit }
    ∷ []

guest_2_does : does box (Some (record { method = (method 3); this = (Some (object 6)) })) guest_2 ≡ each_of guest_2 Ended
unfolding box guest_2 int_wrap
guest_2_does = refl

guest_3 : List Answered
guest_3 =
    record { deed = deeds.Call (method 5) (Some (object 7)) []; reply = replies.Unit }
    ∷ record { deed = deeds.Get (cell (object 7) 0); reply = replies.Value (values.Ref (object 5)) }
    ∷ record { deed = deeds.Enter (object 5) ways.Method; reply = replies.Unit }
    ∷ record { deed = deeds.Call (method 1) (Some (object 5)) []; reply = replies.Unit }
    ∷ record { deed = deeds.Get (cell (object 5) 0); reply = replies.Value (values.Int (pos 0)) }
    ∷ record { deed = deeds.Put (cell (object 5) 0) (values.Int (pos 1)); reply = replies.Unit }
    ∷ record { deed = deeds.NotifyAll (object 5); reply = replies.Unit }
    ∷ record { deed = deeds.Leave (method 1) (leaves.Normal None); reply = replies.Unit }
    ∷ record { deed = deeds.Exit (object 5); reply = replies.Unit }
    ∷ record { deed = deeds.Leave (method 5) (leaves.Normal None); reply = replies.Unit }
    ∷ record { deed = deeds.End ends.Normal; reply = replies.Unit }
    ∷ []

guest_3_does : does box (Some (record { method = (method 5); this = (Some (object 7)) })) guest_3 ≡ each_of guest_3 Ended
unfolding box guest_3 int_wrap
guest_3_does = refl
