-- A thread writes a field between a call and its return.
use Rattle.std.proofs.Common.{◌≡◌, List, [], ◌∷◌, refl, None, Some, pos, true, false}
use Rattle.std.specs.Int.{int_wrap}
use Rattle.jr_base.specs.declared.action.Reply.TheVariants as replies
use Rattle.jr_base.specs.declared.action.LeaveHow.TheVariants as leaves
use Rattle.jr_base.specs.declared.action.EndHow.TheVariants as ends
use Rattle.jr_base.specs.declared.action.NewKind.TheVariants as kinds
use Rattle.jr_base.specs.declared.value.Value.TheVariants as values
use Rattle.jr_base.specs.declared.finish.Fault.TheVariants as faults
use Rattle.jr_base.specs.Deed as deeds
use Rattle.jr_base.specs.declared.kind.SlotKind.TheVariants as kind
use Rattle.jr_arith.specs.declared.operator.Width.TheVariants as width
use Rattle.jr_arith.specs.declared.operator.Arithmetic.TheVariants as arithmetic
use Rattle.jr_arith.specs.declared.operator.Comparison.TheVariants as compare
use Rattle.jr_arith.specs.declared.operator.Binary.TheVariants as binary
use Rattle.jr_base.specs.declared.kind.ObjectCall.TheVariants as calls
use Rattle.jr_program.specs.declared.words.ClauseKind.TheVariants as clauses
use Rattle.jr_program.specs.declared.words.Mode.TheVariants as modes
use Rattle.jr_program.specs.Clauses as spec
use Rattle.jr_program.specs.Programs.{Program, Number, Read, Binary, Assign, NewObject, Local, StaticField, CallStatic, no_more, and_then, no_catch, or_catch, Skip, Then, Evaluate, Invoke, CallObject, Do, Try}
use Rattle.jr_meaning.specs.Next.{Ended}
use Rattle.jr_meaning.specs.Objects.{cell}
use Rattle.jr_meaning.proofs.Guest.{Answered, class, field, method, object, guest, does, each_of}

--   class C extends Thread {
--     static int c;
--     public void run() { c = c + 1; }
--     //@ ensures c == \old(c) + 1;
--     static void up(C t) {
--       t.start();
--       c = c + 1;
--       try { t.join(); } catch (InterruptedException e) { }
--     }
--     public static void main(String[] args) { up(new C()); }
--   }
counting : Program
counting = record {
  classes =
      record { name = []; extends_thread = true; implements_runnable = false; run = (Some (method 0)); constructor = None }
      ∷ [];
  fields =
      record { class = (class 0); is_static = true; is_volatile = false; kind = kind.Int; constant = (values.Int (pos 0)) }
      ∷ [];
  methods =
      record {
        name = [];
        class = (class 0);
        is_static = false;
        is_constructor = false;
        is_synchronized = false;
        is_helper = false;
        formals = [];
        locals = [];
        result = None;
        body = (Do (Evaluate (Assign (StaticField (field 0)) (Binary (binary.Arithmetic arithmetic.Add width.Int) (Read (StaticField (field 0))) (Number width.Int (pos 1))))));
      }
      ∷ record {
        name = [];
        class = (class 0);
        is_static = true;
        is_constructor = false;
        is_synchronized = false;
        is_helper = false;
        formals = (kind.Ref ∷ []);
        locals = (kind.Caught ∷ []);
        result = None;
        body = (Then (Do (CallObject calls.Start (Read (Local 0)))) (Then (Do (Evaluate (Assign (StaticField (field 0)) (Binary (binary.Arithmetic arithmetic.Add width.Int) (Read (StaticField (field 0))) (Number width.Int (pos 1)))))) (Try (Do (CallObject calls.Join (Read (Local 0)))) (or_catch faults.InterruptedException 1 Skip no_catch))));
      }
      ∷ record {
        name = [];
        class = (class 0);
        is_static = true;
        is_constructor = false;
        is_synchronized = false;
        is_helper = false;
        formals = [];
        locals = [];
        result = None;
        body = (Do (Invoke (CallStatic (method 1) (and_then (NewObject (class 0) no_more) no_more))));
      }
      ∷ [];
  clauses =
      record { kind = clauses.Ensures; owner = (spec.OfMethod (method 1)); mode = modes.Java; is_static = true; place = record { line = 4; column = 7 }; states = ((spec.Binary (binary.Compare compare.Equal width.Int) (spec.StaticField (field 0) (cell (object 1) 0)) (spec.Binary (binary.Arithmetic arithmetic.Add width.Int) (spec.Old (spec.StaticField (field 0) (cell (object 1) 0))) (spec.Number width.Int (pos 1)))) ∷ []) }
      ∷ [];
  notes = [];
  texts = [];
  main = (method 2);
}

guest_1 : List Answered
guest_1 =
    record { deed = deeds.Call (method 2) None []; reply = replies.Unit }
    ∷ record { deed = deeds.New (kinds.Object (class 0)); reply = replies.Made (object 2) }
    ∷ record { deed = deeds.Call (method 1) None ((values.Ref (object 2)) ∷ []); reply = replies.Unit }
    ∷ record { deed = deeds.Start (object 2); reply = replies.Started (guest 2) (Some (record { method = (method 0); this = (Some (object 2)) })) }
    ∷ record { deed = deeds.Get (cell (object 1) 0); reply = replies.Value (values.Int (pos 0)) }
    ∷ record { deed = deeds.Put (cell (object 1) 0) (values.Int (pos 1)); reply = replies.Unit }
    ∷ record { deed = deeds.Join (object 2); reply = replies.Unit }
    ∷ record { deed = deeds.Leave (method 1) (leaves.Normal None); reply = replies.Unit }
    ∷ record { deed = deeds.Leave (method 2) (leaves.Normal None); reply = replies.Unit }
    ∷ record { deed = deeds.End ends.Normal; reply = replies.Unit }
    ∷ []

guest_1_does : does counting (Some (record { method = (method 2); this = None })) guest_1 ≡ each_of guest_1 Ended
unfolding counting guest_1 int_wrap
guest_1_does = refl

guest_2 : List Answered
guest_2 =
    record { deed = deeds.Call (method 0) (Some (object 2)) []; reply = replies.Unit }
    ∷ record { deed = deeds.Get (cell (object 1) 0); reply = replies.Value (values.Int (pos 1)) }
    ∷ record { deed = deeds.Put (cell (object 1) 0) (values.Int (pos 2)); reply = replies.Unit }
    ∷ record { deed = deeds.Leave (method 0) (leaves.Normal None); reply = replies.Unit }
    ∷ record { deed = deeds.End ends.Normal; reply = replies.Unit }
    ∷ []

guest_2_does : does counting (Some (record { method = (method 0); this = (Some (object 2)) })) guest_2 ≡ each_of guest_2 Ended
unfolding counting guest_2 int_wrap
guest_2_does = refl
