-- A program and its run by the serial rule with seed 0.
--     class K extends Thread {
--       static Object a, b, c;
--       public void run() {
--         synchronized (b) {
--           synchronized (c) { c.notify(); }
--           synchronized (a) { }
--         }
--       }
--       public static void main(String[] args) throws InterruptedException {
--         a = new Object(); b = new Object(); c = new Object();
--         synchronized (a) {
--           synchronized (c) { new K().start(); c.wait(); }
--           synchronized (b) { }
--         }
--       }
--     }
use Rattle.std.specs.Prelude.{◌≡◌, true, false, List, [], ◌∷◌, Some, None}
use Rattle.jr_base.specs.Deed.{Deed}
use Rattle.jr_base.specs.Deed as deeds
use Rattle.jr_base.specs.declared.action.NewKind.TheVariants as makes
use Rattle.jr_base.specs.declared.action.Reply.TheVariants as replies
use Rattle.jr_base.specs.declared.action.Way.TheVariants as ways
use Rattle.jr_base.specs.declared.value.Value.TheVariants as values
use Rattle.jr_base.specs.declared.finish.Finish.{Finish}
use Rattle.jr_base.specs.declared.finish.Finish.TheVariants as finishes
use Rattle.jr_base.specs.declared.kind.SlotKind.TheVariants as kinds
use Rattle.jr_base.specs.declared.kind.ObjectCall.TheVariants as calls
use Rattle.jr_program.specs.Programs as code
use Rattle.jr_program.specs.Programs.{Program}
use Rattle.jr_meaning.specs.Event.{Event}
use Rattle.jr_meaning.specs.Right.{IsRightRun}
use Rattle.jr_meaning.specs.Serial.{serial}
use Rattle.jr_meaning.proofs.SerialRuns.{serial-right}
use Rattle.jr_meaning.proofs.Runs.{made}
use Rattle.std.proofs.Common.{refl, subst}
use Rattle.std.specs.Int.{int_wrap}

abbrev pub program : Program
program = record {
  classes =
      record { name = []; extends_thread = true; implements_runnable = false; run = (Some (record { 0 = 0 })); constructor = None }
      ∷ [];
  fields =
      record { class = (record { 0 = 0 }); is_static = true; is_volatile = false; kind = kinds.Ref; constant = values.Null }
      ∷ record { class = (record { 0 = 0 }); is_static = true; is_volatile = false; kind = kinds.Ref; constant = values.Null }
      ∷ record { class = (record { 0 = 0 }); is_static = true; is_volatile = false; kind = kinds.Ref; constant = values.Null }
      ∷ [];
  methods =
      record {
        name = [];
        class = (record { 0 = 0 });
        is_static = false;
        is_constructor = false;
        is_synchronized = false;
        is_helper = false;
        formals = [];
        locals = [];
        result = None;
        body = (code.Synchronized (code.Read (code.StaticField (record { 0 = 1 }))) (code.Then (code.Synchronized (code.Read (code.StaticField (record { 0 = 2 }))) (code.Do (code.CallObject calls.Notify (code.Read (code.StaticField (record { 0 = 2 })))))) (code.Synchronized (code.Read (code.StaticField (record { 0 = 0 }))) code.Skip)));
      }
      ∷ record {
        name = [];
        class = (record { 0 = 0 });
        is_static = true;
        is_constructor = false;
        is_synchronized = false;
        is_helper = false;
        formals = [];
        locals = [];
        result = None;
        body = (code.Then (code.Do (code.Evaluate (code.Assign (code.StaticField (record { 0 = 0 })) code.NewPlain))) (code.Then (code.Do (code.Evaluate (code.Assign (code.StaticField (record { 0 = 1 })) code.NewPlain))) (code.Then (code.Do (code.Evaluate (code.Assign (code.StaticField (record { 0 = 2 })) code.NewPlain))) (code.Synchronized (code.Read (code.StaticField (record { 0 = 0 }))) (code.Then (code.Synchronized (code.Read (code.StaticField (record { 0 = 2 }))) (code.Then (code.Do (code.CallObject calls.Start (code.NewObject (record { 0 = 0 }) code.no_more))) (code.Do (code.CallObject calls.Wait (code.Read (code.StaticField (record { 0 = 2 }))))))) (code.Synchronized (code.Read (code.StaticField (record { 0 = 1 }))) code.Skip))))));
      }
      ∷ [];
  clauses = [];
  notes = [];
  texts = [];
  main = (record { 0 = 1 });
}

abbrev pub journal : List Event
journal =
    made 1 (deeds.Call (record { 0 = 1 }) None []) replies.Unit
    ∷ made 1 (deeds.New makes.Plain) (replies.Made (record { 0 = 2 }))
    ∷ made 1 (deeds.Put (record { obj = (record { 0 = 1 }); slot = 0 }) (values.Ref (record { 0 = 2 }))) replies.Unit
    ∷ made 1 (deeds.New makes.Plain) (replies.Made (record { 0 = 3 }))
    ∷ made 1 (deeds.Put (record { obj = (record { 0 = 1 }); slot = 1 }) (values.Ref (record { 0 = 3 }))) replies.Unit
    ∷ made 1 (deeds.New makes.Plain) (replies.Made (record { 0 = 4 }))
    ∷ made 1 (deeds.Put (record { obj = (record { 0 = 1 }); slot = 2 }) (values.Ref (record { 0 = 4 }))) replies.Unit
    ∷ made 1 (deeds.Get (record { obj = (record { 0 = 1 }); slot = 0 })) (replies.Value (values.Ref (record { 0 = 2 })))
    ∷ made 1 (deeds.Enter (record { 0 = 2 }) ways.Block) replies.Unit
    ∷ made 1 (deeds.Get (record { obj = (record { 0 = 1 }); slot = 2 })) (replies.Value (values.Ref (record { 0 = 4 })))
    ∷ made 1 (deeds.Enter (record { 0 = 4 }) ways.Block) replies.Unit
    ∷ made 1 (deeds.New (makes.Object (record { 0 = 0 }))) (replies.Made (record { 0 = 5 }))
    ∷ made 1 (deeds.Start (record { 0 = 5 })) (replies.Started (record { 0 = 2 }) (Some (record { method = (record { 0 = 0 }); this = (Some (record { 0 = 5 })) })))
    ∷ made 1 (deeds.Get (record { obj = (record { 0 = 1 }); slot = 2 })) (replies.Value (values.Ref (record { 0 = 4 })))
    ∷ made 1 (deeds.Wait (record { 0 = 4 })) replies.Unit
    ∷ made 2 (deeds.Call (record { 0 = 0 }) (Some (record { 0 = 5 })) []) replies.Unit
    ∷ made 2 (deeds.Get (record { obj = (record { 0 = 1 }); slot = 1 })) (replies.Value (values.Ref (record { 0 = 3 })))
    ∷ made 2 (deeds.Enter (record { 0 = 3 }) ways.Block) replies.Unit
    ∷ made 2 (deeds.Get (record { obj = (record { 0 = 1 }); slot = 2 })) (replies.Value (values.Ref (record { 0 = 4 })))
    ∷ made 2 (deeds.Enter (record { 0 = 4 }) ways.Block) replies.Unit
    ∷ made 2 (deeds.Get (record { obj = (record { 0 = 1 }); slot = 2 })) (replies.Value (values.Ref (record { 0 = 4 })))
    ∷ made 2 (deeds.Notify (record { 0 = 4 })) (replies.Woke (record { 0 = 1 }))
    ∷ made 2 (deeds.Exit (record { 0 = 4 })) replies.Unit
    ∷ made 1 (deeds.Resume (record { 0 = 4 })) replies.Unit
    ∷ made 1 (deeds.Exit (record { 0 = 4 })) replies.Unit
    ∷ made 1 (deeds.Get (record { obj = (record { 0 = 1 }); slot = 1 })) (replies.Value (values.Ref (record { 0 = 3 })))
    ∷ made 2 (deeds.Get (record { obj = (record { 0 = 1 }); slot = 0 })) (replies.Value (values.Ref (record { 0 = 2 })))
    ∷ []

abbrev pub finish : Finish
finish = finishes.Deadlock

pub is_serial : serial program 200000 0 0 ≡ record { history = journal; finish = finish }
unfolding int_wrap
is_serial = refl

pub is_right : IsRightRun program 200000 (record { history = journal; finish = finish })
is_right = subst (IsRightRun program 200000) is_serial (serial-right program 200000 0 0)
