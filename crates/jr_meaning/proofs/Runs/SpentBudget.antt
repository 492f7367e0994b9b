-- A program and its run by the serial rule with seed 0.
--     class T extends Thread {
--       public void run() { synchronized (T.class) { T.class.wait(1); } }
--       public static void main(String[] args) throws InterruptedException {
--         new T().start();
--         synchronized (T.class) { T.class.wait(7); }
--       }
--     }
use Rattle.std.specs.Prelude.{◌≡◌, pos, true, false, List, [], ◌∷◌, Some, None}
use Rattle.jr_base.specs.Deed.{Deed}
use Rattle.jr_base.specs.Deed as deeds
use Rattle.jr_base.specs.declared.action.NewKind.TheVariants as makes
use Rattle.jr_base.specs.declared.action.Reply.TheVariants as replies
use Rattle.jr_base.specs.declared.action.Way.TheVariants as ways
use Rattle.jr_base.specs.declared.finish.Finish.{Finish}
use Rattle.jr_base.specs.declared.finish.Finish.TheVariants as finishes
use Rattle.jr_arith.specs.declared.operator.Width.TheVariants as widths
use Rattle.jr_base.specs.declared.kind.ObjectCall.TheVariants as calls
use Rattle.jr_program.specs.Programs as code
use Rattle.jr_program.specs.Programs.{Program}
use Rattle.jr_meaning.specs.Event.{Event}
use Rattle.jr_meaning.specs.Right.{IsRightRun}
use Rattle.jr_meaning.specs.Serial.{serial}
use Rattle.jr_meaning.proofs.SerialRuns.{serial-right}
use Rattle.jr_meaning.proofs.Runs.{made, woke}
use Rattle.std.proofs.Common.{refl, subst}
use Rattle.std.specs.Int.{int_wrap}

abbrev pub program : Program
program = record {
  classes =
      record { name = []; extends_thread = true; implements_runnable = false; run = (Some (record { 0 = 0 })); constructor = None }
      ∷ [];
  fields = [];
  methods =
      record {
        name = [];
        class = (record { 0 = 0 });
        is_static = false;
        is_constructor = false;
        is_synchronized = false;
        is_helper = false;
        formals = [];
        locals = [];
        result = None;
        body = (code.Synchronized (code.ClassObject (record { 0 = 0 })) (code.Do (code.WaitFor (code.ClassObject (record { 0 = 0 })) (code.Convert widths.Long (code.Number widths.Int (pos 1))))));
      }
      ∷ record {
        name = [];
        class = (record { 0 = 0 });
        is_static = true;
        is_constructor = false;
        is_synchronized = false;
        is_helper = false;
        formals = [];
        locals = [];
        result = None;
        body = (code.Then (code.Do (code.CallObject calls.Start (code.NewObject (record { 0 = 0 }) code.no_more))) (code.Synchronized (code.ClassObject (record { 0 = 0 })) (code.Do (code.WaitFor (code.ClassObject (record { 0 = 0 })) (code.Convert widths.Long (code.Number widths.Int (pos 7)))))));
      }
      ∷ [];
  clauses = [];
  notes = [];
  texts = [];
  main = (record { 0 = 1 });
}

abbrev pub journal : List Event
journal =
    made 1 (deeds.Call (record { 0 = 1 }) None []) replies.Unit
    ∷ made 1 (deeds.New (makes.Object (record { 0 = 0 }))) (replies.Made (record { 0 = 2 }))
    ∷ made 1 (deeds.Start (record { 0 = 2 })) (replies.Started (record { 0 = 2 }) (Some (record { method = (record { 0 = 0 }); this = (Some (record { 0 = 2 })) })))
    ∷ made 1 (deeds.Enter (record { 0 = 1 }) ways.Block) replies.Unit
    ∷ made 1 (deeds.TimedWait (record { 0 = 1 })) replies.Unit
    ∷ made 2 (deeds.Call (record { 0 = 0 }) (Some (record { 0 = 2 })) []) replies.Unit
    ∷ made 2 (deeds.Enter (record { 0 = 1 }) ways.Block) replies.Unit
    ∷ made 2 (deeds.TimedWait (record { 0 = 1 })) replies.Unit
    ∷ woke 1
    ∷ made 1 (deeds.Resume (record { 0 = 1 })) replies.Unit
    ∷ made 1 (deeds.Exit (record { 0 = 1 })) replies.Unit
    ∷ []

abbrev pub finish : Finish
finish = (finishes.Budget 10)

pub is_serial : serial program 10 0 0 ≡ record { history = journal; finish = finish }
unfolding int_wrap
is_serial = refl

pub is_right : IsRightRun program 10 (record { history = journal; finish = finish })
is_right = subst (IsRightRun program 10) is_serial (serial-right program 10 0 0)
