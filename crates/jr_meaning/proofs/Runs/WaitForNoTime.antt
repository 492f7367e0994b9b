-- A program and its run by the serial rule with seed 0.
--     class Z {
--       public static void main(String[] args) throws InterruptedException {
--         Object o = new Object();
--         synchronized (o) { o.wait(0); System.out.println("late"); }
--       }
--     }
use Rattle.std.specs.Prelude.{◌≡◌, pos, true, false, List, [], ◌∷◌, None}
use Rattle.jr_base.specs.Deed.{Deed}
use Rattle.jr_base.specs.Deed as deeds
use Rattle.jr_base.specs.declared.action.NewKind.TheVariants as makes
use Rattle.jr_base.specs.declared.action.Reply.TheVariants as replies
use Rattle.jr_base.specs.declared.action.Way.TheVariants as ways
use Rattle.jr_base.specs.declared.finish.Finish.{Finish}
use Rattle.jr_base.specs.declared.finish.Finish.TheVariants as finishes
use Rattle.jr_base.specs.declared.kind.SlotKind.TheVariants as kinds
use Rattle.jr_arith.specs.declared.operator.Width.TheVariants as widths
use Rattle.jr_program.specs.Programs as code
use Rattle.jr_program.specs.Programs.{Program}
use Rattle.jr_meaning.specs.Event.{Event}
use Rattle.jr_meaning.specs.Right.{IsRightRun}
use Rattle.jr_meaning.specs.Serial.{serial}
use Rattle.jr_meaning.proofs.SerialRuns.{serial-right}
use Rattle.jr_meaning.proofs.Runs.{made}
use Rattle.std.proofs.Common.{refl, subst}
use Rattle.std.specs.Int.{int_wrap}

abbrev pub program : Program
program = record {
  classes =
      record { name = []; extends_thread = false; implements_runnable = false; run = None; constructor = None }
      ∷ [];
  fields = [];
  methods =
      record {
        name = [];
        class = (record { 0 = 0 });
        is_static = true;
        is_constructor = false;
        is_synchronized = false;
        is_helper = false;
        formals = [];
        locals = (kinds.Ref ∷ []);
        result = None;
        body = (code.Then (code.Declare 0 code.NewPlain) (code.Synchronized (code.Read (code.Local 0)) (code.Then (code.Do (code.WaitFor (code.Read (code.Local 0)) (code.Convert widths.Long (code.Number widths.Int (pos 0))))) (code.Println ((code.Literal (record { 0 = 0 })) ∷ [])))));
      }
      ∷ [];
  clauses = [];
  notes = [];
  texts = ((108 ∷ 97 ∷ 116 ∷ 101 ∷ []) ∷ []);
  main = (record { 0 = 0 });
}

abbrev pub journal : List Event
journal =
    made 1 (deeds.Call (record { 0 = 0 }) None []) replies.Unit
    ∷ made 1 (deeds.New makes.Plain) (replies.Made (record { 0 = 2 }))
    ∷ made 1 (deeds.Enter (record { 0 = 2 }) ways.Block) replies.Unit
    ∷ made 1 (deeds.Wait (record { 0 = 2 })) replies.Unit
    ∷ []

abbrev pub finish : Finish
finish = finishes.Deadlock

pub is_serial : serial program 200000 0 0 ≡ record { history = journal; finish = finish }
unfolding int_wrap
is_serial = refl

pub is_right : IsRightRun program 200000 (record { history = journal; finish = finish })
is_right = subst (IsRightRun program 200000) is_serial (serial-right program 200000 0 0)
