-- A program and its run by the serial rule with seed 0.
--     class C extends Thread {
--       static int c;
--       public void run() { c = c + 1; }
--       //@ ensures c == \old(c) + 1;
--       static void up(C t) {
--         t.start();
--         c = c + 1;
--         try { t.join(); } catch (InterruptedException e) { }
--       }
--       public static void main(String[] args) { up(new C()); }
--     }
use Rattle.std.specs.Prelude.{◌≡◌, pos, true, false, List, [], ◌∷◌, Some, None}
use Rattle.jr_base.specs.Deed.{Deed}
use Rattle.jr_base.specs.Deed as deeds
use Rattle.jr_base.specs.declared.action.NewKind.TheVariants as makes
use Rattle.jr_base.specs.declared.action.Reply.TheVariants as replies
use Rattle.jr_base.specs.declared.action.LeaveHow.TheVariants as leaves
use Rattle.jr_base.specs.declared.action.EndHow.TheVariants as ends
use Rattle.jr_base.specs.declared.value.Value.TheVariants as values
use Rattle.jr_base.specs.declared.finish.Fault.TheVariants as faults
use Rattle.jr_base.specs.declared.finish.Verdict.TheVariants as verdicts
use Rattle.jr_base.specs.declared.finish.Finish.{Finish}
use Rattle.jr_base.specs.declared.finish.Finish.TheVariants as finishes
use Rattle.jr_base.specs.declared.kind.SlotKind.TheVariants as kinds
use Rattle.jr_arith.specs.declared.operator.Width.TheVariants as widths
use Rattle.jr_arith.specs.declared.operator.Arithmetic.TheVariants as arithmetics
use Rattle.jr_arith.specs.declared.operator.Comparison.TheVariants as comparisons
use Rattle.jr_program.specs.declared.words.Mode.TheVariants as modes
use Rattle.jr_arith.specs.declared.operator.Binary.TheVariants as binaries
use Rattle.jr_base.specs.declared.kind.ObjectCall.TheVariants as calls
use Rattle.jr_program.specs.declared.words.ClauseKind.TheVariants as clauses
use Rattle.jr_program.specs.Clauses as specs
use Rattle.jr_program.specs.Programs as code
use Rattle.jr_program.specs.Programs.{Program}
use Rattle.jr_meaning.specs.Event.{Event}
use Rattle.jr_meaning.specs.Right.{IsRightRun}
use Rattle.jr_meaning.specs.Serial.{serial}
use Rattle.jr_meaning.proofs.SerialRuns.{serial-right}
use Rattle.jr_meaning.proofs.Runs.{made, judged}
use Rattle.std.proofs.Common.{refl, subst}
use Rattle.std.specs.Int.{int_wrap}

abbrev pub program : Program
program = record {
  classes =
      record { name = []; extends_thread = true; implements_runnable = false; run = (Some (record { 0 = 0 })); constructor = None }
      ∷ [];
  fields =
      record { class = (record { 0 = 0 }); is_static = true; is_volatile = false; kind = kinds.Int; constant = (values.Int (pos 0)) }
      ∷ [];
  methods =
      record {
        name = [];
        class = (record { 0 = 0 });
        is_static = false;
        is_constructor = false;
        is_synchronized = false;
        is_helper = false;
        formals = [];
        locals = [];
        result = None;
        body = (code.Do (code.Evaluate (code.Assign (code.StaticField (record { 0 = 0 })) (code.Binary (binaries.Arithmetic arithmetics.Add widths.Int) (code.Read (code.StaticField (record { 0 = 0 }))) (code.Number widths.Int (pos 1))))));
      }
      ∷ record {
        name = [];
        class = (record { 0 = 0 });
        is_static = true;
        is_constructor = false;
        is_synchronized = false;
        is_helper = false;
        formals = (kinds.Ref ∷ []);
        locals = (kinds.Caught ∷ []);
        result = None;
        body = (code.Then (code.Do (code.CallObject calls.Start (code.Read (code.Local 0)))) (code.Then (code.Do (code.Evaluate (code.Assign (code.StaticField (record { 0 = 0 })) (code.Binary (binaries.Arithmetic arithmetics.Add widths.Int) (code.Read (code.StaticField (record { 0 = 0 }))) (code.Number widths.Int (pos 1)))))) (code.Try (code.Do (code.CallObject calls.Join (code.Read (code.Local 0)))) (code.or_catch faults.InterruptedException 1 code.Skip code.no_catch))));
      }
      ∷ record {
        name = [];
        class = (record { 0 = 0 });
        is_static = true;
        is_constructor = false;
        is_synchronized = false;
        is_helper = false;
        formals = [];
        locals = [];
        result = None;
        body = (code.Do (code.Invoke (code.CallStatic (record { 0 = 1 }) (code.and_then (code.NewObject (record { 0 = 0 }) code.no_more) code.no_more))));
      }
      ∷ [];
  clauses =
      record { kind = clauses.Ensures; owner = (specs.OfMethod (record { 0 = 1 })); mode = modes.Java; is_static = true; place = record { line = 4; column = 7 }; states = ((specs.Binary (binaries.Compare comparisons.Equal widths.Int) (specs.StaticField (record { 0 = 0 }) (record { obj = (record { 0 = 1 }); slot = 0 })) (specs.Binary (binaries.Arithmetic arithmetics.Add widths.Int) (specs.Old (specs.StaticField (record { 0 = 0 }) (record { obj = (record { 0 = 1 }); slot = 0 }))) (specs.Number widths.Int (pos 1)))) ∷ []) }
      ∷ [];
  notes = [];
  texts = [];
  main = (record { 0 = 2 });
}

abbrev pub journal : List Event
journal =
    made 1 (deeds.Call (record { 0 = 2 }) None []) replies.Unit
    ∷ made 1 (deeds.New (makes.Object (record { 0 = 0 }))) (replies.Made (record { 0 = 2 }))
    ∷ made 1 (deeds.Call (record { 0 = 1 }) None ((values.Ref (record { 0 = 2 })) ∷ [])) replies.Unit
    ∷ made 1 (deeds.Start (record { 0 = 2 })) (replies.Started (record { 0 = 2 }) (Some (record { method = (record { 0 = 0 }); this = (Some (record { 0 = 2 })) })))
    ∷ made 1 (deeds.Get (record { obj = (record { 0 = 1 }); slot = 0 })) (replies.Value (values.Int (pos 0)))
    ∷ made 1 (deeds.Put (record { obj = (record { 0 = 1 }); slot = 0 }) (values.Int (pos 1))) replies.Unit
    ∷ made 2 (deeds.Call (record { 0 = 0 }) (Some (record { 0 = 2 })) []) replies.Unit
    ∷ made 2 (deeds.Get (record { obj = (record { 0 = 1 }); slot = 0 })) (replies.Value (values.Int (pos 1)))
    ∷ made 2 (deeds.Put (record { obj = (record { 0 = 1 }); slot = 0 }) (values.Int (pos 2))) replies.Unit
    ∷ made 2 (deeds.Leave (record { 0 = 0 }) (leaves.Normal None)) replies.Unit
    ∷ made 2 (deeds.End ends.Normal) replies.Unit
    ∷ made 1 (deeds.Join (record { 0 = 2 })) replies.Unit
    ∷ made 1 (deeds.Leave (record { 0 = 1 }) (leaves.Normal None)) replies.Unit
    ∷ judged 12 0 verdicts.False
    ∷ made 1 (deeds.Leave (record { 0 = 2 }) (leaves.Normal None)) replies.Unit
    ∷ made 1 (deeds.End ends.Normal) replies.Unit
    ∷ []

abbrev pub finish : Finish
finish = finishes.Finished

pub is_serial : serial program 200000 0 0 ≡ record { history = journal; finish = finish }
unfolding int_wrap
is_serial = refl

pub is_right : IsRightRun program 200000 (record { history = journal; finish = finish })
is_right = subst (IsRightRun program 200000) is_serial (serial-right program 200000 0 0)
