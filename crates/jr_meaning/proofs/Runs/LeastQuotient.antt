-- A program and its run by the serial rule with seed 0.
--     class M {
--       //@ requires x / -1 == x;
--       static void f(int x) { System.out.println(x / -1); }
--       public static void main(String[] args) { f(-2147483648); }
--     }
use Rattle.std.specs.Prelude.{◌≡◌, negsuc, true, false, List, [], ◌∷◌, None}
use Rattle.jr_base.specs.Deed.{Deed}
use Rattle.jr_base.specs.Deed as deeds
use Rattle.jr_base.specs.declared.action.Reply.TheVariants as replies
use Rattle.jr_base.specs.declared.action.LeaveHow.TheVariants as leaves
use Rattle.jr_base.specs.declared.action.EndHow.TheVariants as ends
use Rattle.jr_base.specs.declared.action.PrintPart.TheVariants as shows
use Rattle.jr_base.specs.declared.value.Value.TheVariants as values
use Rattle.jr_base.specs.declared.finish.Verdict.TheVariants as verdicts
use Rattle.jr_base.specs.declared.finish.Finish.{Finish}
use Rattle.jr_base.specs.declared.finish.Finish.TheVariants as finishes
use Rattle.jr_base.specs.declared.kind.SlotKind.TheVariants as kinds
use Rattle.jr_arith.specs.declared.operator.Width.TheVariants as widths
use Rattle.jr_arith.specs.declared.operator.Arithmetic.TheVariants as arithmetics
use Rattle.jr_arith.specs.declared.operator.Comparison.TheVariants as comparisons
use Rattle.jr_program.specs.declared.words.Mode.TheVariants as modes
use Rattle.jr_arith.specs.declared.operator.Binary.TheVariants as binaries
use Rattle.jr_program.specs.declared.words.ClauseKind.TheVariants as clauses
use Rattle.jr_program.specs.Clauses as specs
use Rattle.jr_program.specs.Programs as code
use Rattle.jr_program.specs.Programs.{Program}
use Rattle.jr_meaning.specs.Event.{Event}
use Rattle.jr_meaning.specs.Right.{IsRightRun}
use Rattle.jr_meaning.specs.Serial.{serial}
use Rattle.jr_meaning.proofs.SerialRuns.{serial-right}
use Rattle.jr_meaning.proofs.Runs.{made, judged}
use Rattle.std.proofs.Common.{refl, subst}
use Rattle.std.specs.Int.{int_wrap}

abbrev pub program : Program
program = record {
  classes =
      record { name = []; extends_thread = false; implements_runnable = false; run = None; constructor = None }
      ∷ [];
  fields = [];
  methods =
      record {
        name = [];
        class = (record { 0 = 0 });
        is_static = true;
        is_constructor = false;
        is_synchronized = false;
        is_helper = false;
        formals = (kinds.Int ∷ []);
        locals = [];
        result = None;
        body = (code.Println ((code.Shown (code.Binary (binaries.Arithmetic arithmetics.Divide widths.Int) (code.Read (code.Local 0)) (code.Number widths.Int (negsuc 0)))) ∷ []));
      }
      ∷ record {
        name = [];
        class = (record { 0 = 0 });
        is_static = true;
        is_constructor = false;
        is_synchronized = false;
        is_helper = false;
        formals = [];
        locals = [];
        result = None;
        body = (code.Do (code.Invoke (code.CallStatic (record { 0 = 0 }) (code.and_then (code.Number widths.Int (negsuc 2147483647)) code.no_more))));
      }
      ∷ [];
  clauses =
      record { kind = clauses.Requires; owner = (specs.OfMethod (record { 0 = 0 })); mode = modes.Java; is_static = true; place = record { line = 2; column = 7 }; states = ((specs.Binary (binaries.Compare comparisons.Equal widths.Int) (specs.Binary (binaries.Arithmetic arithmetics.Divide widths.Int) (specs.Variable 0) (specs.Number widths.Int (negsuc 0))) (specs.Variable 0)) ∷ []) }
      ∷ [];
  notes = [];
  texts = [];
  main = (record { 0 = 1 });
}

abbrev pub journal : List Event
journal =
    made 1 (deeds.Call (record { 0 = 1 }) None []) replies.Unit
    ∷ made 1 (deeds.Call (record { 0 = 0 }) None ((values.Int (negsuc 2147483647)) ∷ [])) replies.Unit
    ∷ judged 1 0 verdicts.True
    ∷ made 1 (deeds.Print ((shows.Val (values.Int (negsuc 2147483647))) ∷ [])) replies.Unit
    ∷ made 1 (deeds.Leave (record { 0 = 0 }) (leaves.Normal None)) replies.Unit
    ∷ made 1 (deeds.Leave (record { 0 = 1 }) (leaves.Normal None)) replies.Unit
    ∷ made 1 (deeds.End ends.Normal) replies.Unit
    ∷ []

abbrev pub finish : Finish
finish = finishes.Finished

pub is_serial : serial program 200000 0 0 ≡ record { history = journal; finish = finish }
unfolding int_wrap
is_serial = refl

pub is_right : IsRightRun program 200000 (record { history = journal; finish = finish })
is_right = subst (IsRightRun program 200000) is_serial (serial-right program 200000 0 0)
