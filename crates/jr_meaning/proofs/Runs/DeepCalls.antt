-- A program and its run by the serial rule with seed 0.
--     class R {
--       //@ requires d >= 0;
--       static void f(int d) { f(d + 1); }
--       public static void main(String[] args) { f(0); }
--     }
use Rattle.std.specs.Prelude.{◌≡◌, ◌+◌, ℕ, zero, suc, pos, true, false, List, [], ◌∷◌, None}
use Rattle.jr_base.specs.Deed.{Deed}
use Rattle.jr_base.specs.Deed as deeds
use Rattle.jr_base.specs.declared.action.Reply.TheVariants as replies
use Rattle.jr_base.specs.declared.value.Value.TheVariants as values
use Rattle.jr_base.specs.declared.finish.Verdict.TheVariants as verdicts
use Rattle.jr_base.specs.declared.finish.Finish.{Finish}
use Rattle.jr_base.specs.declared.finish.Finish.TheVariants as finishes
use Rattle.jr_base.specs.declared.finish.LimitKind.TheVariants as limits
use Rattle.jr_base.specs.declared.kind.SlotKind.TheVariants as kinds
use Rattle.jr_arith.specs.declared.operator.Width.TheVariants as widths
use Rattle.jr_arith.specs.declared.operator.Arithmetic.TheVariants as arithmetics
use Rattle.jr_arith.specs.declared.operator.Comparison.TheVariants as comparisons
use Rattle.jr_program.specs.declared.words.Mode.TheVariants as modes
use Rattle.jr_arith.specs.declared.operator.Binary.TheVariants as binaries
use Rattle.jr_program.specs.declared.words.ClauseKind.TheVariants as clauses
use Rattle.jr_program.specs.Clauses as specs
use Rattle.jr_program.specs.Programs as code
use Rattle.jr_program.specs.Programs.{Program}
use Rattle.jr_meaning.specs.Event.{Event}
use Rattle.jr_meaning.specs.Right.{IsRightRun}
use Rattle.jr_meaning.specs.Serial.{serial}
use Rattle.jr_meaning.proofs.SerialRuns.{serial-right}
use Rattle.jr_meaning.proofs.Runs.{made, judged}
use Rattle.std.proofs.Common.{refl, subst}
use Rattle.std.specs.Int.{int_wrap}

abbrev pub program : Program
program = record {
  classes =
      record { name = []; extends_thread = false; implements_runnable = false; run = None; constructor = None }
      ∷ [];
  fields = [];
  methods =
      record {
        name = [];
        class = (record { 0 = 0 });
        is_static = true;
        is_constructor = false;
        is_synchronized = false;
        is_helper = false;
        formals = (kinds.Int ∷ []);
        locals = [];
        result = None;
        body = (code.Do (code.Invoke (code.CallStatic (record { 0 = 0 }) (code.and_then (code.Binary (binaries.Arithmetic arithmetics.Add widths.Int) (code.Read (code.Local 0)) (code.Number widths.Int (pos 1))) code.no_more))));
      }
      ∷ record {
        name = [];
        class = (record { 0 = 0 });
        is_static = true;
        is_constructor = false;
        is_synchronized = false;
        is_helper = false;
        formals = [];
        locals = [];
        result = None;
        body = (code.Do (code.Invoke (code.CallStatic (record { 0 = 0 }) (code.and_then (code.Number widths.Int (pos 0)) code.no_more))));
      }
      ∷ [];
  clauses =
      record { kind = clauses.Requires; owner = (specs.OfMethod (record { 0 = 0 })); mode = modes.Java; is_static = true; place = record { line = 2; column = 7 }; states = ((specs.Binary (binaries.Compare comparisons.GreaterEqual widths.Int) (specs.Variable 0) (specs.Number widths.Int (pos 0))) ∷ []) }
      ∷ [];
  notes = [];
  texts = [];
  main = (record { 0 = 1 });
}

-- so many calls, each with its number
abbrev descends : ℕ → ℕ → List Event
descends zero n = []
descends (suc more) n = made 1 (deeds.Call (record { 0 = 0 }) None (values.Int (pos n) ∷ [])) replies.Unit ∷ (judged (n + 1) 0 verdicts.True ∷ descends more (n + 1))

abbrev pub journal : List Event
journal = made 1 (deeds.Call (record { 0 = 1 }) None []) replies.Unit ∷ descends 255 0

abbrev pub finish : Finish
finish = (finishes.Limit limits.Frames (record { 0 = 1 }) 257)

pub is_serial : serial program 200000 0 0 ≡ record { history = journal; finish = finish }
unfolding int_wrap
is_serial = refl

pub is_right : IsRightRun program 200000 (record { history = journal; finish = finish })
is_right = subst (IsRightRun program 200000) is_serial (serial-right program 200000 0 0)
