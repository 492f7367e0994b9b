-- A program and its run by the serial rule with seed 0.
--     /*@ spec_safe_math @*/ class S {
--       static long total;
--       //@ static invariant total + 1 > total;
--       //@ requires -x != x;
--       //@ requires x - 1 < x;
--       //@ requires x + 1 > x;
--       //@ requires x * 2 != x || x * -1 == 0;
--       //@ requires x / -1 != x;
--       //@ requires x % -1 == 0;
--       //@ requires (x << 1) != x && (x >>> 33L) >= 0 && ~x != x;
--       //@ requires -2147483648 <= x && x + 1L > x && -x - 1L < 9;
--       //@ requires 2147483647 - x >= 0;
--       //@ requires x * 65536 / 65536 == x;
--       static void ofInts(int x) { }
--       //@ requires -x != x;
--       //@ requires x - 1 < x;
--       //@ requires x + 1 > x;
--       //@ requires x * 2 != x || x * -1 == 0;
--       //@ requires x / -1 != x;
--       //@ requires x % -1 == 0;
--       //@ requires (x << 1) != x && (x >>> 33L) >= 0 && ~x != x;
--       //@ requires -9223372036854775808L <= x && -2147483648 != x;
--       //@ requires 9223372036854775807L - x >= 0;
--       //@ requires x * 65536 / 65536 == x;
--       static void ofLongs(long x) { }
--       //@ requires x + 1 > x;
--       //@ ensures \result == x + 1;
--       /*@ spec_java_math @*/ static long ofJava(long x) { return x + 1; }
--       static void asserts(int x) {
--         //@ assert x + 1 > x;
--         total = 9223372036854775807L;
--       }
--       public static void main(String[] args) {
--         ofInts(-2147483648); ofInts(2147483647); ofInts(-1); ofInts(32768);
--         ofLongs(-9223372036854775808L); ofLongs(9223372036854775807L); ofLongs(2147483648L); ofLongs(140737488355328L);
--         ofJava(9223372036854775807L);
--         asserts(2147483647);
--       }
--     }
use Rattle.std.specs.Prelude.{◌≡◌, pos, negsuc, true, false, List, [], ◌∷◌, Some, None}
use Rattle.jr_base.specs.Deed.{Deed}
use Rattle.jr_base.specs.Deed as deeds
use Rattle.jr_base.specs.declared.action.Reply.TheVariants as replies
use Rattle.jr_base.specs.declared.action.LeaveHow.TheVariants as leaves
use Rattle.jr_base.specs.declared.action.EndHow.TheVariants as ends
use Rattle.jr_base.specs.declared.value.Value.TheVariants as values
use Rattle.jr_base.specs.declared.finish.Verdict.TheVariants as verdicts
use Rattle.jr_base.specs.declared.finish.Finish.{Finish}
use Rattle.jr_base.specs.declared.finish.Finish.TheVariants as finishes
use Rattle.jr_base.specs.declared.kind.SlotKind.TheVariants as kinds
use Rattle.jr_arith.specs.declared.operator.Width.TheVariants as widths
use Rattle.jr_arith.specs.declared.operator.Arithmetic.TheVariants as arithmetics
use Rattle.jr_arith.specs.declared.operator.Shift.TheVariants as shifts
use Rattle.jr_arith.specs.declared.operator.Comparison.TheVariants as comparisons
use Rattle.jr_program.specs.declared.words.Mode.TheVariants as modes
use Rattle.jr_arith.specs.declared.operator.Unary.TheVariants as unaries
use Rattle.jr_arith.specs.declared.operator.Binary.TheVariants as binaries
use Rattle.jr_program.specs.declared.words.ClauseKind.TheVariants as clauses
use Rattle.jr_program.specs.Clauses as specs
use Rattle.jr_program.specs.Programs as code
use Rattle.jr_program.specs.Programs.{Program}
use Rattle.jr_meaning.specs.Event.{Event}
use Rattle.jr_meaning.specs.Right.{IsRightRun}
use Rattle.jr_meaning.specs.Serial.{serial}
use Rattle.jr_meaning.proofs.SerialRuns.{serial-right}
use Rattle.jr_meaning.proofs.Runs.{made, judged}
use Rattle.std.proofs.Common.{refl, subst}
use Rattle.std.specs.Int.{int_wrap}

abbrev pub program : Program
program = record {
  classes =
      record { name = []; extends_thread = false; implements_runnable = false; run = None; constructor = None }
      ∷ [];
  fields =
      record { class = (record { 0 = 0 }); is_static = true; is_volatile = false; kind = kinds.Long; constant = (values.Long (pos 0)) }
      ∷ [];
  methods =
      record {
        name = [];
        class = (record { 0 = 0 });
        is_static = true;
        is_constructor = false;
        is_synchronized = false;
        is_helper = false;
        formals = (kinds.Int ∷ []);
        locals = [];
        result = None;
        body = code.Skip;
      }
      ∷ record {
        name = [];
        class = (record { 0 = 0 });
        is_static = true;
        is_constructor = false;
        is_synchronized = false;
        is_helper = false;
        formals = (kinds.Long ∷ []);
        locals = [];
        result = None;
        body = code.Skip;
      }
      ∷ record {
        name = [];
        class = (record { 0 = 0 });
        is_static = true;
        is_constructor = false;
        is_synchronized = false;
        is_helper = false;
        formals = (kinds.Long ∷ []);
        locals = [];
        result = (Some kinds.Long);
        body = (code.ReturnValue (code.Binary (binaries.Arithmetic arithmetics.Add widths.Long) (code.Read (code.Local 0)) (code.Convert widths.Long (code.Number widths.Int (pos 1)))));
      }
      ∷ record {
        name = [];
        class = (record { 0 = 0 });
        is_static = true;
        is_constructor = false;
        is_synchronized = false;
        is_helper = false;
        formals = (kinds.Int ∷ []);
        locals = [];
        result = None;
        body = (code.Then (code.Assert (record { 0 = 24 }) (0 ∷ [])) (code.Do (code.Evaluate (code.Assign (code.StaticField (record { 0 = 0 })) (code.Number widths.Long (pos 9223372036854775807))))));
      }
      ∷ record {
        name = [];
        class = (record { 0 = 0 });
        is_static = true;
        is_constructor = false;
        is_synchronized = false;
        is_helper = false;
        formals = [];
        locals = [];
        result = None;
        body = (code.Then (code.Do (code.Invoke (code.CallStatic (record { 0 = 0 }) (code.and_then (code.Number widths.Int (negsuc 2147483647)) code.no_more)))) (code.Then (code.Do (code.Invoke (code.CallStatic (record { 0 = 0 }) (code.and_then (code.Number widths.Int (pos 2147483647)) code.no_more)))) (code.Then (code.Do (code.Invoke (code.CallStatic (record { 0 = 0 }) (code.and_then (code.Number widths.Int (negsuc 0)) code.no_more)))) (code.Then (code.Do (code.Invoke (code.CallStatic (record { 0 = 0 }) (code.and_then (code.Number widths.Int (pos 32768)) code.no_more)))) (code.Then (code.Do (code.Invoke (code.CallStatic (record { 0 = 1 }) (code.and_then (code.Number widths.Long (negsuc 9223372036854775807)) code.no_more)))) (code.Then (code.Do (code.Invoke (code.CallStatic (record { 0 = 1 }) (code.and_then (code.Number widths.Long (pos 9223372036854775807)) code.no_more)))) (code.Then (code.Do (code.Invoke (code.CallStatic (record { 0 = 1 }) (code.and_then (code.Number widths.Long (pos 2147483648)) code.no_more)))) (code.Then (code.Do (code.Invoke (code.CallStatic (record { 0 = 1 }) (code.and_then (code.Number widths.Long (pos 140737488355328)) code.no_more)))) (code.Then (code.Do (code.Evaluate (code.ResultOf (code.CallStatic (record { 0 = 2 }) (code.and_then (code.Number widths.Long (pos 9223372036854775807)) code.no_more))))) (code.Do (code.Invoke (code.CallStatic (record { 0 = 3 }) (code.and_then (code.Number widths.Int (pos 2147483647)) code.no_more)))))))))))));
      }
      ∷ [];
  clauses =
      record { kind = clauses.Invariant; owner = (specs.OfClass (record { 0 = 0 })); mode = modes.Safe; is_static = true; place = record { line = 3; column = 14 }; states = ((specs.Binary (binaries.Compare comparisons.Greater widths.Long) (specs.Binary (binaries.Arithmetic arithmetics.Add widths.Long) (specs.StaticField (record { 0 = 0 }) (record { obj = (record { 0 = 1 }); slot = 0 })) (specs.Convert widths.Long (specs.Number widths.Int (pos 1)))) (specs.StaticField (record { 0 = 0 }) (record { obj = (record { 0 = 1 }); slot = 0 }))) ∷ []) }
      ∷ record { kind = clauses.Requires; owner = (specs.OfMethod (record { 0 = 0 })); mode = modes.Safe; is_static = true; place = record { line = 4; column = 7 }; states = ((specs.Binary (binaries.Compare comparisons.NotEqual widths.Int) (specs.Unary (unaries.Negate widths.Int) (specs.Variable 0)) (specs.Variable 0)) ∷ []) }
      ∷ record { kind = clauses.Requires; owner = (specs.OfMethod (record { 0 = 0 })); mode = modes.Safe; is_static = true; place = record { line = 5; column = 7 }; states = ((specs.Binary (binaries.Compare comparisons.Less widths.Int) (specs.Binary (binaries.Arithmetic arithmetics.Subtract widths.Int) (specs.Variable 0) (specs.Number widths.Int (pos 1))) (specs.Variable 0)) ∷ []) }
      ∷ record { kind = clauses.Requires; owner = (specs.OfMethod (record { 0 = 0 })); mode = modes.Safe; is_static = true; place = record { line = 6; column = 7 }; states = ((specs.Binary (binaries.Compare comparisons.Greater widths.Int) (specs.Binary (binaries.Arithmetic arithmetics.Add widths.Int) (specs.Variable 0) (specs.Number widths.Int (pos 1))) (specs.Variable 0)) ∷ []) }
      ∷ record { kind = clauses.Requires; owner = (specs.OfMethod (record { 0 = 0 })); mode = modes.Safe; is_static = true; place = record { line = 7; column = 7 }; states = ((specs.Or (specs.Binary (binaries.Compare comparisons.NotEqual widths.Int) (specs.Binary (binaries.Arithmetic arithmetics.Multiply widths.Int) (specs.Variable 0) (specs.Number widths.Int (pos 2))) (specs.Variable 0)) (specs.Binary (binaries.Compare comparisons.Equal widths.Int) (specs.Binary (binaries.Arithmetic arithmetics.Multiply widths.Int) (specs.Variable 0) (specs.Number widths.Int (negsuc 0))) (specs.Number widths.Int (pos 0)))) ∷ []) }
      ∷ record { kind = clauses.Requires; owner = (specs.OfMethod (record { 0 = 0 })); mode = modes.Safe; is_static = true; place = record { line = 8; column = 7 }; states = ((specs.Binary (binaries.Compare comparisons.NotEqual widths.Int) (specs.Binary (binaries.Arithmetic arithmetics.Divide widths.Int) (specs.Variable 0) (specs.Number widths.Int (negsuc 0))) (specs.Variable 0)) ∷ []) }
      ∷ record { kind = clauses.Requires; owner = (specs.OfMethod (record { 0 = 0 })); mode = modes.Safe; is_static = true; place = record { line = 9; column = 7 }; states = ((specs.Binary (binaries.Compare comparisons.Equal widths.Int) (specs.Binary (binaries.Arithmetic arithmetics.Remainder widths.Int) (specs.Variable 0) (specs.Number widths.Int (negsuc 0))) (specs.Number widths.Int (pos 0))) ∷ []) }
      ∷ record { kind = clauses.Requires; owner = (specs.OfMethod (record { 0 = 0 })); mode = modes.Safe; is_static = true; place = record { line = 10; column = 7 }; states = ((specs.And (specs.And (specs.Binary (binaries.Compare comparisons.NotEqual widths.Int) (specs.Binary (binaries.Shift shifts.Left widths.Int) (specs.Variable 0) (specs.Number widths.Int (pos 1))) (specs.Variable 0)) (specs.Binary (binaries.Compare comparisons.GreaterEqual widths.Int) (specs.Binary (binaries.Shift shifts.RightUnsigned widths.Int) (specs.Variable 0) (specs.Convert widths.Int (specs.Number widths.Long (pos 33)))) (specs.Number widths.Int (pos 0)))) (specs.Binary (binaries.Compare comparisons.NotEqual widths.Int) (specs.Unary (unaries.Complement widths.Int) (specs.Variable 0)) (specs.Variable 0))) ∷ []) }
      ∷ record { kind = clauses.Requires; owner = (specs.OfMethod (record { 0 = 0 })); mode = modes.Safe; is_static = true; place = record { line = 11; column = 7 }; states = ((specs.And (specs.And (specs.Binary (binaries.Compare comparisons.LessEqual widths.Int) (specs.Number widths.Int (negsuc 2147483647)) (specs.Variable 0)) (specs.Binary (binaries.Compare comparisons.Greater widths.Long) (specs.Binary (binaries.Arithmetic arithmetics.Add widths.Long) (specs.Convert widths.Long (specs.Variable 0)) (specs.Number widths.Long (pos 1))) (specs.Convert widths.Long (specs.Variable 0)))) (specs.Binary (binaries.Compare comparisons.Less widths.Long) (specs.Binary (binaries.Arithmetic arithmetics.Subtract widths.Long) (specs.Convert widths.Long (specs.Unary (unaries.Negate widths.Int) (specs.Variable 0))) (specs.Number widths.Long (pos 1))) (specs.Convert widths.Long (specs.Number widths.Int (pos 9))))) ∷ []) }
      ∷ record { kind = clauses.Requires; owner = (specs.OfMethod (record { 0 = 0 })); mode = modes.Safe; is_static = true; place = record { line = 12; column = 7 }; states = ((specs.Binary (binaries.Compare comparisons.GreaterEqual widths.Int) (specs.Binary (binaries.Arithmetic arithmetics.Subtract widths.Int) (specs.Number widths.Int (pos 2147483647)) (specs.Variable 0)) (specs.Number widths.Int (pos 0))) ∷ []) }
      ∷ record { kind = clauses.Requires; owner = (specs.OfMethod (record { 0 = 0 })); mode = modes.Safe; is_static = true; place = record { line = 13; column = 7 }; states = ((specs.Binary (binaries.Compare comparisons.Equal widths.Int) (specs.Binary (binaries.Arithmetic arithmetics.Divide widths.Int) (specs.Binary (binaries.Arithmetic arithmetics.Multiply widths.Int) (specs.Variable 0) (specs.Number widths.Int (pos 65536))) (specs.Number widths.Int (pos 65536))) (specs.Variable 0)) ∷ []) }
      ∷ record { kind = clauses.Requires; owner = (specs.OfMethod (record { 0 = 1 })); mode = modes.Safe; is_static = true; place = record { line = 15; column = 7 }; states = ((specs.Binary (binaries.Compare comparisons.NotEqual widths.Long) (specs.Unary (unaries.Negate widths.Long) (specs.Variable 0)) (specs.Variable 0)) ∷ []) }
      ∷ record { kind = clauses.Requires; owner = (specs.OfMethod (record { 0 = 1 })); mode = modes.Safe; is_static = true; place = record { line = 16; column = 7 }; states = ((specs.Binary (binaries.Compare comparisons.Less widths.Long) (specs.Binary (binaries.Arithmetic arithmetics.Subtract widths.Long) (specs.Variable 0) (specs.Convert widths.Long (specs.Number widths.Int (pos 1)))) (specs.Variable 0)) ∷ []) }
      ∷ record { kind = clauses.Requires; owner = (specs.OfMethod (record { 0 = 1 })); mode = modes.Safe; is_static = true; place = record { line = 17; column = 7 }; states = ((specs.Binary (binaries.Compare comparisons.Greater widths.Long) (specs.Binary (binaries.Arithmetic arithmetics.Add widths.Long) (specs.Variable 0) (specs.Convert widths.Long (specs.Number widths.Int (pos 1)))) (specs.Variable 0)) ∷ []) }
      ∷ record { kind = clauses.Requires; owner = (specs.OfMethod (record { 0 = 1 })); mode = modes.Safe; is_static = true; place = record { line = 18; column = 7 }; states = ((specs.Or (specs.Binary (binaries.Compare comparisons.NotEqual widths.Long) (specs.Binary (binaries.Arithmetic arithmetics.Multiply widths.Long) (specs.Variable 0) (specs.Convert widths.Long (specs.Number widths.Int (pos 2)))) (specs.Variable 0)) (specs.Binary (binaries.Compare comparisons.Equal widths.Long) (specs.Binary (binaries.Arithmetic arithmetics.Multiply widths.Long) (specs.Variable 0) (specs.Convert widths.Long (specs.Number widths.Int (negsuc 0)))) (specs.Convert widths.Long (specs.Number widths.Int (pos 0))))) ∷ []) }
      ∷ record { kind = clauses.Requires; owner = (specs.OfMethod (record { 0 = 1 })); mode = modes.Safe; is_static = true; place = record { line = 19; column = 7 }; states = ((specs.Binary (binaries.Compare comparisons.NotEqual widths.Long) (specs.Binary (binaries.Arithmetic arithmetics.Divide widths.Long) (specs.Variable 0) (specs.Convert widths.Long (specs.Number widths.Int (negsuc 0)))) (specs.Variable 0)) ∷ []) }
      ∷ record { kind = clauses.Requires; owner = (specs.OfMethod (record { 0 = 1 })); mode = modes.Safe; is_static = true; place = record { line = 20; column = 7 }; states = ((specs.Binary (binaries.Compare comparisons.Equal widths.Long) (specs.Binary (binaries.Arithmetic arithmetics.Remainder widths.Long) (specs.Variable 0) (specs.Convert widths.Long (specs.Number widths.Int (negsuc 0)))) (specs.Convert widths.Long (specs.Number widths.Int (pos 0)))) ∷ []) }
      ∷ record { kind = clauses.Requires; owner = (specs.OfMethod (record { 0 = 1 })); mode = modes.Safe; is_static = true; place = record { line = 21; column = 7 }; states = ((specs.And (specs.And (specs.Binary (binaries.Compare comparisons.NotEqual widths.Long) (specs.Binary (binaries.Shift shifts.Left widths.Long) (specs.Variable 0) (specs.Number widths.Int (pos 1))) (specs.Variable 0)) (specs.Binary (binaries.Compare comparisons.GreaterEqual widths.Long) (specs.Binary (binaries.Shift shifts.RightUnsigned widths.Long) (specs.Variable 0) (specs.Convert widths.Int (specs.Number widths.Long (pos 33)))) (specs.Convert widths.Long (specs.Number widths.Int (pos 0))))) (specs.Binary (binaries.Compare comparisons.NotEqual widths.Long) (specs.Unary (unaries.Complement widths.Long) (specs.Variable 0)) (specs.Variable 0))) ∷ []) }
      ∷ record { kind = clauses.Requires; owner = (specs.OfMethod (record { 0 = 1 })); mode = modes.Safe; is_static = true; place = record { line = 22; column = 7 }; states = ((specs.And (specs.Binary (binaries.Compare comparisons.LessEqual widths.Long) (specs.Number widths.Long (negsuc 9223372036854775807)) (specs.Variable 0)) (specs.Binary (binaries.Compare comparisons.NotEqual widths.Long) (specs.Convert widths.Long (specs.Number widths.Int (negsuc 2147483647))) (specs.Variable 0))) ∷ []) }
      ∷ record { kind = clauses.Requires; owner = (specs.OfMethod (record { 0 = 1 })); mode = modes.Safe; is_static = true; place = record { line = 23; column = 7 }; states = ((specs.Binary (binaries.Compare comparisons.GreaterEqual widths.Long) (specs.Binary (binaries.Arithmetic arithmetics.Subtract widths.Long) (specs.Number widths.Long (pos 9223372036854775807)) (specs.Variable 0)) (specs.Convert widths.Long (specs.Number widths.Int (pos 0)))) ∷ []) }
      ∷ record { kind = clauses.Requires; owner = (specs.OfMethod (record { 0 = 1 })); mode = modes.Safe; is_static = true; place = record { line = 24; column = 7 }; states = ((specs.Binary (binaries.Compare comparisons.Equal widths.Long) (specs.Binary (binaries.Arithmetic arithmetics.Divide widths.Long) (specs.Binary (binaries.Arithmetic arithmetics.Multiply widths.Long) (specs.Variable 0) (specs.Convert widths.Long (specs.Number widths.Int (pos 65536)))) (specs.Convert widths.Long (specs.Number widths.Int (pos 65536)))) (specs.Variable 0)) ∷ []) }
      ∷ record { kind = clauses.Requires; owner = (specs.OfMethod (record { 0 = 2 })); mode = modes.Java; is_static = true; place = record { line = 26; column = 7 }; states = ((specs.Binary (binaries.Compare comparisons.Greater widths.Long) (specs.Binary (binaries.Arithmetic arithmetics.Add widths.Long) (specs.Variable 0) (specs.Convert widths.Long (specs.Number widths.Int (pos 1)))) (specs.Variable 0)) ∷ []) }
      ∷ record { kind = clauses.Ensures; owner = (specs.OfMethod (record { 0 = 2 })); mode = modes.Java; is_static = true; place = record { line = 27; column = 7 }; states = ((specs.Binary (binaries.Compare comparisons.Equal widths.Long) specs.Result (specs.Binary (binaries.Arithmetic arithmetics.Add widths.Long) (specs.Variable 0) (specs.Convert widths.Long (specs.Number widths.Int (pos 1))))) ∷ []) }
      ∷ record { kind = clauses.Assert; owner = (specs.OfMethod (record { 0 = 3 })); mode = modes.Safe; is_static = true; place = record { line = 30; column = 9 }; states = ((specs.Binary (binaries.Compare comparisons.Greater widths.Int) (specs.Binary (binaries.Arithmetic arithmetics.Add widths.Int) (specs.Variable 0) (specs.Number widths.Int (pos 1))) (specs.Variable 0)) ∷ []) }
      ∷ [];
  notes = [];
  texts = [];
  main = (record { 0 = 4 });
}

abbrev pub journal : List Event
journal =
    made 1 (deeds.Call (record { 0 = 4 }) None []) replies.Unit
    ∷ judged 0 0 verdicts.True
    ∷ made 1 (deeds.Call (record { 0 = 0 }) None ((values.Int (negsuc 2147483647)) ∷ [])) replies.Unit
    ∷ judged 1 0 verdicts.Undefined
    ∷ judged 1 1 verdicts.Undefined
    ∷ judged 1 2 verdicts.True
    ∷ judged 1 3 verdicts.Undefined
    ∷ judged 1 4 verdicts.Undefined
    ∷ judged 1 5 verdicts.True
    ∷ judged 1 6 verdicts.True
    ∷ judged 1 7 verdicts.Undefined
    ∷ judged 1 8 verdicts.Undefined
    ∷ judged 1 9 verdicts.Undefined
    ∷ judged 1 10 verdicts.True
    ∷ made 1 (deeds.Leave (record { 0 = 0 }) (leaves.Normal None)) replies.Unit
    ∷ judged 2 0 verdicts.True
    ∷ made 1 (deeds.Call (record { 0 = 0 }) None ((values.Int (pos 2147483647)) ∷ [])) replies.Unit
    ∷ judged 3 0 verdicts.True
    ∷ judged 3 1 verdicts.True
    ∷ judged 3 2 verdicts.Undefined
    ∷ judged 3 3 verdicts.Undefined
    ∷ judged 3 4 verdicts.True
    ∷ judged 3 5 verdicts.True
    ∷ judged 3 6 verdicts.True
    ∷ judged 3 7 verdicts.True
    ∷ judged 3 8 verdicts.True
    ∷ judged 3 9 verdicts.Undefined
    ∷ judged 3 10 verdicts.True
    ∷ made 1 (deeds.Leave (record { 0 = 0 }) (leaves.Normal None)) replies.Unit
    ∷ judged 4 0 verdicts.True
    ∷ made 1 (deeds.Call (record { 0 = 0 }) None ((values.Int (negsuc 0)) ∷ [])) replies.Unit
    ∷ judged 5 0 verdicts.True
    ∷ judged 5 1 verdicts.True
    ∷ judged 5 2 verdicts.True
    ∷ judged 5 3 verdicts.True
    ∷ judged 5 4 verdicts.True
    ∷ judged 5 5 verdicts.True
    ∷ judged 5 6 verdicts.True
    ∷ judged 5 7 verdicts.True
    ∷ judged 5 8 verdicts.Undefined
    ∷ judged 5 9 verdicts.True
    ∷ judged 5 10 verdicts.True
    ∷ made 1 (deeds.Leave (record { 0 = 0 }) (leaves.Normal None)) replies.Unit
    ∷ judged 6 0 verdicts.True
    ∷ made 1 (deeds.Call (record { 0 = 0 }) None ((values.Int (pos 32768)) ∷ [])) replies.Unit
    ∷ judged 7 0 verdicts.True
    ∷ judged 7 1 verdicts.True
    ∷ judged 7 2 verdicts.True
    ∷ judged 7 3 verdicts.True
    ∷ judged 7 4 verdicts.True
    ∷ judged 7 5 verdicts.True
    ∷ judged 7 6 verdicts.True
    ∷ judged 7 7 verdicts.True
    ∷ judged 7 8 verdicts.True
    ∷ judged 7 9 verdicts.Undefined
    ∷ judged 7 10 verdicts.True
    ∷ made 1 (deeds.Leave (record { 0 = 0 }) (leaves.Normal None)) replies.Unit
    ∷ judged 8 0 verdicts.True
    ∷ made 1 (deeds.Call (record { 0 = 1 }) None ((values.Long (negsuc 9223372036854775807)) ∷ [])) replies.Unit
    ∷ judged 9 0 verdicts.Undefined
    ∷ judged 9 1 verdicts.Undefined
    ∷ judged 9 2 verdicts.True
    ∷ judged 9 3 verdicts.Undefined
    ∷ judged 9 4 verdicts.Undefined
    ∷ judged 9 5 verdicts.True
    ∷ judged 9 6 verdicts.True
    ∷ judged 9 7 verdicts.True
    ∷ judged 9 8 verdicts.Undefined
    ∷ judged 9 9 verdicts.Undefined
    ∷ judged 9 10 verdicts.True
    ∷ made 1 (deeds.Leave (record { 0 = 1 }) (leaves.Normal None)) replies.Unit
    ∷ judged 10 0 verdicts.True
    ∷ made 1 (deeds.Call (record { 0 = 1 }) None ((values.Long (pos 9223372036854775807)) ∷ [])) replies.Unit
    ∷ judged 11 0 verdicts.True
    ∷ judged 11 1 verdicts.True
    ∷ judged 11 2 verdicts.Undefined
    ∷ judged 11 3 verdicts.Undefined
    ∷ judged 11 4 verdicts.True
    ∷ judged 11 5 verdicts.True
    ∷ judged 11 6 verdicts.True
    ∷ judged 11 7 verdicts.True
    ∷ judged 11 8 verdicts.True
    ∷ judged 11 9 verdicts.Undefined
    ∷ judged 11 10 verdicts.True
    ∷ made 1 (deeds.Leave (record { 0 = 1 }) (leaves.Normal None)) replies.Unit
    ∷ judged 12 0 verdicts.True
    ∷ made 1 (deeds.Call (record { 0 = 1 }) None ((values.Long (pos 2147483648)) ∷ [])) replies.Unit
    ∷ judged 13 0 verdicts.True
    ∷ judged 13 1 verdicts.True
    ∷ judged 13 2 verdicts.True
    ∷ judged 13 3 verdicts.True
    ∷ judged 13 4 verdicts.True
    ∷ judged 13 5 verdicts.True
    ∷ judged 13 6 verdicts.True
    ∷ judged 13 7 verdicts.True
    ∷ judged 13 8 verdicts.True
    ∷ judged 13 9 verdicts.True
    ∷ judged 13 10 verdicts.True
    ∷ made 1 (deeds.Leave (record { 0 = 1 }) (leaves.Normal None)) replies.Unit
    ∷ judged 14 0 verdicts.True
    ∷ made 1 (deeds.Call (record { 0 = 1 }) None ((values.Long (pos 140737488355328)) ∷ [])) replies.Unit
    ∷ judged 15 0 verdicts.True
    ∷ judged 15 1 verdicts.True
    ∷ judged 15 2 verdicts.True
    ∷ judged 15 3 verdicts.True
    ∷ judged 15 4 verdicts.True
    ∷ judged 15 5 verdicts.True
    ∷ judged 15 6 verdicts.True
    ∷ judged 15 7 verdicts.True
    ∷ judged 15 8 verdicts.True
    ∷ judged 15 9 verdicts.Undefined
    ∷ judged 15 10 verdicts.True
    ∷ made 1 (deeds.Leave (record { 0 = 1 }) (leaves.Normal None)) replies.Unit
    ∷ judged 16 0 verdicts.True
    ∷ made 1 (deeds.Call (record { 0 = 2 }) None ((values.Long (pos 9223372036854775807)) ∷ [])) replies.Unit
    ∷ judged 17 0 verdicts.False
    ∷ judged 17 1 verdicts.True
    ∷ made 1 (deeds.Leave (record { 0 = 2 }) (leaves.Normal (Some (values.Long (negsuc 9223372036854775807))))) replies.Unit
    ∷ judged 18 0 verdicts.True
    ∷ judged 18 1 verdicts.True
    ∷ made 1 (deeds.Call (record { 0 = 3 }) None ((values.Int (pos 2147483647)) ∷ [])) replies.Unit
    ∷ judged 19 0 verdicts.True
    ∷ made 1 (deeds.Assert (record { 0 = 24 }) (values.Null ∷ (values.Int (pos 2147483647)) ∷ [])) replies.Unit
    ∷ judged 20 0 verdicts.Undefined
    ∷ made 1 (deeds.Put (record { obj = (record { 0 = 1 }); slot = 0 }) (values.Long (pos 9223372036854775807))) replies.Unit
    ∷ made 1 (deeds.Leave (record { 0 = 3 }) (leaves.Normal None)) replies.Unit
    ∷ judged 22 0 verdicts.Undefined
    ∷ made 1 (deeds.Leave (record { 0 = 4 }) (leaves.Normal None)) replies.Unit
    ∷ judged 23 0 verdicts.Undefined
    ∷ made 1 (deeds.End ends.Normal) replies.Unit
    ∷ []

abbrev pub finish : Finish
finish = finishes.Finished

pub is_serial : serial program 200000 0 0 ≡ record { history = journal; finish = finish }
unfolding int_wrap
is_serial = refl

pub is_right : IsRightRun program 200000 (record { history = journal; finish = finish })
is_right = subst (IsRightRun program 200000) is_serial (serial-right program 200000 0 0)
