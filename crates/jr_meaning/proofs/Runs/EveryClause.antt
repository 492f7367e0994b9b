-- A program and its run by the serial rule with seed 0.
--     class Node {
--       int value;
--       Node next;
--       static int made;
--       int[] kept;
--       //@ monitors_for value = this, next;
--       //@ invariant value >= 0 ==> next != this;
--       //@ static invariant made >= 0;
--       //@ constraint \old(value) <= value;
--       Node(int value) { this.value = value; made = made + 1; kept = new int[3]; }
--       //@ requires (\exists int i; 0 <= i && i < kept.length && i != 1; kept[i] == by);
--       //@ ensures \result == \old(value) + by;
--       //@ ensures (\forall int i; 0 <= i && i <= kept.length; kept[i] >= 0);
--       //@ ensures \lockset.has(this) && !\lockset[next];
--       synchronized int add(int by) {
--         value += by;
--         //@ assert by <= value && \lockset[this];
--         return value;
--       }
--       /*@ helper @*/ void quiet() { value = -5; }
--       //@ when made > 0;
--       //@ ensures made == \old(made) <==> value != 7;
--       void label() { commit: made = made + 0; }
--       public static void main(String[] args) {
--         Node a = new Node(1);
--         a.next = a;
--         a.quiet();
--         System.out.println("sum " + a.add(0));
--         a.next = null;
--         System.out.println(a.add(2));
--         a.label();
--         int z = 0;
--         try { z = 1 / z; } catch (ArithmeticException e) { a.value = -2147483648 - 1; }
--         try { a.kept[-1] = 3; } catch (RuntimeException e) { throw e; }
--       }
--     }
use Rattle.std.specs.Prelude.{◌≡◌, pos, negsuc, true, false, List, [], ◌∷◌, Some, None}
use Rattle.jr_base.specs.Deed.{Deed}
use Rattle.jr_base.specs.Deed as deeds
use Rattle.jr_base.specs.declared.action.Elem.TheVariants as elems
use Rattle.jr_base.specs.declared.action.NewKind.TheVariants as makes
use Rattle.jr_base.specs.declared.action.Reply.TheVariants as replies
use Rattle.jr_base.specs.declared.action.LeaveHow.TheVariants as leaves
use Rattle.jr_base.specs.declared.action.EndHow.TheVariants as ends
use Rattle.jr_base.specs.declared.action.Way.TheVariants as ways
use Rattle.jr_base.specs.declared.action.PrintPart.TheVariants as shows
use Rattle.jr_base.specs.declared.value.Value.TheVariants as values
use Rattle.jr_base.specs.declared.finish.Fault.TheVariants as faults
use Rattle.jr_base.specs.declared.finish.Verdict.TheVariants as verdicts
use Rattle.jr_base.specs.declared.finish.Finish.{Finish}
use Rattle.jr_base.specs.declared.finish.Finish.TheVariants as finishes
use Rattle.jr_base.specs.declared.kind.SlotKind.TheVariants as kinds
use Rattle.jr_arith.specs.declared.operator.Width.TheVariants as widths
use Rattle.jr_arith.specs.declared.operator.Arithmetic.TheVariants as arithmetics
use Rattle.jr_arith.specs.declared.operator.Comparison.TheVariants as comparisons
use Rattle.jr_program.specs.declared.words.Mode.TheVariants as modes
use Rattle.jr_arith.specs.declared.operator.Unary.TheVariants as unaries
use Rattle.jr_arith.specs.declared.operator.Binary.TheVariants as binaries
use Rattle.jr_program.specs.declared.words.ClauseKind.TheVariants as clauses
use Rattle.jr_program.specs.declared.words.Bound.TheVariants as sides
use Rattle.jr_program.specs.declared.words.Quantifier.TheVariants as quantifiers
use Rattle.jr_program.specs.Clauses as specs
use Rattle.jr_program.specs.Programs as code
use Rattle.jr_program.specs.Programs.{Program}
use Rattle.jr_meaning.specs.Event.{Event}
use Rattle.jr_meaning.specs.Right.{IsRightRun}
use Rattle.jr_meaning.specs.Serial.{serial}
use Rattle.jr_meaning.proofs.SerialRuns.{serial-right}
use Rattle.jr_meaning.proofs.Runs.{made, judged}
use Rattle.std.proofs.Common.{refl, subst}
use Rattle.std.specs.Int.{int_wrap}

abbrev pub program : Program
program = record {
  classes =
      record { name = []; extends_thread = false; implements_runnable = false; run = None; constructor = (Some (record { 0 = 0 })) }
      ∷ [];
  fields =
      record { class = (record { 0 = 0 }); is_static = false; is_volatile = false; kind = kinds.Int; constant = (values.Int (pos 0)) }
      ∷ record { class = (record { 0 = 0 }); is_static = false; is_volatile = false; kind = kinds.Ref; constant = values.Null }
      ∷ record { class = (record { 0 = 0 }); is_static = true; is_volatile = false; kind = kinds.Int; constant = (values.Int (pos 0)) }
      ∷ record { class = (record { 0 = 0 }); is_static = false; is_volatile = false; kind = kinds.Ref; constant = values.Null }
      ∷ [];
  methods =
      record {
        name = [];
        class = (record { 0 = 0 });
        is_static = false;
        is_constructor = true;
        is_synchronized = false;
        is_helper = false;
        formals = (kinds.Int ∷ []);
        locals = [];
        result = None;
        body = (code.Then (code.Do (code.Evaluate (code.Assign (code.FieldOf code.This (record { 0 = 0 })) (code.Read (code.Local 0))))) (code.Then (code.Do (code.Evaluate (code.Assign (code.StaticField (record { 0 = 2 })) (code.Binary (binaries.Arithmetic arithmetics.Add widths.Int) (code.Read (code.StaticField (record { 0 = 2 }))) (code.Number widths.Int (pos 1)))))) (code.Do (code.Evaluate (code.Assign (code.FieldOf code.This (record { 0 = 3 })) (code.NewArray elems.Int (code.Number widths.Int (pos 3))))))));
      }
      ∷ record {
        name = [];
        class = (record { 0 = 0 });
        is_static = false;
        is_constructor = false;
        is_synchronized = true;
        is_helper = false;
        formals = (kinds.Int ∷ []);
        locals = [];
        result = (Some kinds.Int);
        body = (code.Then (code.Do (code.Evaluate (code.Compound (binaries.Arithmetic arithmetics.Add widths.Int) false (code.FieldOf code.This (record { 0 = 0 })) (code.Read (code.Local 0))))) (code.Then (code.Assert (record { 0 = 9 }) (0 ∷ [])) (code.ReturnValue (code.Read (code.FieldOf code.This (record { 0 = 0 }))))));
      }
      ∷ record {
        name = [];
        class = (record { 0 = 0 });
        is_static = false;
        is_constructor = false;
        is_synchronized = false;
        is_helper = true;
        formals = [];
        locals = [];
        result = None;
        body = (code.Do (code.Evaluate (code.Assign (code.FieldOf code.This (record { 0 = 0 })) (code.Number widths.Int (negsuc 4)))));
      }
      ∷ record {
        name = [];
        class = (record { 0 = 0 });
        is_static = false;
        is_constructor = false;
        is_synchronized = false;
        is_helper = false;
        formals = [];
        locals = [];
        result = None;
        body = (code.Commit (code.Do (code.Evaluate (code.Assign (code.StaticField (record { 0 = 2 })) (code.Binary (binaries.Arithmetic arithmetics.Add widths.Int) (code.Read (code.StaticField (record { 0 = 2 }))) (code.Number widths.Int (pos 0)))))));
      }
      ∷ record {
        name = [];
        class = (record { 0 = 0 });
        is_static = true;
        is_constructor = false;
        is_synchronized = false;
        is_helper = false;
        formals = [];
        locals = (kinds.Ref ∷ kinds.Int ∷ kinds.Caught ∷ kinds.Caught ∷ []);
        result = None;
        body = (code.Then (code.Declare 0 (code.NewObject (record { 0 = 0 }) (code.and_then (code.Number widths.Int (pos 1)) code.no_more))) (code.Then (code.Do (code.Evaluate (code.Assign (code.FieldOf (code.Read (code.Local 0)) (record { 0 = 1 })) (code.Read (code.Local 0))))) (code.Then (code.Do (code.Invoke (code.CallOn (code.Read (code.Local 0)) (record { 0 = 2 }) code.no_more))) (code.Then (code.Println ((code.Literal (record { 0 = 0 })) ∷ (code.Shown (code.ResultOf (code.CallOn (code.Read (code.Local 0)) (record { 0 = 1 }) (code.and_then (code.Number widths.Int (pos 0)) code.no_more)))) ∷ [])) (code.Then (code.Do (code.Evaluate (code.Assign (code.FieldOf (code.Read (code.Local 0)) (record { 0 = 1 })) code.Null))) (code.Then (code.Println ((code.Shown (code.ResultOf (code.CallOn (code.Read (code.Local 0)) (record { 0 = 1 }) (code.and_then (code.Number widths.Int (pos 2)) code.no_more)))) ∷ [])) (code.Then (code.Do (code.Invoke (code.CallOn (code.Read (code.Local 0)) (record { 0 = 3 }) code.no_more))) (code.Then (code.Declare 1 (code.Number widths.Int (pos 0))) (code.Then (code.Try (code.Do (code.Evaluate (code.Assign (code.Local 1) (code.Binary (binaries.Arithmetic arithmetics.Divide widths.Int) (code.Number widths.Int (pos 1)) (code.Read (code.Local 1)))))) (code.or_catch faults.ArithmeticException 2 (code.Do (code.Evaluate (code.Assign (code.FieldOf (code.Read (code.Local 0)) (record { 0 = 0 })) (code.Binary (binaries.Arithmetic arithmetics.Subtract widths.Int) (code.Number widths.Int (negsuc 2147483647)) (code.Number widths.Int (pos 1)))))) code.no_catch)) (code.Try (code.Do (code.Evaluate (code.Assign (code.ElementOf elems.Int (code.Read (code.FieldOf (code.Read (code.Local 0)) (record { 0 = 3 }))) (code.Number widths.Int (negsuc 0))) (code.Number widths.Int (pos 3))))) (code.or_catch faults.RuntimeException 3 (code.ThrowCaught 3) code.no_catch)))))))))));
      }
      ∷ [];
  clauses =
      record { kind = clauses.MonitorsFor; owner = (specs.OfField (record { 0 = 0 })); mode = modes.Java; is_static = false; place = record { line = 6; column = 7 }; states = (specs.This ∷ (specs.FieldOf specs.This (record { 0 = 1 }) 1) ∷ []) }
      ∷ record { kind = clauses.Invariant; owner = (specs.OfClass (record { 0 = 0 })); mode = modes.Java; is_static = false; place = record { line = 7; column = 7 }; states = ((specs.Implies (specs.Binary (binaries.Compare comparisons.GreaterEqual widths.Int) (specs.FieldOf specs.This (record { 0 = 0 }) 0) (specs.Number widths.Int (pos 0))) (specs.Binary binaries.OtherReference (specs.FieldOf specs.This (record { 0 = 1 }) 1) specs.This)) ∷ []) }
      ∷ record { kind = clauses.Invariant; owner = (specs.OfClass (record { 0 = 0 })); mode = modes.Java; is_static = true; place = record { line = 8; column = 14 }; states = ((specs.Binary (binaries.Compare comparisons.GreaterEqual widths.Int) (specs.StaticField (record { 0 = 2 }) (record { obj = (record { 0 = 1 }); slot = 0 })) (specs.Number widths.Int (pos 0))) ∷ []) }
      ∷ record { kind = clauses.Constraint; owner = (specs.OfClass (record { 0 = 0 })); mode = modes.Java; is_static = false; place = record { line = 9; column = 7 }; states = ((specs.Binary (binaries.Compare comparisons.LessEqual widths.Int) (specs.Old (specs.FieldOf specs.This (record { 0 = 0 }) 0)) (specs.FieldOf specs.This (record { 0 = 0 }) 0)) ∷ []) }
      ∷ record { kind = clauses.Requires; owner = (specs.OfMethod (record { 0 = 1 })); mode = modes.Java; is_static = false; place = record { line = 11; column = 7 }; states = ((specs.Quantified quantifiers.Exists (specs.Number widths.Int (pos 0)) sides.Inclusive (specs.LengthOf (specs.FieldOf specs.This (record { 0 = 3 }) 2)) sides.Exclusive (specs.Binary (binaries.Compare comparisons.NotEqual widths.Int) (specs.Bound 0) (specs.Number widths.Int (pos 1))) (specs.Binary (binaries.Compare comparisons.Equal widths.Int) (specs.ElementOf (specs.FieldOf specs.This (record { 0 = 3 }) 2) (specs.Bound 0)) (specs.Variable 0))) ∷ []) }
      ∷ record { kind = clauses.Ensures; owner = (specs.OfMethod (record { 0 = 1 })); mode = modes.Java; is_static = false; place = record { line = 12; column = 7 }; states = ((specs.Binary (binaries.Compare comparisons.Equal widths.Int) specs.Result (specs.Binary (binaries.Arithmetic arithmetics.Add widths.Int) (specs.Old (specs.FieldOf specs.This (record { 0 = 0 }) 0)) (specs.Variable 0))) ∷ []) }
      ∷ record { kind = clauses.Ensures; owner = (specs.OfMethod (record { 0 = 1 })); mode = modes.Java; is_static = false; place = record { line = 13; column = 7 }; states = ((specs.Quantified quantifiers.ForAll (specs.Number widths.Int (pos 0)) sides.Inclusive (specs.LengthOf (specs.FieldOf specs.This (record { 0 = 3 }) 2)) sides.Inclusive (specs.Truth true) (specs.Binary (binaries.Compare comparisons.GreaterEqual widths.Int) (specs.ElementOf (specs.FieldOf specs.This (record { 0 = 3 }) 2) (specs.Bound 0)) (specs.Number widths.Int (pos 0)))) ∷ []) }
      ∷ record { kind = clauses.Ensures; owner = (specs.OfMethod (record { 0 = 1 })); mode = modes.Java; is_static = false; place = record { line = 14; column = 7 }; states = ((specs.And (specs.InLockset specs.This) (specs.Unary unaries.Not (specs.InLockset (specs.FieldOf specs.This (record { 0 = 1 }) 1)))) ∷ []) }
      ∷ record { kind = clauses.Assert; owner = (specs.OfMethod (record { 0 = 1 })); mode = modes.Java; is_static = false; place = record { line = 17; column = 9 }; states = ((specs.And (specs.Binary (binaries.Compare comparisons.LessEqual widths.Int) (specs.Variable 0) (specs.FieldOf specs.This (record { 0 = 0 }) 0)) (specs.InLockset specs.This)) ∷ []) }
      ∷ record { kind = clauses.When; owner = (specs.OfMethod (record { 0 = 3 })); mode = modes.Java; is_static = false; place = record { line = 21; column = 7 }; states = ((specs.Binary (binaries.Compare comparisons.Greater widths.Int) (specs.StaticField (record { 0 = 2 }) (record { obj = (record { 0 = 1 }); slot = 0 })) (specs.Number widths.Int (pos 0))) ∷ []) }
      ∷ record { kind = clauses.Ensures; owner = (specs.OfMethod (record { 0 = 3 })); mode = modes.Java; is_static = false; place = record { line = 22; column = 7 }; states = ((specs.Binary binaries.Agree (specs.Binary (binaries.Compare comparisons.Equal widths.Int) (specs.StaticField (record { 0 = 2 }) (record { obj = (record { 0 = 1 }); slot = 0 })) (specs.Old (specs.StaticField (record { 0 = 2 }) (record { obj = (record { 0 = 1 }); slot = 0 })))) (specs.Binary (binaries.Compare comparisons.NotEqual widths.Int) (specs.FieldOf specs.This (record { 0 = 0 }) 0) (specs.Number widths.Int (pos 7)))) ∷ []) }
      ∷ [];
  notes = [];
  texts = ((115 ∷ 117 ∷ 109 ∷ 32 ∷ []) ∷ []);
  main = (record { 0 = 4 });
}

abbrev pub journal : List Event
journal =
    made 1 (deeds.Call (record { 0 = 4 }) None []) replies.Unit
    ∷ judged 0 0 verdicts.True
    ∷ made 1 (deeds.New (makes.Object (record { 0 = 0 }))) (replies.Made (record { 0 = 2 }))
    ∷ made 1 (deeds.Call (record { 0 = 0 }) (Some (record { 0 = 2 })) ((values.Int (pos 1)) ∷ [])) replies.Unit
    ∷ judged 2 0 verdicts.True
    ∷ made 1 (deeds.Put (record { obj = (record { 0 = 2 }); slot = 0 }) (values.Int (pos 1))) replies.Unit
    ∷ made 1 (deeds.Get (record { obj = (record { 0 = 1 }); slot = 0 })) (replies.Value (values.Int (pos 0)))
    ∷ made 1 (deeds.Put (record { obj = (record { 0 = 1 }); slot = 0 }) (values.Int (pos 1))) replies.Unit
    ∷ made 1 (deeds.New (makes.Array elems.Int 3)) (replies.Made (record { 0 = 3 }))
    ∷ made 1 (deeds.Put (record { obj = (record { 0 = 2 }); slot = 2 }) (values.Ref (record { 0 = 3 }))) replies.Unit
    ∷ made 1 (deeds.Leave (record { 0 = 0 }) (leaves.Normal None)) replies.Unit
    ∷ judged 8 0 verdicts.True
    ∷ judged 8 1 verdicts.True
    ∷ made 1 (deeds.Put (record { obj = (record { 0 = 2 }); slot = 1 }) (values.Ref (record { 0 = 2 }))) replies.Unit
    ∷ made 1 (deeds.Call (record { 0 = 2 }) (Some (record { 0 = 2 })) []) replies.Unit
    ∷ made 1 (deeds.Put (record { obj = (record { 0 = 2 }); slot = 0 }) (values.Int (negsuc 4))) replies.Unit
    ∷ judged 11 0 verdicts.False
    ∷ made 1 (deeds.Leave (record { 0 = 2 }) (leaves.Normal None)) replies.Unit
    ∷ made 1 (deeds.Enter (record { 0 = 2 }) ways.Method) replies.Unit
    ∷ made 1 (deeds.Call (record { 0 = 1 }) (Some (record { 0 = 2 })) ((values.Int (pos 0)) ∷ [])) replies.Unit
    ∷ judged 14 0 verdicts.True
    ∷ judged 14 1 verdicts.True
    ∷ judged 14 2 verdicts.True
    ∷ made 1 (deeds.Get (record { obj = (record { 0 = 2 }); slot = 0 })) (replies.Value (values.Int (negsuc 4)))
    ∷ judged 15 0 verdicts.True
    ∷ made 1 (deeds.Put (record { obj = (record { 0 = 2 }); slot = 0 }) (values.Int (negsuc 4))) replies.Unit
    ∷ judged 16 0 verdicts.True
    ∷ made 1 (deeds.Assert (record { 0 = 9 }) ((values.Ref (record { 0 = 2 })) ∷ (values.Int (pos 0)) ∷ [])) replies.Unit
    ∷ judged 17 0 verdicts.False
    ∷ made 1 (deeds.Get (record { obj = (record { 0 = 2 }); slot = 0 })) (replies.Value (values.Int (negsuc 4)))
    ∷ judged 18 0 verdicts.True
    ∷ made 1 (deeds.Leave (record { 0 = 1 }) (leaves.Normal (Some (values.Int (negsuc 4))))) replies.Unit
    ∷ judged 19 0 verdicts.True
    ∷ judged 19 1 verdicts.Undefined
    ∷ judged 19 2 verdicts.False
    ∷ judged 19 3 verdicts.True
    ∷ judged 19 4 verdicts.True
    ∷ judged 19 5 verdicts.True
    ∷ made 1 (deeds.Exit (record { 0 = 2 })) replies.Unit
    ∷ made 1 (deeds.Print ((shows.Text (record { 0 = 0 })) ∷ (shows.Val (values.Int (negsuc 4))) ∷ [])) replies.Unit
    ∷ made 1 (deeds.Put (record { obj = (record { 0 = 2 }); slot = 1 }) values.Null) replies.Unit
    ∷ made 1 (deeds.Enter (record { 0 = 2 }) ways.Method) replies.Unit
    ∷ made 1 (deeds.Call (record { 0 = 1 }) (Some (record { 0 = 2 })) ((values.Int (pos 2)) ∷ [])) replies.Unit
    ∷ judged 24 0 verdicts.False
    ∷ judged 24 1 verdicts.True
    ∷ judged 24 2 verdicts.True
    ∷ made 1 (deeds.Get (record { obj = (record { 0 = 2 }); slot = 0 })) (replies.Value (values.Int (negsuc 4)))
    ∷ judged 25 0 verdicts.True
    ∷ made 1 (deeds.Put (record { obj = (record { 0 = 2 }); slot = 0 }) (values.Int (negsuc 2))) replies.Unit
    ∷ judged 26 0 verdicts.True
    ∷ made 1 (deeds.Assert (record { 0 = 9 }) ((values.Ref (record { 0 = 2 })) ∷ (values.Int (pos 2)) ∷ [])) replies.Unit
    ∷ judged 27 0 verdicts.False
    ∷ made 1 (deeds.Get (record { obj = (record { 0 = 2 }); slot = 0 })) (replies.Value (values.Int (negsuc 2)))
    ∷ judged 28 0 verdicts.True
    ∷ made 1 (deeds.Leave (record { 0 = 1 }) (leaves.Normal (Some (values.Int (negsuc 2))))) replies.Unit
    ∷ judged 29 0 verdicts.True
    ∷ judged 29 1 verdicts.Undefined
    ∷ judged 29 2 verdicts.True
    ∷ judged 29 3 verdicts.True
    ∷ judged 29 4 verdicts.True
    ∷ judged 29 5 verdicts.True
    ∷ made 1 (deeds.Exit (record { 0 = 2 })) replies.Unit
    ∷ made 1 (deeds.Print ((shows.Val (values.Int (negsuc 2))) ∷ [])) replies.Unit
    ∷ made 1 (deeds.Call (record { 0 = 3 }) (Some (record { 0 = 2 })) []) replies.Unit
    ∷ judged 32 0 verdicts.True
    ∷ judged 32 1 verdicts.True
    ∷ made 1 (deeds.Commit (record { 0 = 3 })) replies.Unit
    ∷ judged 33 0 verdicts.True
    ∷ made 1 (deeds.Get (record { obj = (record { 0 = 1 }); slot = 0 })) (replies.Value (values.Int (pos 1)))
    ∷ made 1 (deeds.Put (record { obj = (record { 0 = 1 }); slot = 0 }) (values.Int (pos 1))) replies.Unit
    ∷ made 1 (deeds.Leave (record { 0 = 3 }) (leaves.Normal None)) replies.Unit
    ∷ judged 36 0 verdicts.True
    ∷ judged 36 1 verdicts.True
    ∷ judged 36 2 verdicts.True
    ∷ judged 36 3 verdicts.True
    ∷ made 1 (deeds.Put (record { obj = (record { 0 = 2 }); slot = 0 }) (values.Int (pos 2147483647))) replies.Unit
    ∷ judged 37 0 verdicts.False
    ∷ made 1 (deeds.Get (record { obj = (record { 0 = 2 }); slot = 2 })) (replies.Value (values.Ref (record { 0 = 3 })))
    ∷ made 1 (deeds.Put (record { obj = (record { 0 = 3 }); slot = 4294967295 }) (values.Int (pos 3))) replies.Range
    ∷ made 1 (deeds.Leave (record { 0 = 4 }) leaves.Abrupt) replies.Unit
    ∷ made 1 (deeds.End (ends.Uncaught faults.ArrayIndexOutOfBoundsException)) replies.Unit
    ∷ []

abbrev pub finish : Finish
finish = finishes.Finished

pub is_serial : serial program 200000 0 0 ≡ record { history = journal; finish = finish }
unfolding int_wrap
is_serial = refl

pub is_right : IsRightRun program 200000 (record { history = journal; finish = finish })
is_right = subst (IsRightRun program 200000) is_serial (serial-right program 200000 0 0)
