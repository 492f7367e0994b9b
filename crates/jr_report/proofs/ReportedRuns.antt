-- The text of reports and listings, computed of small programs and their runs by the serial rule with seed 0.
use Rattle.std.specs.Prelude.{◌≡◌, ℕ, ℤ, pos, true, false, List, [], ◌∷◌, Some, None, codes}
use Rattle.jr_base.specs.declared.value.Value.TheVariants as values
use Rattle.jr_base.specs.declared.kind.SlotKind.TheVariants as kinds
use Rattle.jr_arith.specs.declared.operator.Width.TheVariants as widths
use Rattle.jr_arith.specs.declared.operator.Arithmetic.TheVariants as arithmetics
use Rattle.jr_arith.specs.declared.operator.Comparison.TheVariants as comparisons
use Rattle.jr_arith.specs.declared.operator.Binary.TheVariants as binaries
use Rattle.jr_program.specs.declared.words.Mode.TheVariants as modes
use Rattle.jr_program.specs.declared.words.ClauseKind.TheVariants as clauses
use Rattle.jr_program.specs.Clauses as specs
use Rattle.jr_program.specs.Programs as code
use Rattle.jr_program.specs.Programs.{Program}
use Rattle.jr_meaning.specs.Right.{Run}
use Rattle.jr_meaning.specs.Serial.{serial}
use Rattle.jr_report.specs.Report.{report_lines}
use Rattle.jr_report.specs.Listing.{check_line, listing_lines}
use Rattle.std.proofs.Common.{refl}
use Rattle.std.specs.Int.{int_wrap}
use Rattle.std.specs.Fmt.{digits}

reported : Program → List (List ℕ)
reported program = let run : Run = serial program 200000 0 0 in report_lines program run.history run.finish

-- ---- a precondition

--     class A {
--       static int n = ..;
--       //@ requires x > 0;
--       static int twice(int x) { return x + x; }
--       public static void main(String[] args) {
--         System.out.println(twice(n));
--       }
--     }
abbrev doubling : ℤ → Program
doubling n = record {
  classes =
      record { name = []; extends_thread = false; implements_runnable = false; run = None; constructor = None }
      ∷ [];
  fields =
      record { class = (record { 0 = 0 }); is_static = true; is_volatile = false; kind = kinds.Int; constant = values.Int n }
      ∷ [];
  methods =
      record {
        name = [];
        class = (record { 0 = 0 });
        is_static = true;
        is_constructor = false;
        is_synchronized = false;
        is_helper = false;
        formals = (kinds.Int ∷ []);
        locals = [];
        result = (Some kinds.Int);
        body = (code.ReturnValue (code.Binary (binaries.Arithmetic arithmetics.Add widths.Int) (code.Read (code.Local 0)) (code.Read (code.Local 0))));
      }
      ∷ record {
        name = [];
        class = (record { 0 = 0 });
        is_static = true;
        is_constructor = false;
        is_synchronized = false;
        is_helper = false;
        formals = [];
        locals = [];
        result = None;
        body = (code.Println ((code.Shown (code.ResultOf (code.CallStatic (record { 0 = 0 }) (code.and_then (code.Read (code.StaticField (record { 0 = 0 }))) code.no_more)))) ∷ []));
      }
      ∷ [];
  clauses =
      record { kind = clauses.Requires; owner = (specs.OfMethod (record { 0 = 0 })); mode = modes.Java; is_static = true; place = record { line = 3; column = 7 }; states = ((specs.Binary (binaries.Compare comparisons.Greater widths.Int) (specs.Variable 0) (specs.Number widths.Int (pos 0))) ∷ []) }
      ∷ [];
  notes = [];
  texts = [];
  main = (record { 0 = 1 });
}

doubled : reported (doubling (pos 2)) ≡ codes "out 1: 4" ∷ codes "finish Finished" ∷ codes "steps 7, guests 1, verdicts 1, violations 0, uncaught 0" ∷ []
unfolding reported digits int_wrap
doubled = refl

doubled_none : reported (doubling (pos 0)) ≡
    codes "out 1: 0" ∷ codes "violation 1: requires False at 3:7, guest 1, step 2" ∷ codes "finish Finished"
    ∷ codes "steps 7, guests 1, verdicts 1, violations 1, uncaught 0" ∷ []
unfolding reported digits int_wrap
doubled_none = refl

doubling_checked : check_line (doubling (pos 2)) ≡ codes "accepted: classes 1, methods 2, clauses 1"
unfolding digits
doubling_checked = refl

doubling_listed : listing_lines (doubling (pos 2)) ≡ codes "clause 1: requires at 3:7" ∷ codes "clauses 1, notes 0" ∷ []
unfolding digits
doubling_listed = refl

-- a word that isn't judged, before the clause on its line and behind it
noted : (column : ℕ) → Program
noted column = record (doubling (pos 2)) { notes = record { word = codes "pure"; place = record { line = 3; column = column } } ∷ [] }

noted_before : listing_lines (noted 5) ≡ codes "note: pure at 3:5 is not judged" ∷ codes "clause 1: requires at 3:7" ∷ codes "clauses 1, notes 1" ∷ []
unfolding noted digits
noted_before = refl

noted_behind : listing_lines (noted 9) ≡ codes "clause 1: requires at 3:7" ∷ codes "note: pure at 3:9 is not judged" ∷ codes "clauses 1, notes 1" ∷ []
unfolding noted digits
noted_behind = refl

-- ---- a clause on monitors, at a `synchronized` statement

--     class Q {
--       Object a;
--       Q() { a = new Object(); }
--       //@ locks a;
--       void f() { synchronized (a) { synchronized (this) { } } }
--       public static void main(String[] args) { new Q().f(); }
--     }
abbrev locking : Program
locking = record {
  classes =
      record { name = []; extends_thread = false; implements_runnable = false; run = None; constructor = (Some (record { 0 = 0 })) }
      ∷ [];
  fields =
      record { class = (record { 0 = 0 }); is_static = false; is_volatile = false; kind = kinds.Ref; constant = values.Null }
      ∷ [];
  methods =
      record {
        name = [];
        class = (record { 0 = 0 });
        is_static = false;
        is_constructor = true;
        is_synchronized = false;
        is_helper = false;
        formals = [];
        locals = [];
        result = None;
        body = (code.Do (code.Evaluate (code.Assign (code.FieldOf code.This (record { 0 = 0 })) code.NewPlain)));
      }
      ∷ record {
        name = [];
        class = (record { 0 = 0 });
        is_static = false;
        is_constructor = false;
        is_synchronized = false;
        is_helper = false;
        formals = [];
        locals = [];
        result = None;
        body = (code.Synchronized (code.Read (code.FieldOf code.This (record { 0 = 0 }))) (code.Synchronized code.This code.Skip));
      }
      ∷ record {
        name = [];
        class = (record { 0 = 0 });
        is_static = true;
        is_constructor = false;
        is_synchronized = false;
        is_helper = false;
        formals = [];
        locals = [];
        result = None;
        body = (code.Do (code.Invoke (code.CallOn (code.NewObject (record { 0 = 0 }) code.no_more) (record { 0 = 1 }) code.no_more)));
      }
      ∷ [];
  clauses =
      record { kind = clauses.Locks; owner = (specs.OfMethod (record { 0 = 1 })); mode = modes.Java; is_static = false; place = record { line = 4; column = 7 }; states = ((specs.FieldOf specs.This (record { 0 = 0 }) 0) ∷ []) }
      ∷ [];
  notes = [];
  texts = [];
  main = (record { 0 = 2 });
}

locked : reported locking ≡
    codes "violation 1: locks False at 4:7, guest 1, step 9" ∷ codes "finish Finished" ∷ codes "steps 15, guests 1, verdicts 2, violations 1, uncaught 0" ∷ []
unfolding reported digits int_wrap
locked = refl

-- ---- a clause on a field

--     class D {
--       int v;
--       Object a, b;
--       //@ monitors_for v <- a, b;
--       D() { a = new Object(); b = new Object(); }
--       void set() { synchronized (a) { v = 1; } }
--       public static void main(String[] args) { new D().set(); }
--     }
abbrev guarding : Program
guarding = record {
  classes =
      record { name = []; extends_thread = false; implements_runnable = false; run = None; constructor = (Some (record { 0 = 0 })) }
      ∷ [];
  fields =
      record { class = (record { 0 = 0 }); is_static = false; is_volatile = false; kind = kinds.Int; constant = (values.Int (pos 0)) }
      ∷ record { class = (record { 0 = 0 }); is_static = false; is_volatile = false; kind = kinds.Ref; constant = values.Null }
      ∷ record { class = (record { 0 = 0 }); is_static = false; is_volatile = false; kind = kinds.Ref; constant = values.Null }
      ∷ [];
  methods =
      record {
        name = [];
        class = (record { 0 = 0 });
        is_static = false;
        is_constructor = true;
        is_synchronized = false;
        is_helper = false;
        formals = [];
        locals = [];
        result = None;
        body = (code.Then (code.Do (code.Evaluate (code.Assign (code.FieldOf code.This (record { 0 = 1 })) code.NewPlain))) (code.Do (code.Evaluate (code.Assign (code.FieldOf code.This (record { 0 = 2 })) code.NewPlain))));
      }
      ∷ record {
        name = [];
        class = (record { 0 = 0 });
        is_static = false;
        is_constructor = false;
        is_synchronized = false;
        is_helper = false;
        formals = [];
        locals = [];
        result = None;
        body = (code.Synchronized (code.Read (code.FieldOf code.This (record { 0 = 1 }))) (code.Do (code.Evaluate (code.Assign (code.FieldOf code.This (record { 0 = 0 })) (code.Number widths.Int (pos 1))))));
      }
      ∷ record {
        name = [];
        class = (record { 0 = 0 });
        is_static = true;
        is_constructor = false;
        is_synchronized = false;
        is_helper = false;
        formals = [];
        locals = [];
        result = None;
        body = (code.Do (code.Invoke (code.CallOn (code.NewObject (record { 0 = 0 }) code.no_more) (record { 0 = 1 }) code.no_more)));
      }
      ∷ [];
  clauses =
      record { kind = clauses.MonitorsFor; owner = (specs.OfField (record { 0 = 0 })); mode = modes.Java; is_static = false; place = record { line = 4; column = 7 }; states = ((specs.FieldOf specs.This (record { 0 = 1 }) 1) ∷ (specs.FieldOf specs.This (record { 0 = 2 }) 2) ∷ []) }
      ∷ [];
  notes = [];
  texts = [];
  main = (record { 0 = 2 });
}

guarded : reported guarding ≡
    codes "violation 1: monitors_for False at 4:7, guest 1, step 11" ∷ codes "finish Finished" ∷ codes "steps 16, guests 1, verdicts 1, violations 1, uncaught 0" ∷ []
unfolding reported digits int_wrap
guarded = refl
