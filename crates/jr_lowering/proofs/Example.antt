-- A program that is well formed, its code as it is listed, and what that does.
--
--   class C {
--     static int n;
--     static int f(Object x) { while (true) { synchronized (x) { if (n > 1) break; else n++; } } return n; }
--     public static void main(String[] args) { try { f(null); } catch (NullPointerException e) { throw e; } }
--   }
use Rattle.std.proofs.Common.{◌≡◌, ◌≤◌, inr, ℕ, zero, suc, [], ◌∷◌, length, refl, subst, None, Some, pos, true, false, arith, lit<}
use Rattle.jr_base.specs.declared.value.Value.TheVariants as values
use Rattle.jr_base.specs.declared.action.Reply.TheVariants as replies
use Rattle.jr_base.specs.declared.action.LeaveHow.TheVariants.{Abrupt}
use Rattle.jr_base.specs.declared.action.EndHow.TheVariants as ends
use Rattle.jr_base.specs.declared.finish.Fault.TheVariants as faults
use Rattle.jr_base.specs.declared.kind.SlotKind.TheVariants as kinds
use Rattle.jr_base.specs.Deed as deeds
use Rattle.jr_base.specs.Threads.{class_object, cell, Wants}
use Rattle.jr_arith.specs.declared.operator.Width.TheVariants.{Int}
use Rattle.jr_arith.specs.declared.operator.Arithmetic.TheVariants.{Add}
use Rattle.jr_arith.specs.declared.operator.Comparison.TheVariants.{Greater}
use Rattle.jr_arith.specs.declared.operator.Binary.TheVariants.{Arithmetic, Compare}
use Rattle.jr_program.specs.Programs.{Class, Field, Program, Method, Number, Truth, Null, Read, Local, StaticField, Binary, PostfixIncrement, ResultOf, CallStatic, no_more, and_then, Evaluate, Then, Do, If, Loop, Break, ReturnValue, ThrowCaught, Try, or_catch, no_catch, Synchronized, class_at, field_at, method_at, clause_at}
use Rattle.jr_program.specs.Clauses.{Clause}
use Rattle.jr_program.specs.Sites.{due_at_site}
use Rattle.jr_program.specs.declared.words.Site.{Site}
use Rattle.jr_program.specs.declared.words.Site.TheVariants as sites
use Rattle.jr_program.specs.WellFormed.{WellFormed, ClassFits, FieldFits, MethodFits, FitsOwner}
use Rattle.jr_code.specs.Instructions.{Push, Load, Store, Pop, Dup, TwoOperands, Jump, JumpNot, BackTo, GetStatic, PutStatic, EnterMonitor, ExitMonitor, CallStaticMethod, ReturnNothing, ReturnTop, ThrowLocal, CatchAt, ExitLocal}
use Rattle.jr_code.specs.Machine.{start_state, run}
use Rattle.jr_lowering.specs.ProgramCode.{method_code, code_of}

abbrev f : Method
f = record {
  name = [];
  class = record { 0 = 0 };
  is_static = true;
  is_constructor = false;
  is_synchronized = false;
  is_helper = false;
  formals = kinds.Ref ∷ [];
  locals = [];
  result = Some kinds.Int;
  body = Then
      (Loop (Truth true) [] (Synchronized (Read (Local 0)) (If (Binary (Compare Greater Int) (Read (StaticField (record { 0 = 0 }))) (Number Int (pos 1)))
      Break
      (Do (Evaluate (PostfixIncrement Int (StaticField (record { 0 = 0 })) (pos 1)))))))
      (ReturnValue (Read (StaticField (record { 0 = 0 }))));
}

abbrev main : Method
main = record {
  name = [];
  class = record { 0 = 0 };
  is_static = true;
  is_constructor = false;
  is_synchronized = false;
  is_helper = false;
  formals = [];
  locals = kinds.Caught ∷ [];
  result = None;
  body = Try (Do (Evaluate (ResultOf (CallStatic (record { 0 = 0 }) (and_then Null no_more))))) (or_catch faults.NullPointerException 0 (ThrowCaught 0) no_catch);
}

abbrev program : Program
program = record {
  classes = record { name = []; extends_thread = false; implements_runnable = false; run = None; constructor = None } ∷ [];
  fields = record { class = record { 0 = 0 }; is_static = true; is_volatile = false; kind = kinds.Int; constant = values.Int (pos 0) } ∷ [];
  methods = f ∷ (main ∷ []);
  clauses = [];
  notes = [];
  texts = [];
  main = record { 0 = 1 };
}

-- ---- it is well formed

same : {A : Type 0} (a b : A) → Some a ≡ Some b → a ≡ b
same a b e = cc

class_fits : (n : ℕ) (x : Class) → class_at program (record { 0 = n }) ≡ Some x → ClassFits program (record { 0 = n }) x
class_fits zero x e = subst (λ y. ClassFits program (record { 0 = 0 }) y) (same _ x e) (record { run = refl; constructor = tt })
class_fits (suc n) x e = absurd (cc)

field_fits : (n : ℕ) (x : Field) → field_at program (record { 0 = n }) ≡ Some x → FieldFits program x
field_fits zero x e = subst (λ y. FieldFits program y) (same _ x e) (record { class = omega arith; constant = (refl, refl) })
field_fits (suc n) x e = absurd (cc)

f_fits : MethodFits program (record { 0 = 0 }) f
f_fits = record {
  class = omega arith;
  formals = ((λ e. cc), tt);
  few_formals = omega arith;
  result = λ e. cc;
  constructs = tt;
  body = (
    (refl, tt, ((refl, (λ e. cc)), (((_, refl, refl, refl, (λ e. cc)), (refl, refl), refl), refl, (kinds.Int, ((_, refl, refl, refl, (λ e. cc)), refl, refl))))),
    (kinds.Int, refl, (_, refl, refl, refl, (λ e. cc))),
  );
  ends = inr tt;
}

main_fits : MethodFits program (record { 0 = 1 }) main
main_fits = record {
  class = omega arith;
  formals = tt;
  few_formals = omega arith;
  result = λ e. cc;
  constructs = tt;
  body = ((kinds.Int, (f, refl, refl, refl, (refl, refl))), (refl, refl, tt));
  ends = tt;
}

method_fits : (n : ℕ) (x : Method) → method_at program (record { 0 = n }) ≡ Some x → MethodFits program (record { 0 = n }) x
method_fits zero x e = subst (λ y. MethodFits program (record { 0 = 0 }) y) (same _ x e) f_fits
method_fits (suc zero) x e = subst (λ y. MethodFits program (record { 0 = 1 }) y) (same _ x e) main_fits
method_fits (suc (suc n)) x e = absurd (cc)

clause_fits : (n : ℕ) (x : Clause) → clause_at program (record { 0 = n }) ≡ Some x → FitsOwner program x x.owner
clause_fits zero x e = absurd (cc)
clause_fits (suc n) x e = absurd (cc)

few_at_entry : (n : ℕ) → length (due_at_site program (sites.Entry (record { 0 = n }))) ≤ 16
few_at_entry zero = omega arith
few_at_entry (suc zero) = omega arith
few_at_entry (suc (suc n)) = omega arith

few_at_return : (n : ℕ) → length (due_at_site program (sites.Return (record { 0 = n }))) ≤ 16
few_at_return zero = omega arith
few_at_return (suc zero) = omega arith
few_at_return (suc (suc n)) = omega arith

few : (site : Site) → length (due_at_site program site) ≤ 16
few (sites.Entry m) = few_at_entry m.0
few (sites.Commit m) = omega arith
few (sites.Return m) = few_at_return m.0
few (sites.Access f) = omega arith
few (sites.Edge m) = omega arith
few (sites.Assert c) = omega arith

formed : WellFormed program
formed = record {
  numbers = record { classes = lit< tt; fields = lit< tt; methods = lit< tt; clauses = lit< tt; texts = lit< tt };
  main = (_, refl, refl, refl, refl, refl);
  classes = λ c x e. class_fits c.0 x e;
  fields = λ f x e. field_fits f.0 x e;
  methods = λ m x e. method_fits m.0 x e;
  clauses = λ c x e. clause_fits c.0 x e;
  few_due = few;
}

-- ---- its code

-- `break` gives back the monitor before it jumps out of the loop
code_of_f : (method_code program f).instructions ≡
    -- 0
    Push (values.Bool true) ∷ JumpNot 23
    -- 2
    ∷ Load 0 ∷ Dup ∷ Store 1 ∷ EnterMonitor
    -- 6
    ∷ GetStatic (cell (class_object (record { 0 = 0 })) 0) kinds.Int ∷ Push (values.Int (pos 1)) ∷ TwoOperands (Compare Greater Int) ∷ JumpNot 14
    -- 10
    ∷ Load 1 ∷ ExitMonitor ∷ Jump 23 ∷ Jump 20
    -- 14
    ∷ GetStatic (cell (class_object (record { 0 = 0 })) 0) kinds.Int ∷ Dup ∷ Push (values.Int (pos 1)) ∷ TwoOperands (Arithmetic Add Int)
    ∷ PutStatic (cell (class_object (record { 0 = 0 })) 0) kinds.Int ∷ Pop
    -- 20
    ∷ Load 1 ∷ ExitMonitor ∷ BackTo 0
    -- 23
    ∷ GetStatic (cell (class_object (record { 0 = 0 })) 0) kinds.Int ∷ ReturnTop
    -- 25
    ∷ Push (values.Int (pos 0)) ∷ ReturnTop ∷ []
code_of_f = refl

-- an exception between Enter and Exit gives the monitor back, of which local 1 holds the object
regions_of_f : (method_code program f).regions ≡ record { first = 6; past = 20; kind = ExitLocal 1 } ∷ []
regions_of_f = refl

code_of_main : (method_code program main).instructions ≡
    -- 0
    Push values.Null ∷ CallStaticMethod (record { 0 = 0 }) ∷ Pop ∷ Jump 7
    -- 4
    ∷ Store 0 ∷ ThrowLocal 0 ∷ Jump 7
    -- 7
    ∷ ReturnNothing ∷ []
code_of_main = refl

regions_of_main : (method_code program main).regions ≡ record { first = 0; past = 3; kind = CatchAt faults.NullPointerException 4 } ∷ []
regions_of_main = refl

-- ---- what it does

-- the null of the call throws in `f`, which is left; the handler throws again
after_two_replies : run (code_of program) 100 (start_state (code_of program) (Some (record { method = record { 0 = 1 }; this = None }))) (replies.Unit ∷ (replies.Unit ∷ [])) ≡ Some (Wants (deeds.Leave (record { 0 = 0 }) Abrupt))
after_two_replies = refl

at_the_end : run (code_of program) 100 (start_state (code_of program) (Some (record { method = record { 0 = 1 }; this = None }))) (replies.Unit ∷ (replies.Unit ∷ (replies.Unit ∷ (replies.Unit ∷ [])))) ≡ Some (Wants (deeds.End (ends.Uncaught faults.NullPointerException)))
at_the_end = refl
