-- The code of a statement does what the statement does.
use Rattle.std.proofs.Common.{◌≡◌, ℕ, zero, suc, ◌+◌, ◌<◌, ◌≤◌, inl, inr, Bool, true, List, [], ◌∷◌, ◌++◌, map, length, Option, Some, None, refl, sym, ap, ◌∙◌, subst, arith, append_assoc}
use Rattle.std.specs.Prelude.{slice_get, slice_set, nat_le, nat_lt, ◌&&◌}
use Rattle.std.proofs.lemmas.Bool.Decides.{nat_tests}
use Rattle.jr_base.specs.Deed.{Deed}
use Rattle.jr_base.specs.Deed as deeds
use Rattle.jr_base.specs.declared.number.MethodId.{MethodId}
use Rattle.jr_base.specs.declared.number.ObjId.{ObjId}
use Rattle.jr_base.specs.declared.action.Reply.{Reply}
use Rattle.jr_base.specs.declared.action.Way.TheVariants as ways
use Rattle.jr_base.specs.declared.value.Value.{Value}
use Rattle.jr_base.specs.declared.value.Value.TheVariants as values
use Rattle.jr_base.specs.declared.finish.Fault.{Fault}
use Rattle.jr_base.specs.declared.finish.Fault.TheVariants as faults
use Rattle.jr_base.specs.declared.kind.SlotKind.{SlotKind}
use Rattle.jr_base.specs.declared.kind.SlotKind.TheVariants.{Bool as Boolean, Ref as Reference, Caught as CaughtKind}
use Rattle.jr_arith.specs.Operators.{truth_of}
use Rattle.jr_base.specs.Faults.{catches}
use Rattle.jr_program.specs.Programs.{Expr, Catches, no_catch, or_catch, Statement, Skip, Then, Declare, Do, If, Loop, DoLoop, Break, Continue, Return, ReturnValue, Throw, ThrowCaught, Try, Synchronized, Commit, Println, Assert}
use Rattle.jr_base.specs.Threads.{Wants, Tape, value_at, fault_at, reference}
use Rattle.jr_base.specs.Content.{Content, Holds, Caught, value_in, fault_in}
use Rattle.jr_meaning.specs.Next.{Variables, Out, Got, Threw, Stops, NoTurns, Going, then_do, ask, throws, if_so, on_object, Calls, Context, context_of, eval, shown, Completion, Falls, Breaks, Continues, Returns, on_fall, on_turn, perform, perform_all, act as acting, turns as turns_of, do_turns, on_throw, on_leave, exec, handle}
use Rattle.jr_code.specs.Instructions.{Instruction, Load, Store, Dup, Jump, JumpNot, BackTo, EnterMonitor, ExitMonitor, ReturnNothing, ReturnTop, CommitNow, AssertThat, PrintAll, ThrowNew, ThrowLocal, RegionKind, CatchAt, ExitLocal, Region, Code}
use Rattle.jr_code.specs.Machine.{instructions_of, regions_of, StackFrame, stack_frame, State, Throws, Move, Goes, Asks, on, throw_at, content_in, choose, with_object, act, holds, exit_local, handles, step, follow, run}
use Rattle.jr_lowering.specs.ExprCode.{Setting, shift, hidden, expr_size, expr_code}
use Rattle.jr_lowering.specs.StatementCode.{effects_size, effects_code, text_of_part, parts_size, parts_code, Around, inside_loop, inside_monitor, exit_code, statement_size, catches_size, statement_code, catches_code, catch_regions, statement_regions, catches_regions, larger, monitors_in, monitors_in_all}
use Rattle.jr_program.specs.WellFormed.{Scope, HasKind, AreVariables, Fits, CatchesFit}
use Rattle.jr_lowering.proofs.Follow.{Go, Hidden, Inv, from, Leads, Follows, Any, stay, leads_on, arrives, falls_to, follows_on, follows_then, widen, rethrow, goes, asks, chooses}
use Rattle.jr_lowering.proofs.Locals.{Shape, shape_len, has_content, has_value, shape_set, whole, get_variable, set_variable, get_hidden, set_hidden}
use Rattle.jr_lowering.proofs.Places.{HasAt, has_front, has_back, expr_len, effects_len, parts_len, statement_len}
use Rattle.jr_lowering.proofs.Operands.{pushed, Returned, CallsRun, ArityRight}
use Rattle.jr_lowering.proofs.Effects.{values_in, effect_runs, effects_run, shown_runs, print_act}
use Rattle.jr_lowering.proofs.Expressions.{setting_in, keeping, one, jumps, acts, with_fault, expr_runs}
use Rattle.jr_lowering.proofs.Regions.{Away, away_append, away_narrow, region_away, catch_away, statement_away, catches_away, passes, Sits, sits_first, sits_second, sits_in, leaves}

-- in a loop, or not
abbrev pub flags : Scope → Bool → Scope
flags s l = record s { in_loop = l }

-- the ways in which a statement can be left
abbrev pub WayFits : Scope → Completion → Type 0
WayFits s Falls = Unit {0}
WayFits s Breaks = s.in_loop ≡ true
WayFits s Continues = s.in_loop ≡ true
WayFits s (Returns r) = Returned s.result r

-- where a statement's ways lead: each is reached from the code that stands for it
pub record Outs (s : Scope) (code : Code) (below : List StackFrame) (m : MethodId) (this : Option ObjId) (J : Hidden → Type 0) (to break_to continue_to : ℕ) (c : Around) (k : Completion → Variables → Hidden → Go) : Type 0 where
  pub falls : (vs : Variables) (h : Hidden) (t : Tape) → keeping s J vs h → Leads (from code (on below m this to [] (whole s.is_static this vs h))) t (k Falls vs h) t
  pub breaks : s.in_loop ≡ true → (at : ℕ) (vs : Variables) (h : Hidden) (t : Tape) → keeping s J vs h → HasAt (instructions_of code m) at (exit_code (setting_in s) c.in_all c.in_loop (Jump break_to)) → Leads (from code (on below m this at [] (whole s.is_static this vs h))) t (k Breaks vs h) t
  pub continues : s.in_loop ≡ true → (at : ℕ) (vs : Variables) (h : Hidden) (t : Tape) → keeping s J vs h → HasAt (instructions_of code m) at (exit_code (setting_in s) c.in_all c.in_loop (Jump continue_to)) → Leads (from code (on below m this at [] (whole s.is_static this vs h))) t (k Continues vs h) t
  pub returns : (at : ℕ) (vs : Variables) (h : Hidden) (t : Tape) → keeping s J vs h → HasAt (instructions_of code m) at (exit_code (setting_in s) c.in_all c.in_all ReturnNothing) → Leads (from code (on below m this at [] (whole s.is_static this vs h))) t (k (Returns None) vs h) t
  pub gives : (at : ℕ) (v : Value) (vs : Variables) (h : Hidden) (t : Tape) → keeping s J vs h → HasAt (instructions_of code m) at (exit_code (setting_in s) c.in_all c.in_all ReturnTop) → Leads (from code (on below m this at (Holds v ∷ []) (whole s.is_static this vs h))) t (k (Returns (Some v)) vs h) t

-- what is known of the hidden locals stays so when one of this depth or more is set
pub record Stable (J : Hidden → Type 0) (depth size : ℕ) : Type 0 where
  pub len : (h : Hidden) → J h → length h ≡ size
  pub set : (h : Hidden) (d : ℕ) (x : Content) → depth ≤ d → J h → J (slice_set h d x)

-- also the monitor of this object is held
abbrev pub and_held : (Hidden → Type 0) → ℕ → ObjId → Hidden → Type 0
and_held J depth o h = J h × (slice_get h depth ≡ Some (Holds (values.Ref o)))

set_same : (h : Hidden) (d : ℕ) (x : Content) → d < length h → slice_get (slice_set h d x) d ≡ Some x
set_same [] d x lt = absurd (omega arith)
set_same (c ∷ h) zero x lt = refl
set_same (c ∷ h) (suc d) x lt = set_same h d x (omega arith)

set_other : (h : Hidden) (d e : ℕ) (x : Content) → e < d → slice_get (slice_set h d x) e ≡ slice_get h e
set_other [] d e x lt = refl
set_other (c ∷ h) zero e x lt = absurd (omega arith)
set_other (c ∷ h) (suc d) zero x lt = refl
set_other (c ∷ h) (suc d) (suc e) x lt = set_other h d e x (omega arith)

pub set_length : (h : Hidden) (d : ℕ) (x : Content) → length (slice_set h d x) ≡ length h
set_length [] d x = refl
set_length (c ∷ h) zero x = refl
set_length (c ∷ h) (suc d) x = ap (λ n. suc n) (set_length h d x)

stable_held : (J : Hidden → Type 0) (depth size : ℕ) (o : ObjId) → Stable J depth size → Stable (and_held J depth o) (suc depth) size
stable_held J depth size o stable = record {
  len = λ h j. stable.len h j.0;
  set = λ h d x le j. (stable.set h d x (omega arith) j.0, set_other h d depth x (omega arith) ∙ j.1);
}

pub larger_left : (a b : ℕ) → a ≤ larger a b
larger_left zero b = omega arith
larger_left (suc a) zero = omega arith
larger_left (suc a) (suc b) = omega (arith, larger_left a b)

pub larger_right : (a b : ℕ) → b ≤ larger a b
larger_right zero b = omega arith
larger_right (suc a) zero = omega arith
larger_right (suc a) (suc b) = omega (arith, larger_right a b)

-- the Exit of a monitor, and then something else
abbrev pub exit_go : ObjId → Go → Go
exit_go o k n [] = Some (Wants (deeds.Exit o))
exit_go o k n (r ∷ t) = k n t

-- falls to a place, and is left as before
abbrev falling : (Variables → Hidden → Go) → (Completion → Variables → Hidden → Go) → Completion → Variables → Hidden → Go
falling there k Falls = there
falling there k Breaks = k Breaks
falling there k Continues = k Continues
falling there k (Returns r) = k (Returns r)

-- the ways out of a loop's body: to what follows in the turn, or to the loop's end
abbrev looping : (Variables → Hidden → Go) → (Variables → Hidden → Go) → (Completion → Variables → Hidden → Go) → Completion → Variables → Hidden → Go
looping back end k Falls = back
looping back end k Breaks = end
looping back end k Continues = back
looping back end k (Returns r) = k (Returns r)

-- the ways out of a monitor's block
abbrev guarding : (Variables → Hidden → Go) → ObjId → (Completion → Variables → Hidden → Go) → Completion → Variables → Hidden → Go
guarding there o k Falls vs h = there vs h
guarding there o k Breaks vs h = exit_go o (k Breaks vs h)
guarding there o k Continues vs h = exit_go o (k Continues vs h)
guarding there o k (Returns r) vs h = exit_go o (k (Returns r) vs h)

module _ (base : Scope) (code : Code) (calls : Calls) (turns : ℕ) (calls_run : CallsRun code base.program calls) (arity : ArityRight code base.program) (below : List StackFrame) (m : MethodId) (this : Option ObjId) where
  abbrev standing : ℕ → List Content → Variables → Hidden → State
  standing at stack vs h = on below m this at stack (whole base.is_static this vs h)

  abbrev context : Context
  context = context_of base.program m this calls turns

  abbrev is : List Instruction
  is = instructions_of code m

  abbrev st : Setting
  st = setting_in base

  abbrev faulting : List Region → Fault → Variables → Hidden → ℕ → Go
  faulting after = with_fault code below m base.is_static this after

  abbrev Sitting : ℕ → ℕ → List Region → List Region → Type 0
  Sitting lo hi rs after = Sits (regions_of code m) lo hi rs after

  moved : (at to : ℕ) (stack : List Content) (vs : Variables) (h : Hidden) (t : Tape) → at ≡ to → Leads (from code (standing at stack vs h)) t (from code (standing to stack vs h)) t
  moved at to stack vs h t e = subst (λ p. Leads (from code (standing at stack vs h)) t (from code (standing p stack vs h)) t) e (stay _ t)

  -- an exception of a piece that none of the regions in it holds
  settled : {A : Type 0} {J : Hidden → Type 0} {P : A → Type 0} (lo1 hi1 lo hi : ℕ) {s : Go} {t : Tape} {k : A → Variables → Hidden → Go} (rs after : List Region) (o : Out A) → lo ≤ lo1 → hi1 ≤ hi → Sitting lo hi rs after → Away lo1 hi1 rs → Follows (keeping base J) P lo1 hi1 s t k (faulting (regions_of code m)) o → Follows (keeping base J) P lo hi s t k (faulting after) o
  settled lo1 hi1 lo hi rs after o le le' sits away r =
      rethrow o le le' (λ fault vs h t1 p low high. leaves code below m base.is_static this p fault vs h t1 refl (omega arith) (omega arith) (away_narrow lo1 hi1 p (p + 1) rs low (omega arith) away) sits) r

  -- an expression at the head of a piece
  head : (l : Bool) (J : Hidden → Type 0) (e : Expr) (k : SlotKind) → HasKind (flags base l) e k → (at at1 lo hi : ℕ) (rs after : List Region) → at + expr_size st.program e ≡ at1 → lo ≤ at → at1 ≤ hi → HasAt is at (expr_code st e at) → Sitting lo hi rs after → Away at at1 rs → (vs : Variables) (h : Hidden) (t : Tape) → keeping base J vs h → Follows (keeping base J) Any lo hi (from code (standing at [] vs h)) t (λ v vs h. from code (standing at1 (Holds v ∷ []) vs h)) (faulting after) (eval context e vs t)
  head l J e k has at at1 lo hi rs after len le le' code_at sits away vs h t inv =
      settled at at1 lo hi rs after (eval context e vs t) le le' sits away (expr_runs (flags base l) code calls turns calls_run arity below m this J e k has at at1 len [] vs h t inv code_at)

  -- the end of a statement
  ended : (l : Bool) (J : Hidden → Type 0) (p to break_to continue_to lo hi : ℕ) (c : Around) (after : List Region) (k : Completion → Variables → Hidden → Go) → Outs (flags base l) code below m this J to break_to continue_to c k → p ≡ to → (vs : Variables) (h : Hidden) (t : Tape) → keeping base J vs h → Follows (keeping base J) (WayFits (flags base l)) lo hi (from code (standing p [] vs h)) t k (faulting after) (Got Falls vs t)
  ended l J p to break_to continue_to lo hi c after k outs e vs h t inv = arrives Falls vs h t inv tt (leads_on (moved p to [] vs h t e) (outs.falls vs h t inv))

  -- an Exit of a hidden local's object, and what follows it
  exits : (at d : ℕ) (o : ObjId) (stack : List Content) (vs : Variables) (h : Hidden) (k : Go) → Shape base.kinds vs → slice_get h d ≡ Some (Holds (values.Ref o)) → slice_get is at ≡ Some (Load (hidden st d)) → slice_get is (at + 1) ≡ Some ExitMonitor → ((t : Tape) → Leads (from code (standing (at + 1 + 1) stack vs h)) t k t) → (t : Tape) → Leads (from code (standing at stack vs h)) t (exit_go o k) t
  exits at d o stack vs h k shape slot h1 h2 rest t =
      leads_on (one code below m this (Load (hidden st d)) at (at + 1) stack (Holds (values.Ref o) ∷ stack) _ _ h1
      (ap (λ c. Goes (on below m this (at + 1) (content_in c ∷ stack) (whole base.is_static this vs h))) (get_hidden base.is_static this vs h (length base.kinds) d (shape_len base.kinds vs shape) ∙ slot)) refl t) (now t)
    where
      now : (t : Tape) → Leads (from code (standing (at + 1) (Holds (values.Ref o) ∷ stack) vs h)) t (exit_go o k) t
      now [] = record { by = λ n. (suc n, omega arith, ap (λ i. follow (act code i below m this (at + 1) (Holds (values.Ref o) ∷ stack) (whole base.is_static this vs h)) [] (run code n)) h2) }
      now (r ∷ t) = record { by = λ n. let a = (rest t).by n in (suc a.0, omega (arith, a.1), ap (λ i. follow (act code i below m this (at + 1) (Holds (values.Ref o) ∷ stack) (whole base.is_static this vs h)) (r ∷ t) (run code a.0)) h2 ∙ a.2) }

  -- an Exit that the meaning makes too
  exit_follows : {B : Type 0} {I : Inv} {P : B → Type 0} {lo hi : ℕ} {k1 : Go} {k : B → Variables → Hidden → Go} {th : Fault → Variables → Hidden → ℕ → Go} (o : ObjId) (vs : Variables) (t : Tape) (f : Reply → Going B) → ((r : Reply) (t : Tape) → Follows I P lo hi k1 t k th (f r vs t)) → Follows I P lo hi (exit_go o k1) t k th (ask (deeds.Exit o) f vs t)
  exit_follows o vs [] f rest = record { is = (0, refl) }
  exit_follows o vs (r ∷ t) f rest = follows_on (f r vs t) (record { by = λ n. (n, omega arith, refl) }) (rest r t)

  -- the block of a monitor was left
  guard_end : {I I1 : Inv} {P : Completion → Type 0} {lo hi lo1 hi1 : ℕ} {s : Go} {t : Tape} (object : ObjId) (k1 k : Completion → Variables → Hidden → Go) {th1 th : Fault → Variables → Hidden → ℕ → Go} (o : Out Completion) → ((w : Completion) (vs : Variables) (h : Hidden) (t1 : Tape) → I1 vs h → P w → Leads (k1 w vs h) t1 (exit_go object (k w vs h)) t1) → ((vs : Variables) (h : Hidden) → I1 vs h → I vs h) → ((f : Fault) (vs : Variables) (h : Hidden) (t1 : Tape) (p : ℕ) → I1 vs h → lo1 ≤ p → p < hi1 → Follows I P lo hi (th1 f vs h p) t1 k th (acting (deeds.Exit object) (throws f) vs t1)) → Follows I1 P lo1 hi1 s t k1 th1 o → Follows I P lo hi s t k th (on_leave object o)
  guard_end object k1 k (Got w vs t) moves less throwing r =
      follows_on (on_leave object (Got w vs t)) (leads_on r.is.leads (moves w vs r.is.hidden t r.is.keeps r.is.fits))
      (exit_follows object vs t (λ r. Got w) (λ x t1. arrives w vs r.is.hidden t1 (less vs r.is.hidden r.is.keeps) r.is.fits (stay _ t1)))
  guard_end object k1 k (Threw f vs t) moves less throwing r = follows_on (on_leave object (Threw f vs t)) r.is.leads (throwing f vs r.is.hidden t r.is.place r.is.keeps r.is.low r.is.high)
  guard_end object k1 k (Stops d) moves less throwing r = record { is = r.is }
  guard_end object k1 k NoTurns moves less throwing r = record { is = tt }

  on_way : (l : Bool) (J : Hidden → Type 0) (lo hi : ℕ) (after : List Region) (there : Variables → Hidden → Go) (k : Completion → Variables → Hidden → Go) (w : Completion) (vs : Variables) (h : Hidden) (t : Tape) (f : Going Completion) → keeping base J vs h → WayFits (flags base l) w → Follows (keeping base J) (WayFits (flags base l)) lo hi (there vs h) t k (faulting after) (f vs t) → Follows (keeping base J) (WayFits (flags base l)) lo hi (falling there k w vs h) t k (faulting after) (on_fall w f vs t)
  on_way l J lo hi after there k Falls vs h t f inv fits x = x
  on_way l J lo hi after there k Breaks vs h t f inv fits x = arrives Breaks vs h t inv fits (stay _ t)
  on_way l J lo hi after there k Continues vs h t f inv fits x = arrives Continues vs h t inv fits (stay _ t)
  on_way l J lo hi after there k (Returns v) vs h t f inv fits x = arrives (Returns v) vs h t inv fits (stay _ t)

  -- the end of a loop's body
  on_end : (l : Bool) (J : Hidden → Type 0) (lo hi : ℕ) (after : List Region) (back end : Variables → Hidden → Go) (k : Completion → Variables → Hidden → Go) (w : Completion) (vs : Variables) (h : Hidden) (t : Tape) (f : Going Completion) → keeping base J vs h → WayFits (flags base true) w → Leads (end vs h) t (k Falls vs h) t → Follows (keeping base J) (WayFits (flags base l)) lo hi (back vs h) t k (faulting after) (f vs t) → Follows (keeping base J) (WayFits (flags base l)) lo hi (looping back end k w vs h) t k (faulting after) (on_turn w f vs t)
  on_end l J lo hi after back end k Falls vs h t f inv fits falls x = x
  on_end l J lo hi after back end k Breaks vs h t f inv fits falls x = arrives Falls vs h t inv tt falls
  on_end l J lo hi after back end k Continues vs h t f inv fits falls x = x
  on_end l J lo hi after back end k (Returns v) vs h t f inv fits falls x = arrives (Returns v) vs h t inv fits (stay _ t)

  -- the turns of a `for` or `while`
  loop_runs : (l : Bool) (J : Hidden → Type 0) (at at1 at2 at3 to : ℕ) (after : List Region) (k : Completion → Variables → Hidden → Go) (test : Going Value) (body : Going Completion) (update : Going (Unit {0})) → at1 < at2 + 1 → at2 ≤ at3 → at3 + 1 ≡ to → slice_get is at1 ≡ Some (JumpNot (at3 + 1)) → slice_get is at3 ≡ Some (BackTo at) → ((vs : Variables) (h : Hidden) (t : Tape) → keeping base J vs h → Leads (from code (standing to [] vs h)) t (k Falls vs h) t) →
      ((vs : Variables) (h : Hidden) (t : Tape) → keeping base J vs h → Follows (keeping base J) Any at to (from code (standing at [] vs h)) t (λ v vs h. from code (standing at1 (Holds v ∷ []) vs h)) (faulting after) (test vs t)) →
      ((vs : Variables) (h : Hidden) (t : Tape) → keeping base J vs h → Follows (keeping base J) (WayFits (flags base true)) at to (from code (standing (at1 + 1) [] vs h)) t (looping (λ vs h. from code (standing at2 [] vs h)) (λ vs h. from code (standing (at3 + 1) [] vs h)) k) (faulting after) (body vs t)) →
      ((vs : Variables) (h : Hidden) (t : Tape) → keeping base J vs h → Follows (keeping base J) Any at to (from code (standing at2 [] vs h)) t (λ w vs h. from code (standing at3 [] vs h)) (faulting after) (update vs t)) →
      (n : ℕ) (vs : Variables) (h : Hidden) (t : Tape) → keeping base J vs h → Follows (keeping base J) (WayFits (flags base l)) at to (from code (standing at [] vs h)) t k (faulting after) (turns_of n test body update vs t)
  loop_runs l J at at1 at2 at3 to after k test body update lt lt' e h_test h_back falls test_runs body_runs update_runs zero vs h t inv = record { is = tt }
  loop_runs l J at at1 at2 at3 to after k test body update lt lt' e h_test h_back falls test_runs body_runs update_runs (suc n) vs h t inv =
      follows_then (test vs t) _ (omega arith) (omega arith) (test_runs vs h t inv) (λ v vs1 h1 t1 i1 u. chooses code (truth_of v) vs1 _ (Got Falls)
      (jumps code below m this (JumpNot (at3 + 1)) at1 (Holds v ∷ []) _ _ h_test refl t1)
      (follows_then (body vs1 t1) _ (omega arith) (omega arith) (body_runs vs1 h1 t1 i1)
      (λ w vs2 h2 t2 i2 fits. on_end l J at to after _ _ k w vs2 h2 t2 (λ vs t. then_do (update vs t) (λ end. acting deeds.Back (turns_of n test body update))) i2 fits
      (leads_on (moved (at3 + 1) to [] vs2 h2 t2 e) (falls vs2 h2 t2 i2))
      (follows_then (update vs2 t2) _ (omega arith) (omega arith) (update_runs vs2 h2 t2 i2)
      (λ w3 vs3 h3 t3 i3 fits3. acts code below m this (BackTo at) at3 [] _ _ _ vs3 t3 (λ reply. turns_of n test body update) h_back refl
      (λ reply t4. loop_runs l J at at1 at2 at3 to after k test body update lt lt' e h_test h_back falls test_runs body_runs update_runs n vs3 h3 t4 i3)))))
      (arrives Falls vs1 h1 t1 i1 tt (leads_on (moved (at3 + 1) to [] vs1 h1 t1 e) (falls vs1 h1 t1 i1))))

  -- the turns of a `do`
  do_runs : (l : Bool) (J : Hidden → Type 0) (at at1 at2 to : ℕ) (after : List Region) (k : Completion → Variables → Hidden → Go) (test : Going Value) (body : Going Completion) → at2 + 1 + 1 ≡ to → slice_get is at2 ≡ Some (JumpNot (at2 + 1 + 1)) → slice_get is (at2 + 1) ≡ Some (BackTo at) → ((vs : Variables) (h : Hidden) (t : Tape) → keeping base J vs h → Leads (from code (standing to [] vs h)) t (k Falls vs h) t) →
      ((vs : Variables) (h : Hidden) (t : Tape) → keeping base J vs h → Follows (keeping base J) (WayFits (flags base true)) at to (from code (standing at [] vs h)) t (looping (λ vs h. from code (standing at1 [] vs h)) (λ vs h. from code (standing (at2 + 1 + 1) [] vs h)) k) (faulting after) (body vs t)) →
      ((vs : Variables) (h : Hidden) (t : Tape) → keeping base J vs h → Follows (keeping base J) Any at to (from code (standing at1 [] vs h)) t (λ v vs h. from code (standing at2 (Holds v ∷ []) vs h)) (faulting after) (test vs t)) →
      (n : ℕ) (vs : Variables) (h : Hidden) (t : Tape) → keeping base J vs h → Follows (keeping base J) (WayFits (flags base l)) at to (from code (standing at [] vs h)) t k (faulting after) (do_turns n test body vs t)
  do_runs l J at at1 at2 to after k test body e h_test h_back falls body_runs test_runs zero vs h t inv = record { is = tt }
  do_runs l J at at1 at2 to after k test body e h_test h_back falls body_runs test_runs (suc n) vs h t inv =
      follows_then (body vs t) _ (omega arith) (omega arith) (body_runs vs h t inv)
      (λ w vs1 h1 t1 i1 fits. on_end l J at to after _ _ k w vs1 h1 t1 (λ vs t. then_do (test vs t) (λ x. if_so (truth_of x) (acting deeds.Back (do_turns n test body)) (Got Falls))) i1 fits
      (leads_on (moved (at2 + 1 + 1) to [] vs1 h1 t1 e) (falls vs1 h1 t1 i1))
      (follows_then (test vs1 t1) _ (omega arith) (omega arith) (test_runs vs1 h1 t1 i1)
      (λ v vs2 h2 t2 i2 u. chooses code (truth_of v) vs2 _ (Got Falls)
      (jumps code below m this (JumpNot (at2 + 1 + 1)) at2 (Holds v ∷ []) _ _ h_test refl t2)
      (acts code below m this (BackTo at) (at2 + 1) [] _ _ _ vs2 t2 (λ reply. do_turns n test body) h_back refl
      (λ reply t3. do_runs l J at at1 at2 to after k test body e h_test h_back falls body_runs test_runs n vs2 h2 t3 i2))
      (arrives Falls vs2 h2 t2 i2 tt (leads_on (moved (at2 + 1 + 1) to [] vs2 h2 t2 e) (falls vs2 h2 t2 i2))))))

  -- a place is in a region
  in_region : (at at1 p : ℕ) (kind : RegionKind) → at ≤ p → p < at1 → holds (record { first = at; past = at1; kind = kind }) p ≡ true
  in_region at at1 p kind low high =
      let x : nat_le at p ≡ true = grind (arith, nat_tests) in
      let y : nat_lt p at1 ≡ true = grind (arith, nat_tests) in
      ap (λ v. v && nat_lt p at1) x ∙ y

  handled_here : (at at1 p : ℕ) (f : Fault) (kind : RegionKind) (rest : List Region) (vs : Variables) (h : Hidden) → at ≤ p → p < at1 → step code (Throws f (record { first = at; past = at1; kind = kind } ∷ rest) (stack_frame m this p [] (whole base.is_static this vs h)) below) ≡ handles kind f rest (stack_frame m this p [] (whole base.is_static this vs h)) below
  handled_here at at1 p f kind rest vs h low high =
      let context = stack_frame m this p [] (whole base.is_static this vs h) in
      ap (λ v. choose v (handles kind f rest context below) (Goes (Throws f rest context below))) (in_region at at1 p kind low high)

  -- the regions that are left and hold no place of the piece are passed
  pass_rest : {J : Hidden → Type 0} {P : Completion → Type 0} {lo hi : ℕ} (lo1 hi1 : ℕ) {s : Go} {t : Tape} {k : Completion → Variables → Hidden → Go} (rb after : List Region) (o : Out Completion) → lo ≤ lo1 → hi1 ≤ hi → Away lo1 hi1 rb → Follows (keeping base J) P lo1 hi1 s t k (faulting (rb ++ after)) o → Follows (keeping base J) P lo hi s t k (faulting after) o
  pass_rest lo1 hi1 rb after o le le' away r =
      rethrow o le le' (λ fault vs h t1 p low high. passes code below m base.is_static this p fault vs h t1 rb after (away_narrow lo1 hi1 p (p + 1) rb low (omega arith) away)) r

  -- a block with handlers
  try_end : {I : Inv} {P : Completion → Type 0} {lo hi lo1 hi1 : ℕ} {s : Go} {t : Tape} {k : Completion → Variables → Hidden → Go} {th1 th : Fault → Variables → Hidden → ℕ → Go} (o : Out Completion) (go : Fault → Going Completion) → ((f : Fault) (vs : Variables) (h : Hidden) (t1 : Tape) (p : ℕ) → I vs h → lo1 ≤ p → p < hi1 → Follows I P lo hi (th1 f vs h p) t1 k th (go f vs t1)) → Follows I P lo1 hi1 s t k th1 o → Follows I P lo hi s t k th (on_throw o go)
  try_end (Got w vs t) go handling r = record { is = r.is }
  try_end (Threw f vs t) go handling r = follows_on (go f vs t) r.is.leads (handling f vs r.is.hidden t r.is.place r.is.keeps r.is.low r.is.high)
  try_end (Stops d) go handling r = record { is = r.is }
  try_end NoTurns go handling r = record { is = tt }

  -- the variables in the scope of an assert
  scope_is : (scope : List ℕ) (ks : List SlotKind) → AreVariables base.kinds scope ks → (vs : Variables) (h : Hidden) → Shape base.kinds vs → map (value_at (whole base.is_static this vs h)) (map (λ number. shift base.is_static + number) scope) ≡ map (value_at vs) scope
  scope_is [] ks has vs h shape = refl
  scope_is (number ∷ scope) [] has vs h shape = absurd has
  scope_is (number ∷ scope) (k ∷ ks) has vs h shape =
      let v = has_value base.kinds vs number k shape has.0.0 has.0.1 in
      let e = ap value_in (get_variable base.is_static this vs h number (Holds v.0) v.1 ∙ sym v.1) in
      ap (λ x. x ∷ map (value_at (whole base.is_static this vs h)) (map (λ number. shift base.is_static + number) scope)) e ∙ ap (λ l. value_at vs number ∷ l) (scope_is scope ks has.1 vs h shape)

  fault_is : (number : ℕ) → slice_get base.kinds number ≡ Some CaughtKind → (vs : Variables) (h : Hidden) → Shape base.kinds vs → fault_at (whole base.is_static this vs h) (shift base.is_static + number) ≡ fault_at vs number
  fault_is number has vs h shape =
      let c = has_content base.kinds vs number CaughtKind shape has in
      ap fault_in (get_variable base.is_static this vs h number c.0 c.1 ∙ sym c.1)

  -- an instruction that needs an object, and knows it then
  guards_object : {J : Hidden → Type 0} {P : Completion → Type 0} (i : Instruction) (at lo hi : ℕ) (rs after : List Region) (stack : List Content) (vs : Variables) (h : Hidden) (v : Value) (go : ObjId → Move) (f : ObjId → Going Completion) (t : Tape) {k : Completion → Variables → Hidden → Go} → slice_get is at ≡ Some i → act code (Some i) below m this at stack (whole base.is_static this vs h) ≡ with_object code below m this at (whole base.is_static this vs h) v go → keeping base J vs h → lo ≤ at → at < hi → Sitting lo hi rs after → Away at (at + 1) rs → ((o : ObjId) → v ≡ values.Ref o → act code (Some i) below m this at stack (whole base.is_static this vs h) ≡ go o → Follows (keeping base J) P lo hi (from code (standing at stack vs h)) t k (faulting after) (f o vs t)) → Follows (keeping base J) P lo hi (from code (standing at stack vs h)) t k (faulting after) (on_object v f vs t)
  guards_object i at lo hi rs after stack vs h (values.Ref o) go f t has e inv low high sits away rest = rest o refl e
  guards_object i at lo hi rs after stack vs h values.Null go f t has e inv low high sits away rest = falls_to faults.NullPointerException vs h t at inv low high (leads_on (jumps code below m this i at stack _ _ has e t) (leaves code below m base.is_static this at faults.NullPointerException vs h t refl low high away sits))
  guards_object i at lo hi rs after stack vs h (values.Int n) go f t has e inv low high sits away rest = falls_to faults.NullPointerException vs h t at inv low high (leads_on (jumps code below m this i at stack _ _ has e t) (leaves code below m base.is_static this at faults.NullPointerException vs h t refl low high away sits))
  guards_object i at lo hi rs after stack vs h (values.Long n) go f t has e inv low high sits away rest = falls_to faults.NullPointerException vs h t at inv low high (leads_on (jumps code below m this i at stack _ _ has e t) (leaves code below m base.is_static this at faults.NullPointerException vs h t refl low high away sits))
  guards_object i at lo hi rs after stack vs h (values.Bool b) go f t has e inv low high sits away rest = falls_to faults.NullPointerException vs h t at inv low high (leads_on (jumps code below m this i at stack _ _ has e t) (leaves code below m base.is_static this at faults.NullPointerException vs h t refl low high away sits))

  -- each way out of a monitor's block is an Exit, and then the way goes on
  guard_moves : (J : Hidden → Type 0) (at to d : ℕ) (o : ObjId) (k : Completion → Variables → Hidden → Go) → at + 1 + 1 ≡ to → slice_get is at ≡ Some (Load (hidden st d)) → slice_get is (at + 1) ≡ Some ExitMonitor → ((vs : Variables) (h : Hidden) (t : Tape) → keeping base J vs h → Leads (from code (standing to [] vs h)) t (k Falls vs h) t) → (w : Completion) (vs : Variables) (h : Hidden) (t : Tape) → keeping base (and_held J d o) vs h → Leads (guarding (λ vs h. from code (standing at [] vs h)) o k w vs h) t (exit_go o (k w vs h)) t
  guard_moves J at to d o k e h1 h2 falls Falls vs h t i = exits at d o [] vs h (k Falls vs h) i.0 i.1.1 h1 h2 (λ t. leads_on (moved (at + 1 + 1) to [] vs h t e) (falls vs h t (i.0, i.1.0))) t
  guard_moves J at to d o k e h1 h2 falls Breaks vs h t i = stay _ t
  guard_moves J at to d o k e h1 h2 falls Continues vs h t i = stay _ t
  guard_moves J at to d o k e h1 h2 falls (Returns v) vs h t i = stay _ t

  mutual
    pub statement_runs : (s : Statement) (l : Bool) (J : Hidden → Type 0) (size : ℕ) (c : Around) → Stable J c.in_all size → Fits (flags base l) s → c.in_all + monitors_in s ≤ size → (at to break_to continue_to : ℕ) → at + statement_size st.program s c ≡ to → (after : List Region) → Sitting at to (statement_regions st s c at) after → HasAt is at (statement_code st s c at break_to continue_to) → (k : Completion → Variables → Hidden → Go) → Outs (flags base l) code below m this J to break_to continue_to c k → (vs : Variables) (h : Hidden) (t : Tape) → keeping base J vs h → Follows (keeping base J) (WayFits (flags base l)) at to (from code (standing at [] vs h)) t k (faulting after) (exec context s vs t)
    statement_runs Skip l J size c stable has deep at to break_to continue_to e after sits code_at k outs vs h t inv =
        ended l J at to break_to continue_to at to c after k outs (omega arith) vs h t inv
    statement_runs (Then a b) l J size c stable has deep at to break_to continue_to e after sits code_at k outs vs h t inv =
        let at1 = at + statement_size st.program a c in
        let ra = statement_regions st a c at in let rb = statement_regions st b c at1 in
        let h2 = has_back is at (statement_code st a c at break_to continue_to) _ (statement_size st.program a c) (statement_len st a c at break_to continue_to) code_at in
        let there : Variables → Hidden → Go = λ vs h. from code (standing at1 [] vs h) in
        let outs1 : Outs (flags base l) code below m this J at1 break_to continue_to c (falling there k) = record { falls = λ vs h t i. stay _ t; breaks = outs.breaks; continues = outs.continues; returns = outs.returns; gives = outs.gives } in
        follows_then (exec context a vs t) _ (omega arith) (omega arith)
        (pass_rest {lo = at} {hi = to} at at1 rb after (exec context a vs t) (omega arith) (omega arith) (statement_away st b c at1 at at1 (inl (omega arith)))
        (statement_runs a l J size c stable has.0 (omega (arith, deep, larger_left (monitors_in a) (monitors_in b))) at at1 break_to continue_to refl (rb ++ after) (sits_first at at1 ra rb (omega arith) (omega arith) sits) (has_front is at (statement_code st a c at break_to continue_to) _ code_at) (falling there k) outs1 vs h t inv))
        (λ w vs1 h1 t1 i1 fits. on_way l J at to after there k w vs1 h1 t1 (exec context b) i1 fits
        (widen (exec context b vs1 t1) (omega arith) (omega arith)
        (statement_runs b l J size c stable has.1 (omega (arith, deep, larger_right (monitors_in a) (monitors_in b))) at1 to break_to continue_to (omega arith) after (sits_second at1 to ra rb (omega arith) (omega arith) (statement_away st a c at at1 to (inr (omega arith))) sits) h2 k outs vs1 h1 t1 i1)))
    statement_runs (Declare number e) l J size c stable has deep at to break_to continue_to len after sits code_at k outs vs h t inv =
        let at1 = at + expr_size st.program e in
        let h2 = has_back is at (expr_code st e at) _ (expr_size st.program e) (expr_len st e at) code_at in
        follows_then (eval context e vs t) _ (omega arith) (omega arith)
        (head l J e has.0 has.2 at at1 at to [] after refl (omega arith) (omega arith) (has_front is at (expr_code st e at) _ code_at) sits tt vs h t inv)
        (λ v vs1 h1 t1 i1 u.
        let old = has_value base.kinds vs1 number has.0 i1.0 has.1.0 has.1.1 in
        let i2 : keeping base J (slice_set vs1 number (Holds v)) h1 = (shape_set base.kinds vs1 number has.0 (Holds v) i1.0 has.1.0 has.1.1, i1.1) in
        follows_on _ (one code below m this (Store (shift base.is_static + number)) at1 to (Holds v ∷ []) [] _ _ h2.0
        (ap (λ l. Goes (on below m this (at1 + 1) [] l)) (set_variable base.is_static this vs1 h1 number (Holds old.0) (Holds v) old.1)) (omega arith) t1)
        (ended l J to to break_to continue_to at to c after k outs refl (slice_set vs1 number (Holds v)) h1 t1 i2))
    statement_runs (Do effect) l J size c stable has deep at to break_to continue_to len after sits code_at k outs vs h t inv =
        follows_then (perform context effect vs t) _ (omega arith) (omega arith)
        (settled at to at to [] after (perform context effect vs t) (omega arith) (omega arith) sits tt
        (effect_runs (flags base l) code calls turns calls_run arity below m this J effect has at to len vs h t inv code_at))
        (λ u vs1 h1 t1 i1 w. ended l J to to break_to continue_to at to c after k outs refl vs1 h1 t1 i1)
    statement_runs (If e a b) l J size c stable has deep at to break_to continue_to len after sits code_at k outs vs h t inv =
        let at1 = at + expr_size st.program e in
        let at2 = at1 + 1 + statement_size st.program a c in
        let ra = statement_regions st a c (at1 + 1) in let rb = statement_regions st b c (at2 + 1) in
        let h2 = has_back is at (expr_code st e at) _ (expr_size st.program e) (expr_len st e at) code_at in
        let h3 = has_back is (at1 + 1) (statement_code st a c (at1 + 1) break_to continue_to) _ (statement_size st.program a c) (statement_len st a c (at1 + 1) break_to continue_to) h2.1 in
        let end_is : at2 + 1 + statement_size st.program b c ≡ to = omega arith in
        let outs1 : Outs (flags base l) code below m this J at2 break_to continue_to c k = record { falls = λ vs h t i. leads_on (jumps code below m this (Jump (at2 + 1 + statement_size st.program b c)) at2 [] _ (standing to [] vs h) h3.0 (ap (λ p. Goes (standing p [] vs h)) end_is) t) (outs.falls vs h t i); breaks = outs.breaks; continues = outs.continues; returns = outs.returns; gives = outs.gives } in
        follows_then (eval context e vs t) _ (omega arith) (omega arith)
        (head l J e Boolean has.0 at at1 at to (ra ++ rb) after refl (omega arith) (omega arith) (has_front is at (expr_code st e at) _ code_at) sits
        (away_append at at1 ra rb (statement_away st a c (at1 + 1) at at1 (inl (omega arith))) (statement_away st b c (at2 + 1) at at1 (inl (omega arith)))) vs h t inv)
        (λ v vs1 h1 t1 i1 u. chooses code (truth_of v) vs1 (exec context a) (exec context b)
        (jumps code below m this (JumpNot (at2 + 1)) at1 (Holds v ∷ []) _ _ h2.0 refl t1)
        (pass_rest {lo = at} {hi = to} (at1 + 1) at2 rb after (exec context a vs1 t1) (omega arith) (omega arith) (statement_away st b c (at2 + 1) (at1 + 1) at2 (inl (omega arith)))
        (statement_runs a l J size c stable has.1 (omega (arith, deep, larger_left (monitors_in a) (monitors_in b))) (at1 + 1) at2 break_to continue_to refl (rb ++ after) (sits_first (at1 + 1) at2 ra rb (omega arith) (omega arith) sits) (has_front is (at1 + 1) (statement_code st a c (at1 + 1) break_to continue_to) _ h2.1) k outs1 vs1 h1 t1 i1))
        (widen (exec context b vs1 t1) (omega arith) (omega arith)
        (statement_runs b l J size c stable has.2 (omega (arith, deep, larger_right (monitors_in a) (monitors_in b))) (at2 + 1) to break_to continue_to (omega arith) after (sits_second (at2 + 1) to ra rb (omega arith) (omega arith) (statement_away st a c (at1 + 1) (at2 + 1) to (inr (omega arith))) sits) h3.1 k outs vs1 h1 t1 i1)))
    statement_runs (Loop e us b) l J size c stable has deep at to break_to continue_to len after sits code_at k outs vs h t inv =
        let ci = inside_loop c in
        let at1 = at + expr_size st.program e in
        let at2 = at1 + 1 + statement_size st.program b ci in
        let at3 = at2 + effects_size st.program us in
        let rb = statement_regions st b ci (at1 + 1) in
        let h2 = has_back is at (expr_code st e at) _ (expr_size st.program e) (expr_len st e at) code_at in
        let h3 = has_back is (at1 + 1) (statement_code st b ci (at1 + 1) (at3 + 1) at2) _ (statement_size st.program b ci) (statement_len st b ci (at1 + 1) (at3 + 1) at2) h2.1 in
        let h4 = has_back is at2 (effects_code st us at2) _ (effects_size st.program us) (effects_len st us at2) h3 in
        let back : Variables → Hidden → Go = λ vs h. from code (standing at2 [] vs h) in
        let end : Variables → Hidden → Go = λ vs h. from code (standing (at3 + 1) [] vs h) in
        let outs1 : Outs (flags base true) code below m this J at2 (at3 + 1) at2 ci (looping back end k) = record { falls = λ vs h t i. stay _ t; breaks = λ f p vs h t i x. jumps code below m this (Jump (at3 + 1)) p [] _ _ x.0 refl t; continues = λ f p vs h t i x. jumps code below m this (Jump at2) p [] _ _ x.0 refl t; returns = outs.returns; gives = outs.gives } in
        loop_runs l J at at1 at2 at3 to after k (eval context e) (exec context b) (perform_all context us) (omega arith) (omega arith) (omega arith) h2.0 h4.0 outs.falls
        (λ vs h t inv. widen (eval context e vs t) (omega arith) (omega arith)
        (head l J e Boolean has.0 at at1 at to rb after refl (omega arith) (omega arith) (has_front is at (expr_code st e at) _ code_at) sits (statement_away st b ci (at1 + 1) at at1 (inl (omega arith))) vs h t inv))
        (λ vs h t inv. widen (exec context b vs t) (omega arith) (omega arith)
        (statement_runs b true J size ci stable has.2 deep (at1 + 1) at2 (at3 + 1) at2 refl after (sits_in (at1 + 1) at2 (omega arith) (omega arith) sits) (has_front is (at1 + 1) (statement_code st b ci (at1 + 1) (at3 + 1) at2) _ h2.1) (looping back end k) outs1 vs h t inv))
        (λ vs h t inv. settled at2 at3 at to rb after (perform_all context us vs t) (omega arith) (omega arith) sits (statement_away st b ci (at1 + 1) at2 at3 (inr (omega arith)))
        (effects_run (flags base l) code calls turns calls_run arity below m this J us has.1 at2 at3 refl vs h t inv (has_front is at2 (effects_code st us at2) _ h3)))
        turns vs h t inv
    statement_runs (DoLoop b e) l J size c stable has deep at to break_to continue_to len after sits code_at k outs vs h t inv =
        let ci = inside_loop c in
        let at1 = at + statement_size st.program b ci in
        let at2 = at1 + expr_size st.program e in
        let rb = statement_regions st b ci at in
        let h2 = has_back is at (statement_code st b ci at (at2 + 1 + 1) at1) _ (statement_size st.program b ci) (statement_len st b ci at (at2 + 1 + 1) at1) code_at in
        let h3 = has_back is at1 (expr_code st e at1) _ (expr_size st.program e) (expr_len st e at1) h2 in
        let back : Variables → Hidden → Go = λ vs h. from code (standing at1 [] vs h) in
        let end : Variables → Hidden → Go = λ vs h. from code (standing (at2 + 1 + 1) [] vs h) in
        let outs1 : Outs (flags base true) code below m this J at1 (at2 + 1 + 1) at1 ci (looping back end k) = record { falls = λ vs h t i. stay _ t; breaks = λ f p vs h t i x. jumps code below m this (Jump (at2 + 1 + 1)) p [] _ _ x.0 refl t; continues = λ f p vs h t i x. jumps code below m this (Jump at1) p [] _ _ x.0 refl t; returns = outs.returns; gives = outs.gives } in
        do_runs l J at at1 at2 to after k (eval context e) (exec context b) (omega arith) h3.0 h3.1.0 outs.falls
        (λ vs h t inv. widen (exec context b vs t) (omega arith) (omega arith)
        (statement_runs b true J size ci stable has.1 deep at at1 (at2 + 1 + 1) at1 refl after (sits_in at at1 (omega arith) (omega arith) sits) (has_front is at (statement_code st b ci at (at2 + 1 + 1) at1) _ code_at) (looping back end k) outs1 vs h t inv))
        (λ vs h t inv. widen (eval context e vs t) (omega arith) (omega arith)
        (head l J e Boolean has.0 at1 at2 at to rb after refl (omega arith) (omega arith) (has_front is at1 (expr_code st e at1) _ h2) sits (statement_away st b ci at at1 at2 (inr (omega arith))) vs h t inv))
        turns vs h t inv
    statement_runs Break l J size c stable has deep at to break_to continue_to e after sits code_at k outs vs h t inv =
        arrives Breaks vs h t inv has (outs.breaks has at vs h t inv code_at)
    statement_runs Continue l J size c stable has deep at to break_to continue_to e after sits code_at k outs vs h t inv =
        arrives Continues vs h t inv has (outs.continues has at vs h t inv code_at)
    statement_runs Return l J size c stable has deep at to break_to continue_to e after sits code_at k outs vs h t inv =
        arrives (Returns None) vs h t inv (subst (λ x. Returned x None) (sym has) tt) (outs.returns at vs h t inv code_at)
    statement_runs (ReturnValue e) l J size c stable has deep at to break_to continue_to len after sits code_at k outs vs h t inv =
        let at1 = at + expr_size st.program e in
        let h2 = has_back is at (expr_code st e at) _ (expr_size st.program e) (expr_len st e at) code_at in
        follows_then (eval context e vs t) _ (omega arith) (omega arith)
        (head l J e has.0 has.2 at at1 at to [] after refl (omega arith) (omega arith) (has_front is at (expr_code st e at) _ code_at) sits tt vs h t inv)
        (λ v vs1 h1 t1 i1 u. arrives (Returns (Some v)) vs1 h1 t1 i1 (subst (λ x. Returned x (Some v)) (sym has.1) tt) (outs.gives at1 v vs1 h1 t1 i1 h2))
    statement_runs (Throw fault) l J size c stable has deep at to break_to continue_to e after sits code_at k outs vs h t inv =
        falls_to fault vs h t at inv (omega arith) (omega arith) (leads_on (jumps code below m this (ThrowNew fault) at [] _ _ code_at.0 refl t) (leaves code below m base.is_static this at fault vs h t refl (omega arith) (omega arith) tt sits))
    statement_runs (ThrowCaught number) l J size c stable has deep at to break_to continue_to e after sits code_at k outs vs h t inv =
        falls_to (fault_at vs number) vs h t at inv (omega arith) (omega arith) (leads_on (jumps code below m this (ThrowLocal (shift base.is_static + number)) at [] _ _ code_at.0 (ap (λ f. Goes (throw_at code f below m this at (whole base.is_static this vs h))) (fault_is number has vs h inv.0)) t) (leaves code below m base.is_static this at (fault_at vs number) vs h t refl (omega arith) (omega arith) tt sits))
    statement_runs (Try b cs) l J size c stable has deep at to break_to continue_to len after sits code_at k outs vs h t inv =
        let at1 = at + statement_size st.program b c in
        let end = at1 + 1 + catches_size st.program cs c in
        let rb = statement_regions st b c at in
        let rc = catch_regions st cs c at at1 (at1 + 1) in
        let rh = catches_regions st cs c (at1 + 1) in
        let h2 = has_back is at (statement_code st b c at break_to continue_to) _ (statement_size st.program b c) (statement_len st b c at break_to continue_to) code_at in
        let end_is : end ≡ to = omega arith in
        let away2 : Away (at1 + 1) to (rb ++ rc) = away_append (at1 + 1) to rb rc (statement_away st b c at (at1 + 1) to (inr (omega arith))) (catch_away st cs c at at1 (at1 + 1) (at1 + 1) to (inr (omega arith))) in
        let sits2 = let P : List Region → Type 0 = λ x. Sitting at to x after in subst P (sym (append_assoc rb rc rh)) sits in
        let outs1 : Outs (flags base l) code below m this J at1 break_to continue_to c k = record { falls = λ vs h t i. leads_on (jumps code below m this (Jump end) at1 [] _ (standing to [] vs h) h2.0 (ap (λ p. Goes (standing p [] vs h)) end_is) t) (outs.falls vs h t i); breaks = outs.breaks; continues = outs.continues; returns = outs.returns; gives = outs.gives } in
        try_end (exec context b vs t) (handle context cs)
        (λ f vs1 h1 t1 p i1 low high. widen (handle context cs f vs1 t1) (omega arith) (omega arith)
        (handlers_run cs l J size c stable has.1 (omega (arith, deep, larger_right (monitors_in b) (monitors_in_all cs))) at at1 (at1 + 1) end to break_to continue_to refl end_is (omega arith) after rh (catches_away st cs c (at1 + 1) at at1 (inl (omega arith)))
        (sits_second (at1 + 1) to (rb ++ rc) rh (omega arith) (omega arith) away2 sits2) h2.1 k outs f vs1 h1 t1 p i1 low high))
        (statement_runs b l J size c stable has.0 (omega (arith, deep, larger_left (monitors_in b) (monitors_in_all cs))) at at1 break_to continue_to refl ((rc ++ rh) ++ after) (sits_first at at1 rb (rc ++ rh) (omega arith) (omega arith) sits) (has_front is at (statement_code st b c at break_to continue_to) _ code_at) k outs1 vs h t inv)
    statement_runs (Synchronized e b) l J size c stable has deep at to break_to continue_to len after sits code_at k outs vs h t inv =
        let d = c.in_all in
        let at1 = at + expr_size st.program e in
        let ci = inside_monitor c in
        let at3 = at1 + 1 + 1 + 1 in
        let at4 = at3 + statement_size st.program b ci in
        let rs = statement_regions st b ci at3 in
        let region : Region = record { first = at3; past = at4; kind = ExitLocal (hidden st d) } in
        let h2 = has_back is at (expr_code st e at) _ (expr_size st.program e) (expr_len st e at) code_at in
        let h3 = has_back is at3 (statement_code st b ci at3 break_to continue_to) _ (statement_size st.program b ci) (statement_len st b ci at3 break_to continue_to) h2.1.1.1 in
        let away1 : Away at at3 (rs ++ region ∷ []) = away_append at at3 rs (region ∷ []) (statement_away st b ci at3 at at3 (inl (omega arith))) (region_away at3 at4 (ExitLocal (hidden st d)) at at3 (inl (omega arith)), tt) in
        follows_then (eval context e vs t) _ (omega arith) (omega arith)
        (head l J e Reference has.0 at at1 at to (rs ++ region ∷ []) after refl (omega arith) (omega arith) (has_front is at (expr_code st e at) _ code_at) sits (away_narrow at at3 at at1 _ (omega arith) (omega arith) away1) vs h t inv)
        (λ v vs1 h1 t1 i1 u.
        let hx = slice_set h1 d (Holds v) in
        let ix : keeping base J vs1 hx = (i1.0, stable.set h1 d (Holds v) (omega arith) i1.1) in
        follows_on _ (leads_on (one code below m this Dup at1 (at1 + 1) (Holds v ∷ []) (Holds v ∷ (Holds v ∷ [])) _ _ h2.0 refl refl t1)
        (one code below m this (Store (hidden st d)) (at1 + 1) (at1 + 1 + 1) (Holds v ∷ (Holds v ∷ [])) (Holds v ∷ []) _ _ h2.1.0
        (ap (λ x. Goes (on below m this (at1 + 1 + 1) (Holds v ∷ []) x)) (set_hidden base.is_static this vs1 h1 (length base.kinds) d (Holds v) (shape_len base.kinds vs1 i1.0))) refl t1))
        (guards_object EnterMonitor (at1 + 1 + 1) at to (rs ++ region ∷ []) after (Holds v ∷ []) vs1 hx v _ (λ o. acting (deeds.Enter o ways.Block) (λ vs tape. on_leave o (exec context b vs tape))) t1 h2.1.1.0 refl ix (omega arith) (omega arith) sits (away_narrow at at3 (at1 + 1 + 1) (at1 + 1 + 1 + 1) _ (omega arith) (omega arith) away1)
        (λ o v_is e1. acts code below m this EnterMonitor (at1 + 1 + 1) (Holds v ∷ []) _ _ _ vs1 t1 (λ reply vs tape. on_leave o (exec context b vs tape)) h2.1.1.0 e1
        (λ reply t2.
        let there : Variables → Hidden → Go = λ vs h. from code (standing at4 [] vs h) in
        let slot : slice_get hx d ≡ Some (Holds (values.Ref o)) = set_same h1 d (Holds v) (omega (arith, stable.len h1 i1.1, deep)) ∙ ap (λ x. Some (Holds x)) v_is in
        let outs1 : Outs (flags base l) code below m this (and_held J d o) at4 break_to continue_to ci (guarding there o k) = record {
          falls = λ vs h t i. stay _ t;
          breaks = λ f p vs h t i x. exits p d o [] vs h (k Breaks vs h) i.0 i.1.1 x.0 x.1.0 (λ t. outs.breaks f (p + 1 + 1) vs h t (i.0, i.1.0) x.1.1) t;
          continues = λ f p vs h t i x. exits p d o [] vs h (k Continues vs h) i.0 i.1.1 x.0 x.1.0 (λ t. outs.continues f (p + 1 + 1) vs h t (i.0, i.1.0) x.1.1) t;
          returns = λ p vs h t i x. exits p d o [] vs h (k (Returns None) vs h) i.0 i.1.1 x.0 x.1.0 (λ t. outs.returns (p + 1 + 1) vs h t (i.0, i.1.0) x.1.1) t;
          gives = λ p v vs h t i x. exits p d o (Holds v ∷ []) vs h (k (Returns (Some v)) vs h) i.0 i.1.1 x.0 x.1.0 (λ t. outs.gives (p + 1 + 1) v vs h t (i.0, i.1.0) x.1.1) t;
        } in
        guard_end o (guarding there o k) k (exec context b vs1 t2)
        (λ w vs h t i fits. guard_moves J at4 to d o k (omega arith) h3.0 h3.1.0 outs.falls w vs h t i)
        (λ vs h i. (i.0, i.1.0))
        (λ f vs h t p i low high. asks code (Throws f (region ∷ after) (stack_frame m this p [] (whole base.is_static this vs h)) below) vs t (λ reply. throws f)
        (handled_here at3 at4 p f (ExitLocal (hidden st d)) after vs h low high
        ∙ ap (λ x. exit_local (value_in x) (Throws f after (stack_frame m this p [] (whole base.is_static this vs h)) below)) (get_hidden base.is_static this vs h (length base.kinds) d (shape_len base.kinds vs i.0) ∙ i.1.1))
        (λ reply t3. falls_to f vs h t3 p (i.0, i.1.0) (omega arith) (omega arith) (stay _ t3)))
        (statement_runs b l (and_held J d o) size ci (stable_held J d size o stable) has.1 (omega arith) at3 at4 break_to continue_to refl (region ∷ after) (sits_first at3 at4 rs (region ∷ []) (omega arith) (omega arith) sits) (has_front is at3 (statement_code st b ci at3 break_to continue_to) _ h2.1.1.1) (guarding there o k) outs1 vs1 hx t2 (ix.0, (ix.1, slot)))))))
    statement_runs (Commit b) l J size c stable has deep at to break_to continue_to len after sits code_at k outs vs h t inv =
        acts code below m this CommitNow at [] _ _ _ vs t (λ reply. exec context b) code_at.0 refl
        (λ reply t1. widen (exec context b vs t1) (omega arith) (omega arith) (statement_runs b l J size c stable has deep (at + 1) to break_to continue_to (omega arith) after (sits_in (at + 1) to (omega arith) (omega arith) sits) code_at.1 k outs vs h t1 inv))
    statement_runs (Println parts) l J size c stable has deep at to break_to continue_to len after sits code_at k outs vs h t inv =
        let at1 = at + parts_size st.program parts in
        let h2 = has_back is at (parts_code st parts at) _ (parts_size st.program parts) (parts_len st parts at) code_at in
        follows_then (shown context parts vs t) _ (omega arith) (omega arith)
        (settled at at1 at to [] after (shown context parts vs t) (omega arith) (omega arith) sits tt
        (shown_runs (flags base l) code calls turns calls_run arity below m this J parts has.0 at at1 refl [] vs h t inv (has_front is at (parts_code st parts at) _ code_at)))
        (λ all vs1 h1 t1 i1 same. acts code below m this (PrintAll (map text_of_part parts)) at1 (pushed (values_in all) []) _ _ _ vs1 t1 (λ reply. Got Falls) h2.0 (print_act code below m this (map text_of_part parts) all at1 _ same)
        (λ reply t2. ended l J (at1 + 1) to break_to continue_to at to c after k outs (omega arith) vs1 h1 t2 i1))
    statement_runs (Assert clause scope) l J size c stable has deep at to break_to continue_to e after sits code_at k outs vs h t inv =
        acts code below m this (AssertThat clause (map (λ number. shift base.is_static + number) scope)) at [] _ _ _ vs t (λ reply. Got Falls) code_at.0
        (ap (λ x. Asks (deeds.Assert clause (reference this ∷ x)) (λ r. standing (at + 1) [] vs h)) (scope_is scope has.0 has.1 vs h inv.0))
        (λ reply t1. ended l J (at + 1) to break_to continue_to at to c after k outs e vs h t1 inv)

    -- the handlers of a block, where an exception of the block looks for one
    handlers_run : (cs : Catches) (l : Bool) (J : Hidden → Type 0) (size : ℕ) (c : Around) → Stable J c.in_all size → CatchesFit (flags base l) cs → c.in_all + monitors_in_all cs ≤ size → (first past at end to break_to continue_to : ℕ) → at + catches_size st.program cs c ≡ end → end ≡ to → past ≤ at → (after rh : List Region) → Away first past rh → Sitting at to (catches_regions st cs c at) after → HasAt is at (catches_code st cs c at end break_to continue_to) → (k : Completion → Variables → Hidden → Go) → Outs (flags base l) code below m this J to break_to continue_to c k → (f : Fault) (vs : Variables) (h : Hidden) (t : Tape) (p : ℕ) → keeping base J vs h → first ≤ p → p < past → Follows (keeping base J) (WayFits (flags base l)) first to (faulting ((catch_regions st cs c first past at ++ rh) ++ after) f vs h p) t k (faulting after) (handle context cs f vs t)
    handlers_run no_catch l J size c stable has deep first past at end to break_to continue_to e end_is le after rh away sits code_at k outs f vs h t p inv low high =
        falls_to f vs h t p inv low (omega arith) (passes code below m base.is_static this p f vs h t rh after (away_narrow first past p (p + 1) rh low (omega arith) away))
    handlers_run (or_catch caught number s rest) l J size c stable has deep first past at end to break_to continue_to e end_is le after rh away sits code_at k outs f vs h t p inv low high =
        let at1 = at + 1 + statement_size st.program s c in
        let rs = statement_regions st s c (at + 1) in
        let rr = catches_regions st rest c (at1 + 1) in
        let more = catch_regions st rest c first past (at1 + 1) in
        let h2 = has_back is (at + 1) (statement_code st s c (at + 1) break_to continue_to) _ (statement_size st.program s c) (statement_len st s c (at + 1) break_to continue_to) code_at.1 in
        let vx = slice_set vs number (Caught f) in
        let old = has_content base.kinds vs number CaughtKind inv.0 has.0 in
        let ix : keeping base J vx h = (shape_set base.kinds vs number CaughtKind (Caught f) inv.0 has.0 refl, inv.1) in
        let outs1 : Outs (flags base l) code below m this J at1 break_to continue_to c k = record { falls = λ vs h t i. leads_on (jumps code below m this (Jump end) at1 [] _ (standing to [] vs h) h2.0 (ap (λ p. Goes (standing p [] vs h)) end_is) t) (outs.falls vs h t i); breaks = outs.breaks; continues = outs.continues; returns = outs.returns; gives = outs.gives } in
        chooses code (catches caught f) vs (λ vs. exec context s (slice_set vs number (Caught f))) (handle context rest f)
        (goes code _ (handled_here first past p f (CatchAt caught at) ((more ++ rh) ++ after) vs h low high) t)
        (follows_on (exec context s vx t)
        (one code below m this (Store (shift base.is_static + number)) at (at + 1) (Caught f ∷ []) [] _ _ code_at.0 (ap (λ x. Goes (on below m this (at + 1) [] x)) (set_variable base.is_static this vs h number old.0 (Caught f) old.1)) refl t)
        (pass_rest {lo = first} {hi = to} (at + 1) at1 rr after (exec context s vx t) (omega arith) (omega arith) (catches_away st rest c (at1 + 1) (at + 1) at1 (inl (omega arith)))
        (statement_runs s l J size c stable has.1 (omega (arith, deep, larger_left (monitors_in s) (monitors_in_all rest))) (at + 1) at1 break_to continue_to (omega arith) (rr ++ after) (sits_first (at + 1) at1 rs rr (omega arith) (omega arith) sits) (has_front is (at + 1) (statement_code st s c (at + 1) break_to continue_to) _ code_at.1) k outs1 vx h t ix)))
        (handlers_run rest l J size c stable has.2 (omega (arith, deep, larger_right (monitors_in s) (monitors_in_all rest))) first past (at1 + 1) end to break_to continue_to (omega arith) end_is (omega arith) after rh away (sits_second (at1 + 1) to rs rr (omega arith) (omega arith) (statement_away st s c (at + 1) (at1 + 1) to (inr (omega arith))) sits) h2.1 k outs f vs h t p inv low high)
