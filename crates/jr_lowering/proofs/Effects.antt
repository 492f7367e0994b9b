-- The code of what stands as a statement by itself does what that does, and so does the code of what is printed.
use Rattle.std.proofs.Common.{◌≡◌, ℕ, zero, suc, ◌+◌, ◌≤◌, true, false, Bool, List, [], ◌∷◌, map, length, drop, Option, Some, None, refl, sym, ap, ◌∙◌, subst, arith}
use Rattle.std.specs.Prelude.{ℤ, pos, negsuc, slice_get}
use Rattle.std.specs.Int.{is_negative}
use Rattle.jr_base.specs.Deed.{Deed}
use Rattle.jr_base.specs.Deed as deeds
use Rattle.jr_base.specs.declared.number.MethodId.{MethodId}
use Rattle.jr_base.specs.declared.number.ObjId.{ObjId}
use Rattle.jr_base.specs.declared.number.TextId.{TextId}
use Rattle.jr_base.specs.declared.action.Reply.{Reply}
use Rattle.jr_base.specs.declared.action.Reply.TheVariants as replies
use Rattle.jr_base.specs.declared.action.PrintPart.{PrintPart}
use Rattle.jr_base.specs.declared.action.PrintPart.TheVariants.{Text, Val}
use Rattle.jr_base.specs.declared.value.Value.{Value}
use Rattle.jr_base.specs.declared.finish.Fault.{Fault}
use Rattle.jr_base.specs.declared.finish.Fault.TheVariants as faults
use Rattle.jr_base.specs.declared.kind.SlotKind.TheVariants.{Int, Long, Ref as Reference}
use Rattle.jr_base.specs.declared.kind.ObjectCall.{ObjectCall}
use Rattle.jr_base.specs.declared.kind.ObjectCall.TheVariants.{Wait, Notify, NotifyAll, Start, Join}
use Rattle.jr_base.specs.Content.{Content, Holds}
use Rattle.jr_base.specs.Threads.{Tape}
use Rattle.jr_arith.specs.Operators.{number_of}
use Rattle.jr_program.specs.Programs.{Part, Literal, Shown, Effect, Evaluate, Invoke, CallObject, WaitFor, Yield, Sleep}
use Rattle.jr_program.specs.WellFormed.{Scope, EffectFits, EffectsFit, PartsFit}
use Rattle.jr_meaning.specs.Next.{Variables, Got, Going, throws, if_so, Calls, Context, context_of, eval, invoke, shown, act as acting, unless_illegal as unless_illegal_in, waits_by, call_object, wait_for, perform, perform_all}
use Rattle.jr_code.specs.Instructions.{Instruction, Pop, OnObject, WaitForTime, SleepFor, YieldNow, PrintAll, Code}
use Rattle.jr_code.specs.Machine.{instructions_of, regions_of, StackFrame, State, Makes, Goes, Asks, on, throw_at, taken, values_printed, filled, choose, unless_illegal, wait_on, wait_for_on, call_on_object, act}
use Rattle.jr_lowering.specs.ExprCode.{Setting, expr_size, expr_code}
use Rattle.jr_lowering.specs.StatementCode.{effect_size, effect_code, effects_size, effects_code, text_of_part, parts_size, parts_code}
use Rattle.jr_lowering.proofs.Follow.{Go, Hidden, Inv, from, Leads, Follows, Any, stay, arrives, falls_to, follows_then, widen, asks}
use Rattle.jr_lowering.proofs.Locals.{whole}
use Rattle.jr_lowering.proofs.Places.{HasAt, has_front, has_back, expr_len, effect_len}
use Rattle.jr_lowering.proofs.Operands.{pushed, taken_is, left_is, Returned, with_result, CallsRun, ArityRight}
use Rattle.jr_lowering.proofs.Expressions.{setting_in, keeping, one, jumps, acts, with_fault, needs_object, expr_runs, invoke_runs}

-- the parts of a print: the texts among them, and the values
abbrev pub texts_of : List PrintPart → List (Option TextId)
texts_of [] = []
texts_of (Text text ∷ all) = Some text ∷ texts_of all
texts_of (Val v ∷ all) = None ∷ texts_of all

abbrev pub values_in : List PrintPart → List Value
values_in [] = []
values_in (Text text ∷ all) = values_in all
values_in (Val v ∷ all) = v ∷ values_in all

count_is : (all : List PrintPart) → values_printed (texts_of all) ≡ length (values_in all)
count_is [] = refl
count_is (Text text ∷ all) = count_is all
count_is (Val v ∷ all) = omega (arith, count_is all)

fill_is : (all : List PrintPart) → filled (texts_of all) (values_in all) ≡ all
fill_is [] = refl
fill_is (Text text ∷ all) = ap (λ l. Text text ∷ l) (fill_is all)
fill_is (Val v ∷ all) = ap (λ l. Val v ∷ l) (fill_is all)

module _ (s : Scope) (code : Code) (calls : Calls) (turns : ℕ) (calls_run : CallsRun code s.program calls) (arity : ArityRight code s.program) (below : List StackFrame) (m : MethodId) (this : Option ObjId) (J : Hidden → Type 0) where
  abbrev standing : ℕ → List Content → Variables → Hidden → State
  standing at stack vs h = on below m this at stack (whole s.is_static this vs h)

  abbrev throwing : Fault → Variables → Hidden → ℕ → Go
  throwing = with_fault code below m s.is_static this (regions_of code m)

  abbrev I : Inv
  I = keeping s J

  abbrev context : Context
  context = context_of s.program m this calls turns

  abbrev is : List Instruction
  is = instructions_of code m

  abbrev st : Setting
  st = setting_in s

  -- behind the effect, without operands
  abbrev pub done : ℕ → Unit {0} → Variables → Hidden → Go
  done to u vs h = from code (standing to [] vs h)

  moved : (at to : ℕ) (stack : List Content) (vs : Variables) (h : Hidden) (t : Tape) → at ≡ to → Leads (from code (standing at stack vs h)) t (from code (standing to stack vs h)) t
  moved at to stack vs h t e = subst (λ p. Leads (from code (standing at stack vs h)) t (from code (standing p stack vs h)) t) e (stay _ t)

  finished : (at to lo : ℕ) (vs : Variables) (h : Hidden) (t : Tape) → at + 1 ≡ to → I vs h → Follows I Any lo to (from code (standing (at + 1) [] vs h)) t (done to) throwing (Got (tt {0}) vs t)
  finished at to lo vs h t e inv = arrives (tt {0}) vs h t inv tt (moved (at + 1) to [] vs h t e)

  -- the reply to an action that may be Illegal
  legal : (at to lo : ℕ) (fault : Fault) (vs : Variables) (h : Hidden) (t : Tape) (after : State) (go : Going (Unit {0})) → at + 1 ≡ to → lo ≤ at → I vs h → Follows I Any lo to (from code after) t (done to) throwing (go vs t) → (r : Reply) → Follows I Any lo to (from code (unless_illegal code below m this at (whole s.is_static this vs h) fault r after)) t (done to) throwing (unless_illegal_in fault r go vs t)
  legal at to lo fault vs h t after go e le inv x replies.Illegal = falls_to fault vs h t at inv le (omega arith) (stay _ t)
  legal at to lo fault vs h t after go e le inv x replies.Range = x
  legal at to lo fault vs h t after go e le inv x (replies.Value v) = x
  legal at to lo fault vs h t after go e le inv x replies.Unit = x
  legal at to lo fault vs h t after go e le inv x (replies.Made o) = x
  legal at to lo fault vs h t after go e le inv x replies.Nobody = x
  legal at to lo fault vs h t after go e le inv x (replies.Woke g) = x
  legal at to lo fault vs h t after go e le inv x (replies.Started g b) = x

  -- joins the wait set, and then takes the monitor again
  waited : (i : Instruction) (deed : Deed) (o : ObjId) (stack : List Content) (at to lo : ℕ) (vs : Variables) (h : Hidden) (t : Tape) → at + 1 ≡ to → lo ≤ at → I vs h → slice_get is at ≡ Some i → act code (Some i) below m this at stack (whole s.is_static this vs h) ≡ wait_on code below m this at [] (whole s.is_static this vs h) deed o → Follows I Any lo to (from code (standing at stack vs h)) t (done to) throwing (waits_by deed o vs t)
  waited i deed o stack at to lo vs h t e le inv has x =
      acts code below m this i at stack _ _ _ vs t (λ reply. unless_illegal_in faults.IllegalMonitorStateException reply (acting (deeds.Resume o) (Got (tt {0})))) has x
      (λ reply t1. legal at to lo faults.IllegalMonitorStateException vs h t1 (Makes (deeds.Resume o) (standing (at + 1) [] vs h)) (acting (deeds.Resume o) (Got (tt {0}))) e le inv
      (asks code (Makes (deeds.Resume o) (standing (at + 1) [] vs h)) vs t1 (λ reply. Got (tt {0})) refl (λ reply t2. finished at to lo vs h t2 e inv)) reply)

  waited_for : (time : ℤ) (o : ObjId) (stack : List Content) (at to lo : ℕ) (vs : Variables) (h : Hidden) (t : Tape) → at + 1 ≡ to → lo ≤ at → I vs h → slice_get is at ≡ Some WaitForTime → act code (Some WaitForTime) below m this at stack (whole s.is_static this vs h) ≡ wait_for_on code below m this at [] (whole s.is_static this vs h) time o → Follows I Any lo to (from code (standing at stack vs h)) t (done to) throwing (wait_for time o vs t)
  waited_for (pos zero) o stack at to lo vs h t e le inv has x = waited WaitForTime (deeds.Wait o) o stack at to lo vs h t e le inv has x
  waited_for (pos (suc n)) o stack at to lo vs h t e le inv has x = waited WaitForTime (deeds.TimedWait o) o stack at to lo vs h t e le inv has x
  waited_for (negsuc n) o stack at to lo vs h t e le inv has x =
      falls_to faults.IllegalArgumentException vs h t at inv le (omega arith) (jumps code below m this WaitForTime at stack _ _ has x t)

  object_called : (called : ObjectCall) (o : ObjId) (v : Value) (at to lo : ℕ) (vs : Variables) (h : Hidden) (t : Tape) → at + 1 ≡ to → lo ≤ at → I vs h → slice_get is at ≡ Some (OnObject called) → act code (Some (OnObject called)) below m this at (Holds v ∷ []) (whole s.is_static this vs h) ≡ call_on_object code below m this at [] (whole s.is_static this vs h) called o → Follows I Any lo to (from code (standing at (Holds v ∷ []) vs h)) t (done to) throwing (call_object called o vs t)
  object_called Wait o v at to lo vs h t e le inv i x = waited (OnObject Wait) (deeds.Wait o) o (Holds v ∷ []) at to lo vs h t e le inv i x
  object_called Notify o v at to lo vs h t e le inv i x =
      acts code below m this (OnObject Notify) at (Holds v ∷ []) _ _ _ vs t (λ reply. unless_illegal_in faults.IllegalMonitorStateException reply (Got (tt {0}))) i x
      (λ reply t1. legal at to lo faults.IllegalMonitorStateException vs h t1 (standing (at + 1) [] vs h) (Got (tt {0})) e le inv (finished at to lo vs h t1 e inv) reply)
  object_called NotifyAll o v at to lo vs h t e le inv i x =
      acts code below m this (OnObject NotifyAll) at (Holds v ∷ []) _ _ _ vs t (λ reply. unless_illegal_in faults.IllegalMonitorStateException reply (Got (tt {0}))) i x
      (λ reply t1. legal at to lo faults.IllegalMonitorStateException vs h t1 (standing (at + 1) [] vs h) (Got (tt {0})) e le inv (finished at to lo vs h t1 e inv) reply)
  object_called Start o v at to lo vs h t e le inv i x =
      acts code below m this (OnObject Start) at (Holds v ∷ []) _ _ _ vs t (λ reply. unless_illegal_in faults.IllegalThreadStateException reply (Got (tt {0}))) i x
      (λ reply t1. legal at to lo faults.IllegalThreadStateException vs h t1 (standing (at + 1) [] vs h) (Got (tt {0})) e le inv (finished at to lo vs h t1 e inv) reply)
  object_called Join o v at to lo vs h t e le inv i x =
      acts code below m this (OnObject Join) at (Holds v ∷ []) _ _ _ vs t (λ reply. Got (tt {0})) i x (λ reply t1. finished at to lo vs h t1 e inv)

  slept : (b : Bool) (v : Value) (at to lo : ℕ) (vs : Variables) (h : Hidden) (t : Tape) → at + 1 ≡ to → lo ≤ at → I vs h → slice_get is at ≡ Some SleepFor → act code (Some SleepFor) below m this at (Holds v ∷ []) (whole s.is_static this vs h) ≡ choose b (Goes (throw_at code faults.IllegalArgumentException below m this at (whole s.is_static this vs h))) (Asks deeds.Back (λ r. standing (at + 1) [] vs h)) → Follows I Any lo to (from code (standing at (Holds v ∷ []) vs h)) t (done to) throwing (if_so b (throws faults.IllegalArgumentException) (acting deeds.Back (Got (tt {0}))) vs t)
  slept true v at to lo vs h t e le inv i x = falls_to faults.IllegalArgumentException vs h t at inv le (omega arith) (jumps code below m this SleepFor at (Holds v ∷ []) _ _ i x t)
  slept false v at to lo vs h t e le inv i x = acts code below m this SleepFor at (Holds v ∷ []) _ _ _ vs t (λ reply. Got (tt {0})) i x (λ reply t1. finished at to lo vs h t1 e inv)

  -- a call without a result leaves nothing on the stack
  nothing_left : (result : Option Value) → Returned None result → (to : ℕ) (vs : Variables) (h : Hidden) (t : Tape) → Leads (from code (standing to (with_result result []) vs h)) t (from code (standing to [] vs h)) t
  nothing_left None fits to vs h t = stay _ t
  nothing_left (Some v) fits to vs h t = absurd fits

  pub effect_runs : (effect : Effect) → EffectFits s effect → (at to : ℕ) → at + effect_size st.program effect ≡ to → (vs : Variables) (h : Hidden) (t : Tape) → I vs h → HasAt is at (effect_code st effect at) → Follows I Any at to (from code (standing at [] vs h)) t (done to) throwing (perform context effect vs t)
  effect_runs (Evaluate e) has at to len vs h t inv code_at =
      let at1 = at + expr_size st.program e in
      let h2 = has_back is at (expr_code st e at) _ (expr_size st.program e) (expr_len st e at) code_at in
      follows_then (eval context e vs t) _ (omega arith) (omega arith)
      (expr_runs s code calls turns calls_run arity below m this J e has.0 has.1 at at1 refl [] vs h t inv (has_front is at (expr_code st e at) _ code_at))
      (λ v vs1 h1 t1 i1 u. arrives (tt {0}) vs1 h1 t1 i1 tt (one code below m this Pop at1 to (Holds v ∷ []) [] _ _ h2.0 refl (omega arith) t1))
  effect_runs (Invoke call) has at to len vs h t inv code_at =
      follows_then (invoke context call vs t) _ (omega arith) (omega arith)
      (invoke_runs s code calls turns calls_run arity below m this J call None has at to len [] vs h t inv code_at)
      (λ result vs1 h1 t1 i1 fits. arrives (tt {0}) vs1 h1 t1 i1 tt (nothing_left result fits to vs1 h1 t1))
  effect_runs (CallObject called e) has at to len vs h t inv code_at =
      let at1 = at + expr_size st.program e in
      let h2 = has_back is at (expr_code st e at) _ (expr_size st.program e) (expr_len st e at) code_at in
      follows_then (eval context e vs t) _ (omega arith) (omega arith)
      (expr_runs s code calls turns calls_run arity below m this J e Reference has at at1 refl [] vs h t inv (has_front is at (expr_code st e at) _ code_at))
      (λ v vs1 h1 t1 i1 u. needs_object s code calls turns calls_run arity below m this J (OnObject called) at1 (Holds v ∷ []) vs1 h1 v _ (call_object called) t1 h2.0 refl i1 (omega arith) (omega arith)
      (λ o e1. object_called called o v at1 to at vs1 h1 t1 (omega arith) (omega arith) i1 h2.0 e1))
  effect_runs (WaitFor e x) has at to len vs h t inv code_at =
      let n = expr_size st.program e in let nx = expr_size st.program x in
      let at1 = at + n in
      let at2 = at1 + nx in
      let c2 = has_back is at (expr_code st e at) _ n (expr_len st e at) code_at in
      let c3 = has_back is at1 (expr_code st x at1) _ nx (expr_len st x at1) c2 in
      follows_then (eval context e vs t) _ (omega arith) (omega arith)
      (expr_runs s code calls turns calls_run arity below m this J e Reference has.0 at at1 refl [] vs h t inv (has_front is at (expr_code st e at) _ code_at))
      (λ v vs1 h1 t1 i1 u. follows_then (eval context x vs1 t1) _ (omega arith) (omega arith)
      (expr_runs s code calls turns calls_run arity below m this J x Long has.1 at1 at2 refl (Holds v ∷ []) vs1 h1 t1 i1 (has_front is at1 (expr_code st x at1) _ c2))
      (λ time vs2 h2 t2 i2 u. needs_object s code calls turns calls_run arity below m this J WaitForTime at2 (Holds time ∷ (Holds v ∷ [])) vs2 h2 v _ (wait_for (number_of time)) t2 c3.0 refl i2 (omega arith) (omega arith)
      (λ o e1. waited_for (number_of time) o (Holds time ∷ (Holds v ∷ [])) at2 to at vs2 h2 t2 (omega arith) (omega arith) i2 c3.0 e1)))
  effect_runs Yield has at to len vs h t inv code_at =
      acts code below m this YieldNow at [] _ _ _ vs t (λ reply. Got (tt {0})) code_at.0 refl (λ reply t1. finished at to at vs h t1 len inv)
  effect_runs (Sleep e) has at to len vs h t inv code_at =
      let at1 = at + expr_size st.program e in
      let h2 = has_back is at (expr_code st e at) _ (expr_size st.program e) (expr_len st e at) code_at in
      follows_then (eval context e vs t) _ (omega arith) (omega arith)
      (expr_runs s code calls turns calls_run arity below m this J e Int has at at1 refl [] vs h t inv (has_front is at (expr_code st e at) _ code_at))
      (λ v vs1 h1 t1 i1 u. slept (is_negative (number_of v)) v at1 to at vs1 h1 t1 (omega arith) (omega arith) i1 h2.0 refl)

  pub effects_run : (effects : List Effect) → EffectsFit s effects → (at to : ℕ) → at + effects_size st.program effects ≡ to → (vs : Variables) (h : Hidden) (t : Tape) → I vs h → HasAt is at (effects_code st effects at) → Follows I Any at to (from code (standing at [] vs h)) t (done to) throwing (perform_all context effects vs t)
  effects_run [] has at to len vs h t inv code_at = arrives (tt {0}) vs h t inv tt (moved at to [] vs h t (omega arith))
  effects_run (effect ∷ effects) has at to len vs h t inv code_at =
      let at1 = at + effect_size st.program effect in
      let h2 = has_back is at (effect_code st effect at) _ (effect_size st.program effect) (effect_len st effect at) code_at in
      follows_then (perform context effect vs t) _ (omega arith) (omega arith)
      (effect_runs effect has.0 at at1 refl vs h t inv (has_front is at (effect_code st effect at) _ code_at))
      (λ u vs1 h1 t1 i1 w. widen (perform_all context effects vs1 t1) (omega arith) (omega arith)
      (effects_run effects has.1 at1 to (omega arith) vs1 h1 t1 i1 h2))

  -- the parts of a print
  pub shown_runs : (parts : List Part) → PartsFit s parts → (at to : ℕ) → at + parts_size st.program parts ≡ to → (stack : List Content) (vs : Variables) (h : Hidden) (t : Tape) → I vs h → HasAt is at (parts_code st parts at) → Follows I (λ all. texts_of all ≡ map text_of_part parts) at to (from code (standing at stack vs h)) t (λ all vs h. from code (standing to (pushed (values_in all) stack) vs h)) throwing (shown context parts vs t)
  shown_runs [] has at to e stack vs h t inv code_at = arrives [] vs h t inv refl (moved at to stack vs h t (omega arith))
  shown_runs (Literal text ∷ parts) has at to e stack vs h t inv code_at =
      follows_then (shown context parts vs t) _ (omega arith) (omega arith) (shown_runs parts has.1 at to e stack vs h t inv code_at)
      (λ all vs1 h1 t1 i1 same. arrives (Text text ∷ all) vs1 h1 t1 i1 (ap (λ l. Some text ∷ l) same) (stay _ t1))
  shown_runs (Shown x ∷ parts) has at to e stack vs h t inv code_at =
      let n = expr_size st.program x in
      let h2 = has_back is at (expr_code st x at) _ n (expr_len st x at) code_at in
      follows_then (eval context x vs t) _ (omega arith) (omega arith)
      (expr_runs s code calls turns calls_run arity below m this J x has.0.0 has.0.1 at (at + n) refl stack vs h t inv (has_front is at (expr_code st x at) _ code_at))
      (λ v vs1 h1 t1 i1 u. follows_then (shown context parts vs1 t1) _ (omega arith) (omega arith)
      (shown_runs parts has.1 (at + n) to (omega arith) (Holds v ∷ stack) vs1 h1 t1 i1 h2)
      (λ all vs2 h2 t2 i2 same. arrives (Val v ∷ all) vs2 h2 t2 i2 (ap (λ l. None ∷ l) same) (stay _ t2)))

module _ (code : Code) (below : List StackFrame) (m : MethodId) (this : Option ObjId) where
  pub print_act : (parts : List (Option TextId)) (all : List PrintPart) (at : ℕ) (locals : List Content) → texts_of all ≡ parts → act code (Some (PrintAll parts)) below m this at (pushed (values_in all) []) locals ≡ Asks (deeds.Print all) (λ r. on below m this (at + 1) [] locals)
  print_act parts all at locals same =
      let full = pushed (values_in all) [] in
      ap (λ p. Asks (deeds.Print (filled p (taken (values_printed p) full))) (λ r. on below m this (at + 1) (drop (values_printed p) full) locals)) (sym same)
      ∙ ap (λ n. Asks (deeds.Print (filled (texts_of all) (taken n full))) (λ r. on below m this (at + 1) (drop n full) locals)) (count_is all)
      ∙ ap (λ l. Asks (deeds.Print (filled (texts_of all) l)) (λ r. on below m this (at + 1) (drop (length (values_in all)) full) locals)) (taken_is (values_in all) [])
      ∙ ap (λ l. Asks (deeds.Print l) (λ r. on below m this (at + 1) (drop (length (values_in all)) full) locals)) (fill_is all)
      ∙ ap (λ l. Asks (deeds.Print all) (λ r. on below m this (at + 1) l locals)) (left_is (values_in all) [])
