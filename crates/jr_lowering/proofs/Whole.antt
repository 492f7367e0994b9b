-- The code of a program does what the program does.
use Rattle.std.proofs.Common.{◌≡◌, ◌≢◌, ℕ, zero, suc, ◌+◌, true, false, List, [], ◌∷◌, ◌++◌, map, length, Option, Some, None, refl, sym, ap, ◌∙◌, subst, arith, append_assoc}
use Rattle.std.specs.Option.{option_map, option_map_or}
use Rattle.std.specs.List.{repeat}
use Rattle.std.proofs.lemmas.Option.{slice_get-map}
use Rattle.std.proofs.lemmas.List.{append-nil}
use Rattle.jr_base.specs.Deed.{Deed}
use Rattle.jr_base.specs.Deed as deeds
use Rattle.jr_base.specs.declared.number.MethodId.{MethodId}
use Rattle.jr_base.specs.declared.number.ObjId.{ObjId}
use Rattle.jr_base.specs.declared.action.Body.{Body}
use Rattle.jr_base.specs.declared.action.LeaveHow.TheVariants.{Normal, Abrupt}
use Rattle.jr_base.specs.declared.action.Way.TheVariants as ways
use Rattle.jr_base.specs.declared.value.Value.{Value}
use Rattle.jr_base.specs.declared.finish.Fault.{Fault}
use Rattle.jr_base.specs.declared.kind.SlotKind.{SlotKind}
use Rattle.jr_base.specs.declared.kind.SlotKind.TheVariants.{Int, Long, Bool as Boolean, Ref as Reference, Caught as CaughtKind}
use Rattle.jr_program.specs.Programs.{Program, Method, method_at}
use Rattle.jr_base.specs.Threads.{Tape}
use Rattle.jr_base.specs.Content.{Content, Holds, default_value, unset}
use Rattle.jr_meaning.specs.Next.{Variables, start_variables, Out, Got, Threw, Stops, NoTurns, Going, ask, throws, Calls, context_of, Completion, Falls, Breaks, Continues, Returns, exec, monitor_of, entering, exiting, result_kind, result_of, end_call, run_body, call_with, bounded_call, call, ending, next_in, next}
use Rattle.jr_meaning.proofs.Bounds.{thread-sure}
use Rattle.jr_code.specs.Instructions.{Push, ReturnNothing, ReturnTop, MethodCode, Code}
use Rattle.jr_code.specs.Machine.{method_code_at, instructions_of, regions_of, monitor_in, this_local, start_locals, StackFrame, stack_frame, State, Throws, Makes, on, exit_then, enter_then, calling, handed, handed_fault, returning, start_state, DoesNext}
use Rattle.jr_lowering.specs.ProgramCode.{setting_of, end_code, body_code, method_code, code_of}
use Rattle.jr_lowering.specs.StatementCode.{no_monitors, statement_size, statement_code, statement_regions, monitors_in}
use Rattle.jr_program.specs.WellFormed.{Scope, scope_of, NoneCaught, WellFormed, StartFits}
use Rattle.jr_lowering.proofs.Follow.{Go, Hidden, Inv, from, Leads, Follows, stay, leads_on, arrives, falls_to, follows_on, goes, asks}
use Rattle.jr_lowering.proofs.Locals.{OfKind, Shape, shape_append, whole}
use Rattle.jr_lowering.proofs.Places.{HasAt, has_front, has_back, has_all, statement_len}
use Rattle.jr_lowering.proofs.Expressions.{keeping, one, jumps, with_fault}
use Rattle.jr_lowering.proofs.Operands.{Returned, CallsRun, ArityRight}
use Rattle.jr_lowering.proofs.Regions.{Sits}
use Rattle.jr_lowering.proofs.Statements.{WayFits, Outs, Stable, set_length, statement_runs}

-- ---- the locals of a call that begins

holds_shape : (ks : List SlotKind) (vs : List Value) → NoneCaught ks → length vs ≡ length ks → Shape ks (map Holds vs)
holds_shape [] [] n e = tt
holds_shape [] (v ∷ vs) n e = absurd (omega arith)
holds_shape (k ∷ ks) [] n e = absurd (omega arith)
holds_shape (k ∷ ks) (v ∷ vs) n e = (n.0, holds_shape ks vs n.1 (omega arith))

unset_kind : (k : SlotKind) → OfKind k (unset k)
unset_kind Int = λ e. cc
unset_kind Long = λ e. cc
unset_kind Boolean = λ e. cc
unset_kind Reference = λ e. cc
unset_kind CaughtKind = refl

unset_shape : (ks : List SlotKind) → Shape ks (map unset ks)
unset_shape [] = tt
unset_shape (k ∷ ks) = (unset_kind k, unset_shape ks)

map_both : (a b : List SlotKind) → map unset (a ++ b) ≡ map unset a ++ map unset b
map_both [] b = refl
map_both (k ∷ a) b = ap (λ l. unset k ∷ l) (map_both a b)

abbrev hidden_of : Method → Hidden
hidden_of method = map unset (repeat (monitors_in method.body) (Reference ∷ []))

map_length : (ks : List SlotKind) → length (map unset ks) ≡ length ks
map_length [] = refl
map_length (k ∷ ks) = ap (λ n. suc n) (map_length ks)

repeat_length : (n : ℕ) → length (repeat n (Reference ∷ [])) ≡ n
repeat_length zero = refl
repeat_length (suc n) = ap (λ n. suc n) (repeat_length n)

locals_are : (program : Program) (method : Method) (this : Option ObjId) (arguments : List Value) → start_locals (Some (method_code program method)) this arguments ≡ whole method.is_static this (start_variables method arguments) (hidden_of method)
locals_are program method this arguments =
    ap (λ l. this_local method.is_static this ++ (map Holds arguments ++ l)) (map_both method.locals (repeat (monitors_in method.body) (Reference ∷ [])))
    ∙ ap (λ l. this_local method.is_static this ++ l) (sym (append_assoc (map Holds arguments) (map unset method.locals) (hidden_of method)))

-- what a call gives back where the body returns a value exactly if its method has a result
result_is : (kind : Option SlotKind) (result : Option Value) → Returned kind result → result_of kind (Returns result) ≡ result
result_is None None fits = refl
result_is None (Some v) fits = absurd fits
result_is (Some kind) None fits = absurd fits
result_is (Some kind) (Some v) fits = refl

module _ (program : Program) (formed : WellFormed program) where
  abbrev code : Code
  code = code_of program

  code_is : (m : MethodId) (method : Method) → method_at program m ≡ Some method → method_code_at code m ≡ Some (method_code program method)
  code_is m method e = slice_get-map (method_code program) program.methods m.0 ∙ ap (λ o. option_map (method_code program) o) e

  arity : ArityRight code program
  arity m method e = ap (λ o. option_map_or (λ (c : MethodCode). length c.formals) o 0) (code_is m method e)

  -- gives a monitor back, or takes it, and goes on
  exiting_runs : {A : Type 0} {I : Inv} {P : A → Type 0} {lo hi : ℕ} {k : A → Variables → Hidden → Go} {th : Fault → Variables → Hidden → ℕ → Go} (monitor : Option ObjId) (after : State) (go : Going A) (vs : Variables) (t : Tape) → ((t : Tape) → Follows I P lo hi (from code after) t k th (go vs t)) → Follows I P lo hi (from code (exit_then monitor after)) t k th (exiting monitor go vs t)
  exiting_runs None after go vs t x = x t
  exiting_runs (Some o) after go vs t x = asks code (Makes (deeds.Exit o) after) vs t (λ reply. go) refl (λ reply t1. x t1)

  entering_runs : {A : Type 0} {I : Inv} {P : A → Type 0} {lo hi : ℕ} {k : A → Variables → Hidden → Go} {th : Fault → Variables → Hidden → ℕ → Go} (monitor : Option ObjId) (after : State) (go : Going A) (vs : Variables) (t : Tape) → ((t : Tape) → Follows I P lo hi (from code after) t k th (go vs t)) → Follows I P lo hi (from code (enter_then monitor after)) t k th (entering monitor go vs t)
  entering_runs None after go vs t x = x t
  entering_runs (Some o) after go vs t x = asks code (Makes (deeds.Enter o ways.Method) after) vs t (λ reply. go) refl (λ reply t1. x t1)

  module _ (m : MethodId) (method : Method) (is_method : method_at program m ≡ Some method) (this : Option ObjId) (frames : List StackFrame) where
    abbrev base : Scope
    base = scope_of program m method

    abbrev size : ℕ
    size = statement_size program method.body no_monitors

    -- as many hidden locals as there are
    abbrev Room : Hidden → Type 0
    Room h = length h ≡ monitors_in method.body

    abbrev standing : ℕ → List Content → Variables → Hidden → State
    standing at stack vs h = on frames m this at stack (whole method.is_static this vs h)

    code_here : method_code_at code m ≡ Some (method_code program method)
    code_here = code_is m method is_method

    instructions_are : instructions_of code m ≡ body_code program method
    instructions_are = ap (λ o. option_map_or (λ (c : MethodCode). c.instructions) o []) code_here

    regions_are : regions_of code m ≡ statement_regions (setting_of program method) method.body no_monitors 0
    regions_are = ap (λ o. option_map_or (λ (c : MethodCode). c.regions) o []) code_here

    monitor_is : monitor_in (method_code_at code m) this ≡ monitor_of (Some method) this
    monitor_is = ap (λ o. monitor_in o this) code_here

    -- the ways out of the body
    abbrev body_way : Completion → Variables → Hidden → Go
    body_way Falls vs h = from code (standing size [] vs h)
    body_way Breaks vs h = from code (standing size [] vs h)
    body_way Continues vs h = from code (standing size [] vs h)
    body_way (Returns r) vs h = from code (returning code r frames m this)

    -- the end of a call
    abbrev CallEnds : Variables → Go → Tape → Out (Option Value) → Type 0
    CallEnds vs s t o = Follows (λ ws h. vs ≡ ws) (Returned method.result) 0 1 s t (λ result ws h. from code (handed result frames)) (λ fault ws h p. from code (handed_fault code fault frames)) o

    returned : (result : Option Value) (vs : Variables) (t : Tape) {s : Go} {t0 : Tape} → Returned method.result result → Leads s t0 (from code (returning code result frames m this)) t → CallEnds vs s t0 (ask (deeds.Leave m (Normal result)) (λ reply. exiting (monitor_of (Some method) this) (Got result)) vs t)
    returned result vs t fits l =
        follows_on (ask (deeds.Leave m (Normal result)) (λ reply. exiting (monitor_of (Some method) this) (Got result)) vs t) l
        (asks code (returning code result frames m this) vs t (λ reply. exiting (monitor_of (Some method) this) (Got result)) refl
        (λ reply t1. subst (λ o. CallEnds vs (from code (exit_then o (handed result frames))) t1 (exiting (monitor_of (Some method) this) (Got result) vs t1)) (sym monitor_is)
        (exiting_runs (monitor_of (Some method) this) (handed result frames) (Got result) vs t1 (λ t2. arrives result vs [] t2 refl fits (stay _ t2)))))

    -- behind the body stands a return
    end_at : HasAt (instructions_of code m) size (end_code method.result)
    end_at =
        let all = subst (λ l. HasAt l 0 (body_code program method)) (sym instructions_are) (has_all (body_code program method) []) in
        let e : 0 + size ≡ size = omega arith in
        subst (λ p. HasAt (instructions_of code m) p (end_code method.result)) e
        (has_back (instructions_of code m) 0 (statement_code (setting_of program method) method.body no_monitors 0 size size) (end_code method.result) size (statement_len (setting_of program method) method.body no_monitors 0 size size) all)

    falls_out : (r : Option SlotKind) → HasAt (instructions_of code m) size (end_code r) → r ≡ method.result → (vs inner : Variables) (h : Hidden) (t : Tape) {s : Go} {t0 : Tape} → Leads s t0 (from code (standing size [] inner h)) t → CallEnds vs s t0 (ask (deeds.Leave m (Normal (result_of r Falls))) (λ reply. exiting (monitor_of (Some method) this) (Got (result_of r Falls))) vs t)
    falls_out None has e vs inner h t l =
        returned None vs t (subst (λ r. Returned r None) e tt) (leads_on l (jumps code frames m this ReturnNothing size [] _ _ has.0 refl t))
    falls_out (Some k) has e vs inner h t l =
        let v = default_value k in
        returned (Some v) vs t (subst (λ r. Returned r (Some v)) e tt)
        (leads_on l (leads_on (one code frames m this (Push v) size (size + 1) [] (Holds v ∷ []) _ _ has.0 refl refl t) (jumps code frames m this ReturnTop (size + 1) (Holds v ∷ []) _ _ has.1.0 refl t)))

    ends_body : (vs : Variables) {s : Go} {t0 : Tape} (o : Out Completion) → Follows (keeping base Room) (WayFits base) 0 size s t0 body_way (with_fault code frames m method.is_static this []) o → CallEnds vs s t0 (end_call m method.result (monitor_of (Some method) this) vs o)
    ends_body vs (Got Falls inner t) x = falls_out method.result end_at refl vs inner x.is.hidden t x.is.leads
    ends_body vs (Got Breaks inner t) x = absurd (let e : false ≡ true = x.is.fits in cc)
    ends_body vs (Got Continues inner t) x = absurd (let e : false ≡ true = x.is.fits in cc)
    ends_body vs {s = s} {t0 = t0} (Got (Returns r) inner t) x =
        subst (λ o. CallEnds vs s t0 (ask (deeds.Leave m (Normal o)) (λ reply. exiting (monitor_of (Some method) this) (Got o)) vs t)) (sym (result_is method.result r x.is.fits)) (returned r vs t x.is.fits x.is.leads)
    ends_body vs (Threw fault inner t) x =
        let f = stack_frame m this x.is.place [] (whole method.is_static this inner x.is.hidden) in
        follows_on (end_call m method.result (monitor_of (Some method) this) vs (Threw fault inner t)) (leads_on x.is.leads (goes code (Throws fault [] f frames) refl t))
        (asks code (Makes (deeds.Leave m Abrupt) (exit_then (monitor_in (method_code_at code m) this) (handed_fault code fault frames))) vs t (λ reply. exiting (monitor_of (Some method) this) (throws fault)) refl
        (λ reply t1. subst (λ o. CallEnds vs (from code (exit_then o (handed_fault code fault frames))) t1 (exiting (monitor_of (Some method) this) (throws fault) vs t1)) (sym monitor_is)
        (exiting_runs (monitor_of (Some method) this) (handed_fault code fault frames) (throws fault) vs t1 (λ t2. falls_to fault vs [] t2 0 refl (omega arith) (omega arith) (stay _ t2)))))
    ends_body vs (Stops d) x = record { is = x.is }
    ends_body vs NoTurns x = record { is = tt }

    body_runs : (calls : Calls) (turns : ℕ) → CallsRun code program calls → (vs : Variables) (h : Hidden) (t : Tape) → keeping base Room vs h → Follows (keeping base Room) (WayFits base) 0 size (from code (standing 0 [] vs h)) t body_way (with_fault code frames m method.is_static this []) (exec (context_of program m this calls turns) method.body vs t)
    body_runs calls turns calls_run vs h t inv =
        let all = subst (λ l. HasAt l 0 (body_code program method)) (sym instructions_are) (has_all (body_code program method) []) in
        let sits : Sits (regions_of code m) 0 size (statement_regions (setting_of program method) method.body no_monitors 0) [] = record { before = []; split = regions_are ∙ sym (append-nil (statement_regions (setting_of program method) method.body no_monitors 0)); away = tt } in
        let stable : Stable Room 0 (monitors_in method.body) = record { len = λ h j. j; set = λ h d x le j. set_length h d x ∙ j } in
        let outs : Outs base code frames m this Room size size size no_monitors body_way = record {
          falls = λ vs h t i. stay _ t;
          breaks = λ f p vs h t i x. absurd (cc);
          continues = λ f p vs h t i x. absurd (cc);
          returns = λ p vs h t i x. jumps code frames m this ReturnNothing p [] _ _ x.0 refl t;
          gives = λ p v vs h t i x. jumps code frames m this ReturnTop p (Holds v ∷ []) _ _ x.0 refl t;
        } in
        statement_runs base code calls turns calls_run arity frames m this method.body false Room (monitors_in method.body) no_monitors stable (formed.methods m method is_method).body (omega arith) 0 size size size (omega arith) [] sits
        (has_front (instructions_of code m) 0 (statement_code (setting_of program method) method.body no_monitors 0 size size) _ all) body_way outs vs h t inv

    call_runs : (calls : Calls) (turns : ℕ) → CallsRun code program calls → (arguments : List Value) → length arguments ≡ length method.formals → (vs : Variables) (t : Tape) → CallEnds vs (from code (calling code m this arguments frames)) t (call_with program calls turns m this arguments vs t)
    call_runs calls turns calls_run arguments len vs t =
        subst (λ c. CallEnds vs (from code (enter_then (monitor_in c this) (Makes (deeds.Call m this arguments) (on frames m this 0 [] (start_locals c this arguments))))) t (call_with program calls turns m this arguments vs t)) (sym code_here)
        (subst (λ o. CallEnds vs (from code (enter_then (monitor_of (Some method) this) (Makes (deeds.Call m this arguments) (on frames m this 0 [] (start_locals (Some (method_code program method)) this arguments))))) t
        (entering (monitor_of o this) (ask (deeds.Call m this arguments) (λ reply vs tape. end_call m (result_kind o) (monitor_of o this) vs (run_body (context_of program m this calls turns) o arguments tape))) vs t)) (sym is_method)
        (entering_runs (monitor_of (Some method) this) _ (ask (deeds.Call m this arguments) (λ reply vs tape. end_call m method.result (monitor_of (Some method) this) vs (run_body (context_of program m this calls turns) (Some method) arguments tape))) vs t
        (λ t1. asks code (Makes (deeds.Call m this arguments) (on frames m this 0 [] (start_locals (Some (method_code program method)) this arguments))) vs t1 (λ reply vs tape. end_call m method.result (monitor_of (Some method) this) vs (run_body (context_of program m this calls turns) (Some method) arguments tape)) refl
        (λ reply t2. subst (λ l. CallEnds vs (from code (on frames m this 0 [] l)) t2 (end_call m method.result (monitor_of (Some method) this) vs (exec (context_of program m this calls turns) method.body (start_variables method arguments) t2))) (sym (locals_are program method this arguments))
        (ends_body vs (exec (context_of program m this calls turns) method.body (start_variables method arguments) t2)
        (body_runs calls turns calls_run (start_variables method arguments) (hidden_of method) t2 (
          shape_append method.formals method.locals (map Holds arguments) (map unset method.locals) (holds_shape method.formals arguments (formed.methods m method is_method).formals len) (unset_shape method.locals),
          map_length (repeat (monitors_in method.body) (Reference ∷ [])) ∙ repeat_length (monitors_in method.body),
        )))))))

  pub calls_run : (n : ℕ) → CallsRun code program (bounded_call program n)
  calls_run zero m method is_method this arguments len frames vs t = record { is = tt }
  calls_run (suc n) m method is_method this arguments len frames vs t =
      call_runs m method is_method this frames (bounded_call program n) n (calls_run n) arguments len vs t

  -- a thread's last step
  finishes : {A : Type 0} {I : Inv} {P : A → Type 0} {lo hi : ℕ} {s : State} {t : Tape} (o : Out A) → ending o ≢ NoTurns → Follows I P lo hi (from code s) t (λ result vs h. from code (handed None [])) (λ fault vs h p. from code (handed_fault code fault [])) o → DoesNext code s t (next_in (ending o))
  finishes (Got v vs []) sure r = let a = r.is.leads.by 1 in record { steps = a.0; comes = a.2 }
  finishes (Got v vs (x ∷ t)) sure r = let a = r.is.leads.by 2 in record { steps = a.0; comes = a.2 }
  finishes (Threw fault vs []) sure r = let a = r.is.leads.by 1 in record { steps = a.0; comes = a.2 }
  finishes (Threw fault vs (x ∷ t)) sure r = let a = r.is.leads.by 2 in record { steps = a.0; comes = a.2 }
  finishes (Stops d) sure r = record { steps = r.is.0; comes = r.is.1 }
  finishes NoTurns sure r = absurd (sure refl)

  -- the theorem
  pub lowered : (start : Option Body) (replies : Tape) → StartFits program start → DoesNext code (start_state code start) replies (next program start replies)
  lowered None [] fits = record { steps = 1; comes = refl }
  lowered None (r ∷ replies) fits = record { steps = 2; comes = refl }
  lowered (Some start) replies fits =
      finishes (call program start.method start.this [] [] replies) (thread-sure program (Some start) replies)
      (calls_run (suc (length replies)) start.method fits.0 fits.1 start.this [] (sym (ap length fits.2)) [] [] replies)
