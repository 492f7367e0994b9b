-- What the machine comes to between two actions, by its stage.
use Rattle.std.proofs.Common.{◌≡◌, ℕ, zero, suc, List, [], ◌∷◌, Option, Some, None, map, drop, refl, sym, ap, ◌∙◌, subst, length}
use Rattle.std.specs.Prelude.{slice_get}
use Rattle.std.specs.Option.{option_map_or}
use Rattle.jr_base.specs.Deed as deeds
use Rattle.jr_base.specs.declared.number.MethodId.{MethodId}
use Rattle.jr_base.specs.declared.number.ObjId.{ObjId}
use Rattle.jr_base.specs.declared.action.Action.TheVariants as actions
use Rattle.jr_base.specs.declared.action.Body.{Body}
use Rattle.jr_base.specs.declared.action.EndHow.TheVariants as ends
use Rattle.jr_base.specs.declared.action.LeaveHow.{LeaveHow}
use Rattle.jr_base.specs.declared.finish.Fault.{Fault}
use Rattle.jr_base.specs.Content.{Content}
use Rattle.jr_code.specs.declared.code.Code.{Code as CodeOfLists}
use Rattle.jr_code.specs.declared.code.MethodCode.{MethodCode as MethodOfLists}
use Rattle.jr_code.specs.Instructions.{Code, MethodCode, Region}
use Rattle.jr_code.specs.Checked.{CodeRight}
use Rattle.jr_code.specs.Paths.{Begins}
use Rattle.jr_code.specs.Machine.{StackFrame, stack_frame, Runs, Throws, Makes, Over, Goes, method_code_at, regions_of, monitor_in, start_locals, start_state, taken, enter_then}
use Rattle.jr_code.specs.Views.{plain_of, method_of, tables_of, region_of}
use Rattle.jr_thread_machine.specs.declared.flow.Left.{Left}
use Rattle.jr_thread_machine.specs.declared.flow.Arguments.{Arguments}
use Rattle.jr_thread_machine.specs.declared.flow.Then.TheVariants as thens
use Rattle.jr_thread_machine.specs.declared.handlers.Ran.{Ran}
use Rattle.jr_thread_machine.specs.declared.stage.Stage.{Stage}
use Rattle.jr_thread_machine.specs.declared.stage.Stage.TheVariants as stages
use Rattle.jr_thread_machine.specs.Calls.{HasBegun}
use Rattle.jr_thread_machine.specs.Frames.{without}
use Rattle.jr_thread_machine.specs.Moves.{arguments_in, how_left}
use Rattle.jr_thread_machine.specs.Runs.{Becomes}
use Rattle.jr_thread_machine.specs.Handlers.{HandledFits, handled_move}
use Rattle.jr_thread_machine.specs.Stages.{Held, held, stage_move, HeldFits, stage_of_ran, called_stage, HasTurned, HasStarted}
use Rattle.jr_thread_machine.proofs.Runs.{then, same_move, makes}
use Rattle.jr_thread_machine.proofs.Tables.{mapped_at}
use Rattle.jr_thread_machine.proofs.Turns.{leaves, begins, called_as, called_fits, goes_further, goes_to_handler}

-- a machine at that stage, and one that stands the same
pub at_stage : (code : Code) (stage other : Stage) (f : StackFrame) (below : List StackFrame) (n : Held) → stage ≡ other →
    (HeldFits code (held other f below) → HasTurned code (held other f below) n) → HeldFits code (held stage f below) → HasTurned code (held stage f below) n
at_stage code stage other f below n e turn =
    let P : Stage → Type 0 = λ s. HeldFits code (held s f below) → HasTurned code (held s f below) n in
    subst P (sym e) turn

pub same_turn : (code : Code) (l m n : Held) → n ≡ m → HasTurned code l m → HasTurned code l n
same_turn code l m n e t = let P : Held → Type 0 = λ n. HasTurned code l n in subst P (sym e) t

-- ---- a call that is left

pub leaves_at : (code : Code) (stage : Stage) (left : Left) (how : LeaveHow) (f : StackFrame) (below : List StackFrame) (monitor : Option ObjId) →
    stage ≡ stages.Leaves left → how ≡ how_left left → monitor ≡ monitor_in (method_code_at code f.method) f.this → HeldFits code (held stage f below) →
    HasTurned code (held stage f below) (held (stages.Asks (actions.Leave f.method how) (thens.Exits monitor left)) f below)
leaves_at code stage left how f below monitor s h m fits =
    let n = held (stages.Asks (actions.Leave f.method how) (thens.Exits monitor left)) f below in
    let P : LeaveHow → Type 0 =
    λ how. HasTurned code (held (stages.Leaves left) f below) (held (stages.Asks (actions.Leave f.method how) (thens.Exits monitor left)) f below) in
    at_stage code stage (stages.Leaves left) f below n s (λ fits. subst P (sym h) (leaves code left f below monitor m fits)) fits

-- ---- an exception

abbrev pub handled_stage : Option Ran → Stage
handled_stage None = stages.Runs
handled_stage (Some ran) = stage_of_ran ran

handles : (code : Code) → CodeRight code → (fault : Fault) (from : ℕ) (f g : StackFrame) (below : List StackFrame) (result : Option Ran) →
    HeldFits code (held (stages.Throws fault from) f below) → HandledFits (regions_of code f.method) f g result →
    Becomes code (Goes (Throws fault (drop from (regions_of code f.method)) (stack_frame f.method f.this f.at [] f.locals) below)) (handled_move code result below g) →
    HasTurned code (held (stages.Throws fault from) f below) (held (handled_stage result) g below)
handles code rights fault from f g below None fits h does = goes_to_handler code rights fault from f g below fits h does
handles code rights fault from f g below (Some ran) fits h does = goes_further code fault from ran f g below fits h does

pub handles_at : (code : Code) → CodeRight code → (stage : Stage) (fault : Fault) (from : ℕ) (f g : StackFrame) (below : List StackFrame) (rs : List Region) (result : Option Ran) →
    stage ≡ stages.Throws fault from → HeldFits code (held stage f below) → regions_of code f.method ≡ rs → HandledFits rs f g result →
    Becomes code (Goes (Throws fault (drop from rs) (stack_frame f.method f.this f.at [] f.locals) below)) (handled_move code result below g) →
    HasTurned code (held stage f below) (held (handled_stage result) g below)
handles_at code rights stage fault from f g below rs result s fits e h does =
    let n = held (handled_stage result) g below in
    let P : List Region → Type 0 = λ rs. HandledFits rs f g result in
    let Q : List Region → Type 0 =
    λ rs. Becomes code (Goes (Throws fault (drop from rs) (stack_frame f.method f.this f.at [] f.locals) below)) (handled_move code result below g) in
    at_stage code stage (stages.Throws fault from) f below n s
    (λ fits. handles code rights fault from f g below result fits (subst P (sym e) h) (subst Q (sym e) does)) fits

pub regions_at : (lists : CodeOfLists) (m : MethodId) (c : MethodOfLists) → slice_get lists.methods.items m.0 ≡ Some c →
    regions_of (plain_of lists) m ≡ map region_of c.regions.items
regions_at lists m c e =
    ap (λ (o : Option MethodCode). option_map_or (λ (c : MethodCode). c.regions) o []) (mapped_at (method_of (tables_of lists)) lists.methods.items m.0 c e)

-- ---- a call that begins

pub begins_at : (lists : CodeOfLists) (stage next : Stage) (callee : MethodId) (this : Option ObjId) (c : MethodOfLists) (a : Arguments) (f g : StackFrame)
    (below new : List StackFrame) (monitor : Option ObjId) →
    stage ≡ stages.Begins callee this → HeldFits (plain_of lists) (held stage f below) → slice_get lists.methods.items callee.0 ≡ Some c →
    monitor ≡ monitor_in (method_code_at (plain_of lists) callee) this → HasBegun callee this c f.stack g a →
    new ≡ without (length c.formals.items) this f ∷ below → next ≡ called_stage monitor a →
    HasTurned (plain_of lists) (held stage f below) (held next g new)
begins_at lists stage next callee this c a f g below new monitor s fits there mon begun waits n =
    let code = plain_of lists in
    let plain = method_of (tables_of lists) c in
    let caller = without (length c.formals.items) this f ∷ below in
    let P : Stage → Type 0 = λ next. HasTurned code (held stage f below) (held next g new) in
    let Q : List StackFrame → Type 0 = λ new. HasTurned code (held stage f below) (held (called_stage monitor a) g new) in
    let turn = at_stage code stage (stages.Begins callee this) f below (held (called_stage monitor a) g caller) s
    (λ fits. begins code callee this plain a f g below monitor fits (mapped_at (method_of (tables_of lists)) lists.methods.items callee.0 c there)
    mon (begun.frame (tables_of lists)) begun.arguments) fits in
    subst P (sym n) (subst Q (sym waits) turn)

taken_of_none : (n : ℕ) → taken n [] ≡ []
taken_of_none zero = refl
taken_of_none (suc n) = refl

starts : (code : Code) (callee : MethodId) (this : Option ObjId) (c : MethodCode) (a : Arguments) (g : StackFrame) (monitor : Option ObjId) →
    method_code_at code callee ≡ Some c → monitor ≡ monitor_in (method_code_at code callee) this →
    g ≡ stack_frame callee this 0 [] (start_locals (Some c) this []) → arguments_in a g.locals ≡ [] →
    HasStarted code (Some (record { method = callee; this = this })) (held (called_stage monitor a) g [])
starts code callee this c a g monitor there mon e args =
    let locals = start_locals (Some c) this [] in
    let begun = Goes (enter_then monitor (Makes (deeds.Call callee this []) (Runs (stack_frame callee this 0 [] locals) []))) in
    let calling_is : Goes (start_state code (Some (record { method = callee; this = this }))) ≡ begun = rw (mon, there) refl in
    let P : StackFrame → Type 0 = λ g. HasStarted code (Some (record { method = callee; this = this })) (held (called_stage monitor a) g []) in
    let named : arguments_in a locals ≡ [] = ap (λ (g : StackFrame). arguments_in a g.locals) (sym e) ∙ args in
    subst P (sym e) (record {
      becomes =
          then code (Goes (start_state code (Some (record { method = callee; this = this })))) begun
          (stage_move code (called_stage monitor a) (stack_frame callee this 0 [] locals) [])
          (same_move code _ _ calling_is) (called_as code a callee this [] locals [] monitor named);
      fits = record {
        stage = called_fits code a (stack_frame callee this 0 [] locals) monitor (record { c = c; is_method = there; kinds = []; path = Begins });
        below = tt;
      };
    })

-- the first call of a thread
pub starts_at : (lists : CodeOfLists) (next : Stage) (callee : MethodId) (this : Option ObjId) (c : MethodOfLists) (a : Arguments) (operands : List Content) (g : StackFrame)
    (below : List StackFrame) (monitor : Option ObjId) → slice_get lists.methods.items callee.0 ≡ Some c →
    monitor ≡ monitor_in (method_code_at (plain_of lists) callee) this → operands ≡ [] → HasBegun callee this c operands g a → below ≡ [] → next ≡ called_stage monitor a →
    HasStarted (plain_of lists) (Some (record { method = callee; this = this })) (held next g below)
starts_at lists next callee this c a operands g below monitor there mon none begun alone n =
    let code = plain_of lists in
    let plain = method_of (tables_of lists) c in
    let body = Some (record { method = callee; this = this }) in
    let nothing : taken (length c.formals.items) operands ≡ [] = ap (taken (length c.formals.items)) none ∙ taken_of_none (length c.formals.items) in
    let P : Stage → Type 0 = λ next. HasStarted code body (held next g below) in
    let Q : List StackFrame → Type 0 = λ below. HasStarted code body (held (called_stage monitor a) g below) in
    subst P (sym n) (subst Q (sym alone) (starts code callee this plain a g monitor
    (mapped_at (method_of (tables_of lists)) lists.methods.items callee.0 c there) mon
    (begun.frame (tables_of lists) ∙ ap (λ values. stack_frame callee this 0 [] (start_locals (Some plain) this values)) nothing) (begun.arguments ∙ nothing)))

-- a thread that has nothing to run
pub ends_at_once : (code : Code) (start : Option Body) (f : StackFrame) (below : List StackFrame) → start ≡ None → below ≡ [] →
    HasStarted code start (held (stages.Asks (actions.End ends.Normal) thens.Ends) f below)
ends_at_once code start f below s alone =
    let P : Option Body → Type 0 = λ start. HasStarted code start (held (stages.Asks (actions.End ends.Normal) thens.Ends) f below) in
    let Q : List StackFrame → Type 0 = λ below. HasStarted code None (held (stages.Asks (actions.End ends.Normal) thens.Ends) f below) in
    subst P (sym s) (subst Q (sym alone) (record { becomes = makes code (deeds.End ends.Normal) Over; fits = record { stage = tt; below = tt } }))
