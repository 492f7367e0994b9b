-- What the machine comes to after a reply.
use Rattle.std.proofs.Common.{◌≡◌, ◌+◌, Bool, true, false, List, [], ◌∷◌, sym, subst}
use Rattle.std.specs.Prelude.{MatchBool}
use Rattle.jr_base.specs.Deed as deeds
use Rattle.jr_base.specs.declared.number.ObjId.{ObjId}
use Rattle.jr_base.specs.declared.action.Action.TheVariants as actions
use Rattle.jr_base.specs.declared.action.EndHow.TheVariants as ends
use Rattle.jr_base.specs.declared.value.Value.{Value}
use Rattle.jr_base.specs.declared.finish.Fault.{Fault}
use Rattle.jr_base.specs.Content.{Holds}
use Rattle.jr_code.specs.Instructions.{Code}
use Rattle.jr_code.specs.Machine.{StackFrame, stack_frame, Runs, Makes, Over, Goes, on, throw_at}
use Rattle.jr_thread_machine.specs.declared.flow.Left.{Left}
use Rattle.jr_thread_machine.specs.declared.flow.Left.TheVariants as lefts
use Rattle.jr_thread_machine.specs.declared.flow.Arguments.{Arguments}
use Rattle.jr_thread_machine.specs.declared.flow.Then.{Then}
use Rattle.jr_thread_machine.specs.declared.flow.Then.TheVariants as thens
use Rattle.jr_thread_machine.specs.declared.stage.Stage.{Stage}
use Rattle.jr_base.specs.declared.action.Reply.{Reply}
use Rattle.jr_thread_machine.specs.Moves.{call_of, goes_on, how_ended, left_to}
use Rattle.jr_thread_machine.specs.declared.stage.Stage.TheVariants as stages
use Rattle.jr_thread_machine.specs.Places.{IsReached, MayGoOn, ThenFits, AllMayGoOn}
use Rattle.jr_thread_machine.specs.Stages.{ComesTo}
use Rattle.jr_thread_machine.proofs.Runs.{stays, makes}

module _ (code : Code) (f g : StackFrame) (callers : List StackFrame) (others : AllMayGoOn code callers) where
  pub takes : (value : Value) → MayGoOn code f.method f.at → g ≡ stack_frame f.method f.this (f.at + 1) f.stack f.locals →
      ComesTo code (on callers f.method f.this (f.at + 1) (Holds value ∷ f.stack) f.locals) (stages.Takes value) g callers
  takes value may e =
      let P : StackFrame → Type 0 = λ g. ComesTo code (on callers f.method f.this (f.at + 1) (Holds value ∷ f.stack) f.locals) (stages.Takes value) g callers in
      subst P (sym e) (record { becomes = stays code (Goes (on callers f.method f.this (f.at + 1) (Holds value ∷ f.stack) f.locals)); fits = may.behind; below = others })

  pub goes : MayGoOn code f.method f.at → g ≡ stack_frame f.method f.this (f.at + 1) f.stack f.locals →
      ComesTo code (on callers f.method f.this (f.at + 1) f.stack f.locals) stages.Runs g callers
  goes may e =
      let P : StackFrame → Type 0 = λ g. ComesTo code (on callers f.method f.this (f.at + 1) f.stack f.locals) stages.Runs g callers in
      subst P (sym e) (record { becomes = stays code (Goes (on callers f.method f.this (f.at + 1) f.stack f.locals)); fits = may.behind; below = others })

  pub throws : (fault : Fault) → IsReached code f.method f.at → g ≡ stack_frame f.method f.this f.at [] f.locals →
      ComesTo code (throw_at code fault callers f.method f.this f.at f.locals) (stages.Throws fault 0) g callers
  throws fault here e =
      let P : StackFrame → Type 0 = λ g. ComesTo code (throw_at code fault callers f.method f.this f.at f.locals) (stages.Throws fault 0) g callers in
      subst P (sym e) (record { becomes = stays code (Goes (throw_at code fault callers f.method f.this f.at f.locals)); fits = here; below = others })

  pub takes_monitor : (o : ObjId) → MayGoOn code f.method f.at → g ≡ stack_frame f.method f.this (f.at + 1) f.stack f.locals →
      ComesTo code (Makes (deeds.Resume o) (on callers f.method f.this (f.at + 1) f.stack f.locals)) (stages.Asks (actions.Resume o) thens.Runs) g callers
  takes_monitor o may e =
      let P : StackFrame → Type 0 =
      λ g. ComesTo code (Makes (deeds.Resume o) (on callers f.method f.this (f.at + 1) f.stack f.locals)) (stages.Asks (actions.Resume o) thens.Runs) g callers in
      subst P (sym e) (record {
        becomes = makes code (deeds.Resume o) (on callers f.method f.this (f.at + 1) f.stack f.locals);
        fits = may.behind;
        below = others;
      })

ended : (code : Code) (left : Left) (f : StackFrame) → ComesTo code (left_to code left []) (stages.Asks (actions.End (how_ended left)) thens.Ends) f []
ended code (lefts.Returns value) f = record { becomes = makes code (deeds.End ends.Normal) Over; fits = tt; below = tt }
ended code (lefts.Fails fault) f = record { becomes = makes code (deeds.End (ends.Uncaught fault)) Over; fits = tt; below = tt }

-- where no call waits, the thread ends
pub no_caller : (code : Code) (left : Left) (f : StackFrame) (old new : List StackFrame) → old ≡ [] → new ≡ [] →
    ComesTo code (left_to code left old) (stages.Asks (actions.End (how_ended left)) thens.Ends) f new
no_caller code left f old new o n =
    let P : List StackFrame → Type 0 = λ l. ComesTo code (left_to code left l) (stages.Asks (actions.End (how_ended left)) thens.Ends) f new in
    let Q : List StackFrame → Type 0 = λ l. ComesTo code (left_to code left []) (stages.Asks (actions.End (how_ended left)) thens.Ends) f l in
    subst P (sym o) (subst Q (sym n) (ended code left f))

pub none_waits : (b : Bool) (P Q : Type 0) → MatchBool b P Q → b ≡ false → Q
none_waits true P Q h e = absurd (cc)
none_waits false P Q h e = h

pub as_then : (code : Code) (then other : Then) (callers : List StackFrame) (f g : StackFrame) (r : Reply) (stage : Stage) → then ≡ other →
    ComesTo code (goes_on code other callers f r) stage g callers → ComesTo code (goes_on code then callers f r) stage g callers
as_then code then other callers f g r stage e c =
    let P : Then → Type 0 = λ t. ComesTo code (goes_on code t callers f r) stage g callers in
    subst P (sym e) c

pub made_next : (code : Code) (a : Arguments) (f : StackFrame) (callers : List StackFrame) → IsReached code f.method f.at → AllMayGoOn code callers →
    ComesTo code (Makes (call_of a f) (Runs f callers)) (stages.Calls a) f callers
made_next code a f callers here others = record { becomes = makes code (call_of a f) (Runs f callers); fits = here; below = others }

pub as_fits : (code : Code) (then other : Then) (f : StackFrame) → then ≡ other → ThenFits code then f → ThenFits code other f
as_fits code then other f e h = let P : Then → Type 0 = λ t. ThenFits code t f in subst P e h

pub exits_next : (code : Code) (o : ObjId) (left : Left) (f : StackFrame) (callers : List StackFrame) → AllMayGoOn code callers →
    ComesTo code (Makes (deeds.Exit o) (left_to code left callers)) (stages.Asks (actions.Exit o) (thens.Hands left)) f callers
exits_next code o left f callers others = record { becomes = makes code (deeds.Exit o) (left_to code left callers); fits = tt; below = others }
