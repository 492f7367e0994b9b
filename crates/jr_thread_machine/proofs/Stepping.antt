-- One instruction of a call, and what it leads to.
use Rattle.std.proofs.Common.{◌≡◌, ℕ, ◌+◌, ◌<◌, ◌^◌, List, [], Option, Some, None, drop, refl, sym, ap, ◌∙◌, subst, arith}
use Rattle.std.specs.Prelude.{slice_get, MatchOption}
use Rattle.jr_base.specs.declared.finish.Fault.{Fault}
use Rattle.jr_code.specs.Instructions.{Instruction, Region, Code}
use Rattle.jr_code.specs.Machine.{StackFrame, stack_frame, Runs, Throws, Goes, act, instructions_of, regions_of}
use Rattle.jr_code.specs.Checked.{CodeRight}
use Rattle.jr_code.specs.Paths.{IsNext}
use Rattle.jr_thread_machine.specs.declared.flow.Flow.{Flow}
use Rattle.jr_thread_machine.specs.declared.flow.Flow.TheVariants as flows
use Rattle.jr_thread_machine.specs.declared.flow.Stop.{Stop}
use Rattle.jr_thread_machine.specs.declared.flow.Stop.TheVariants as stops
use Rattle.jr_thread_machine.specs.declared.flow.Then.TheVariants as thens
use Rattle.jr_thread_machine.specs.declared.handlers.Ran.{Ran}
use Rattle.jr_thread_machine.specs.declared.handlers.Ran.TheVariants as rans
use Rattle.jr_thread_machine.specs.Handlers.{CatchIn, GoesFurther, handled_move, HandledFits, ran_move, RanFits}
use Rattle.jr_thread_machine.specs.Moves.{flow_move, Onward, Steps}
use Rattle.jr_thread_machine.specs.Places.{IsReached, MayGoOn, StopFits}
use Rattle.jr_thread_machine.specs.Runs.{Becomes}
use Rattle.jr_thread_machine.specs.Steps.{Stays, WentOn, Stopped}
use Rattle.jr_thread_machine.proofs.Places.{leads, further, called, caught}
use Rattle.jr_thread_machine.proofs.Runs.{then, stepped}

module _ (code : Code) (rights : CodeRight code) (old new : StackFrame) (i : Instruction)
    (here : IsReached code old.method old.at) (stands : slice_get (instructions_of code old.method) old.at ≡ Some i) where
  pub did : (flow : Flow) → Steps code i flow old new → (below : List StackFrame) → Becomes code (Goes (Runs old below)) (flow_move code flow below new)
  did flow s below =
      stepped code (Runs old below) (flow_move code flow below new)
      (ap (λ o. act code o below old.method old.this old.at old.stack old.locals) stands ∙ s.did below)

  next_here : (next : ℕ) → IsNext old.at i next → new.method ≡ old.method → new.at ≡ next → IsReached code new.method new.at
  next_here next n m e =
      let there = leads code rights old.method old.at next i here stands n in
      subst (λ m. IsReached code m new.at) (sym m) (subst (IsReached code old.method) (sym e) there)

  goes_behind : old.at + 1 < 2 ^ 32 → new.method ≡ old.method → (new.at ≡ old.at) × IsNext old.at i (old.at + 1) → MayGoOn code new.method new.at
  goes_behind small m h =
      let there = leads code rights old.method old.at (old.at + 1) i here stands h.1 in
      let at_old : MayGoOn code old.method old.at = record { here = here; behind = there; fits = small } in
      subst (λ m. MayGoOn code m new.at) (sym m) (subst (MayGoOn code old.method) (sym h.0) at_old)

  pub went_on : (count : ℕ) → old.at < count → Steps code i flows.Goes old new → WentOn code count old new
  went_on count inside s = record {
    stays = record {
      becomes = did flows.Goes s;
      here = next_here new.at s.onward s.method refl;
      method = s.method;
    };
    further = further code rights old.method old.at new.at i here stands s.onward [] old new (s.did []);
    inside = inside;
  }

  fits : old.at + 1 < 2 ^ 32 → (stop : Stop) → new.method ≡ old.method → Onward old.at i (flows.Stops stop) new.at → StopFits code stop new
  fits small (stops.Asks action thens.Runs) m h = next_here new.at h m refl
  fits small (stops.Asks action thens.Reads) m h = goes_behind small m h
  fits small (stops.Asks action thens.Writes) m h = goes_behind small m h
  fits small (stops.Asks action thens.Makes) m h = goes_behind small m h
  fits small (stops.Asks action (thens.Unless fault)) m h = goes_behind small m h
  fits small (stops.Asks action (thens.Waits o)) m h = goes_behind small m h
  fits small (stops.Asks action (thens.Throws fault from)) m h = (goes_behind small m h).here
  fits small (stops.Asks action (thens.Calls a)) m h = (goes_behind small m h).here
  fits small (stops.Asks action (thens.Exits monitor left)) m h = tt
  fits small (stops.Asks action (thens.Hands left)) m h = tt
  fits small (stops.Asks action thens.Ends) m h = tt
  fits small (stops.Calls callee this) m h =
      (called code rights old.method callee old.at i here stands h.2, goes_behind small m (h.0, h.1))
  fits small (stops.Leaves left) m h = subst (λ m. IsReached code m new.at) (sym m) (subst (IsReached code old.method) (sym h) here)
  fits small stops.Nothing m h = tt

  pub stopped : old.at + 1 < 2 ^ 32 → (stop : Stop) → Steps code i (flows.Stops stop) old new → Stopped code (rans.Stops stop) old new
  stopped small stop s = record { becomes = did (flows.Stops stop) s; fits = fits small stop s.method s.onward }

further_fits : (code : Code) (ran : Ran) (f g : StackFrame) → IsReached code f.method f.at → (g.method ≡ f.method) → (g.at ≡ f.at) → GoesFurther ran → RanFits code ran g
further_fits code (rans.Stops (stops.Asks action (thens.Throws fault from))) f g here m at h = subst (λ m. IsReached code m g.at) (sym m) (subst (IsReached code f.method) (sym at) here)
further_fits code (rans.Stops (stops.Leaves left)) f g here m at h = subst (λ m. IsReached code m g.at) (sym m) (subst (IsReached code f.method) (sym at) here)
further_fits code (rans.Throws fault from) f g here m at h = subst (λ m. IsReached code m g.at) (sym m) (subst (IsReached code f.method) (sym at) here)
further_fits code _ f g here m at h = absurd h

-- what an exception leads to that no handler takes
pub handled_fits : (code : Code) (ran : Ran) (f g : StackFrame) → IsReached code f.method f.at → HandledFits (regions_of code f.method) f g (Some ran) → RanFits code ran g
handled_fits code ran f g here h = further_fits code ran f g here h.0 h.1 h.2

-- an exception of an instruction
module _ (code : Code) (rights : CodeRight code) (old mid new : StackFrame) (i : Instruction) (fault : Fault) (rs : List Region)
    (here : IsReached code old.method old.at) (stands : slice_get (instructions_of code old.method) old.at ≡ Some i)
    (regions : regions_of code old.method ≡ rs) (s : Steps code i (flows.Throws fault) old mid) where
  mid_here : IsReached code mid.method mid.at
  mid_here = subst (λ m. IsReached code m mid.at) (sym s.method) (subst (IsReached code old.method) (sym s.onward) here)

  mid_regions : regions_of code mid.method ≡ rs
  mid_regions = ap (regions_of code) s.method ∙ regions

  abbrev pub Handles : Option Ran → Type 0
  Handles found = (below : List StackFrame) →
      Becomes code (Goes (Throws fault (drop 0 rs) (stack_frame mid.method mid.this mid.at [] mid.locals) below)) (handled_move code found below new)

  after : (found : Option Ran) → Handles found → (below : List StackFrame) → Becomes code (Goes (Runs old below)) (handled_move code found below new)
  after found does below =
      let thrown_there = did code rights old mid i here stands (flows.Throws fault) s below in
      let P : List Region → Type 0 =
      λ l. Becomes code (Goes (Throws fault l (stack_frame mid.method mid.this mid.at [] mid.locals) below)) (handled_move code found below new) in
      then code (Goes (Runs old below)) (flow_move code (flows.Throws fault) below mid) (handled_move code found below new) thrown_there
      (subst P (sym mid_regions) (does below))

  pub handled : (count : ℕ) → old.at < count → (found : Option Ran) → Handles found → HandledFits rs mid new found →
      MatchOption found (WentOn code count old new) (λ ran. Stopped code ran old new)
  handled count inside None does h =
      let there = caught code rights mid.method mid.at new.at mid_here (subst (λ l. CatchIn l mid.at new.at) (sym mid_regions) h.1) in
      let ahead : mid.at < new.at = there.0 in
      let same : mid.at ≡ old.at = s.onward in
      record {
        stays = record {
          becomes = after None does;
          here = subst (λ m. IsReached code m new.at) (sym h.0) there.1;
          method = h.0 ∙ s.method;
        };
        further = omega arith;
        inside = inside;
      }
  handled count inside (Some ran) does h = record {
    becomes = after (Some ran) does;
    fits = handled_fits code ran mid new mid_here (subst (λ l. HandledFits l mid new (Some ran)) (sym mid_regions) h);
  }

-- ---- several instructions

pub goes_further : (code : Code) (old mid new : StackFrame) → Stays code old mid → Stays code mid new → Stays code old new
goes_further code old mid new a b = record {
  becomes = λ below. then code (Goes (Runs old below)) (Goes (Runs mid below)) (Goes (Runs new below)) (a.becomes below) (b.becomes below);
  here = b.here;
  method = b.method ∙ a.method;
}

pub goes_on_again : (code : Code) (count : ℕ) (old mid new : StackFrame) (found : Option Ran) → Stays code old mid →
    MatchOption found (WentOn code count mid new) (λ ran. Stopped code ran mid new) → found ≡ None → Stays code old new
goes_on_again code count old mid new None a h e = goes_further code old mid new a h.stays
goes_on_again code count old mid new (Some ran) a h e = absurd (cc)

pub stops_too : (code : Code) (old mid new : StackFrame) (ran : Ran) → Stays code old mid → Stopped code ran mid new → Stopped code ran old new
stops_too code old mid new ran a h = record {
  becomes = λ below. then code (Goes (Runs old below)) (Goes (Runs mid below)) (ran_move code ran below new) (a.becomes below) (h.becomes below);
  fits = h.fits;
}

pub stops_after : (code : Code) (count : ℕ) (old mid new : StackFrame) (found : Option Ran) (ran : Ran) → Stays code old mid →
    MatchOption found (WentOn code count mid new) (λ ran. Stopped code ran mid new) → found ≡ Some ran → Stopped code ran old new
stops_after code count old mid new None ran a h e = absurd (cc)
stops_after code count old mid new (Some other) ran a h e =
    let same : other ≡ ran = cc in
    let P : Ran → Type 0 = λ r. Stopped code r old new in
    subst P same (stops_too code old mid new other a h)
