-- What takes an exception.
use Rattle.std.specs.Prelude.{◌≡◌, ℕ, ◌+◌, ◌<◌, ◌≤◌, List, [], ◌∷◌, drop, Option, Some, None, slice_get}
use Rattle.jr_base.specs.Deed as deeds
use Rattle.jr_base.specs.Content.{Caught}
use Rattle.jr_base.specs.declared.finish.Fault.{Fault}
use Rattle.jr_code.specs.Instructions.{Code, Region, CatchAt}
use Rattle.jr_code.specs.Machine.{StackFrame, stack_frame, Runs, Throws, Move, Goes, Asks, Ends, on, regions_of, choose, holds, handles}
use Rattle.jr_thread_machine.specs.declared.flow.Stop.TheVariants as stops
use Rattle.jr_thread_machine.specs.declared.flow.Then.TheVariants as thens
use Rattle.jr_thread_machine.specs.declared.handlers.Ran.{Ran}
use Rattle.jr_thread_machine.specs.declared.handlers.Ran.TheVariants as rans
use Rattle.jr_thread_machine.specs.declared.handlers.Found.{Found}
use Rattle.jr_thread_machine.specs.declared.handlers.Found.TheVariants as founds
use Rattle.jr_thread_machine.specs.Moves.{stop_move}
use Rattle.jr_thread_machine.specs.Places.{IsReached, StopFits}

abbrev pub found_move : Code → Fault → StackFrame → List StackFrame → Found → Move
found_move code fault f below (founds.Catch target) = Goes (on below f.method f.this target (Caught fault ∷ []) f.locals)
found_move code fault f below (founds.Exit o behind) = Asks (deeds.Exit o) (λ r. Throws fault (drop behind (regions_of code f.method)) f below)
found_move code fault f below founds.Nothing = Goes (Throws fault [] f below)

-- what a region does with an exception: it goes on to the others, or is taken
abbrev pub taken_move : Fault → List Region → StackFrame → List StackFrame → Option Found → Move
taken_move fault rest f below None = Goes (Throws fault rest f below)
taken_move fault rest f below (Some (founds.Catch target)) = Goes (on below f.method f.this target (Caught fault ∷ []) f.locals)
taken_move fault rest f below (Some (founds.Exit o behind)) = Asks (deeds.Exit o) (λ r. Throws fault rest f below)
taken_move fault rest f below (Some founds.Nothing) = Ends

abbrev pub Takes : Region → Fault → StackFrame → Option Found → Type 0
Takes r fault f found = (rest : List Region) (below : List StackFrame) →
    choose (holds r f.at) (handles r.kind fault rest f below) (Goes (Throws fault rest f below)) ≡ taken_move fault rest f below found

abbrev pub TakenFits : Region → ℕ → ℕ → Option Found → Type 0
TakenFits r number at (Some (founds.Catch target)) = (fault : Fault) × (r.kind ≡ CatchAt fault target) × (r.first ≤ at) × (at < r.past)
TakenFits r number at (Some (founds.Exit o behind)) = behind ≡ number + 1
TakenFits r number at (Some founds.Nothing) = ⊥
TakenFits r number at None = Unit {0}

-- a catch among the regions, that holds the place
pub record CatchIn (regions : List Region) (at target : ℕ) : Type 0 where
  pub number : ℕ
  pub region : Region
  pub fault : Fault
  pub stands : slice_get regions number ≡ Some region
  pub catches : region.kind ≡ CatchAt fault target
  pub first : region.first ≤ at
  pub past : at < region.past

abbrev pub FoundFits : List Region → ℕ → Found → Type 0
FoundFits regions at (founds.Catch target) = CatchIn regions at target
FoundFits regions at _ = Unit {0}

abbrev pub ran_move : Code → Ran → List StackFrame → StackFrame → Move
ran_move code (rans.Stops stop) below f = stop_move code stop below f
ran_move code (rans.Throws fault from) below f =
    Goes (Throws fault (drop from (regions_of code f.method)) (stack_frame f.method f.this f.at [] f.locals) below)

abbrev pub RanFits : Code → Ran → StackFrame → Type 0
RanFits code (rans.Stops stop) f = StopFits code stop f
RanFits code (rans.Throws fault from) f = IsReached code f.method f.at

-- after an exception the call goes on, or not
abbrev pub handled_move : Code → Option Ran → List StackFrame → StackFrame → Move
handled_move code None below f = Goes (Runs f below)
handled_move code (Some ran) below f = ran_move code ran below f

-- the exception goes on to other regions, or the call is left
abbrev pub GoesFurther : Ran → Type 0
GoesFurther (rans.Stops (stops.Asks action (thens.Throws fault from))) = Unit {0}
GoesFurther (rans.Stops (stops.Leaves left)) = Unit {0}
GoesFurther (rans.Throws fault from) = Unit {0}
GoesFurther _ = ⊥

abbrev pub HandledFits : List Region → StackFrame → StackFrame → Option Ran → Type 0
HandledFits regions old new None = (new.method ≡ old.method) × CatchIn regions old.at new.at
HandledFits regions old new (Some ran) = (new.method ≡ old.method) × (new.at ≡ old.at) × GoesFurther ran
