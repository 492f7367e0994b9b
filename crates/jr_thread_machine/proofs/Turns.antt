-- What the machine comes to between two actions.
use Rattle.std.proofs.Common.{◌≡◌, ℕ, List, [], ◌∷◌, Option, Some, None, drop, refl, sym, ap, ◌∙◌, subst, length}
use Rattle.std.specs.Option.{option_map_or}
use Rattle.jr_base.specs.Deed.{Deed, deed_of}
use Rattle.jr_base.specs.Deed as deeds
use Rattle.jr_base.specs.declared.number.MethodId.{MethodId}
use Rattle.jr_base.specs.declared.number.ObjId.{ObjId}
use Rattle.jr_base.specs.declared.action.Action.TheVariants as actions
use Rattle.jr_base.specs.declared.action.Way.TheVariants as ways
use Rattle.jr_base.specs.declared.value.Value.{Value}
use Rattle.jr_base.specs.declared.finish.Fault.{Fault}
use Rattle.jr_base.specs.Content.{Content, Holds}
use Rattle.jr_code.specs.Instructions.{Code, MethodCode}
use Rattle.jr_code.specs.Checked.{CodeRight}
use Rattle.jr_code.specs.Paths.{Begins}
use Rattle.jr_code.specs.Machine.{StackFrame, stack_frame, Runs, Throws, Makes, Goes, Asks, method_code_at, regions_of, monitor_in, start_locals, taken, arity_of, exit_then, enter_then, handed, handed_fault}
use Rattle.jr_thread_machine.specs.declared.flow.Left.{Left}
use Rattle.jr_thread_machine.specs.declared.flow.Left.TheVariants as lefts
use Rattle.jr_thread_machine.specs.declared.flow.Arguments.{Arguments}
use Rattle.jr_thread_machine.specs.declared.flow.Then.TheVariants as thens
use Rattle.jr_thread_machine.specs.declared.flow.Stop.{Stop}
use Rattle.jr_thread_machine.specs.declared.flow.Stop.TheVariants as stops
use Rattle.jr_thread_machine.specs.declared.handlers.Ran.{Ran}
use Rattle.jr_thread_machine.specs.declared.handlers.Ran.TheVariants as rans
use Rattle.jr_thread_machine.specs.declared.stage.Stage.TheVariants as stages
use Rattle.jr_thread_machine.specs.Frames.{without}
use Rattle.jr_thread_machine.specs.Moves.{arguments_in, how_left, stop_move}
use Rattle.jr_thread_machine.specs.Places.{IsReached, MayGoOn, StopFits, StageFits, AllMayGoOn}
use Rattle.jr_thread_machine.specs.Runs.{Becomes}
use Rattle.jr_thread_machine.specs.Handlers.{HandledFits, ran_move, RanFits}
use Rattle.jr_thread_machine.specs.Stages.{Held, held, stage_move, move_of, HeldFits, stage_of, stage_of_ran, called_stage, HasTurned}
use Rattle.jr_thread_machine.specs.Steps.{Stays, Stopped}
use Rattle.jr_thread_machine.proofs.Places.{caught}
use Rattle.jr_thread_machine.proofs.Stepping.{handled_fits}
use Rattle.jr_thread_machine.proofs.Runs.{stays, then, stepped, makes, same_move}

-- where a call stops, the machine stands before the same
stop_is : (code : Code) (stop : Stop) (f : StackFrame) (below : List StackFrame) → stop_move code stop below f ≡ stage_move code (stage_of stop) f below
stop_is code (stops.Asks action then) f below = refl
stop_is code (stops.Calls callee this) f below = refl
stop_is code (stops.Leaves left) f below = refl
stop_is code stops.Nothing f below = refl

stop_fits : (code : Code) (stop : Stop) (f : StackFrame) → StopFits code stop f → StageFits code (stage_of stop) f
stop_fits code (stops.Asks action then) f h = h
stop_fits code (stops.Calls callee this) f h = h
stop_fits code (stops.Leaves left) f h = h
stop_fits code stops.Nothing f h = h

pub turned_nowhere : (code : Code) (m : Held) → HeldFits code m → HasTurned code m m
turned_nowhere code m fits = record { becomes = stays code (move_of code m); fits = fits }

pub turned_twice : (code : Code) (l m n : Held) → HasTurned code l m → HasTurned code m n → HasTurned code l n
turned_twice code l m n a b = record { becomes = then code (move_of code l) (move_of code m) (move_of code n) a.becomes b.becomes; fits = b.fits }

ran_is : (code : Code) (ran : Ran) (f : StackFrame) (below : List StackFrame) → ran_move code ran below f ≡ stage_move code (stage_of_ran ran) f below
ran_is code (rans.Stops stop) f below = stop_is code stop f below
ran_is code (rans.Throws fault from) f below = refl

ran_fits : (code : Code) (ran : Ran) (f : StackFrame) → RanFits code ran f → StageFits code (stage_of_ran ran) f
ran_fits code (rans.Stops stop) f h = stop_fits code stop f h
ran_fits code (rans.Throws fault from) f h = h

pub comes_there : (code : Code) (ran : Ran) (f g : StackFrame) (below : List StackFrame) → AllMayGoOn code below → Stopped code ran f g →
    HasTurned code (held stages.Runs f below) (held (stage_of_ran ran) g below)
comes_there code ran f g below others s = record {
  becomes =
      then code (Goes (Runs f below)) (ran_move code ran below g) (stage_move code (stage_of_ran ran) g below)
      (s.becomes below) (same_move code (ran_move code ran below g) (stage_move code (stage_of_ran ran) g below) (ran_is code ran g below));
  fits = record { stage = ran_fits code ran g s.fits; below = others };
}

pub still_runs : (code : Code) (f g : StackFrame) (below : List StackFrame) → AllMayGoOn code below → Stays code f g →
    HasTurned code (held stages.Runs f below) (held stages.Runs g below)
still_runs code f g below others s = record { becomes = s.becomes below; fits = record { stage = s.here; below = others } }

pub takes : (code : Code) (value : Value) (f g : StackFrame) (below : List StackFrame) → HeldFits code (held (stages.Takes value) f below) →
    g ≡ stack_frame f.method f.this f.at (Holds value ∷ f.stack) f.locals → HasTurned code (held (stages.Takes value) f below) (held stages.Runs g below)
takes code value f g below fits e =
    let P : StackFrame → Type 0 = λ g. HasTurned code (held (stages.Takes value) f below) (held stages.Runs g below) in
    subst P (sym e) (record {
      becomes = stays code (Goes (Runs (stack_frame f.method f.this f.at (Holds value ∷ f.stack) f.locals) below));
      fits = record { stage = fits.stage; below = fits.below };
    })

-- ---- an exception

pub goes_further : (code : Code) (fault : Fault) (from : ℕ) (ran : Ran) (f g : StackFrame) (below : List StackFrame) →
    HeldFits code (held (stages.Throws fault from) f below) → HandledFits (regions_of code f.method) f g (Some ran) →
    Becomes code (Goes (Throws fault (drop from (regions_of code f.method)) (stack_frame f.method f.this f.at [] f.locals) below)) (ran_move code ran below g) →
    HasTurned code (held (stages.Throws fault from) f below) (held (stage_of_ran ran) g below)
goes_further code fault from ran f g below fits h does = record {
  becomes =
      then code (Goes (Throws fault (drop from (regions_of code f.method)) (stack_frame f.method f.this f.at [] f.locals) below)) (ran_move code ran below g)
      (stage_move code (stage_of_ran ran) g below) does (same_move code (ran_move code ran below g) (stage_move code (stage_of_ran ran) g below) (ran_is code ran g below));
  fits = record { stage = ran_fits code ran g (handled_fits code ran f g fits.stage h); below = fits.below };
}

pub goes_to_handler : (code : Code) → CodeRight code → (fault : Fault) (from : ℕ) (f g : StackFrame) (below : List StackFrame) →
    HeldFits code (held (stages.Throws fault from) f below) → HandledFits (regions_of code f.method) f g None →
    Becomes code (Goes (Throws fault (drop from (regions_of code f.method)) (stack_frame f.method f.this f.at [] f.locals) below)) (Goes (Runs g below)) →
    HasTurned code (held (stages.Throws fault from) f below) (held stages.Runs g below)
goes_to_handler code rights fault from f g below fits h does = record {
  becomes = does;
  fits = record {
    stage = subst (λ m. IsReached code m g.at) (sym h.0) (caught code rights f.method f.at g.at fits.stage h.1).1;
    below = fits.below;
  };
}

-- ---- a call that is left

left_as : (code : Code) (left : Left) (f : StackFrame) (below : List StackFrame) (monitor : Option ObjId) → monitor ≡ monitor_in (method_code_at code f.method) f.this →
    Becomes code (stage_move code (stages.Leaves left) f below) (stage_move code (stages.Asks (actions.Leave f.method (how_left left)) (thens.Exits monitor left)) f below)
left_as code (lefts.Returns value) f below monitor e =
    rw e (makes code (deeds.Leave f.method (how_left (lefts.Returns value))) (exit_then (monitor_in (method_code_at code f.method) f.this) (handed value below)))
left_as code (lefts.Fails fault) f below monitor e =
    let after = exit_then (monitor_in (method_code_at code f.method) f.this) (handed_fault code fault below) in
    let leave = deeds.Leave f.method (how_left (lefts.Fails fault)) in
    rw e (then code (Goes (Throws fault [] f below)) (Goes (Makes leave after)) (Asks leave (λ r. after))
    (stepped code (Throws fault [] f below) (Goes (Makes leave after)) refl) (makes code leave after))

pub leaves : (code : Code) (left : Left) (f : StackFrame) (below : List StackFrame) (monitor : Option ObjId) → monitor ≡ monitor_in (method_code_at code f.method) f.this →
    HeldFits code (held (stages.Leaves left) f below) →
    HasTurned code (held (stages.Leaves left) f below) (held (stages.Asks (actions.Leave f.method (how_left left)) (thens.Exits monitor left)) f below)
leaves code left f below monitor e fits = record { becomes = left_as code left f below monitor e; fits = record { stage = tt; below = fits.below } }

-- ---- a call that begins

pub called_as : (code : Code) (a : Arguments) (m : MethodId) (this : Option ObjId) (values : List Value) (locals : List Content) (below : List StackFrame) (monitor : Option ObjId) →
    arguments_in a locals ≡ values →
    Becomes code (Goes (enter_then monitor (Makes (deeds.Call m this values) (Runs (stack_frame m this 0 [] locals) below))))
    (stage_move code (called_stage monitor a) (stack_frame m this 0 [] locals) below)
called_as code a m this values locals below None e =
    rw (← e) (makes code (deeds.Call m this (arguments_in a locals)) (Runs (stack_frame m this 0 [] locals) below))
called_as code a m this values locals below (Some o) e =
    rw (← e) (makes code (deeds.Enter o ways.Method) (Makes (deeds.Call m this (arguments_in a locals)) (Runs (stack_frame m this 0 [] locals) below)))

pub called_fits : (code : Code) (a : Arguments) (f : StackFrame) (monitor : Option ObjId) → IsReached code f.method f.at → StageFits code (called_stage monitor a) f
called_fits code a f None h = h
called_fits code a f (Some o) h = h

waits_there : (code : Code) (count : ℕ) (this : Option ObjId) (f : StackFrame) → MayGoOn code f.method f.at → MayGoOn code (without count this f).method (without count this f).at
waits_there code count None f h = h
waits_there code count (Some o) f h = h

-- the caller waits, and the call is to be made
pub begins : (code : Code) (callee : MethodId) (this : Option ObjId) (c : MethodCode) (a : Arguments) (f g : StackFrame) (below : List StackFrame) (monitor : Option ObjId) →
    HeldFits code (held (stages.Begins callee this) f below) → method_code_at code callee ≡ Some c → monitor ≡ monitor_in (method_code_at code callee) this →
    g ≡ stack_frame callee this 0 [] (start_locals (Some c) this (taken (length c.formals) f.stack)) → arguments_in a g.locals ≡ taken (length c.formals) f.stack →
    HasTurned code (held (stages.Begins callee this) f below) (held (called_stage monitor a) g (without (length c.formals) this f ∷ below))
begins code callee this c a f g below monitor fits there mon e args =
    let values = taken (length c.formals) f.stack in
    let locals = start_locals (Some c) this values in
    let under = without (length c.formals) this f ∷ below in
    let arity : arity_of code callee ≡ length c.formals = ap (λ (o : Option MethodCode). option_map_or (λ (c : MethodCode). length c.formals) o 0) there in
    let calling_is : stage_move code (stages.Begins callee this) f below
    ≡ Goes (enter_then monitor (Makes (deeds.Call callee this values) (Runs (stack_frame callee this 0 [] locals) under))) =
    rw (mon, there) refl in
    let P : StackFrame → Type 0 = λ g. HasTurned code (held (stages.Begins callee this) f below) (held (called_stage monitor a) g under) in
    let named : arguments_in a locals ≡ values = ap (λ (g : StackFrame). arguments_in a g.locals) (sym e) ∙ args in
    subst P (sym e) (record {
      becomes =
          then code (stage_move code (stages.Begins callee this) f below)
          (Goes (enter_then monitor (Makes (deeds.Call callee this values) (Runs (stack_frame callee this 0 [] locals) under))))
          (stage_move code (called_stage monitor a) (stack_frame callee this 0 [] locals) under)
          (same_move code _ _ calling_is) (called_as code a callee this values locals under monitor named);
      fits = record {
        stage = called_fits code a (stack_frame callee this 0 [] locals) monitor (record { c = c; is_method = there; kinds = []; path = Begins });
        below = (waits_there code (length c.formals) this f fits.stage.1, fits.below);
      };
    })
