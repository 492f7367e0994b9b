-- A machine that stands for the replies that a thread has had goes on to stand for more.
use Rattle.std.proofs.Common.{◌≡◌, List, [], ◌∷◌, ◌++◌, Option, refl, sym, ap, subst, append_assoc}
use Rattle.std.proofs.lemmas.List.{append-nil}
use Rattle.jr_base.specs.Deed.{Deed, deed_of}
use Rattle.jr_base.specs.declared.action.Body.{Body}
use Rattle.jr_base.specs.declared.action.Reply.{Reply}
use Rattle.jr_base.specs.Threads as threads
use Rattle.jr_program.specs.Programs.{Program}
use Rattle.jr_program.specs.WellFormed.{WellFormed, StartFits}
use Rattle.jr_meaning.specs.Next.{next}
use Rattle.jr_code.specs.Checked.{CodeRight}
use Rattle.jr_code.specs.Instructions.{Code}
use Rattle.jr_code.specs.Machine.{StackFrame, State, Runs, Move, Goes, Asks, Ends, start_state, DoesNext}
use Rattle.jr_code.specs.Sound.{StartRight}
use Rattle.jr_code.proofs.Unique.{unique}
use Rattle.jr_lowering.specs.ProgramCode.{code_of}
use Rattle.jr_lowering.proofs.RightMethods.{start_right, code_right}
use Rattle.jr_lowering.proofs.Whole.{lowered}
use Rattle.jr_thread_machine.specs.declared.machine.Machine.{Machine}
use Rattle.jr_thread_machine.specs.declared.machine.Next.{Next}
use Rattle.jr_thread_machine.specs.declared.machine.Next.TheVariants.{Does, Ended}
use Rattle.jr_thread_machine.specs.declared.stage.Stage.{Stage}
use Rattle.jr_thread_machine.specs.declared.stage.Stage.TheVariants as stages
use Rattle.jr_thread_machine.specs.Machines.{held_of}
use Rattle.jr_thread_machine.specs.Runs.{Becomes}
use Rattle.jr_thread_machine.specs.Saying.{Says}
use Rattle.jr_thread_machine.specs.Stages.{move_of, HeldFits, HasTurned, HasStarted, ComesTo, AsksFor, IsAt, IsSettled, answered, stage_move}
use Rattle.jr_thread_machine.specs.Standing.{MovesAfter, StandsFor, RunsThreadOf, next_of}

-- ---- moves after replies

begins : (code : Code) (s : State) (m : Move) → Becomes code (Goes s) m → MovesAfter code s [] m
begins code s m b = record { same = λ more what f. let g = b.same more what f in record { steps = g.steps; comes = g.comes } }

moved : (code : Code) (s : State) (replies : List Reply) (m n : Move) → MovesAfter code s replies m → Becomes code m n → MovesAfter code s replies n
moved code s replies m n a b = record { same = λ more what f. a.same more what (b.same more what f) }

replied : (code : Code) (s : State) (replies : List Reply) (deed : Deed) (go : Reply → State) (r : Reply) → MovesAfter code s replies (Asks deed go) →
    MovesAfter code s (replies ++ r ∷ []) (Goes (go r))
replied code s replies deed go r a = record {
  same = λ more what f.
      let P : List Reply → Type 0 = λ l. DoesNext code s l what in
      subst P (sym (append_assoc replies (r ∷ []) more)) (a.same (r ∷ more) what (record { steps = f.steps; comes = f.comes }));
}

now : (code : Code) (s : State) (replies : List Reply) (what : threads.Next) → DoesNext code s (replies ++ []) what → DoesNext code s replies what
now code s replies what d = let P : List Reply → Type 0 = λ l. DoesNext code s l what in subst P (append-nil replies) d

asks_now : (code : Code) (s : State) (replies : List Reply) (deed : Deed) (go : Reply → State) → MovesAfter code s replies (Asks deed go) →
    DoesNext code s replies (threads.Wants deed)
asks_now code s replies deed go a = now code s replies (threads.Wants deed) (a.same [] (threads.Wants deed) (record { steps = 0; comes = refl }))

ends_now : (code : Code) (s : State) (replies : List Reply) → MovesAfter code s replies Ends → DoesNext code s replies threads.Ended
ends_now code s replies a = now code s replies threads.Ended (a.same [] threads.Ended (record { steps = 0; comes = refl }))

as_move : (code : Code) (s : State) (replies : List Reply) (m n : Move) → m ≡ n → MovesAfter code s replies m → MovesAfter code s replies n
as_move code s replies m n e a = let P : Move → Type 0 = λ m. MovesAfter code s replies m in subst P e a

-- ---- stages that ask

asked : (code : Code) (stage : Stage) (f : StackFrame) (below : List StackFrame) (deed : Deed) → AsksFor deed stage f →
    stage_move code stage f below ≡ Asks deed (λ r. answered code stage f below r)
asked code (stages.Calls a) f below deed e = let go : Reply → State = λ r. Runs f below in ap (λ d. Asks d go) e
asked code (stages.Asks action then) f below deed e = let go : Reply → State = λ r. answered code (stages.Asks action then) f below r in ap (λ d. Asks d go) e
asked code stages.Runs f below deed e = absurd e
asked code (stages.Takes value) f below deed e = absurd e
asked code (stages.Throws fault from) f below deed e = absurd e
asked code (stages.Begins callee this) f below deed e = absurd e
asked code (stages.Leaves left) f below deed e = absurd e
asked code stages.Over f below deed e = absurd e

asking_is_settled : (deed : Deed) (stage : Stage) (f : StackFrame) → AsksFor deed stage f → IsSettled stage
asking_is_settled deed (stages.Calls a) f e = tt
asking_is_settled deed (stages.Asks action then) f e = tt
asking_is_settled deed stages.Runs f e = absurd e
asking_is_settled deed (stages.Takes value) f e = absurd e
asking_is_settled deed (stages.Throws fault from) f e = absurd e
asking_is_settled deed (stages.Begins callee this) f e = absurd e
asking_is_settled deed (stages.Leaves left) f e = absurd e
asking_is_settled deed stages.Over f e = absurd e

pub settled : (answer : Next) (m : Machine) → Says answer (held_of m) → IsSettled m.stage
settled (Does action) m says = asking_is_settled (deed_of action) m.stage (held_of m).top says
settled Ended m says = let P : Stage → Type 0 = λ s. IsSettled s in subst P (sym says) tt

over : (code : Code) (stage : Stage) (f : StackFrame) (below : List StackFrame) → stage ≡ stages.Over → stage_move code stage f below ≡ Ends
over code stage f below e = ap (λ s. stage_move code s f below) e

-- ---- a machine of a program

pub right_in : (program : Program) → WellFormed program → (code : Code) → code ≡ code_of program → CodeRight code
right_in program formed code e = let P : Code → Type 0 = λ code. CodeRight code in subst P (sym e) (code_right program formed)

pub start_in : (program : Program) → WellFormed program → (start : Option Body) → StartFits program start → (code : Code) → code ≡ code_of program → StartRight code start
start_in program formed start fits code e = let P : Code → Type 0 = λ code. StartRight code start in subst P (sym e) (start_right program formed start fits)

pub held_in : (program : Program) (m : Machine) → RunsThreadOf program m → (code : Code) → code ≡ code_of program → HeldFits code (held_of m)
held_in program m x code e = let P : Code → Type 0 = λ code. HeldFits code (held_of m) in subst P (sym e) x.stands.held

pub started : (program : Program) (start : Option Body) → StartFits program start → (code : Code) → code ≡ code_of program → (m : Machine) →
    HasStarted code start (held_of m) → StandsFor program start [] m
started program start fits code e m h =
    let P : Code → Type 0 = λ code. HasStarted code start (held_of m) in
    let s = subst P e h in
    record {
      fits = fits;
      after = begins (code_of program) (start_state (code_of program) start) (move_of (code_of program) (held_of m)) s.becomes;
      held = s.fits;
    }

pub turned : (program : Program) (start : Option Body) (replies : List Reply) (m n : Machine) → StandsFor program start replies m → (code : Code) → code ≡ code_of program →
    HasTurned code (held_of m) (held_of n) → StandsFor program start replies n
turned program start replies m n stands code e h =
    let P : Code → Type 0 = λ code. HasTurned code (held_of m) (held_of n) in
    let t = subst P e h in
    let own = code_of program in
    record {
      fits = stands.fits;
      after = moved own (start_state own start) replies (move_of own (held_of m)) (move_of own (held_of n)) stands.after t.becomes;
      held = t.fits;
    }

pub answers : (program : Program) → WellFormed program → (start : Option Body) (replies : List Reply) (m : Machine) → StandsFor program start replies m →
    (answer : Next) → Says answer (held_of m) → next program start replies ≡ next_of answer
answers program formed start replies m stands (Does action) says =
    let code = code_of program in
    let s = start_state code start in
    let h = held_of m in
    let deed = deed_of action in
    let go : Reply → State = λ r. answered code h.stage h.top h.below r in
    let moves = as_move code s replies (move_of code h) (Asks deed go) (asked code h.stage h.top h.below deed says) stands.after in
    unique code s replies _ _ (lowered program formed start replies stands.fits) (asks_now code s replies deed go moves)
answers program formed start replies m stands Ended says =
    let code = code_of program in
    let s = start_state code start in
    let h = held_of m in
    let moves = as_move code s replies (move_of code h) Ends (over code h.stage h.top h.below says) stands.after in
    unique code s replies _ _ (lowered program formed start replies stands.fits) (ends_now code s replies moves)

pub resumed : (program : Program) (start : Option Body) (replies : List Reply) (m n : Machine) → StandsFor program start replies m → (deed : Deed) → IsAt deed (held_of m) →
    (r : Reply) (code : Code) → code ≡ code_of program →
    ComesTo code (answered code (held_of m).stage (held_of m).top (held_of m).below r) (held_of n).stage (held_of n).top (held_of n).below →
    StandsFor program start (replies ++ r ∷ []) n
resumed program start replies m n stands deed at r code e h =
    let own = code_of program in
    let s = start_state own start in
    let old = held_of m in
    let P : Code → Type 0 = λ code. ComesTo code (answered code old.stage old.top old.below r) (held_of n).stage (held_of n).top (held_of n).below in
    let c = subst P e h in
    let go : Reply → State = λ r. answered own old.stage old.top old.below r in
    let asking = as_move own s replies (move_of own old) (Asks deed go) (asked own old.stage old.top old.below deed at) stands.after in
    record {
      fits = stands.fits;
      after =
          moved own s (replies ++ r ∷ []) (Goes (go r)) (move_of own (held_of n))
          (replied own s replies deed go r asking) c.becomes;
      held = record { stage = c.fits; below = c.below };
    }
