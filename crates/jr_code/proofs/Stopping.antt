-- A thread that keeps a state and gets one reply at a time does what it does with all replies at once.
use Rattle.std.proofs.Common.{◌≡◌, suc, [], ◌∷◌, ◌++◌, Some, refl, sym, ap, ◌∙◌, subst, append_assoc}
use Rattle.std.proofs.lemmas.List.{append-nil}
use Rattle.jr_base.specs.Deed.{Deed}
use Rattle.jr_base.specs.Threads.{Next, Wants, Ended, Tape}
use Rattle.jr_base.specs.declared.action.Reply.{Reply}
use Rattle.jr_code.specs.Instructions.{Code}
use Rattle.jr_code.specs.Machine.{State, Move, Goes, Asks, Ends, step, follow, run, DoesNext}
use Rattle.jr_code.specs.Resumed.{After, IsAsking, Answered, IsGoing, IsEnding}

stepped : (code : Code) (s s' : State) (m : Move) → step code s ≡ m → IsGoing m s' → (more : Tape) (what : Next) → DoesNext code s' more what → DoesNext code s more what
stepped code s s' (Goes x) e h more what d = record {
  steps = suc d.steps;
  comes = ap (λ v. follow v more (run code d.steps)) e ∙ ap (λ x. run code d.steps x more) h ∙ d.comes;
}
stepped code s s' (Asks d go) e h more what x = absurd h
stepped code s s' Ends e h more what x = absurd h

-- a local step
pub after_step : (code : Code) (start s s' : State) (replies : Tape) → After code start replies s → IsGoing (step code s) s' → After code start replies s'
after_step code start s s' replies a h = record { same = λ more what d. a.same more what (stepped code s s' (step code s) refl h more what d) }

answered : (code : Code) (s s' : State) (r : Reply) (m : Move) → step code s ≡ m → Answered m r s' → (more : Tape) (what : Next) → DoesNext code s' more what → DoesNext code s (r ∷ more) what
answered code s s' r (Asks d go) e h more what x = record {
  steps = suc x.steps;
  comes = ap (λ v. follow v (r ∷ more) (run code x.steps)) e ∙ ap (λ y. run code x.steps y more) h ∙ x.comes;
}
answered code s s' r (Goes x) e h more what d = absurd h
answered code s s' r Ends e h more what d = absurd h

-- a reply
pub after_reply : (code : Code) (start s s' : State) (replies : Tape) (r : Reply) → After code start replies s → Answered (step code s) r s' → After code start (replies ++ r ∷ []) s'
after_reply code start s s' replies r a h = record {
  same = λ more what d.
      let P : Tape → Type 0 = λ l. DoesNext code start l what in
      subst P (sym (append_assoc replies (r ∷ []) more)) (a.same (r ∷ more) what (answered code s s' r (step code s) refl h more what d));
}

asking : (code : Code) (s : State) (deed : Deed) (m : Move) → step code s ≡ m → IsAsking deed m → DoesNext code s [] (Wants deed)
asking code s deed (Asks d go) e h = record { steps = 1; comes = ap (λ v. follow v [] (run code 0)) e ∙ ap (λ d. Some (Wants d)) h }
asking code s deed (Goes x) e h = absurd h
asking code s deed Ends e h = absurd h

ending : (code : Code) (s : State) (m : Move) → step code s ≡ m → IsEnding m → DoesNext code s [] Ended
ending code s (Asks d go) e h = absurd h
ending code s (Goes x) e h = absurd h
ending code s Ends e h = record { steps = 1; comes = ap (λ v. follow v [] (run code 0)) e }

pub after_nothing : (code : Code) (start : State) → After code start [] start
after_nothing code start = record { same = λ more what d. d }

here : (code : Code) (start s : State) (replies : Tape) (what : Next) → After code start replies s → DoesNext code s [] what → DoesNext code start replies what
here code start s replies what x d =
    let P : Tape → Type 0 = λ l. DoesNext code start l what in
    subst P (append-nil replies) (x.same [] what d)

pub asks_next : (code : Code) (start s : State) (replies : Tape) (deed : Deed) → After code start replies s → IsAsking deed (step code s) → DoesNext code start replies (Wants deed)
asks_next code start s replies deed x h = here code start s replies (Wants deed) x (asking code s deed (step code s) refl h)

pub ends_next : (code : Code) (start s : State) (replies : Tape) → After code start replies s → IsEnding (step code s) → DoesNext code start replies Ended
ends_next code start s replies x h = here code start s replies Ended x (ending code s (step code s) refl h)
