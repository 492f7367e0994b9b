-- Moves that do the same, some local steps on.
use Rattle.std.proofs.Common.{◌≡◌, suc, refl, ap, ◌∙◌, subst}
use Rattle.jr_base.specs.Deed.{Deed}
use Rattle.jr_code.specs.Instructions.{Code}
use Rattle.jr_code.specs.Machine.{State, Makes, Over, Move, Goes, Asks, Ends, step, follow, run}
use Rattle.jr_thread_machine.specs.Runs.{Becomes}

pub stays : (code : Code) (m : Move) → Becomes code m m
stays code m = record { same = λ tape what f. f }

pub then : (code : Code) (m n p : Move) → Becomes code m n → Becomes code n p → Becomes code m p
then code m n p a b = record { same = λ tape what f. a.same tape what (b.same tape what f) }

-- one local step
pub stepped : (code : Code) (s : State) (m : Move) → step code s ≡ m → Becomes code (Goes s) m
stepped code s m e = record {
  same = λ tape what f. record {
    steps = suc f.steps;
    comes = ap (λ v. follow v tape (run code f.steps)) e ∙ f.comes;
  };
}

-- an action whose reply says nothing
pub makes : (code : Code) (deed : Deed) (after : State) → Becomes code (Goes (Makes deed after)) (Asks deed (λ r. after))
makes code deed after = stepped code (Makes deed after) (Asks deed (λ r. after)) refl

pub ends : (code : Code) → Becomes code (Goes Over) Ends
ends code = stepped code Over Ends refl

pub same_move : (code : Code) (m n : Move) → m ≡ n → Becomes code m n
same_move code m n e = let P : Move → Type 0 = λ x. Becomes code m x in subst P e (stays code m)
