-- What code does next is one thing: more steps change nothing.
use Rattle.std.proofs.Common.{◌≡◌, ℕ, zero, suc, ◌≤◌, [], ◌∷◌, Option, Some, ⊎_elim, sym, ◌∙◌, arith}
use Rattle.std.proofs.lemmas.Bool.{cases_lt}
use Rattle.jr_base.specs.Threads.{Next, Tape}
use Rattle.jr_code.specs.Instructions.{Code}
use Rattle.jr_code.specs.Machine.{State, Move, Goes, Asks, Ends, step, follow, run, DoesNext}

-- one way of going on is over only where the other is, with the same end
abbrev Extends : (State → Tape → Option Next) → (State → Tape → Option Next) → Type 0
Extends f g = (s : State) (replies : Tape) (e : Next) → f s replies ≡ Some e → g s replies ≡ Some e

longer_move : (f g : State → Tape → Option Next) → Extends f g → (m : Move) (replies : Tape) (e : Next) → follow m replies f ≡ Some e → follow m replies g ≡ Some e
longer_move f g x (Goes s) replies e h = x s replies e h
longer_move f g x (Asks d go) [] e h = h
longer_move f g x (Asks d go) (r ∷ replies) e h = x (go r) replies e h
longer_move f g x Ends replies e h = h

longer : (code : Code) (j k : ℕ) → j ≤ k → Extends (run code j) (run code k)
longer code zero k le s replies e h = absurd (cc)
longer code (suc j) zero le s replies e h = absurd (omega arith)
longer code (suc j) (suc k) le s replies e h = longer_move (run code j) (run code k) (longer code j k (omega arith)) (step code s) replies e h

same : {A : Type 0} (a b : A) → Some a ≡ Some b → a ≡ b
same a b e = cc

pub unique : (code : Code) (s : State) (replies : Tape) (a b : Next) → DoesNext code s replies a → DoesNext code s replies b → a ≡ b
unique code s replies a b x y = same a b (⊎_elim
    (λ lt. sym (longer code x.steps y.steps (omega arith) s replies a x.comes) ∙ y.comes)
    (λ le. sym x.comes ∙ longer code y.steps x.steps le s replies b y.comes)
    (cases_lt x.steps y.steps))
