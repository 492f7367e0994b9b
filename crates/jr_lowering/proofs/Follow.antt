-- The machine follows a meaning: nothing here knows an instruction.
use Rattle.std.proofs.Common.{◌≡◌, ℕ, Bool, true, false, suc, ◌<◌, ◌≤◌, List, [], ◌∷◌, Option, Some, refl, ap, ◌∙◌, arith}
use Rattle.jr_base.specs.Deed.{Deed}
use Rattle.jr_base.specs.declared.action.Reply.{Reply}
use Rattle.jr_base.specs.declared.finish.Fault.{Fault}
use Rattle.jr_base.specs.Threads.{Next, Wants, Tape}
use Rattle.jr_base.specs.Content.{Content}
use Rattle.jr_meaning.specs.Next.{Variables, Out, Got, Threw, Stops, NoTurns, Going, then_do, ask, throws, if_so}
use Rattle.jr_code.specs.Machine.{State, Goes, Asks, choose, step, follow, run}
use Rattle.jr_code.specs.Instructions.{Code}

-- what is done with so many steps left, on these replies
abbrev pub Go : Type 0
Go = ℕ → Tape → Option Next

-- the locals behind the variables
abbrev pub Hidden : Type 0
Hidden = List Content

-- what holds of the locals where a piece begins and where it is left
abbrev pub Inv : Type 1
Inv = Variables → Hidden → Type 0

-- the machine from a state
abbrev pub from : Code → State → Go
from code s = λ n tape. run code n s tape

-- for every number of steps left there, there is one here with the same end
pub record Leads (s : Go) (tape : Tape) (k : Go) (tape' : Tape) : Type 0 where
  pub by : (n : ℕ) → (j : ℕ) × (n ≤ j) × (s j tape ≡ k n tape')

-- a result
pub record Arrives {A : Type 0} (I : Inv) (P : A → Type 0) (s : Go) (tape : Tape) (k : A → Variables → Hidden → Go) (a : A) (vs : Variables) (tape' : Tape) : Type 0 where
  pub hidden : Hidden
  pub keeps : I vs hidden
  pub fits : P a
  pub leads : Leads s tape (k a vs hidden) tape'

-- an exception at a place between lo and hi
pub record Thrown (I : Inv) (lo hi : ℕ) (s : Go) (tape : Tape) (th : Variables → Hidden → ℕ → Go) (vs : Variables) (tape' : Tape) : Type 0 where
  pub hidden : Hidden
  pub keeps : I vs hidden
  pub place : ℕ
  pub low : lo ≤ place
  pub high : place < hi
  pub leads : Leads s tape (th vs hidden place) tape'

abbrev pub Cases : {A : Type 0} → Inv → (A → Type 0) → (lo hi : ℕ) → Go → Tape → (A → Variables → Hidden → Go) → (Fault → Variables → Hidden → ℕ → Go) → Out A → Type 0
Cases I P lo hi s tape k th (Got a vs tape') = Arrives I P s tape k a vs tape'
Cases I P lo hi s tape k th (Threw fault vs tape') = Thrown I lo hi s tape (th fault) vs tape'
Cases I P lo hi s tape k th (Stops deed) = (j : ℕ) × (s j tape ≡ Some (Wants deed))
Cases I P lo hi s tape k th NoTurns = Unit {0}

-- from s the machine does what the outcome says: it goes on at k with a result, or at th with an exception
pub record Follows {A : Type 0} (I : Inv) (P : A → Type 0) (lo hi : ℕ) (s : Go) (tape : Tape) (k : A → Variables → Hidden → Go) (th : Fault → Variables → Hidden → ℕ → Go) (o : Out A) : Type 0 where
  pub is : Cases I P lo hi s tape k th o

-- of every result
abbrev pub Any : {A : Type 0} → A → Type 0
Any a = Unit {0}

pub stay : (s : Go) (tape : Tape) → Leads s tape s tape
stay s tape = record { by = λ n. (n, omega arith, refl) }

pub leads_on : {s k l : Go} {t t1 t2 : Tape} → Leads s t k t1 → Leads k t1 l t2 → Leads s t l t2
leads_on a b = record { by = λ n. let y = b.by n in let x = a.by y.0 in (x.0, omega (arith, x.1, y.1), x.2 ∙ y.2) }

-- a result, with nothing left to do
pub arrives : {A : Type 0} {I : Inv} {P : A → Type 0} {lo hi : ℕ} {s : Go} {t : Tape} {k : A → Variables → Hidden → Go} {th : Fault → Variables → Hidden → ℕ → Go} (a : A) (vs : Variables) (h : Hidden) (t1 : Tape) → I vs h → P a → Leads s t (k a vs h) t1 → Follows I P lo hi s t k th (Got a vs t1)
arrives a vs h t1 i p l = record { is = record { hidden = h; keeps = i; fits = p; leads = l } }

-- an exception
pub falls_to : {A : Type 0} {I : Inv} {P : A → Type 0} {lo hi : ℕ} {s : Go} {t : Tape} {k : A → Variables → Hidden → Go} {th : Fault → Variables → Hidden → ℕ → Go} (fault : Fault) (vs : Variables) (h : Hidden) (t1 : Tape) (p : ℕ) → I vs h → lo ≤ p → p < hi → Leads s t (th fault vs h p) t1 → Follows I P lo hi s t k th (Threw fault vs t1)
falls_to fault vs h t1 p i low high l = record { is = record { hidden = h; keeps = i; place = p; low = low; high = high; leads = l } }

pub follows_on : {A : Type 0} {I : Inv} {P : A → Type 0} {lo hi : ℕ} {s s1 : Go} {t t1 : Tape} {k : A → Variables → Hidden → Go} {th : Fault → Variables → Hidden → ℕ → Go} (o : Out A) → Leads s t s1 t1 → Follows I P lo hi s1 t1 k th o → Follows I P lo hi s t k th o
follows_on (Got a vs tape) l f = arrives a vs f.is.hidden tape f.is.keeps f.is.fits (leads_on l f.is.leads)
follows_on (Threw fault vs tape) l f = falls_to fault vs f.is.hidden tape f.is.place f.is.keeps f.is.low f.is.high (leads_on l f.is.leads)
follows_on (Stops deed) l f = record { is = let y = f.is in let x = l.by y.0 in (x.0, x.2 ∙ y.1) }
follows_on NoTurns l f = record { is = tt }

-- a piece, and what comes after it
pub follows_then : {A B : Type 0} {I : Inv} {P1 : A → Type 0} {P : B → Type 0} {lo hi lo1 hi1 : ℕ} {s : Go} {t : Tape} {k1 : A → Variables → Hidden → Go} {k : B → Variables → Hidden → Go} {th : Fault → Variables → Hidden → ℕ → Go} (o : Out A) (f : A → Going B) → lo ≤ lo1 → hi1 ≤ hi → Follows I P1 lo1 hi1 s t k1 th o → ((a : A) (vs : Variables) (h : Hidden) (t1 : Tape) → I vs h → P1 a → Follows I P lo hi (k1 a vs h) t1 k th (f a vs t1)) → Follows I P lo hi s t k th (then_do o f)
follows_then (Got a vs tape) f le le' r go = follows_on (f a vs tape) r.is.leads (go a vs r.is.hidden tape r.is.keeps r.is.fits)
follows_then (Threw fault vs tape) f le le' r go = falls_to fault vs r.is.hidden tape r.is.place r.is.keeps (omega (arith, r.is.low)) (omega (arith, r.is.high)) r.is.leads
follows_then (Stops deed) f le le' r go = record { is = r.is }
follows_then NoTurns f le le' r go = record { is = tt }

-- another end, reached from the one that stands, within wider bounds, by other words for the exceptions
pub ends_with : {A : Type 0} {I I1 : Inv} {P P1 : A → Type 0} {lo hi lo1 hi1 : ℕ} {s : Go} {t : Tape} {k k1 : A → Variables → Hidden → Go} {th th1 : Fault → Variables → Hidden → ℕ → Go} (o : Out A) → ((a : A) (vs : Variables) (h : Hidden) (t1 : Tape) → I1 vs h → P1 a → Follows I P lo hi (k1 a vs h) t1 k th (Got a vs t1)) → ((fault : Fault) (vs : Variables) (h : Hidden) (t1 : Tape) (p : ℕ) → I1 vs h → lo1 ≤ p → p < hi1 → Follows I P lo hi (th1 fault vs h p) t1 k th (throws {A = A} fault vs t1)) → Follows I1 P1 lo1 hi1 s t k1 th1 o → Follows I P lo hi s t k th o
ends_with (Got a vs tape) go throwing r = follows_on (Got a vs tape) r.is.leads (go a vs r.is.hidden tape r.is.keeps r.is.fits)
ends_with (Threw fault vs tape) go throwing r = follows_on (Threw fault vs tape) r.is.leads (throwing fault vs r.is.hidden tape r.is.place r.is.keeps r.is.low r.is.high)
ends_with (Stops deed) go throwing r = record { is = r.is }
ends_with NoTurns go throwing r = record { is = tt }

-- the same exceptions
pub ends : {A : Type 0} {I : Inv} {P P1 : A → Type 0} {lo hi lo1 hi1 : ℕ} {s : Go} {t : Tape} {k k1 : A → Variables → Hidden → Go} {th : Fault → Variables → Hidden → ℕ → Go} (o : Out A) → lo ≤ lo1 → hi1 ≤ hi → ((a : A) (vs : Variables) (h : Hidden) (t1 : Tape) → I vs h → P1 a → Follows I P lo hi (k1 a vs h) t1 k th (Got a vs t1)) → Follows I P1 lo1 hi1 s t k1 th o → Follows I P lo hi s t k th o
ends o le le' go r = ends_with o go (λ fault vs h t1 p i low high. falls_to fault vs h t1 p i (omega arith) (omega arith) (stay _ t1)) r

pub widen : {A : Type 0} {I : Inv} {P : A → Type 0} {lo hi lo1 hi1 : ℕ} {s : Go} {t : Tape} {k : A → Variables → Hidden → Go} {th : Fault → Variables → Hidden → ℕ → Go} (o : Out A) → lo ≤ lo1 → hi1 ≤ hi → Follows I P lo1 hi1 s t k th o → Follows I P lo hi s t k th o
widen o le le' r = ends o le le' (λ a vs h t1 i p. arrives a vs h t1 i p (stay _ t1)) r

-- exceptions that go on in another way
pub rethrow : {A : Type 0} {I : Inv} {P : A → Type 0} {lo hi lo1 hi1 : ℕ} {s : Go} {t : Tape} {k : A → Variables → Hidden → Go} {th th1 : Fault → Variables → Hidden → ℕ → Go} (o : Out A) → lo ≤ lo1 → hi1 ≤ hi → ((fault : Fault) (vs : Variables) (h : Hidden) (t1 : Tape) (p : ℕ) → lo1 ≤ p → p < hi1 → Leads (th1 fault vs h p) t1 (th fault vs h p) t1) → Follows I P lo1 hi1 s t k th1 o → Follows I P lo hi s t k th o
rethrow o le le' throwing r =
    ends_with o (λ a vs h t1 i p. arrives a vs h t1 i p (stay _ t1))
    (λ fault vs h t1 p i low high. falls_to fault vs h t1 p i (omega arith) (omega arith) (throwing fault vs h t1 p low high)) r

-- one step
pub goes : (code : Code) (s : State) {s' : State} → step code s ≡ Goes s' → (t : Tape) → Leads (from code s) t (from code s') t
goes code s e t = record { by = λ n. (suc n, omega arith, ap (λ m. follow m t (run code n)) e) }

-- an action
pub asks : {B : Type 0} (code : Code) {I : Inv} {P : B → Type 0} {lo hi : ℕ} (s : State) {deed : Deed} {go : Reply → State} {k : B → Variables → Hidden → Go} {th : Fault → Variables → Hidden → ℕ → Go} (vs : Variables) (t : Tape) (f : Reply → Going B) → step code s ≡ Asks deed go → ((r : Reply) (t1 : Tape) → Follows I P lo hi (from code (go r)) t1 k th (f r vs t1)) → Follows I P lo hi (from code s) t k th (ask deed f vs t)
asks code s vs [] f e rest = record { is = (1, ap (λ m. follow m [] (run code 0)) e) }
asks code s vs (r ∷ t) f e rest =
    follows_on (f r vs t) (record { by = λ n. (suc n, omega arith, ap (λ m. follow m (r ∷ t) (run code n)) e) }) (rest r t)

-- one of two states, by the same test on both sides
pub chooses : {A : Type 0} (code : Code) (b : Bool) {I : Inv} {P : A → Type 0} {lo hi : ℕ} {x y s : State} {t : Tape} {k : A → Variables → Hidden → Go} {th : Fault → Variables → Hidden → ℕ → Go} (vs : Variables) (f g : Going A) → Leads (from code s) t (from code (choose b x y)) t → Follows I P lo hi (from code x) t k th (f vs t) → Follows I P lo hi (from code y) t k th (g vs t) → Follows I P lo hi (from code s) t k th (if_so b f g vs t)
chooses code true {t = t} vs f g l x y = follows_on (f vs t) l x
chooses code false {t = t} vs f g l x y = follows_on (g vs t) l y
