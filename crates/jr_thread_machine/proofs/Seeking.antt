-- An exception goes on from region to region.
use Rattle.std.proofs.Common.{◌≡◌, ℕ, zero, suc, ◌+◌, ◌≤◌, List, [], ◌∷◌, Option, Some, None, drop, length, refl, sym, ap, ◌∙◌, subst, arith, add-one}
use Rattle.std.specs.Prelude.{slice_get}
use Rattle.jr_base.specs.Deed as deeds
use Rattle.jr_base.specs.declared.finish.Fault.{Fault}
use Rattle.jr_code.specs.Instructions.{Code, Region}
use Rattle.jr_code.specs.Machine.{StackFrame, Throws, Goes, Asks, regions_of}
use Rattle.jr_thread_machine.specs.declared.handlers.Found.{Found}
use Rattle.jr_thread_machine.specs.declared.handlers.Found.TheVariants as founds
use Rattle.jr_thread_machine.specs.Handlers.{taken_move, Takes, TakenFits, found_move, FoundFits}
use Rattle.jr_thread_machine.specs.Runs.{Becomes}
use Rattle.jr_thread_machine.proofs.Runs.{then, stepped, same_move}

from_there : (rs : List Region) (n : ℕ) (r : Region) → slice_get rs n ≡ Some r → drop n rs ≡ r ∷ drop (suc n) rs
from_there [] n r e = absurd (cc)
from_there (s ∷ rs) zero r e = let same : s ≡ r = cc in ap (λ r. r ∷ rs) same
from_there (s ∷ rs) (suc n) r e = from_there rs n r e

-- the region of a number takes the exception, or lets it go on
one_region : (code : Code) (fault : Fault) (rs : List Region) (n : ℕ) (r : Region) (f : StackFrame) (below : List StackFrame) (found : Option Found) →
    slice_get rs n ≡ Some r → Takes r fault f found →
    Becomes code (Goes (Throws fault (drop n rs) f below)) (taken_move fault (drop (suc n) rs) f below found)
one_region code fault rs n r f below found e t =
    let P : List Region → Type 0 = λ l. Becomes code (Goes (Throws fault l f below)) (taken_move fault (drop (suc n) rs) f below found) in
    subst P (sym (from_there rs n r e)) (stepped code (Throws fault (r ∷ drop (suc n) rs) f below) (taken_move fault (drop (suc n) rs) f below found) (t (drop (suc n) rs) below))

pub goes_on : (code : Code) (fault : Fault) (rs : List Region) (from n : ℕ) (r : Region) (f : StackFrame) (below : List StackFrame) →
    slice_get rs n ≡ Some r → Takes r fault f None → Becomes code (Goes (Throws fault (drop from rs) f below)) (Goes (Throws fault (drop n rs) f below)) →
    Becomes code (Goes (Throws fault (drop from rs) f below)) (Goes (Throws fault (drop (n + 1) rs) f below))
goes_on code fault rs from n r f below e t b =
    rw add-one (then code (Goes (Throws fault (drop from rs) f below)) (Goes (Throws fault (drop n rs) f below)) (Goes (Throws fault (drop (suc n) rs) f below))
    b (one_region code fault rs n r f below None e t))

found_as : (code : Code) (fault : Fault) (rs : List Region) (n : ℕ) (r : Region) (f : StackFrame) (below : List StackFrame) (found : Found) →
    regions_of code f.method ≡ rs → TakenFits r n f.at (Some found) → taken_move fault (drop (suc n) rs) f below (Some found) ≡ found_move code fault f below found
found_as code fault rs n r f below (founds.Catch target) same h = refl
found_as code fault rs n r f below (founds.Exit o behind) same h =
    let behind_is : behind ≡ suc n = h ∙ add-one n in
    ap (λ l. Asks (deeds.Exit o) (λ r. Throws fault l f below)) (ap (drop (suc n)) (sym same) ∙ ap (λ k. drop k (regions_of code f.method)) (sym behind_is))
found_as code fault rs n r f below founds.Nothing same h = absurd h

pub is_taken : (code : Code) (fault : Fault) (rs : List Region) (from n : ℕ) (r : Region) (f : StackFrame) (below : List StackFrame) (found : Found) →
    regions_of code f.method ≡ rs → slice_get rs n ≡ Some r → Takes r fault f (Some found) → TakenFits r n f.at (Some found) →
    Becomes code (Goes (Throws fault (drop from rs) f below)) (Goes (Throws fault (drop n rs) f below)) →
    Becomes code (Goes (Throws fault (drop from rs) f below)) (found_move code fault f below found)
is_taken code fault rs from n r f below found same e t h b =
    let taken = taken_move fault (drop (suc n) rs) f below (Some found) in
    then code (Goes (Throws fault (drop from rs) f below)) (Goes (Throws fault (drop n rs) f below)) (found_move code fault f below found) b
    (then code (Goes (Throws fault (drop n rs) f below)) taken (found_move code fault f below found)
    (one_region code fault rs n r f below (Some found) e t) (same_move code taken (found_move code fault f below found) (found_as code fault rs n r f below found same h)))

pub found_fits : (rs : List Region) (n at : ℕ) (r : Region) (found : Found) → slice_get rs n ≡ Some r → TakenFits r n at (Some found) → FoundFits rs at found
found_fits rs n at r (founds.Catch target) e h = record { number = n; region = r; fault = h.0; stands = e; catches = h.1; first = h.2; past = h.3 }
found_fits rs n at r (founds.Exit o behind) e h = tt
found_fits rs n at r founds.Nothing e h = absurd h

none_left : (rs : List Region) (n : ℕ) → length rs ≤ n → drop n rs ≡ []
none_left [] zero h = refl
none_left [] (suc n) h = refl
none_left (r ∷ rs) zero h = absurd (omega arith)
none_left (r ∷ rs) (suc n) h = none_left rs n (omega arith)

pub is_passed : (code : Code) (fault : Fault) (rs : List Region) (from n : ℕ) (f : StackFrame) (below : List StackFrame) → length rs ≤ n →
    Becomes code (Goes (Throws fault (drop from rs) f below)) (Goes (Throws fault (drop n rs) f below)) →
    Becomes code (Goes (Throws fault (drop from rs) f below)) (Goes (Throws fault [] f below))
is_passed code fault rs from n f below h b =
    let P : List Region → Type 0 = λ l. Becomes code (Goes (Throws fault (drop from rs) f below)) (Goes (Throws fault l f below)) in
    subst P (none_left rs n h) b
