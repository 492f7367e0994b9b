-- The turns of a loop over the members of a list: what is made, and the rest, is the whole.
use Rattle.std.proofs.Common.{◌≡◌, ℕ, ◌+◌, ◌<◌, ◌≤◌, List, [], ◌∷◌, ◌++◌, length, get_or, drop, map, refl, sym, ap, ◌∙◌, append_assoc, append-nil}
use Rattle.jr_base.specs.declared.refusal.Fail.{Fail}
use Rattle.jr_base.specs.declared.refusal.Fail.TheVariants.{Refused, Memory}
use Rattle.jr_typing_rules.specs.Answers.{Typing, Good, Bad, ◌>>=◌, each}
use Rattle.jr_names.specs.Answered.{Fails}
use Rattle.jr_names.proofs.Turns.{cut, uncut}

-- behind what is made
abbrev pub behind : {A : Type 0} → List A → Typing (List A) → Typing (List A)
behind made rest = rest >>= λ ys. Good (made ++ ys)

turn : {A B C : Type 0} (f : A → Typing B) (view : C → A) (all : List C) (d : C) (k : ℕ) (made : List B) (whole : Typing (List B)) → behind made (each f (map view (drop k all))) ≡ whole → k < length all →
    behind made (f (view (get_or all k d)) >>= λ y. each f (map view (drop (k + 1) all)) >>= λ ys. Good (y ∷ ys)) ≡ whole
turn f view all d k made whole so_far below = sym (ap (λ xs. behind made (each f (map view xs))) (cut all k d below)) ∙ so_far

pub member_fails : {A B C : Type 0} (f : A → Typing B) (view : C → A) (all : List C) (d : C) (k : ℕ) (made : List B) (whole : Typing (List B)) (e : Fail) →
    behind made (each f (map view (drop k all))) ≡ whole → k < length all → Fails e (f (view (get_or all k d))) → Fails e whole
member_fails f view all d k made whole Memory so_far below h = tt
member_fails f view all d k made whole (Refused r) so_far below h =
    sym (turn f view all d k made whole so_far below) ∙ ap (λ is. behind made (is >>= λ y. each f (map view (drop (k + 1) all)) >>= λ ys. Good (y ∷ ys))) h

behind-next : {B : Type 0} (made : List B) (y : B) (rest : Typing (List B)) → behind made (rest >>= λ ys. Good (y ∷ ys)) ≡ behind (made ++ y ∷ []) rest
behind-next made y (Bad r) = refl
behind-next made y (Good ys) = ap Good (sym (append_assoc made (y ∷ []) ys))

pub member_goes_on : {A B C : Type 0} (f : A → Typing B) (view : C → A) (all : List C) (d : C) (k : ℕ) (made : List B) (whole : Typing (List B)) (y : B) →
    behind made (each f (map view (drop k all))) ≡ whole → k < length all → f (view (get_or all k d)) ≡ Good y → behind (made ++ y ∷ []) (each f (map view (drop (k + 1) all))) ≡ whole
member_goes_on f view all d k made whole y so_far below is =
    sym (behind-next made y (each f (map view (drop (k + 1) all))))
    ∙ sym (ap (λ is. behind made (is >>= λ y. each f (map view (drop (k + 1) all)) >>= λ ys. Good (y ∷ ys))) is)
    ∙ turn f view all d k made whole so_far below

pub no_member_left : {A B C : Type 0} (f : A → Typing B) (view : C → A) (all : List C) (k : ℕ) (made : List B) (whole : Typing (List B)) →
    behind made (each f (map view (drop k all))) ≡ whole → length all ≤ k → whole ≡ Good made
no_member_left f view all k made whole so_far done =
    sym so_far ∙ ap (λ xs. behind made (each f (map view xs))) (uncut all k done) ∙ ap Good (append-nil made)

pub none_made : {B : Type 0} (rest : Typing (List B)) → behind [] rest ≡ rest
none_made (Good ys) = refl
none_made (Bad r) = refl
