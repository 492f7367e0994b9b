-- The turns of loops: what is done, and the rest, is the whole.
use Rattle.std.proofs.Common.{◌≡◌, ℕ, ◌+◌, ◌<◌, ◌≤◌, List, [], ◌∷◌, length, get_or, drop, map, add-one, refl, sym, ap, ◌∙◌, arith}
use Rattle.std.proofs.Math.Seq.{drop-cons}
use Rattle.std.proofs.lemmas.Grind.{common_steps}
use Rattle.jr_base.specs.declared.refusal.Fail.{Fail}
use Rattle.jr_base.specs.declared.refusal.Fail.TheVariants.{Refused, Memory}
use Rattle.jr_typing_rules.specs.Answers.{Typing, Good, ◌>>=◌, one_by_one}
use Rattle.jr_names.specs.Answered.{Fails}

pub cut : {A : Type 0} (xs : List A) (k : ℕ) (d : A) → k < length xs → drop k xs ≡ get_or xs k d ∷ drop (k + 1) xs
cut xs k d below = rw (add-one, drop-cons xs k d below) refl

pub uncut : {A : Type 0} (xs : List A) (k : ℕ) → length xs ≤ k → drop k xs ≡ []
uncut xs k done = grind (arith, common_steps)

next_step : {A B S : Type 0} (step : S → A → Typing S) (view : B → A) (s : S) (all : List B) (d : B) (k : ℕ) → k < length all
    → one_by_one step s (map view (drop k all)) ≡ (step s (view (get_or all k d)) >>= λ t. one_by_one step t (map view (drop (k + 1) all)))
next_step step view s all d k below = ap (λ xs. one_by_one step s (map view xs)) (cut all k d below)

-- a step that fails, fails the whole
pub step_fails : {A B S : Type 0} (step : S → A → Typing S) (view : B → A) (s : S) (all : List B) (d : B) (k : ℕ) (whole : Typing S) (e : Fail)
    → one_by_one step s (map view (drop k all)) ≡ whole → k < length all
    → Fails e (step s (view (get_or all k d))) → Fails e whole
step_fails step view s all d k whole Memory so_far below h = tt
step_fails step view s all d k whole (Refused r) so_far below h =
    sym so_far ∙ next_step step view s all d k below ∙ ap (λ is. is >>= λ t. one_by_one step t (map view (drop (k + 1) all))) h

-- a step that is done leaves the rest to do
pub step_goes_on : {A B S : Type 0} (step : S → A → Typing S) (view : B → A) (s t : S) (all : List B) (d : B) (k : ℕ) (whole : Typing S)
    → one_by_one step s (map view (drop k all)) ≡ whole → k < length all
    → step s (view (get_or all k d)) ≡ Good t
    → one_by_one step t (map view (drop (k + 1) all)) ≡ whole
step_goes_on step view s t all d k whole so_far below is =
    sym (next_step step view s all d k below ∙ ap (λ is. is >>= λ t. one_by_one step t (map view (drop (k + 1) all))) is) ∙ so_far

-- behind the last step stands the whole
pub no_step_left : {A B S : Type 0} (step : S → A → Typing S) (view : B → A) (s : S) (all : List B) (k : ℕ) (whole : Typing S)
    → one_by_one step s (map view (drop k all)) ≡ whole → length all ≤ k → whole ≡ Good s
no_step_left step view s all k whole so_far done =
    sym so_far ∙ ap (λ xs. one_by_one step s (map view xs)) (uncut all k done)
