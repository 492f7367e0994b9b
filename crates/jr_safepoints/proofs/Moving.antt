-- The turns of loops that take the items of a list away, one by one.
use Rattle.std.proofs.Common.{◌≡◌, List, [], ◌∷◌, map, refl, sym, ap, ◌∙◌}
use Rattle.jr_base.specs.declared.refusal.Fail.{Fail}
use Rattle.jr_base.specs.declared.refusal.Fail.TheVariants.{Refused, Memory}
use Rattle.jr_names.specs.Answered.{Fails}
use Rattle.jr_typing_rules.specs.Answers.{Typing, Good, ◌>>=◌, one_by_one}

pub step_fails : {A B S : Type 0} (step : S → A → Typing S) (view : B → A) (s : S) (left : List B) (x : B) (rest : List B) (whole : Typing S) (e : Fail) →
    one_by_one step s (map view left) ≡ whole → left ≡ x ∷ rest → Fails e (step s (view x)) → Fails e whole
step_fails step view s left x rest whole Memory so_far is h = tt
step_fails step view s left x rest whole (Refused r) so_far is h =
    sym so_far ∙ ap (λ xs. one_by_one step s (map view xs)) is ∙ ap (λ is. is >>= λ t. one_by_one step t (map view rest)) h

pub step_goes_on : {A B S : Type 0} (step : S → A → Typing S) (view : B → A) (s t : S) (left : List B) (x : B) (rest : List B) (whole : Typing S) →
    one_by_one step s (map view left) ≡ whole → left ≡ x ∷ rest → step s (view x) ≡ Good t → one_by_one step t (map view rest) ≡ whole
step_goes_on step view s t left x rest whole so_far is h =
    sym (ap (λ is. is >>= λ t. one_by_one step t (map view rest)) h) ∙ sym (ap (λ xs. one_by_one step s (map view xs)) is) ∙ so_far

pub no_step_left : {A B S : Type 0} (step : S → A → Typing S) (view : B → A) (s : S) (left : List B) (whole : Typing S) →
    one_by_one step s (map view left) ≡ whole → left ≡ [] → whole ≡ Good s
no_step_left step view s left whole so_far done = sym so_far ∙ ap (λ xs. one_by_one step s (map view xs)) done
