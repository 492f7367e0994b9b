-- The turns of a loop over what has to hold: what holds, and the rest, is the whole.
use Rattle.std.proofs.Common.{◌≡◌, ℕ, ◌+◌, ◌<◌, ◌≤◌, List, [], ◌∷◌, length, get_or, drop, refl, sym, ap, ◌∙◌}
use Rattle.jr_base.specs.declared.refusal.Fail.{Fail}
use Rattle.jr_base.specs.declared.refusal.Fail.TheVariants.{Refused, Memory}
use Rattle.jr_typing_rules.specs.Answers.{Typing, Good, ◌>>=◌, all_hold}
use Rattle.jr_names.specs.Answered.{Fails}
use Rattle.jr_names.proofs.Turns.{cut, uncut}

turn : {A : Type 0} (rule : A → Typing (Unit {0})) (all : List A) (d : A) (k : ℕ) (whole : Typing (Unit {0})) → all_hold rule (drop k all) ≡ whole → k < length all →
    (rule (get_or all k d) >>= λ u. all_hold rule (drop (k + 1) all)) ≡ whole
turn rule all d k whole so_far below = sym (ap (all_hold rule) (cut all k d below)) ∙ so_far

pub rule_fails : {A : Type 0} (rule : A → Typing (Unit {0})) (all : List A) (d : A) (k : ℕ) (whole : Typing (Unit {0})) (e : Fail) → all_hold rule (drop k all) ≡ whole → k < length all →
    Fails e (rule (get_or all k d)) → Fails e whole
rule_fails rule all d k whole Memory so_far below h = tt
rule_fails rule all d k whole (Refused r) so_far below h = sym (turn rule all d k whole so_far below) ∙ ap (λ is. is >>= λ u. all_hold rule (drop (k + 1) all)) h

pub rule_holds : {A : Type 0} (rule : A → Typing (Unit {0})) (all : List A) (d : A) (k : ℕ) (whole : Typing (Unit {0})) → all_hold rule (drop k all) ≡ whole → k < length all →
    rule (get_or all k d) ≡ Good tt → all_hold rule (drop (k + 1) all) ≡ whole
rule_holds rule all d k whole so_far below is = sym (ap (λ is. is >>= λ u. all_hold rule (drop (k + 1) all)) is) ∙ turn rule all d k whole so_far below

pub no_rule_left : {A : Type 0} (rule : A → Typing (Unit {0})) (all : List A) (k : ℕ) (whole : Typing (Unit {0})) → all_hold rule (drop k all) ≡ whole → length all ≤ k → whole ≡ Good tt
no_rule_left rule all k whole so_far done = sym so_far ∙ ap (all_hold rule) (uncut all k done)
