-- Arguments and formals, pair by pair.
use Rattle.std.proofs.Common.{◌≡◌, ℕ, ◌+◌, ◌<◌, ◌≤◌, List, [], ◌∷◌, length, drop, get_or, slice_get, Some, None, add-one, refl, sym, ap, ◌∙◌, subst, arith}
use Rattle.std.proofs.Math.Seq.{drop-cons}
use Rattle.std.proofs.lemmas.Grind.{common_steps}
use Rattle.std.proofs.lemmas.Option.{slice_get_within, get_or_from_slice_get}
use Rattle.jr_base.specs.declared.refusal.Refusal.TheVariants.{Mismatch}
use Rattle.jr_typing_rules.specs.declared.words.ValueType.{ValueType}
use Rattle.jr_typing_rules.specs.declared.words.Head.{Head}
use Rattle.jr_typing_rules.specs.Answers.{Typing, Good, Bad, ◌>>=◌, require}
use Rattle.jr_typing_rules.specs.Names.{Names, is_assignable}
use Rattle.jr_typing_rules.specs.Denotations.{all_fit}

cut : {A : Type 0} (xs : List A) (k : ℕ) (d : A) → k < length xs → drop k xs ≡ get_or xs k d ∷ drop (k + 1) xs
cut xs k d below = rw (add-one, drop-cons xs k d below) refl

pub next_fits : (names : Names) (ts : List ValueType) (hs : List Head) (k : ℕ) (t : ValueType) (h : Head) → k < length hs → slice_get ts k ≡ Some t
    → all_fit names (drop k ts) (drop k hs) ≡ (require (is_assignable names (get_or hs k h).of t) (Mismatch (get_or hs k h).place) >>= λ u. all_fit names (drop (k + 1) ts) (drop (k + 1) hs))
next_fits names ts hs k t h below is =
    ap (λ hs. all_fit names (drop k ts) hs) (cut hs k h below)
    ∙ ap (λ ts. all_fit names ts (get_or hs k h ∷ drop (k + 1) hs)) (cut ts k t (slice_get_within ts k t is) ∙ ap (λ t. t ∷ drop (k + 1) ts) (get_or_from_slice_get ts k t t is))

pub no_more_formals : (names : Names) (ts : List ValueType) (hs : List Head) (k : ℕ) → length ts ≤ k → all_fit names (drop k ts) (drop k hs) ≡ Good tt
no_more_formals names ts hs k done =
    let none : drop k ts ≡ [] = grind (arith, common_steps) in
    ap (λ ts. all_fit names ts (drop k hs)) none

all_none : (names : Names) (ts : List ValueType) → all_fit names ts [] ≡ Good tt
all_none names [] = refl
all_none names (t ∷ ts) = refl

pub no_more_heads : (names : Names) (ts : List ValueType) (hs : List Head) (k : ℕ) → length hs ≤ k → all_fit names (drop k ts) (drop k hs) ≡ Good tt
no_more_heads names ts hs k done =
    let none : drop k hs ≡ [] = grind (arith, common_steps) in
    ap (all_fit names (drop k ts)) none ∙ all_none names (drop k ts)
