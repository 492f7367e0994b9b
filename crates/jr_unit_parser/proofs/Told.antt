-- What is known of an outcome: what was read is right, and a refusal has its cause.
use Rattle.std.proofs.Common.{◌≡◌, ℕ, ◌<◌, ◌≤◌, false, List, Option, Some, None, Result, refl, subst, inl, arith}
use Rattle.jr_base.specs.declared.refusal.Refusal.{Refusal}
use Rattle.jr_lexer.specs.declared.kind.Kind.{Kind}
use Rattle.jr_lexer.specs.Token.{Token}
use Rattle.jr_reading.specs.Seen.{seen}
use Rattle.jr_reading.specs.Steps.{refusal_at, expect}
use Rattle.jr_reading.proofs.Told as shared
use Rattle.jr_unit_parser.specs.Finds.{Caused}

abbrev pub Told : {A : Type 0} → List Token → (A → Type 0) → Result A Refusal → Type 0
Told ts Right o = shared.Told (Caused ts) Right o

pub caused_at : (ts : List Token) (i : ℕ) → Caused ts (refusal_at ts i)
caused_at ts i = shared.refused_at (Caused ts) ts i (λ s. tt) (λ j on word. record { at = j; behind = omega arith; span = refl; word = inl (inl word) })

pub told_expect : (ts : List Token) (i : ℕ) (a : Kind) → Told ts (λ u. seen false ts i ≡ a) (expect false ts i a)
told_expect ts i a = shared.told_expect (Caused ts) false ts i a (caused_at ts i)

-- what was found, if it was, is right
abbrev pub Right : {A : Type 0} → (A → Type 0) → Option A → Type 0
Right P None = Unit {0}
Right P (Some x) = P x

pub right_is : {A : Type 0} (P : A → Type 0) (o : Option A) (x : A) → Right P o → o ≡ Some x → P x
right_is P o x r e = subst (λ o. Right P o) e r

pub below : (n i : ℕ) → (n ≤ i → ⊥) → i < n
below n i f = grind (arith, f)
