-- What it tells that a token is seen, or not.
use Rattle.std.proofs.Common.{◌≡◌, ℕ, zero, suc, ◌+◌, ◌≤◌, ◌<◌, Bool, true, false, cond, List, [], ◌∷◌, length, Ok, refl, sym, ap, ◌∙◌, arith}
use Rattle.std.proofs.lemmas.Slice.Eq.{bytes_eq-Decides}
use denote.Enum.Bare.{same_true, true_same, false_same}
use Rattle.jr_lexer.specs.contracts.kind.Kind.{the_type}
use Rattle.jr_lexer.specs.declared.kind.Kind.{Kind}
use Rattle.jr_lexer.specs.declared.kind.Kind.TheVariants as k
use Rattle.jr_lexer.specs.Token.{Token}
use Rattle.jr_lexer.specs.Reading.{kind_at, jml_at, text_at}
use Rattle.jr_reading.specs.Seen.{seen, seen_as}
use Rattle.jr_reading.specs.Steps.{same_kind, sees, expect, expect_text}

pub same_is : (a b : Kind) → same_kind a b ≡ true → a ≡ b
unfolding same_kind
same_is a b e = same_true the_type tt a b e

pub is_same : (a b : Kind) → a ≡ b → same_kind a b ≡ true
unfolding same_kind
is_same a b e = true_same the_type a b e

pub not_same : (a b : Kind) → (a ≡ b → ⊥) → same_kind a b ≡ false
unfolding same_kind
not_same a b e = false_same the_type tt a b e

-- two kinds that differ
pub differ : (a b c : Kind) → a ≡ b → same_kind b c ≡ false → a ≡ c → ⊥
unfolding same_kind
differ a b c e other f = let h : true ≡ false = sym (is_same b c (sym e ∙ f)) ∙ other in absurd cc

pub past : (ts : List Token) (i : ℕ) → length ts ≤ i → kind_at ts i ≡ k.End
past [] i le = refl
past (t ∷ ts) zero le = absurd (omega arith)
past (t ∷ ts) (suc i) le = past ts i (omega arith)

as_end : (a b : Bool) → seen_as a b k.End ≡ k.End
as_end true true = refl
as_end true false = refl
as_end false true = refl
as_end false false = refl

as_seen : (jml b : Bool) (a : Kind) → (seen_as jml b a ≡ k.End → ⊥) → (b ≡ jml) × (a ≡ seen_as jml b a)
as_seen true true a h = (refl, refl)
as_seen false false a h = (refl, refl)
as_seen true false a h = absurd (h refl)
as_seen false true a h = absurd (h refl)

pub text_is : (ts : List Token) (i : ℕ) (text : List ℕ) → text_at ts i ≡ text → expect_text ts i text ≡ Ok tt
unfolding expect_text
text_is ts i text h = rw ((bytes_eq-Decides (text_at ts i) text).1 h) refl

module _ (jml : Bool) (ts : List Token) where
  pub unseen : (i : ℕ) → length ts ≤ i → seen jml ts i ≡ k.End
  unfolding seen
  unseen i le = ap (seen_as jml (jml_at ts i)) (past ts i le) ∙ as_end jml (jml_at ts i)

  or_within : (i n : ℕ) → (n ≤ i → ⊥) → i < n
  or_within i n f = grind arith

  -- a token that is seen stands in the list
  pub seen_taken : (i : ℕ) → (seen jml ts i ≡ k.End → ⊥) → i < length ts
  seen_taken i some = or_within i (length ts) (λ le. some (unseen i le))

  pub taken : (i : ℕ) (a : Kind) → seen jml ts i ≡ a → same_kind a k.End ≡ false → i < length ts
  taken i a h other = seen_taken i (differ (seen jml ts i) a k.End h other)

  -- and is of the sort that is read
  pub kind_seen : (i : ℕ) (a : Kind) → seen jml ts i ≡ a → same_kind a k.End ≡ false → (jml_at ts i ≡ jml) × (kind_at ts i ≡ a)
  unfolding seen
  kind_seen i a h other =
      let both = as_seen jml (jml_at ts i) (kind_at ts i) (differ (seen jml ts i) a k.End h other) in
      (both.0, both.1 ∙ h)

  pub seen_is : (i : ℕ) (a : Kind) → sees jml ts i a ≡ true → seen jml ts i ≡ a
  unfolding sees
  seen_is i a h = same_is (seen jml ts i) a h

  pub unseen_is : (i : ℕ) (a : Kind) → sees jml ts i a ≡ false → seen jml ts i ≡ a → ⊥
  unfolding sees
  unseen_is i a c o = let y : true ≡ false = sym (is_same (seen jml ts i) a o) ∙ c in absurd cc

  pub sees_it : (i : ℕ) (a : Kind) → seen jml ts i ≡ a → sees jml ts i a ≡ true
  unfolding sees
  sees_it i a e = is_same (seen jml ts i) a e

  pub sees_not : (i : ℕ) (a : Kind) → (seen jml ts i ≡ a → ⊥) → sees jml ts i a ≡ false
  unfolding sees
  sees_not i a e = not_same (seen jml ts i) a e

  -- a token that is another
  pub sees_other : (i : ℕ) (a b : Kind) → seen jml ts i ≡ a → same_kind a b ≡ false → sees jml ts i b ≡ false
  unfolding sees
  sees_other i a b e other = rw e other

  pub expected : (i : ℕ) (a : Kind) → seen jml ts i ≡ a → expect jml ts i a ≡ Ok tt
  unfolding expect sees
  expected i a e = rw (is_same (seen jml ts i) a e) refl
