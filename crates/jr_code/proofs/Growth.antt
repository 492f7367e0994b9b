-- Kinds that are found stay, and places that are settled stay settled.
use Rattle.std.proofs.Common.{◌≡◌, ◌≢◌, ℕ, zero, suc, ◌+◌, ◌<◌, ◌≤◌, ◌⊎◌, true, false, List, [], ◌∷◌, length, Option, Some, None, refl, sym, ap, ◌∙◌, subst, arith, inl, inr, ⊎_elim}
use Rattle.std.specs.Prelude.{slice_get, slice_set}
use Rattle.jr_base.specs.declared.kind.SlotKind.{SlotKind}
use Rattle.jr_code.specs.Instructions.{Instruction, Jump, JumpIf, JumpNot, BackTo, ReturnNothing, ReturnTop, ThrowNew, ThrowLocal, MethodCode, Code}
use Rattle.jr_code.specs.Checked.{GoesTo, RightAt}
use Rattle.jr_code.specs.Paths.{Reaches}
use Rattle.jr_code.specs.Verifier.{Grown, OnPaths, SettledAt, open_places, Extends, Reached, Leaves}

pub set_same : (shapes : List (Option (List SlotKind))) (at : ℕ) (o v : Option (List SlotKind)) → slice_get shapes at ≡ Some o → slice_get (slice_set shapes at v) at ≡ Some v
set_same [] at o v e = absurd (cc)
set_same (s ∷ shapes) zero o v e = refl
set_same (s ∷ shapes) (suc at) o v e = set_same shapes at o v e

pub set_other : (shapes : List (Option (List SlotKind))) (at p : ℕ) (v : Option (List SlotKind)) → p ≢ at → slice_get (slice_set shapes at v) p ≡ slice_get shapes p
set_other [] at p v n = refl
set_other (s ∷ shapes) zero zero v n = absurd (n refl)
set_other (s ∷ shapes) zero (suc p) v n = refl
set_other (s ∷ shapes) (suc at) zero v n = refl
set_other (s ∷ shapes) (suc at) (suc p) v n = set_other shapes at p v (λ e. n (ap suc e))

pub set_size : (shapes : List (Option (List SlotKind))) (at : ℕ) (v : Option (List SlotKind)) → length (slice_set shapes at v) ≡ length shapes
set_size [] at v = refl
set_size (s ∷ shapes) zero v = refl
set_size (s ∷ shapes) (suc at) v = ap suc (set_size shapes at v)

pub set_open : (shapes : List (Option (List SlotKind))) (at : ℕ) (ks : List SlotKind) → slice_get shapes at ≡ Some None →
    open_places (slice_set shapes at (Some ks)) + 1 ≡ open_places shapes
set_open [] at ks e = absurd (cc)
set_open (None ∷ shapes) zero ks e = omega arith
set_open (Some s ∷ shapes) zero ks e = absurd (cc)
set_open (None ∷ shapes) (suc at) ks e = omega (arith, set_open shapes at ks e)
set_open (Some s ∷ shapes) (suc at) ks e = set_open shapes at ks e

pub set_cases : (shapes : List (Option (List SlotKind))) (at p : ℕ) (v : Option (List SlotKind)) (ks : List SlotKind) →
    slice_get (slice_set shapes at v) p ≡ Some (Some ks) → ((p ≡ at) × (v ≡ Some ks)) ⊎ (slice_get shapes p ≡ Some (Some ks))
set_cases [] at p v ks e = inr e
set_cases (s ∷ shapes) zero zero v ks e = inl (refl, cc)
set_cases (s ∷ shapes) zero (suc p) v ks e = inr e
set_cases (s ∷ shapes) (suc at) zero v ks e = inr e
set_cases (s ∷ shapes) (suc at) (suc p) v ks e = ⊎_elim (λ h. inl (ap suc h.0, h.1)) (λ h. inr h) (set_cases shapes at p v ks e)

pub set_grows : (shapes : List (Option (List SlotKind))) (at : ℕ) (v : Option (List SlotKind)) → slice_get shapes at ≡ Some None → Grown shapes (slice_set shapes at v)
set_grows [] at v none p ks e = e
set_grows (s ∷ shapes) zero v none zero ks e = absurd (cc)
set_grows (s ∷ shapes) zero v none (suc p) ks e = e
set_grows (s ∷ shapes) (suc at) v none zero ks e = e
set_grows (s ∷ shapes) (suc at) v none (suc p) ks e = set_grows shapes at v none p ks e

pub set_on_paths : (code : Code) (c : MethodCode) (old : List (Option (List SlotKind))) (at : ℕ) (ks : List SlotKind) → Reaches code c at ks →
    OnPaths code c old → OnPaths code c (slice_set old at (Some ks))
set_on_paths code c old at ks path sound p js e =
    ⊎_elim (λ h. let same : ks ≡ js = cc in subst (λ js. Reaches code c p js) same (subst (λ p. Reaches code c p ks) (sym h.0) path)) (λ h. sound p js h) (set_cases old at p (Some ks) js e)

pub first_there : (code : Code) (c : MethodCode) (old new : List (Option (List SlotKind))) (at : ℕ) (ks : List SlotKind) → Reaches code c at ks → OnPaths code c old →
    slice_get old at ≡ Some None → new ≡ slice_set old at (Some ks) → Reached code c old at ks new true
first_there code c old new at ks path sound none e =
    let opens = set_open old at ks none in
    subst (λ new. Reached code c old at ks new true) (sym e) (record {
      extends = record {
        grown = set_grows old at (Some ks) none;
        on_paths = set_on_paths code c old at ks path sound;
        size = set_size old at (Some ks);
        below = λ p h. set_other old at p (Some ks) (λ (e : p ≡ at). let r : ⊥ = omega arith in r);
        fewer = omega arith;
      };
      stands = set_same old at None (Some ks) none;
      less = λ h. omega arith;
      same = λ h. absurd (cc);
    })

pub same_there : (code : Code) (c : MethodCode) (old new : List (Option (List SlotKind))) (at : ℕ) (ks : List SlotKind) → OnPaths code c old →
    slice_get old at ≡ Some (Some ks) → new ≡ old → Reached code c old at ks new false
same_there code c old new at ks sound there e =
    subst (λ new. Reached code c old at ks new false) (sym e) (record {
      extends = record { grown = λ p s h. h; on_paths = sound; size = refl; below = λ p h. refl; fewer = omega arith };
      stands = there;
      less = λ h. absurd (cc);
      same = λ h. refl;
    })

module _ (code : Code) (c : MethodCode) where
  pub unchanged : (shapes : List (Option (List SlotKind))) (from : ℕ) → OnPaths code c shapes → Extends code c shapes shapes from
  unchanged shapes from sound = record { grown = λ p s h. h; on_paths = sound; size = refl; below = λ p h. refl; fewer = omega arith }

  pub from_lower : (old new : List (Option (List SlotKind))) (from low : ℕ) → low ≤ from → Extends code c old new from → Extends code c old new low
  from_lower old new from low h x = record { grown = x.grown; on_paths = x.on_paths; size = x.size; below = λ p l. x.below p (omega arith); fewer = x.fewer }

  pub then_extends : (old middle new : List (Option (List SlotKind))) (from : ℕ) → Extends code c old middle from → Extends code c middle new from → Extends code c old new from
  then_extends old middle new from x y =
      let one = x.fewer in
      let two = y.fewer in
      record { grown = λ p s h. y.grown p s (x.grown p s h); on_paths = y.on_paths; size = y.size ∙ x.size; below = λ p l. y.below p l ∙ x.below p l; fewer = omega arith }

  goes_stay : (old new : List (Option (List SlotKind))) (at : ℕ) (i : Instruction) (after : List SlotKind) → Grown old new → GoesTo old at i after → GoesTo new at i after
  goes_stay old new at (Jump to) after g h = (h.0, g to after h.1)
  goes_stay old new at (JumpIf to) after g h = (h.0, g to after h.1, g (at + 1) after h.2)
  goes_stay old new at (JumpNot to) after g h = (h.0, g to after h.1, g (at + 1) after h.2)
  goes_stay old new at (BackTo to) after g h = (h.0, g to after h.1)
  goes_stay old new at ReturnNothing after g h = tt
  goes_stay old new at ReturnTop after g h = tt
  goes_stay old new at (ThrowNew fault) after g h = tt
  goes_stay old new at (ThrowLocal x) after g h = tt
  goes_stay old new at _ after g h = g (at + 1) after h

  right_stays : (old new : List (Option (List SlotKind))) (at : ℕ) → Grown old new → RightAt code c old at → RightAt code c new at
  right_stays old new at g r = record {
    instruction = r.instruction;
    before = r.before;
    after = r.after;
    stands = r.stands;
    shape = g at r.before r.shape;
    effect = r.effect;
    goes = goes_stay old new at r.instruction r.after g r.goes;
  }

  pub settled_stays : (old new : List (Option (List SlotKind))) (at from : ℕ) → Extends code c old new from → at < from → SettledAt code c old at → SettledAt code c new at
  settled_stays old new at from x h s ks here = right_stays old new at x.grown (s ks (sym (x.below at h) ∙ here))

  pub settled_by : (old new : List (Option (List SlotKind))) (at from : ℕ) (i : Instruction) (after : List SlotKind) → Leaves code c old at i after → Extends code c old new from →
      GoesTo new at i after → SettledAt code c new at
  settled_by old new at from i after l x g ks here = record {
    instruction = i;
    before = l.before;
    after = after;
    stands = l.stands;
    shape = x.grown at l.before l.shape;
    effect = l.effect;
    goes = g;
  }
