-- The run of `@` at the end of a text.
use Rattle.std.proofs.Common.{◌≡◌, ℕ, ◌-◌, ◌≤◌, suc, List, [], ◌∷◌, length, take, get_or, refl, ap, arith, true, false}
use Rattle.std.specs.Prelude.{◌==◌}
use Rattle.std.proofs.lemmas.Bool.Decides.{Decides-eqb}
use Rattle.std.proofs.lemmas.Bool.{false_from_ne_true}
use Rattle.jr_lexer.specs.Lexical.{without_last_at, without_last_ats}

pub ends_otherwise : (z : List ℕ) → 1 ≤ length z → (get_or z (length z - 1) 0 ≡ 64 → ⊥) → without_last_ats z ≡ z
ends_otherwise [] some other = absurd (omega arith)
ends_otherwise (b ∷ []) some other = let no_at : (b == 64) ≡ false = false_from_ne_true _ (λ yes. other ((Decides-eqb b 64).0 yes)) in rw no_at refl
ends_otherwise (b ∷ c ∷ z) some other =
    let next : length (b ∷ c ∷ z) - 1 ≡ suc (length (c ∷ z) - 1) = omega arith in
    let later : get_or (c ∷ z) (length (c ∷ z) - 1) 0 ≡ 64 → ⊥ = λ is. other (rw next is) in
    ap (without_last_at b) (ends_otherwise (c ∷ z) (omega arith) later)

pub ends_so : (z : List ℕ) → 1 ≤ length z → get_or z (length z - 1) 0 ≡ 64 → without_last_ats (take (length z - 1) z) ≡ without_last_ats z
ends_so [] some is = absurd (omega arith)
ends_so (b ∷ []) some is = let at : (b == 64) ≡ true = (Decides-eqb b 64).1 is in rw at refl
ends_so (b ∷ c ∷ z) some is =
    let next : length (b ∷ c ∷ z) - 1 ≡ suc (length (c ∷ z) - 1) = omega arith in
    let later : get_or (c ∷ z) (length (c ∷ z) - 1) 0 ≡ 64 = rw next at is in
    rw next (ap (without_last_at b) (ends_so (c ∷ z) (omega arith) later))
