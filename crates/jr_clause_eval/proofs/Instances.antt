-- The instances of a quantifier, one after the other.
use Rattle.std.proofs.Common.{◌≡◌, ℕ, suc, ◌+◌, ◌-◌, ◌<◌, refl, arith}
use Rattle.std.specs.Prelude.{ℤ, pos, ◌+ℤ◌}
use Rattle.std.proofs.lemmas.Int.{ints}
use Rattle.jr_program.specs.declared.words.Quantifier.{Quantifier}
use Rattle.jr_meaning.specs.Worth.{Worth, truth, goes_on, decide, each_of}

each_first : (quantifier : Quantifier) (n m : ℕ) (i j : ℤ) (instance : ℤ → Worth) → n ≡ suc m → j ≡ i +ℤ pos 1 → each_of quantifier n i instance ≡ decide quantifier (instance i) (each_of quantifier m j instance)
each_first quantifier n m i j instance e f = rw (e, f) refl

-- the instance of place k, and those behind it
pub each_next : (quantifier : Quantifier) (count k : ℕ) (first : ℤ) (instance : ℤ → Worth) → k < count
    → each_of quantifier (count - k) (first +ℤ pos k) instance
    ≡ decide quantifier (instance (first +ℤ pos k)) (each_of quantifier (count - (k + 1)) (first +ℤ pos (k + 1)) instance)
each_next quantifier count k first instance h =
    each_first quantifier (count - k) (count - (k + 1)) (first +ℤ pos k) (first +ℤ pos (k + 1)) instance (omega arith) (omega (arith, ints))

pub each_none : (quantifier : Quantifier) (count k : ℕ) (i : ℤ) (instance : ℤ → Worth) → count ≡ k → each_of quantifier (count - k) i instance ≡ truth (goes_on quantifier)
each_none quantifier count k i instance e = let z : count - k ≡ 0 = omega arith in rw z refl
