-- What is left of a result at a type's bits, and which numbers a type has.
use Rattle.std.proofs.Common.{◌≡◌, ◌^◌, ◌&&◌, ℤ, pos, neg_ℤ, int_lt, int_le, FitsSigned, Bool, true, false, refl, arith}
use Rattle.std.specs.Int.{w32, w64}
use Rattle.std.proofs.lemmas.Int.{int_wrap_fits, SFits-int_wrap, ints}
use Rattle.std.proofs.lemmas.Bool.{false≢true}
use borrow.Author.Differences.{fits_in}
use Rattle.jr_arith.specs.declared.operator.Width.{Width}
use Rattle.jr_arith.specs.declared.operator.Width.TheVariants as width
use Rattle.jr_arith.specs.Arithmetic.{machine, wrapped, fits}

and-left : (a b : Bool) → (a && b) ≡ true → a ≡ true
and-left true b e = refl
and-left false b e = e

and-right : (a b : Bool) → (a && b) ≡ true → b ≡ true
and-right true b e = e
and-right false b e = absurd (false≢true e)

and-both : (a b : Bool) → a ≡ true → b ≡ true → (a && b) ≡ true
and-both true b e f = f
and-both false b e f = absurd (false≢true e)

pub fits-signed : (w : Width) (n : ℤ) → fits w n ≡ true → FitsSigned (machine w) n
fits-signed width.Int n e =
    let low : int_le (neg_ℤ (pos (2 ^ 31))) n ≡ true = and-left (int_le (neg_ℤ (pos (2 ^ 31))) n) (int_lt n (pos (2 ^ 31))) e in
    let high : int_lt n (pos (2 ^ 31)) ≡ true = and-right (int_le (neg_ℤ (pos (2 ^ 31))) n) (int_lt n (pos (2 ^ 31))) e in omega (arith, ints, fits_in)
fits-signed width.Long n e =
    let low : int_le (neg_ℤ (pos (2 ^ 63))) n ≡ true = and-left (int_le (neg_ℤ (pos (2 ^ 63))) n) (int_lt n (pos (2 ^ 63))) e in
    let high : int_lt n (pos (2 ^ 63)) ≡ true = and-right (int_le (neg_ℤ (pos (2 ^ 63))) n) (int_lt n (pos (2 ^ 63))) e in omega (arith, ints, fits_in)

module _ (n : ℤ) where
  int-low : FitsSigned w32 n → (b : Bool) → int_le (neg_ℤ (pos (2 ^ 31))) n ≡ b → b ≡ true
  int-low h true e = refl
  int-low h false e = absurd (omega (arith, ints, fits_in))

  int-high : FitsSigned w32 n → (b : Bool) → int_lt n (pos (2 ^ 31)) ≡ b → b ≡ true
  int-high h true e = refl
  int-high h false e = absurd (omega (arith, ints, fits_in))

  long-low : FitsSigned w64 n → (b : Bool) → int_le (neg_ℤ (pos (2 ^ 63))) n ≡ b → b ≡ true
  long-low h true e = refl
  long-low h false e = absurd (omega (arith, ints, fits_in))

  long-high : FitsSigned w64 n → (b : Bool) → int_lt n (pos (2 ^ 63)) ≡ b → b ≡ true
  long-high h true e = refl
  long-high h false e = absurd (omega (arith, ints, fits_in))

pub signed-fits : (w : Width) (n : ℤ) → FitsSigned (machine w) n → fits w n ≡ true
signed-fits width.Int n h =
    and-both (int_le (neg_ℤ (pos (2 ^ 31))) n) (int_lt n (pos (2 ^ 31))) (int-low n h (int_le (neg_ℤ (pos (2 ^ 31))) n) refl) (int-high n h (int_lt n (pos (2 ^ 31))) refl)
signed-fits width.Long n h =
    and-both (int_le (neg_ℤ (pos (2 ^ 63))) n) (int_lt n (pos (2 ^ 63))) (long-low n h (int_le (neg_ℤ (pos (2 ^ 63))) n) refl) (long-high n h (int_lt n (pos (2 ^ 63))) refl)

-- a number that the type has is left as it is
pub fitting-stays : (w : Width) (n : ℤ) → fits w n ≡ true → wrapped w n ≡ n
fitting-stays w n e = int_wrap_fits (machine w) n (fits-signed w n e)

-- what is left is a number that the type has
pub wrapped-fits : (w : Width) (n : ℤ) → fits w (wrapped w n) ≡ true
wrapped-fits w n = signed-fits w (wrapped w n) (SFits-int_wrap (machine w) n)
