use Rattle.std.proofs.Common.{◌≡◌, ◌∙◌, ◌^◌, FitsSigned, ap, ℤ, pos, rules}
use Rattle.std.specs.Prelude.{unsigned_abs}
use Rattle.std.specs.Int.{w32, w64, int_wrap, int_rem_euclid, cast_signed}
use Rattle.std.proofs.lemmas.Int.{to_z-of_z}
use Rattle.jr_arith.proofs.apply.low.Goals as goal

pub returns : goal.returns
unfolding int_wrap
returns c =
    let small : FitsSigned w32 c.cast_signed.result = search rules in
    let rest : FitsSigned w64 c.rem_euclid.result = search rules in
    let bits : c.cast_signed.result ≡ cast_signed w32 (unsigned_abs c.rem_euclid.result) =
    c.cast_signed.ensures ∙ ap (λ (n : ℤ). cast_signed w32 (unsigned_abs n)) (to_z-of_z w64 c.rem_euclid.result rest) in
    let same : c.rem_euclid.result ≡ int_rem_euclid c.args.n (pos (2 ^ 32)) =
    c.rem_euclid.ensures.value ∙ ap (λ (n : ℤ). int_rem_euclid n (pos (2 ^ 32))) (to_z-of_z w64 c.args.n c.ranges.n) in
    to_z-of_z w32 c.cast_signed.result small ∙ (bits ∙ ap (λ (n : ℤ). cast_signed w32 (unsigned_abs n)) same)
