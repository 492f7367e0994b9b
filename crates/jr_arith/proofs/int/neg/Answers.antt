use Rattle.std.proofs.Common.{◌∙◌, FitsSigned, ap, rules}
use Rattle.std.specs.Int.{w32, int_wrapping_neg}
use Rattle.std.proofs.lemmas.Int.{to_z-of_z, wrapping_neg_is}
use Rattle.jr_arith.proofs.int.neg.Goals as goal

pub returns : goal.returns
returns c =
    let small : FitsSigned w32 c.wrapping_neg.result = search rules in
    let same = ap (int_wrapping_neg w32) (to_z-of_z w32 c.args.a c.ranges.a) in
    to_z-of_z w32 c.wrapping_neg.result small ∙ (c.wrapping_neg.ensures ∙ (same ∙ wrapping_neg_is w32 c.args.a c.ranges.a))
