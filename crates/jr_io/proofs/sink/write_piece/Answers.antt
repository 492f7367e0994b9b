use Rattle.std.proofs.Common.{ℕ, ◌+◌, ◌-◌, ◌≤◌, ◌++◌, List, Option, length, take, drop, sym, ap, subst, ◌∙◌, arith}
use lib.Seq.{take-add, take-take}
use Rattle.std.specs.Io.KnownBytes.{Appends}
use Rattle.std.proofs.KnownBytes.{Appends-trans}
use Rattle.jr_io.proofs.sink.write_piece.Goals as goal

-- a write of the rest's front goes on from the front that was written before
Appends-next : (a b c : Option (List ℕ)) (done n : ℕ) (xs : List ℕ) → n ≤ length xs - done → Appends a b (take done xs)
    → Appends b c (take n (take (length xs - done) (drop done xs))) → Appends a c (take (done + n) xs)
Appends-next a b c done n xs fits before next =
    let joined = ap (λ l. take done xs ++ l) (take-take n (length xs - done) (drop done xs) fits) ∙ sym (take-add done n xs) in
    subst (Appends a c) joined (Appends-trans a b c _ _ before next)

pub loop-done-preserved : goal.loop-done-preserved
loop-done-preserved g c = record {
  in_piece = omega (arith, c.in-Wrote.ensures.within);
  appended = Appends-next _ _ _ _ _ _ (omega (arith, c.in-Wrote.ensures.within)) c.loop-done.invariant.appended c.in-Wrote.ensures.bytes;
  no_fault = c.in-Wrote.ensures.faults ∙ c.loop-done.invariant.no_fault;
}
