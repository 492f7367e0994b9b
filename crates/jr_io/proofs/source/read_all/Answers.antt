use Rattle.std.proofs.Common.{◌≡◌, ℕ, ◌+◌, ◌≤◌, ◌++◌, List, Option, length, take, arith, length-append, length-take}
use Rattle.std.specs.Io.KnownBytes.{Consumes}
use Rattle.std.proofs.KnownBytes.{Consumes-trans}
use Rattle.jr_io.specs.Reads.{TookFront}
use Rattle.jr_io.proofs.source.read_all.Goals as goal

-- a read after others took the front that all of them took
TookFront-next : (a b c : Option (List ℕ)) (front into : List ℕ) (before mid now n : ℕ) → Consumes a b front → mid ≡ before + length front
    → Consumes b c (take n into) → n ≤ length into → now ≡ mid + n → TookFront a c before now
TookFront-next a b c front into before mid now n first counted next fits grown = (
  front ++ take n into,
  Consumes-trans a b c front (take n into) first next,
  omega (arith, length-append front (take n into), length-take n into),
)

pub returns-then-count-limit-clause-front : goal.returns-then-count-limit-clause-front
returns-then-count-limit-clause-front g c =
    TookFront-next _ _ _ _ _ _ _ _ _ c.loop-bytes.invariant.consumed (omega (arith, c.loop-bytes.bytes.ok.0)) c.in-Read.ensures.bytes.0 c.in-Read.ensures.within c.in-Read.ensures.taken

pub returns-then-is_err-clause-front : goal.returns-then-is_err-clause-front
returns-then-is_err-clause-front g c =
    TookFront-next _ _ _ _ _ _ _ _ _ c.loop-bytes.invariant.consumed (omega (arith, c.loop-bytes.bytes.ok.0)) c.in-Read.ensures.bytes.0 c.in-Read.ensures.within c.in-Read.ensures.taken
