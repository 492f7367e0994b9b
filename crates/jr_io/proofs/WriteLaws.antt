-- How pieces that are written one after the other make one.
use Rattle.std.proofs.Common.{ℕ, ◌+◌, List, [], ◌++◌, Option, length, take, sym, subst, arith, length-append}
use lib.Seq.{take-append-le, take-append-add}
use Rattle.std.specs.Io.KnownBytes.{Appends}
use Rattle.std.proofs.KnownBytes.{Appends-nil, Appends-trans}
use Rattle.jr_io.specs.Writes.{WritesPiece}
use Rattle.jr_io.specs.declared.sink.Piece.{Piece}
use Rattle.jr_io.specs.declared.sink.Piece.TheVariants.{Whole, WriteFault}

-- before anything is written, nothing is
pub nothing_written : (a : Option (List ℕ)) → WritesPiece a a Whole []
nothing_written a = Appends-nil a

-- a piece after one that was written whole
pub piece_after_whole : (a b c : Option (List ℕ)) (r : Piece) (xs ys : List ℕ) → WritesPiece a b Whole xs → WritesPiece b c r ys
    → WritesPiece a c r (xs ++ ys)
piece_after_whole a b c Whole xs ys whole next = Appends-trans a b c xs ys whole next
piece_after_whole a b c WriteFault xs ys whole next = (
  length xs + next.0,
  omega (arith, length-append xs ys),
  subst (Appends a c) (sym (take-append-add xs ys next.0)) (Appends-trans a b c xs (take next.0 ys) whole next.2),
)

-- a piece that was cut off is so too as the front of a longer one
pub cut_piece_of_longer : (a b : Option (List ℕ)) (xs ys : List ℕ) → WritesPiece a b WriteFault xs → WritesPiece a b WriteFault (xs ++ ys)
cut_piece_of_longer a b xs ys cut =
    (cut.0, omega (arith, length-append xs ys), subst (Appends a b) (sym (take-append-le cut.0 xs ys (omega arith))) cut.2)
