-- What adding bytes to a line did. A line that is full is written out before its end.
use Rattle.std.specs.Prelude.{◌≡◌, ℕ, List, ◌++◌, Option}
use Rattle.std.specs.Io.KnownBytes.{Appends}
use Rattle.jr_io.specs.Writes.{WritesPiece}
use Rattle.jr_io.specs.declared.sink.Piece.{Piece}
use Rattle.jr_io.specs.declared.sink.Piece.TheVariants.{Whole, WriteFault}

-- What was written, and then what stands in the line, are the line as it was, and the bytes. Where the sink met a
-- fault, a part of these was written.
abbrev pub Adds : Option (List ℕ) → Option (List ℕ) → List ℕ → List ℕ → Piece → List ℕ → Type 0
Adds old new line later Whole bytes = (piece : List ℕ) × Appends old new piece × (piece ++ later ≡ line ++ bytes)
Adds old new line later WriteFault bytes = WritesPiece old new WriteFault (line ++ bytes)
