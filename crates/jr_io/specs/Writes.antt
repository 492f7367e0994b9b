-- What a write does, and what writing a piece did.
use Rattle.std.specs.Prelude.{◌≡◌, ℕ, ◌<◌, ◌≤◌, List, Option, length, take}
use Rattle.std.specs.Io.KnownBytes.{Appends, Keeps}
use Rattle.jr_io.specs.Faults.{Rose}
use Rattle.jr_io.specs.declared.sink.WriteOut.{WriteOut}
use Rattle.jr_io.specs.declared.sink.WriteOut.TheVariants.{Wrote, Failed}
use Rattle.jr_io.specs.declared.sink.Piece.{Piece}
use Rattle.jr_io.specs.declared.sink.Piece.TheVariants.{Whole, WriteFault}

-- a write takes at most the whole piece
abbrev pub TakesAtMost : WriteOut → List ℕ → Type 0
TakesAtMost (Wrote n) from = n ≤ length from
TakesAtMost Failed from = Unit {0}

-- of a piece that isn't empty a write takes something, or fails
abbrev pub TakesSome : WriteOut → List ℕ → Type 0
TakesSome (Wrote n) from = 0 < length from → 0 < n
TakesSome Failed from = Unit {0}

-- a write appends the bytes that it took; one that failed appends nothing
abbrev pub AppendsTaken : Option (List ℕ) → Option (List ℕ) → WriteOut → List ℕ → Type 0
AppendsTaken old new (Wrote n) from = Appends old new (take n from)
AppendsTaken old new Failed from = Keeps old new

-- the count of faults rises where a write failed, and stays where it didn't
abbrev pub CountsWriteFault : ℕ → ℕ → WriteOut → Type 0
CountsWriteFault before now (Wrote n) = now ≡ before
CountsWriteFault before now Failed = Rose before now

-- the piece was appended whole, or a part of it that isn't the whole
abbrev pub WritesPiece : Option (List ℕ) → Option (List ℕ) → Piece → List ℕ → Type 0
WritesPiece old new Whole piece = Appends old new piece
WritesPiece old new WriteFault piece = (n : ℕ) × (n < length piece) × Appends old new (take n piece)

-- the count of faults rises where the piece isn't whole, and stays where it is
abbrev pub CountsPieceFault : ℕ → ℕ → Piece → Type 0
CountsPieceFault before now Whole = now ≡ before
CountsPieceFault before now WriteFault = Rose before now
