-- What a read does, and what reading to the end did.
use Rattle.std.specs.Prelude.{◌≡◌, ℕ, ◌+◌, ◌<◌, ◌≤◌, Bool, false, ◌&&◌, ◌==◌, nat_lt, List, [], length, take, Option, Some, IfSome}
use Rattle.std.specs.Io.KnownBytes.{Consumes, Keeps, IsAtEnd}
use Rattle.jr_io.specs.Faults.{Rose}
use Rattle.jr_io.specs.declared.source.ReadOut.{ReadOut}
use Rattle.jr_io.specs.declared.source.ReadOut.TheVariants.{Read, Failed}

-- a read gives at most as many bytes as the slice has room for
abbrev pub GivesAtMost : ReadOut → List ℕ → Type 0
GivesAtMost (Read n) into = n ≤ length into
GivesAtMost Failed into = Unit {0}

-- a read puts the next bytes left into the slice's front, none only at the end or with no room; one that failed takes nothing
abbrev pub TakesBytes : Option (List ℕ) → Option (List ℕ) → ReadOut → List ℕ → Type 0
TakesBytes old new (Read n) into = Consumes old new (take n into) × (n ≡ 0 → 0 < length into → IsAtEnd new)
TakesBytes old new Failed into = Keeps old new

-- how many bytes a read took
abbrev pub taken_by : ReadOut → ℕ
taken_by (Read n) = n
taken_by Failed = 0

-- whether a read into a slice of this length answered the end of input
abbrev pub answers_end : ReadOut → ℕ → Bool
answers_end (Read n) room = (n == 0) && nat_lt 0 room
answers_end Failed room = false

-- the count of faults rises where a read failed, and stays where it didn't
abbrev pub CountsReadFault : ℕ → ℕ → ReadOut → Type 0
CountsReadFault before now (Read n) = now ≡ before
CountsReadFault before now Failed = Rose before now

-- where the bytes left were told, these are all of them, and none is left now
abbrev pub GaveAll : Option (List ℕ) → Option (List ℕ) → List ℕ → Type 0
GaveAll old new bytes = IfSome old (λ all. (bytes ≡ all) × (new ≡ Some []))

-- between two counts of bytes taken, just the front of the bytes left was taken
abbrev pub TookFront : Option (List ℕ) → Option (List ℕ) → ℕ → ℕ → Type 0
TookFront old new before now = (front : List ℕ) × Consumes old new front × (now ≡ before + length front)
