-- What contracts see of a source and a sink over memory, and what their calls do.
use Rattle.std.specs.Prelude.{ℕ, ◌+◌, ◌-◌, ◌^◌, Bool, false, ◌&&◌, ◌||◌, ◌==◌, nat_lt, if◌then◌else◌, min, List, ◌++◌, length, take, drop}
use Rattle.std.specs.List.{list_any}
use Rattle.jr_io.specs.declared.source.ReadOut.{ReadOut}
use Rattle.jr_io.specs.declared.source.ReadOut.TheVariants as reads
use Rattle.jr_io.specs.declared.sink.WriteOut.{WriteOut}
use Rattle.jr_io.specs.declared.sink.WriteOut.TheVariants as writes

-- a source over memory: the bytes left, how many were taken, the numbers of the calls that fail, how many calls
-- and faults there were, and whether the last call answered the end
pub record Feed : Type 0 where
  pub left : List ℕ
  pub taken : ℕ
  pub failing : List ℕ
  pub calls : ℕ
  pub faults : ℕ
  pub ended : Bool

-- a sink over memory: the bytes written, how many more it takes, the numbers of the calls that fail, and how many
-- calls and faults there were
pub record Store : Type 0 where
  pub written : List ℕ
  pub room : ℕ
  pub failing : List ℕ
  pub calls : ℕ
  pub faults : ℕ

-- a count after one more, up to the last value of a u64
abbrev pub counted : ℕ → ℕ
counted n = min (n + 1) (2 ^ 64 - 1)

-- whether the next call is one of those that fail, by its number, where so many calls were made
abbrev pub next_fails : List ℕ → ℕ → Bool
next_fails failing calls = list_any (λ number. number == counted calls) failing

-- how many bytes a read that doesn't fail gives: all that are left, as far as there is room
abbrev pub given : Feed → ℕ → ℕ
given s room = min (length s.left) room

-- what the next read answers, into a slice of this length
abbrev pub read_answer : Feed → ℕ → ReadOut
read_answer s room = if next_fails s.failing s.calls then reads.Failed else reads.Read (given s room)

-- what the next read leaves
abbrev pub after_read : Feed → ℕ → Feed
after_read s room =
    if next_fails s.failing s.calls
    then record s { calls = counted s.calls; faults = counted s.faults; ended = false }
    else record s { left = drop (given s room) s.left; taken = s.taken + given s room; calls = counted s.calls; ended = (given s room == 0) && nat_lt 0 room }

-- the slice after the next read into it
abbrev pub bytes_given : Feed → List ℕ → List ℕ
bytes_given s into =
    if next_fails s.failing s.calls then into else take (given s (length into)) s.left ++ drop (given s (length into)) into

-- whether the next write of so many bytes fails: by its number, or since there is too little room
abbrev pub write_fails : Store → ℕ → Bool
write_fails s count = nat_lt s.room count || next_fails s.failing s.calls

-- what the next write answers, of so many bytes
abbrev pub write_answer : Store → ℕ → WriteOut
write_answer s count = if write_fails s count then writes.Failed else writes.Wrote count

-- what the next write leaves
abbrev pub after_write : Store → List ℕ → Store
after_write s from =
    if write_fails s (length from)
    then record s { calls = counted s.calls; faults = counted s.faults }
    else record s { written = s.written ++ from; room = s.room - length from; calls = counted s.calls }
