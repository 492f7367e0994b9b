-- Limits of a source.
use Rattle.std.specs.Prelude.{ℕ}

-- the most constructs above a node
abbrev pub nesting_limit : ℕ
nesting_limit = 128
