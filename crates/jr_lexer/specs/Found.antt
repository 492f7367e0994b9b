-- The sign that a function found.
use Rattle.std.specs.Prelude.{◌≤◌, ℕ, List, length, Option}
use Rattle.std.specs.Option.{option_map}
use Rattle.jr_lexer.specs.declared.kind.Kind.{Kind}
use Rattle.jr_lexer.specs.Signs.{Sign}

-- its kind, and its length
abbrev pub found : Option Sign → Option (Kind × ℕ)
found s = option_map (λ s. (s.kind, length s.spelling)) s

-- it stands within the text
abbrev pub IsWithin : List ℕ → Kind × ℕ → Type 0
IsWithin z s = (1 ≤ s.1) × (s.1 ≤ length z)
