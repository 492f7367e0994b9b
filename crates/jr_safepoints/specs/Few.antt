-- Lists of what is due at a site, of which there are few enough.
use Rattle.std.specs.Prelude.{nat_le, List, length}
use Rattle.std.specs.Borrow.{Bor}
use Rattle.std.specs.List.{flat_map}
use Rattle.jr_base.specs.declared.number.Span.{Span}
use Rattle.jr_base.specs.declared.number.ClauseId.{ClauseId}
use Rattle.jr_base.specs.declared.refusal.Refusal.TheVariants.{TooManyClauses}
use Rattle.jr_program.specs.WellFormed.{most_due}
use Rattle.jr_typing_rules.specs.Answers.{Typing, Good, ◌>>=◌, require}

-- these are due, if they are few enough; else the refusal
abbrev pub few : Span → List ClauseId → Typing (List ClauseId)
few at due = require (nat_le (length due) most_due) (TooManyClauses at) >>= λ u. Good due

-- pieces one after the other
abbrev pub joined : List (Bor (List ClauseId)) → List ClauseId
joined pieces = flat_map (λ (p : Bor (List ClauseId)). p.now) pieces
