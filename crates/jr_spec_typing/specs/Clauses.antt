-- The clauses of a source so far, to which more are added.
use Rattle.std.specs.Prelude.{ℕ, Bool, List, ◌∷◌, [], ◌++◌, map}
use Rattle.jr_base.specs.declared.number.Span.{Span}
use Rattle.jr_base.specs.Positions.{position_in}
use Rattle.jr_program.specs.Clauses.{Clause}
use Rattle.jr_program.specs.ClauseViews.{view_clause}
use Rattle.jr_typing_rules.specs.Answers.{Typing, Good, ◌>>=◌}
use Rattle.jr_typing_rules.specs.Names.{Names}
use Rattle.jr_typing_rules.specs.Specifications.{Setting}
use Rattle.jr_spec_typing.specs.declared.written.Written.{Written as WrittenTree}

-- the clauses so far, and the bytes of their source
pub record Written : Type 0 where
  pub source : List ℕ
  pub clauses : List Clause

abbrev pub view_written : WrittenTree → Written
view_written w = record { source = w.places; clauses = map view_clause w.clauses }

-- places are lines and columns of the source
abbrev pub setting_of : List ℕ → Names → Setting
setting_of source names = record { position = λ (at : Span). position_in source at.start; names = names }

abbrev pub with_clauses : Written → List Clause → Written
with_clauses w cs = record { source = w.source; clauses = w.clauses ++ cs }

-- one clause more, and several, where the rules give them
abbrev pub and_clause : Written → Typing Clause → Typing Written
and_clause w t = t >>= λ c. Good (with_clauses w (c ∷ []))

abbrev pub and_clauses : Written → Typing (List Clause) → Typing Written
and_clauses w t = t >>= λ cs. Good (with_clauses w cs)
