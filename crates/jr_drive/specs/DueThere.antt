-- The clauses due at a site, as plain data.
use Rattle.std.specs.Prelude.{List, [], ◌∷◌}
use Rattle.jr_base.specs.declared.number.ClauseId.{ClauseId}
use Rattle.jr_drive.specs.declared.due.Due.{Due}
use Rattle.jr_drive.specs.declared.due.Due.TheVariants.{Listed, Alone, Nothing}

abbrev pub numbers_in : Due → List ClauseId
numbers_in (Listed list) = list.now
numbers_in (Alone clause) = clause ∷ []
numbers_in Nothing = []
