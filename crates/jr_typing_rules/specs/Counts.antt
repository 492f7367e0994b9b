-- How many classes, fields, methods and clauses a program has: as many as its source writes, so that its numbers are as
-- small as the source is.
use Rattle.std.specs.Prelude.{◌≡◌, List, length}
use Rattle.std.specs.List.{flat_map}
use Rattle.jr_ast.specs.Units.{Class}
use Rattle.jr_program.specs.Programs.{Program}
use Rattle.jr_typing_rules.specs.Written.{declared_in, methods_written_in, keywords_in}

pub record IsCounted (source : List Class) (program : Program) : Type 0 where
  pub classes : length program.classes ≡ length source
  pub fields : length program.fields ≡ length (flat_map declared_in source)
  pub methods : length program.methods ≡ length (flat_map methods_written_in source)
  pub clauses : length program.clauses ≡ length (flat_map keywords_in source)
