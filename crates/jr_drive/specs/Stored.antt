-- What a store stands for.
use Rattle.std.specs.Prelude.{List}
use Rattle.jr_base.specs.declared.value.Value.{Value}
use Rattle.jr_program.specs.Programs.{Program}
use Rattle.jr_meaning.specs.World.{World}
use Rattle.jr_drive.specs.Blanks.{AreBlanks}
use Rattle.jr_drive.specs.Counted.{Counted, StandsFor}

-- the objects that were made, and for each class what the fields of its objects hold at first
pub record StoreOf : Type 0 where
  pub made : Counted
  pub blanks : List (List Value)

-- the store has the objects and cells of that world of the program
pub record Stored (program : Program) (store : StoreOf) (world : World) : Type 0 where
  pub made : StandsFor program store.made world
  pub blanks : AreBlanks program store.blanks
