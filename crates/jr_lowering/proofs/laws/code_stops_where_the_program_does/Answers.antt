use Rattle.jr_lowering.proofs.Stops.{asks_as_the_program, ends_as_the_program}
use Rattle.jr_lowering.proofs.laws.code_stops_where_the_program_does.Goals as goal

pub returns : goal.returns
returns c = record {
  asks = λ program formed start fits replies s deed. asks_as_the_program program formed start fits replies s deed;
  ends = λ program formed start fits replies s. ends_as_the_program program formed start fits replies s;
}
