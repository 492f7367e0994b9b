-- An option's value in the code, as plain data.
use Rattle.std.specs.Prelude.{map, string_bytes}
use Rattle.jr_command.specs.declared.options.Valued.{Valued as ValuedWords}
use Rattle.jr_command.specs.Command.{Valued}

abbrev pub valued : ValuedWords → Valued
valued given = record { value = given.value.now; rest = map string_bytes given.rest.now }
