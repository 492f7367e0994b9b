use Rattle.std.specs.Prelude.{slice_get}
use Rattle.jr_code.specs.Views.{tables_of, plain_of}
use Rattle.jr_code.specs.WellFormed.{plain_method}
use Rattle.jr_code.proofs.Calls.{prints_values, prints_nothing}
use Rattle.jr_code.proofs.effects.print_all.Goals as goal

pub returns-in-Some : goal.returns-in-Some
returns-in-Some c =
    prints_values (plain_of c.args.code.now) (plain_method c.args.code.now c.args.method.now) (slice_get (tables_of c.args.code.now).prints c.args.print)
    c.in-Some.n c.args.kinds.now c.take_values.new.self c.take_values.result c.in-Some.ensures c.take_values.ensures

pub returns-in-None : goal.returns-in-None
returns-in-None c = λ other e.
    prints_nothing (plain_of c.args.code.now) (plain_method c.args.code.now c.args.method.now) (slice_get (tables_of c.args.code.now).prints c.args.print)
    c.args.kinds.now other c.in-None.ensures e
