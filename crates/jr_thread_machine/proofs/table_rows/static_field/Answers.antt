use Rattle.jr_code.specs.Views.{tables_of}
use Rattle.jr_thread_machine.proofs.Tables.{static_at, no_field, no_entry}
use Rattle.jr_thread_machine.proofs.table_rows.static_field.Goals as goal

pub returns-in-Some : goal.returns-in-Some
returns-in-Some c = static_at c.args.code.now c.args.place c.in-Some.field.now c.in-Some.ensures c.static_cell.result c.static_cell.ensures

pub returns-in-None : goal.returns-in-None
returns-in-None c = λ row. no_entry _ (tables_of c.args.code.now).fields c.args.place (no_field c.args.code.now c.args.place c.in-None.ensures)
