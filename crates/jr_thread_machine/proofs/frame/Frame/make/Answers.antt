use Rattle.jr_code.specs.Instructions.{Make}
use Rattle.jr_code.specs.Views.{tables_of}
use Rattle.jr_thread_machine.proofs.Tables.{as_row, entry_at}
use Rattle.jr_thread_machine.proofs.frame.Frame.make.Goals as goal

pub returns-in-Some : goal.returns-in-Some
returns-in-Some c = λ plain.
    as_row plain _ _ _ _ _ (entry_at Make (tables_of c.args.code.now).makes c.args.place c.in-Some.kind.now c.in-Some.ensures) (c.make_object.ensures plain)
