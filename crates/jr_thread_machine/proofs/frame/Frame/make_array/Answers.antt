use Rattle.jr_code.specs.Instructions.{MakeArray}
use Rattle.jr_code.specs.Views.{tables_of}
use Rattle.jr_thread_machine.proofs.Tables.{as_row, entry_at, mapped_ok}
use Rattle.jr_thread_machine.proofs.frame.Frame.make_array.Goals as goal

pub returns-in-Some-clause-ok : goal.returns-in-Some-clause-ok
returns-in-Some-clause-ok c =
    mapped_ok _ _ c.make_elements.result
    (λ flow s plain. as_row plain _ _ flow _ _ (entry_at MakeArray (tables_of c.args.code.now).elems c.args.place c.in-Some.element.now c.in-Some.ensures) (s plain))
    c.make_elements.ensures.ok
