use Rattle.jr_code.specs.Instructions.{PutElement}
use Rattle.jr_code.specs.Views.{tables_of}
use Rattle.jr_thread_machine.proofs.Tables.{as_row, entry_at, mapped_ok}
use Rattle.jr_thread_machine.proofs.frame.Frame.put_element.Goals as goal

pub returns-in-Some-clause-ok : goal.returns-in-Some-clause-ok
returns-in-Some-clause-ok c =
    mapped_ok _ _ c.write_element.result
    (λ flow s plain. as_row plain _ _ flow _ _ (entry_at PutElement (tables_of c.args.code.now).elems c.args.place c.in-Some._element.now c.in-Some.ensures) (s plain c.in-Some._element.now))
    c.write_element.ensures.ok
