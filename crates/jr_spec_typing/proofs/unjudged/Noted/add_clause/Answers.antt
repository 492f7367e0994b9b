use Rattle.jr_spec_typing.proofs.unjudged.Noted.add_clause.Goals as goal

pub returns-in-Assignable : goal.returns-in-Assignable
returns-in-Assignable c = rw c.in-Assignable.is (rw c.as_slice.ensures at c.add.ensures)
