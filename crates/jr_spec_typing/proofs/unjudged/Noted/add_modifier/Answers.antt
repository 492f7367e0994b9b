use Rattle.jr_spec_typing.proofs.unjudged.Noted.add_modifier.Goals as goal

pub returns-in-SpecPublic : goal.returns-in-SpecPublic
returns-in-SpecPublic c = rw c.in-SpecPublic.is (rw c.as_slice-in-SpecPublic.ensures at c.add-in-SpecPublic.ensures)

pub returns-in-SpecProtected : goal.returns-in-SpecProtected
returns-in-SpecProtected c = rw c.in-SpecProtected.is (rw c.as_slice-in-SpecProtected.ensures at c.add-in-SpecProtected.ensures)
