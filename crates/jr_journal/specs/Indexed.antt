-- What is found at once, beside the entries of a journal.
use Rattle.std.specs.Prelude.{List}
use Rattle.jr_meaning.specs.Event.{Event}
use Rattle.jr_journal.specs.Marks.{Follows}
use Rattle.jr_journal.specs.declared.index.Index.{Index}

abbrev pub IsIndexed : List Event → Index → Type 0
IsIndexed h index = Follows h index.marks.marks index.makes.items index.is_complete
