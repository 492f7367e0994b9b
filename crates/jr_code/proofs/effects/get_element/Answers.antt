use Rattle.std.specs.Prelude.{slice_get}
use Rattle.jr_code.specs.Views.{plain_of}
use Rattle.jr_code.specs.WellFormed.{plain_method}
use Rattle.jr_code.proofs.Applied.{reads_element}
use Rattle.jr_code.proofs.effects.get_element.Goals as goal

pub returns-in-Some : goal.returns-in-Some
returns-in-Some c =
    reads_element (plain_of c.args.code.now) (plain_method c.args.code.now c.args.method.now) (slice_get c.args.code.now.elems.items c.args.element)
    c.in-Some.kind c.args.kinds.now c.change.new.self c.change.result c.in-Some.ensures c.change.ensures
