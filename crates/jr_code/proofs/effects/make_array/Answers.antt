use Rattle.std.proofs.Common.{arith}
use Rattle.std.specs.Prelude.{slice_get, length, ◌<◌}
use Rattle.jr_code.specs.Views.{plain_of}
use Rattle.jr_code.specs.WellFormed.{plain_method}
use Rattle.jr_code.proofs.Applied.{makes_array, there}
use Rattle.jr_code.proofs.effects.make_array.Goals as goal

pub returns : goal.returns
returns c =
    let within : c.args.element < length c.args.code.now.elems.items = omega arith in
    let e = there c.args.code.now.elems.items c.args.element within in
    makes_array (plain_of c.args.code.now) (plain_method c.args.code.now c.args.method.now) (slice_get c.args.code.now.elems.items c.args.element)
    e.0 c.args.kinds.now c.change.new.self c.change.result e.1 c.change.ensures
