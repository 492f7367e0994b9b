use Rattle.std.proofs.lemmas.Slice.Eq.{ends_is}
use Rattle.jr_code.proofs.Stacks.{kinds_decide}
use Rattle.jr_code.proofs.Places.{all_shared}
use Rattle.jr_code.proofs.shapes.shared.Goals as goal

pub returns-then-ends_with : goal.returns-then-ends_with
returns-then-ends_with c =
    all_shared c.args.all.now c.args.kinds.now ((ends_is kinds_decide c.args.all.now c.args.kinds.now c.ends_with.result c.ends_with.ensures.value).0 c.if-ends_with.true)
