use Rattle.std.proofs.lemmas.Slice.Eq.{ends_is}
use Rattle.jr_code.proofs.Stacks.{kinds_decide}
use Rattle.jr_code.proofs.Places.{none_shared, front_shared}
use Rattle.jr_code.proofs.shapes.shared_front.Goals as goal

pub returns-in_default : goal.returns-in_default
returns-in_default c = none_shared c.args.all.now c.args.kinds.now

pub returns-then-not-ends_with : goal.returns-then-not-ends_with
returns-then-not-ends_with c = none_shared c.args.all.now c.args.kinds.now

pub returns : goal.returns
returns c =
    front_shared c.args.all.now c.args.kinds.now c.in-Some.front.now c.in-Some._last.now c.in-Some.ensures.cases.0
    ((ends_is kinds_decide c.args.all.now c.in-Some.front.now c.ends_with.result c.ends_with.ensures.value).0 c.if-not-ends_with.false)
