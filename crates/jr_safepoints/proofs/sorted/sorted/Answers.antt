use Rattle.std.proofs.Common.{[], get_or, ap}
use Rattle.jr_safepoints.proofs.Noting.{sorted_next}
use Rattle.jr_safepoints.proofs.sorted.sorted.Goals as goal

pub loop-place-init : goal.loop-place-init
loop-place-init c = λ n. ap (λ lists. get_or lists n []) c.new-lists.ensures.items

pub loop-place-preserved : goal.loop-place-preserved
loop-place-preserved c =
    sorted_next c.args.wanted c.args.clauses.now c.loop-place.place c.index-clauses-place.result c.owner_of.result c.loop-place.lists.items c.note.new.lists.items
    c.loop-place-test.true c.index-clauses-place.is c.owner_of.ensures c.in_ok-note.ensures c.loop-place.invariant
