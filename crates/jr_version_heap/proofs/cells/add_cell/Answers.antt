-- The chains stand with the new cell.
use Rattle.std.proofs.Common.{◌≡◌, arith}
use Rattle.std.specs.Prelude.{length}
use Rattle.jr_version_heap.specs.Versions.{HasFirst}
use Rattle.jr_version_heap.proofs.Additions.{chained_first}
use Rattle.jr_version_heap.proofs.cells.add_cell.Goals as goal

pub returns-clause-chained : goal.returns-clause-chained
returns-clause-chained c = λ past begins chained.
    let u = c.insert_reserved-key.ensures.updates in
    let e : c.len.result ≡ length c.args.newest.now.items = omega arith in
    let a : HasFirst c.args.versions.now.slots c.insert_reserved-key.new.self.slots c.insert_reserved-key.result (length c.args.newest.now.items) c.args.value c.args.since =
    record { fresh = c.insert_reserved-key.ensures.was_vacant; first = rw (← e) u.changed; others = u.others } in
    rw c.push_reserved.ensures.items
    (chained_first c.args.newest.now.items c.args.versions.now.slots c.insert_reserved-key.new.self.slots past c.insert_reserved-key.result c.args.value c.args.since
    chained a begins)
