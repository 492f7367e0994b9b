-- The version keeps its place in the chain, and stands first in the dead list.
use Rattle.jr_version_heap.proofs.Placements.{attached_so, attached_placed}
use Rattle.jr_version_heap.proofs.needs.attach.Goals as goal

pub returns-clause-so : goal.returns-clause-so
returns-clause-so c = λ g limit stamp ok since.
    let h = c.set_head.ensures.head in
    attached_so c.args.versions.now.slots c.put.new.versions.slots c.args.pins.now.pins c.set_head.new.self.pins limit c.args.key c.args.pin
    c.index-version.result.now c.head-next.result c.head-next.ensures.0 h.0 stamp g ok c.index-version.ensures c.put.ensures.updates.changed c.put.ensures.updates.others
    c.head-next.ensures.1 c.head-next.ensures.2 h.1 h.2.changed h.2.others since

pub returns-clause-placed : goal.returns-clause-placed
returns-clause-placed c =
    let h = c.set_head.ensures.head in
    let r = c.requires in
    attached_placed r.0.newest r.0.past c.args.versions.now.slots c.put.new.versions.slots c.args.pins.now.pins c.set_head.new.self.pins r.0.pending r.0.loose r.0.first r.0.rest
    r.0.bound r.1 c.args.key c.args.pin c.index-version.result.now c.head-next.result c.head-next.ensures.0 h.0 r.2.0
    r.3.chained r.3.kept c.index-version.ensures c.put.ensures.updates.changed c.put.ensures.updates.others
    c.head-next.ensures.1 c.head-next.ensures.2 h.1 h.2.changed h.2.others r.3.latest_is r.4
