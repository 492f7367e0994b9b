-- The version has a neighbour behind it, and may have one before it; the three are apart.
use Rattle.std.proofs.Common.{ap, ◌∙◌}
use Rattle.std.specs.Prelude.{is_some}
use Rattle.jr_version_heap.specs.Versions.{IsUnlinked}
use Rattle.jr_version_heap.proofs.Chains.{has_newer, has_older, no_newer, behind_is}
use Rattle.jr_version_heap.proofs.Unlinks.{chained_unlink, unlinked_by_writes}
use Rattle.jr_version_heap.proofs.chain.unlink.Goals as goal

pub unreachable-requires : goal.unreachable-requires
unreachable-requires c =
    let h = behind_is c.args.versions.now.slots c.args.key c.requires.behind c.index-version.result.now c.index-version.ensures in
    no_newer c.requires.chained.0 c.args.versions.now.slots c.requires.chained.1 c.requires.chained.2 c.args.key c.index-version.result.now c.index-version.ensures h.0 h.1 c.in-None.is

pub index-newer-requires : goal.index-newer-requires
index-newer-requires c =
    let h = behind_is c.args.versions.now.slots c.args.key c.requires.behind c.index-version.result.now c.index-version.ensures in
    let n = has_newer c.requires.chained.0 c.args.versions.now.slots c.requires.chained.1 c.requires.chained.2 c.args.key c.index-version.result.now c.index-version.ensures h.0 h.1 c.in-Some.behind c.in-Some.is in
    let e = c.put.ensures.updates.others c.in-Some.behind n.other ∙ n.is in
    ap is_some e

pub set_newer-requires : goal.set_newer-requires
set_newer-requires c = λ j to.
    let h = behind_is c.args.versions.now.slots c.args.key c.requires.behind c.index-version.result.now c.index-version.ensures in
    let o = has_older c.requires.chained.0 c.args.versions.now.slots c.requires.chained.1 c.requires.chained.2 c.args.key c.index-version.result.now c.index-version.ensures h.0 h.1 c.in-Some.behind j c.in-Some.is to in
    let e = c.put-2.ensures.updates.others j o.apart ∙ (c.put.ensures.updates.others j o.other ∙ o.is) in
    ap is_some e

unlinked : (c : goal.After-set_newer) → IsUnlinked c.args.versions.now.slots c.set_newer.new.versions.slots c.args.key
unlinked c =
    let h = behind_is c.args.versions.now.slots c.args.key c.requires.behind c.index-version.result.now c.index-version.ensures in
    let n = has_newer c.requires.chained.0 c.args.versions.now.slots c.requires.chained.1 c.requires.chained.2 c.args.key c.index-version.result.now c.index-version.ensures h.0 h.1 c.in-Some.behind c.in-Some.is in
    let o = has_older c.requires.chained.0 c.args.versions.now.slots c.requires.chained.1 c.requires.chained.2 c.args.key c.index-version.result.now c.index-version.ensures h.0 h.1 c.in-Some.behind in
    unlinked_by_writes c.args.versions.now.slots c.put.new.versions.slots c.put-2.new.versions.slots c.set_newer.new.versions.slots c.args.key c.in-Some.behind
    c.index-version.result.now c.index-newer.result.now c.index-version.ensures c.in-Some.is n.other
    (λ j to. let p = o j c.in-Some.is to in (p.other, p.apart))
    c.put.ensures.updates.changed c.put.ensures.updates.others c.index-newer.ensures
    c.put-2.ensures.updates.changed c.put-2.ensures.updates.others c.set_newer.ensures.linked c.set_newer.ensures.others

pub returns-clause-unlinked : goal.returns-clause-unlinked
returns-clause-unlinked c = unlinked c

pub returns-clause-chained : goal.returns-clause-chained
returns-clause-chained c = λ newest past chained.
    let u = unlinked c in
    let h = behind_is c.args.versions.now.slots c.args.key c.requires.behind u.version u.is in
    chained_unlink newest c.args.versions.now.slots c.set_newer.new.versions.slots past c.args.key chained u h.0 h.1
