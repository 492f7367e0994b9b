-- One more value is that of a new cell.
use Rattle.std.proofs.Common.{arith}
use Rattle.std.proofs.lemmas.List.{get_or_default}
use Rattle.jr_base.specs.declared.value.Value.TheVariants.{Null}
use Rattle.jr_version_heap.proofs.Additions.{firsts_more, kept_first}
use Rattle.jr_version_heap.proofs.cells.add_cells.Goals as goal

pub add_cell-requires-clause-chained : goal.add_cell-requires-clause-chained
add_cell-requires-clause-chained c = let r = c.requires.chained in (r.0, r.1, c.loop-value.invariant.0 r.0 r.1 r.2)

pub loop-value-preserved : goal.loop-value-preserved
loop-value-preserved c =
    let i = c.loop-value.invariant in
    let a = c.add_cell.ensures.added in (
      (λ past begins chained. c.add_cell.ensures.chained past begins (i.0 past begins chained)),
      firsts_more _ _ _ _ a.0 _ _ _ _ _ i.1 a.2 i.3 (λ d. get_or_default c.args.values.now c.loop-value.value-index d Null (omega arith)),
      (λ pins pending limit fits ok.
          let was = i.2 pins pending limit fits ok in
          let room = fits (omega arith) in
          kept_first c.loop-value.versions.slots c.add_cell.new.versions.slots pins pending limit a.0 _ _ _ a.2
          (let e = c.add_cell.ensures.capacity in let b = a.1 in let f = i.6 in (omega (arith, room.0, room.1), omega (arith, room.0, room.1))) was),
      (let e = i.3 in let f = c.add_cell.ensures.count in omega arith),
      (let e = i.4 in let f = c.add_cell.ensures.cells in omega arith),
      (let e = i.5 in let f = c.add_cell.ensures.len in omega arith),
      (let e = i.6 in let f = c.add_cell.ensures.capacity in omega arith),
    )
