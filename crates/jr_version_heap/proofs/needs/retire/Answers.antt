-- The version leaves its chain, and is the last of those that wait.
use Rattle.std.proofs.Common.{arith, ap}
use Rattle.std.specs.Prelude.{length, vec_capacity}
use Rattle.jr_version_heap.proofs.Placements.{loose_there, retired_room, retired_kept, unlinked_placed}
use Rattle.jr_version_heap.proofs.needs.retire.Goals as goal

pub unlink-requires : goal.unlink-requires
unlink-requires c =
    let r = c.requires in
    record {
      chained = (r.0.newest, r.0.past, r.3.chained);
      behind = loose_there c.args.versions.now.slots r.1 r.0.pending r.0.loose r.0.first r.0.rest r.0.bound (vec_capacity c.args.pending.now) c.args.key r.3.kept;
    }

pub wait-requires : goal.wait-requires
wait-requires c =
    let r = c.requires in
    let h = retired_room c.args.versions.now.slots c.unlink.new.versions.slots r.1 r.0.pending r.0.loose r.0.first r.0.rest r.0.bound (vec_capacity c.args.pending.now) c.args.key r.3.kept in
    let e = ap length r.4 in
    omega arith

pub returns-clause-so : goal.returns-clause-so
returns-clause-so c = λ g pins latest ok same free.
    record {
      chained = c.unlink.ensures.chained g.newest g.past ok.chained;
      kept = λ b found.
          rw (c.wait.ensures.waits, ← same)
          (retired_kept c.args.versions.now.slots c.unlink.new.versions.slots pins g.pending g.loose g.first g.rest g.bound (vec_capacity c.args.pending.now) c.args.key ok.kept
          c.unlink.ensures.unlinked free b found);
    }

pub returns-clause-placed : goal.returns-clause-placed
returns-clause-placed c = unlinked_placed c.args.versions.now.slots c.unlink.new.versions.slots c.args.key c.unlink.ensures.unlinked
