-- What the kept versions show is what the history says.
use Rattle.std.proofs.Common.{subst, arith}
use Rattle.jr_base.specs.declared.value.Ask.{Ask}
use Rattle.jr_version_heap.specs.Histories.{Shows, seen_before}
use Rattle.jr_version_heap.proofs.heap.VersionHeap.read_at.Goals as goal

pub returns-in-Cell : goal.returns-in-Cell
returns-in-Cell c = λ h stands.
    let seen = seen_before h c.args.what c.args.s.0 in
    c.value_before.ensures seen (subst (λ (what : Ask). Shows c.args.self.now what c.args.s.0 seen) c.in-Cell.is (stands c.args.what c.args.s.0 (omega arith) c.requires))

pub returns-in-Length : goal.returns-in-Length
returns-in-Length c = λ h stands.
    let seen = seen_before h c.args.what c.args.s.0 in
    c.length_before.ensures seen (subst (λ (what : Ask). Shows c.args.self.now what c.args.s.0 seen) c.in-Length.is (stands c.args.what c.args.s.0 (omega arith) c.requires))
