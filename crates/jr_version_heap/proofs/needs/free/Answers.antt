-- The last of the pending versions waits, and stands in no chain.
use Rattle.std.proofs.Common.{◌≡◌, ◌∙◌, arith, subst}
use Rattle.std.specs.Prelude.{ℕ, List, [], vec_capacity, None}
use Rattle.std.proofs.lemmas.List.{append-nil}
use Rattle.jr_version_heap.specs.declared.version.Home.TheVariants.{Loose}
use Rattle.jr_version_heap.specs.Needs.{IsKept, body_in}
use Rattle.jr_version_heap.proofs.Pinned.{waits_there, free_chain, free_kept, free_else}
use Rattle.jr_version_heap.proofs.needs.free.Goals as goal

pub remove-requires : goal.remove-requires
remove-requires c =
    let r = c.requires in
    let o = c.loop-freed.invariant.0 r.0 r.1 r.2 r.3 r.4 in
    let k = subst (λ (z : List ℕ). IsKept (body_in c.loop-freed.versions.slots) r.2 z Loose None [] 0 (vec_capacity c.args.pending.now)) c.in-Some.ensures.items o.1 in
    waits_there c.loop-freed.versions.slots r.2 c.pop.new.self.items (vec_capacity c.args.pending.now) c.in-Some.key k

pub loop-freed-preserved : goal.loop-freed-preserved
loop-freed-preserved c =
    let r = c.requires in
    let i = c.loop-freed.invariant in
    let u = c.remove.ensures.updates in (
      (λ newest past pins chained ok.
          let o = i.0 newest past pins chained ok in
          let k = subst (λ (z : List ℕ). IsKept (body_in c.loop-freed.versions.slots) pins z Loose None [] 0 (vec_capacity c.args.pending.now)) c.in-Some.ensures.items o.1 in (
            free_chain newest past c.loop-freed.versions.slots c.remove.new.self.slots pins c.pop.new.self.items (vec_capacity c.args.pending.now) c.in-Some.key o.0 k u.changed u.others,
            free_kept newest past c.loop-freed.versions.slots c.remove.new.self.slots pins c.pop.new.self.items (vec_capacity c.args.pending.now) c.in-Some.key o.0 k u.changed u.others,
          )),
      (λ k b is stands.
          let o = i.0 r.0 r.1 r.2 r.3 r.4 in
          let kept = subst (λ (z : List ℕ). IsKept (body_in c.loop-freed.versions.slots) r.2 z Loose None [] 0 (vec_capacity c.args.pending.now)) c.in-Some.ensures.items o.1 in
          free_else r.0 r.1 c.loop-freed.versions.slots c.remove.new.self.slots r.2 c.pop.new.self.items (vec_capacity c.args.pending.now) c.in-Some.key o.0 kept u.changed u.others k b (i.1 k b is stands) stands),
      (let e = i.2 in let f = c.in-Some.ensures.cases in let l = c.in-Some.ensures.len in omega arith),
      (let e = i.3 in let f = c.pop.ensures.capacity in omega arith),
      (let e = i.4 in let f = c.remove.ensures.len in omega arith),
      (let e = i.5 in let f = c.remove.ensures.capacity in omega arith),
    )

pub returns-in-None-clause-so : goal.returns-in-None-clause-so
returns-in-None-clause-so c = λ newest past pins chained ok.
    let o = c.loop-freed.invariant.0 newest past pins chained ok in
    let e : c.loop-freed.pending.items ≡ c.pop.new.self.items = c.in-None.ensures.items ∙ append-nil c.pop.new.self.items in
    (o.0, subst (λ (z : List ℕ). IsKept (body_in c.loop-freed.versions.slots) pins z Loose None [] 0 (vec_capacity c.args.pending.now)) e o.1)
