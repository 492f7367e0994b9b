use Rattle.std.proofs.Common.{◌≡◌, ◌%◌, ℕ, List, not, length, slice_get, Some, sym, ◌∙◌, ap, subst}
use Rattle.jr_base.specs.declared.number.GuestNo.{GuestNo}
use Rattle.jr_base.specs.declared.number.ObjId.{ObjId}
use Rattle.jr_base.specs.declared.action.Reply.TheVariants as replies
use Rattle.jr_meaning.specs.World.{Waiter}
use Rattle.jr_meaning.specs.Machine.{Allows, notify_answer, wake}
use Rattle.jr_monitors.specs.Roster.{Roster, owner_in, waiters_from, world_of}
use Rattle.jr_monitors.specs.Stands.{IsPicked}
use Rattle.jr_monitors.proofs.Steps.{owning-holds}
use Rattle.jr_monitors.proofs.WaitSets.{numbers_from}
use Rattle.jr_monitors.proofs.Worlds.{agree-then, length-map}
use Rattle.jr_monitors.proofs.Notices.{waits-on, notify-allows, picked-is, woke-agrees}
use Rattle.jr_monitors.proofs.monitors.Monitors.notify.Goals as goal

-- what was picked, in the wait set of the roster
picked : (r : Roster) (now items : List ℕ) (object : ObjId) (pick x : ℕ) → now ≡ items → items ≡ numbers_from 1 object r.members
    → slice_get now (pick % length now) ≡ Some x → slice_get (numbers_from 1 object r.members) (pick % length (waiters_from 1 object r.members)) ≡ Some x
picked r now items object pick x same is found =
    let e = same ∙ is in
    ap (λ n. slice_get (numbers_from 1 object r.members) (pick % n)) (sym (length-map (λ (w : Waiter). w.guest.0) (waiters_from 1 object r.members)))
    ∙ (sym (ap (λ l. slice_get l (pick % length l)) e) ∙ found)

pub returns-clause-answer : goal.returns-clause-answer
returns-clause-answer c =
    let members = subst (λ (r : Roster). c.waiters-waiters.result.items ≡ numbers_from 1 c.args.object r.members) c.self.view_is c.waiters-waiters.ensures in
    let found = picked c.args.self.now c.as_slice.result.now c.waiters-waiters.result.items c.args.object c.args.pick c.picked.result c.as_slice.ensures.value members c.picked.ensures in
    let own = owning-holds c.args.guest (owner_in c.args.self.now.owned.owners c.args.object) c.depth.result c.depth.ensures (c.is_none.ensures ∙ ap not c.if-is_none.false) in
    subst (λ b. Allows (notify_answer b (waiters_from 1 c.args.object c.args.self.now.members)) (replies.Woke (record { 0 = c.picked.result }))) (sym own)
    (notify-allows (waiters_from 1 c.args.object c.args.self.now.members) (c.args.pick % length (waiters_from 1 c.args.object c.args.self.now.members)) c.picked.result found)

pub returns-clause-after : goal.returns-clause-after
returns-clause-after c =
    let members = subst (λ (r : Roster). c.waiters-waiters.result.items ≡ numbers_from 1 c.args.object r.members) c.self.view_is c.waiters-waiters.ensures in
    let found = picked c.args.self.now c.as_slice.result.now c.waiters-waiters.result.items c.args.object c.args.pick c.picked.result c.as_slice.ensures.value members c.picked.ensures in
    agree-then (world_of c.rouse.new.self) (wake (world_of c.args.self.now) (record { 0 = c.picked.result })) _ c.rouse.ensures.after
    (woke-agrees c.args.self.now c.args.object (record { 0 = c.picked.result }) (waits-on c.args.self.now c.args.object (c.args.pick % length (waiters_from 1 c.args.object c.args.self.now.members)) c.picked.result found))

woken-of : (x : ℕ) (g : GuestNo) → replies.Woke (record { 0 = x }) ≡ replies.Woke g → (record { 0 = x }) ≡ g
woken-of x g is = cc

pub returns-clause-picked : goal.returns-clause-picked
returns-clause-picked c = λ woken is.
    let members = subst (λ (r : Roster). c.waiters-waiters.result.items ≡ numbers_from 1 c.args.object r.members) c.self.view_is c.waiters-waiters.ensures in
    let found = picked c.args.self.now c.as_slice.result.now c.waiters-waiters.result.items c.args.object c.args.pick c.picked.result c.as_slice.ensures.value members c.picked.ensures in
    subst (λ (g : GuestNo). IsPicked c.args.pick (waiters_from 1 c.args.object c.args.self.now.members) g) (woken-of c.picked.result woken is)
    (picked-is (waiters_from 1 c.args.object c.args.self.now.members) (c.args.pick % length (waiters_from 1 c.args.object c.args.self.now.members)) c.picked.result found)
