-- What each step does to what a roster shows.
use Rattle.std.proofs.Common.{◌≡◌, ◌<◌, ◌≤◌, ◌+◌, ◌-◌, ℕ, zero, suc, Bool, true, false, not, cond, true≢false, IsTrue, List, [], ◌∷◌, ◌++◌, length, map, set, find, Option, Some, None, is_some, option_map, refl, sym, ◌∙◌, ap, subst, arith}
use Rattle.std.specs.Option.{option_map_or}
use Rattle.jr_base.specs.Deed.{Deed, Enter, Resume, Start}
use Rattle.jr_base.specs.declared.number.ObjId.{ObjId}
use Rattle.jr_base.specs.declared.number.GuestNo.{GuestNo}
use Rattle.jr_base.specs.declared.action.Reply.TheVariants as replies
use Rattle.jr_program.specs.Programs.{Program, numbered}
use Rattle.jr_meaning.specs.World.{Guest, Monitor, Waiter, body_by, body_for, guest_at, guest_of, is_live, runs_object, same_guest, same_object}
use Rattle.jr_meaning.specs.Machine.{holds, mark_ended, may_join, start_reply, wait, wake, with_monitor, with_waiter}
use Rattle.jr_monitors.specs.declared.member.Member.{Member}
use Rattle.jr_monitors.specs.declared.member.Owner.{Owner}
use Rattle.jr_monitors.specs.declared.member.Stay.{Stay}
use Rattle.jr_monitors.specs.declared.member.Stage.{Stage}
use Rattle.jr_monitors.specs.declared.member.Stage.TheVariants.{Waits, WaitsForTime, Woken}
use Rattle.jr_monitors.specs.Roster.{Roster, Owned, Owning, Owns, Stays, Fits, MayEnter, MayStart, locks_at, deed_at, depth_for, guest_as, hold_by, hold_in, is_run_of, kept_in, monitor_in, owner_in, parked_in, waiter_at, waiter_of, waiters_from, woken, woken_on, world_of}
use Rattle.jr_monitors.specs.Stands.{Agree, KeepsRest, without_body}
use Rattle.jr_monitors.proofs.Numbers.{numbered_within, numbered_push, flip}
use Rattle.jr_monitors.proofs.Owning.{guest_is, guest_itself, object_is, object_itself}
use Rattle.jr_monitors.proofs.Rosters.{at-index, behind-one, kept-now, kept-set, parked-set, parked-now, guests-set, set_same, same_if}
use Rattle.jr_monitors.proofs.WaitSets.{nobody-leaves, waiters-all_leave, waiters-join, waiters-leave, waiters-push, waiters-same}
use Rattle.jr_monitors.proofs.Worlds.{count-same, started-same, agree-itself, got_map, map-append, numbered_map}

-- ---- who is asked

live_some : (o : Option Member) → option_map_or (λ (guest : Guest). not guest.ended) (option_map guest_as o) false ≡ true → (m : Member) × (o ≡ Some m)
live_some None live = absurd (true≢false (sym live))
live_some (Some m) live = (m, refl)

-- a live guest is one that was started
pub live-there : (r : Roster) (g : GuestNo) → IsTrue (is_live (world_of r) g) → (m : Member) × (numbered r.members g.0 ≡ Some m)
live-there r g live =
    live_some (numbered r.members g.0) (sym (ap (λ o. option_map_or (λ (guest : Guest). not guest.ended) o false) (numbered_map guest_as r.members g.0)) ∙ live)

pub live-number : (r : Roster) (g : GuestNo) → length r.members ≤ 16 → IsTrue (is_live (world_of r) g) → g.0 ≤ 16
live-number r g few live = let there = live-there r g live in let h = numbered_within r.members g.0 there.0 there.1 in omega (arith, few, h)

pub owning : (g : GuestNo) (found : Option Owner) (depth : Option ℕ) (d : ℕ) → Owning g found depth → depth ≡ Some d → (was : Owner) × (found ≡ Some was) × (was.guest ≡ g)
owning g found None d is e = absurd (cc)
owning g found (Some depth) d is e = (record { guest = g; depth = depth }, is, refl)

-- ---- two rosters that differ in one guest's stay

-- parking and room
pub rest-of : (r : Roster) (g : GuestNo) (stay : Option Stay) (m : Member) → numbered r.members g.0 ≡ Some m → (new : Roster)
    → Stays r.members g stay new.members → r.owned.spare ≤ new.owned.spare + 1 → KeepsRest r new
rest-of r g stay m is new stays spare = record {
  parked = λ other.
      ap (λ ms. parked_in ms other) (stays m is)
      ∙ (parked-set r.members g m (record m { stay = stay }) is other
      ∙ same_if (same_guest other g) _ _ (λ own. sym (parked-now r.members g m m is) ∙ ap (parked_in r.members) (sym (guest_is other g own))));
  spare = spare;
}

pub stands-set : (r : Roster) (g : GuestNo) (stay : Option Stay) (m : Member) → numbered r.members g.0 ≡ Some m
    → map guest_as (set r.members (g.0 - 1) (record m { stay = stay })) ≡ map guest_as r.members
stands-set r g stay m is =
    guests-set r.members g m (record m { stay = stay }) is
    ∙ set_same (map guest_as r.members) (g.0 - 1) (guest_as m) (got_map guest_as r.members (g.0 - 1) ∙ ap (option_map guest_as) (at-index r.members g m m is))

module _ (r : Roster) (g : GuestNo) (m : Member) (is : numbered r.members g.0 ≡ Some m) where
  at_one : record { 0 = 1 + (g.0 - 1) } ≡ g
  at_one = let e = behind-one r.members g m m is in ap (λ n. let x : GuestNo = record { 0 = n } in x) (sym e)

  -- it waits, and gives the monitor up
  module _ (object : ObjId) (depth : ℕ) (stage : Stage) (w : Waiter) (joins : waiter_at g stage ≡ Some w) (out : m.stay ≡ None) (new : Roster) where
    abbrev stay : Stay
    stay = record { object = object; depth = depth; stage = stage }

    its : w.guest ≡ g
    its = by stage joins
      where
        by : (s : Stage) → waiter_at g s ≡ Some w → w.guest ≡ g
        by Waits e = cc
        by WaitsForTime e = cc
        by Woken e = cc

    waiting-at : Stays r.members g (Some stay) new.members → (o : ObjId) (b : Bool) → same_object o object ≡ b
        → waiters_from 1 o new.members ≡ cond b (with_waiter w (waiters_from 1 object r.members)) (waiters_from 1 o r.members)
    waiting-at stays o true same =
        ap (waiters_from 1 o) (stays m is)
        ∙ (waiters-join w 1 o r.members (g.0 - 1) m (record m { stay = Some stay }) (at-index r.members g m m is)
        (ap (λ (x : GuestNo). x.0) its ∙ behind-one r.members g m m is)
        (ap (waiter_of o (record { 0 = 1 + (g.0 - 1) })) out)
        (ap (λ x. waiter_of o x (Some stay)) at_one ∙ (ap (λ b. cond b (waiter_at g stage) None) (flip object.0 o.0 ∙ same) ∙ joins))
        ∙ ap (λ x. with_waiter w (waiters_from 1 x r.members)) (object_is o object same))
    waiting-at stays o false other =
        ap (waiters_from 1 o) (stays m is)
        ∙ waiters-same 1 o r.members (g.0 - 1) m (record m { stay = Some stay }) (at-index r.members g m m is)
        (ap (λ b. cond b (waiter_at (record { 0 = 1 + (g.0 - 1) }) stage) None) (flip object.0 o.0 ∙ other)
        ∙ sym (ap (waiter_of o (record { 0 = 1 + (g.0 - 1) })) out))

    kept-at : Stays r.members g (Some stay) new.members → (o : ObjId) (x : GuestNo) (b c : Bool) → same_object o object ≡ b → same_guest x g ≡ c
        → kept_in new.members o x ≡ cond b (cond c (Some depth) (kept_in r.members object x)) (kept_in r.members o x)
    kept-at stays o x b c same own =
        ap (λ ms. kept_in ms o x) (stays m is) ∙ (kept-set r.members g m (record m { stay = Some stay }) is o x
        ∙ (ap (λ t. cond t (depth_for o (Some stay)) (kept_in r.members o x)) own ∙ by b c same own))
      where
        by : (b c : Bool) → same_object o object ≡ b → same_guest x g ≡ c
            → cond c (cond (same_object object o) (Some depth) None) (kept_in r.members o x) ≡ cond b (cond c (Some depth) (kept_in r.members object x)) (kept_in r.members o x)
        by true true same own = ap (λ t. cond t (Some depth) None) (flip object.0 o.0 ∙ same)
        by true false same own = ap (λ p. kept_in r.members p x) (object_is o object same)
        by false true same own =
            ap (λ t. cond t (Some depth) None) (flip object.0 o.0 ∙ same)
            ∙ sym (ap (kept_in r.members o) (guest_is x g own) ∙ (kept-now r.members g m m is o ∙ ap (depth_for o) out))
        by false false same own = refl

    abbrev after_wait : Monitor
    after_wait = record { hold = None; waiting = with_waiter w (waiters_from 1 object r.members); kept = λ x. cond (same_guest x w.guest) (Some depth) (kept_in r.members object x) }

    pub wait-agrees : Owns r.owned.owners object None new.owned.owners → Stays r.members g (Some stay) new.members
        → owner_in r.owned.owners object ≡ Some (record { guest = g; depth = depth })
        → Agree (world_of new) (wait (world_of r) w object (monitor_in r object) (hold_in r.owned.owners object) replies.Unit)
    wait-agrees owns stays was = subst (λ h. Agree (world_of new) (wait (world_of r) w object (monitor_in r object) h replies.Unit)) (sym (ap hold_by was)) (record {
      holds = λ o. ap hold_by (owns o) ∙ by_hold o (same_object o object);
      waiting = λ o. waiting-at stays o (same_object o object) refl ∙ by_waiting o (same_object o object);
      kept = λ o x.
          kept-at stays o x (same_object o object) (same_guest x g) refl refl
          ∙ (ap (λ y. cond (same_object o object) (cond (same_guest x y) (Some depth) (kept_in r.members object x)) (kept_in r.members o x)) (sym its)
          ∙ by_kept o x (same_object o object));
      guests = ap (map without_body) (ap (map guest_as) (stays m is) ∙ stands-set r g (Some stay) m is);
    })
      where
        by_hold : (o : ObjId) (b : Bool) → hold_by (cond b None (owner_in r.owned.owners o)) ≡ (cond b after_wait (monitor_in r o)).hold
        by_hold o true = refl
        by_hold o false = refl

        by_waiting : (o : ObjId) (b : Bool) → cond b (with_waiter w (waiters_from 1 object r.members)) (waiters_from 1 o r.members) ≡ (cond b after_wait (monitor_in r o)).waiting
        by_waiting o true = refl
        by_waiting o false = refl

        by_kept : (o : ObjId) (x : GuestNo) (b : Bool)
            → cond b (cond (same_guest x w.guest) (Some depth) (kept_in r.members object x)) (kept_in r.members o x) ≡ (cond b after_wait (monitor_in r o)).kept x
        by_kept o x true = refl
        by_kept o x false = refl

  -- it leaves its wait set
  pub wake-agrees : (stay : Stay) → m.stay ≡ Some stay → (new : Roster) → new.owned ≡ r.owned → Stays r.members g (Some (woken stay)) new.members
      → Agree (world_of new) (wake (world_of r) g)
  wake-agrees stay has new owned stays = record {
    holds = λ o. ap (λ (x : Owned). hold_in x.owners o) owned;
    waiting = λ o.
        ap (waiters_from 1 o) (stays m is)
        ∙ waiters-leave g 1 o r.members (g.0 - 1) m (record m { stay = Some (woken stay) }) (at-index r.members g m m is) (behind-one r.members g m m is) (gone o (same_object stay.object o));
    kept = λ o x.
        ap (λ ms. kept_in ms o x) (stays m is)
        ∙ (kept-set r.members g m (record m { stay = Some (woken stay) }) is o x
        ∙ same_if (same_guest x g) _ _ (λ own. sym (ap (kept_in r.members o) (guest_is x g own) ∙ (kept-now r.members g m m is o ∙ ap (depth_for o) has))));
    guests = ap (map without_body) (ap (map guest_as) (stays m is) ∙ stands-set r g (Some (woken stay)) m is);
  }
    where
      gone : (o : ObjId) (b : Bool) → cond {A = Option Waiter} b None None ≡ None
      gone o true = refl
      gone o false = refl

-- a guest that is in no wait set leaves none
pub wake-nobody : (r : Roster) (g : GuestNo) → ((m : Member) → numbered r.members g.0 ≡ Some m → m.stay ≡ None) → Agree (world_of r) (wake (world_of r) g)
wake-nobody r g out = record {
  holds = λ o. refl;
  waiting = λ o. sym (nobody-leaves g 1 o r.members (λ k m at is.
      let n : g.0 ≡ suc k = omega (arith, at) in
      ap (waiter_of o (record { 0 = 1 + k })) (out m (ap (numbered r.members) n ∙ is))));
  kept = λ o x. refl;
  guests = refl;
}

stands-woken : (object : ObjId) (ms : List Member) → map guest_as (map (woken_on object) ms) ≡ map guest_as ms
stands-woken object [] = refl
stands-woken object (m ∷ ms) = ap (λ l. guest_as m ∷ l) (stands-woken object ms)

abbrev emptied : Roster → ObjId → Monitor
emptied r object = record { hold = hold_in r.owned.owners object; waiting = []; kept = kept_in r.members object }

-- the wait set is emptied
pub wake_all-agrees : (r : Roster) (object : ObjId)
    → Agree (world_of (record r { members = map (woken_on object) r.members }))
    (with_monitor (world_of r) object (record { hold = hold_in r.owned.owners object; waiting = []; kept = kept_in r.members object }))
wake_all-agrees r object = record {
  holds = λ o. by_hold o (same_object o object) refl;
  waiting = λ o. waiters-all_leave 1 object o r.members ∙ by_waiting o (same_object o object);
  kept = λ o x. kept-all o x ∙ by_kept o x (same_object o object) refl;
  guests = ap (map without_body) (stands-woken object r.members);
}
  where
    by_hold : (o : ObjId) (b : Bool) → same_object o object ≡ b → hold_in r.owned.owners o ≡ (cond b (emptied r object) (monitor_in r o)).hold
    by_hold o true same = ap (hold_in r.owned.owners) (object_is o object same)
    by_hold o false same = refl

    by_waiting : (o : ObjId) (b : Bool) → cond b [] (waiters_from 1 o r.members) ≡ (cond b (emptied r object) (monitor_in r o)).waiting
    by_waiting o true = refl
    by_waiting o false = refl

    by_kept : (o : ObjId) (x : GuestNo) (b : Bool) → same_object o object ≡ b → kept_in r.members o x ≡ (cond b (emptied r object) (monitor_in r o)).kept x
    by_kept o x true same = ap (λ p. kept_in r.members p x) (object_is o object same)
    by_kept o x false same = refl

    same_depth : (o : ObjId) (b : Bool) (s : Stay) → depth_for o (Some (cond b (woken s) s)) ≡ depth_for o (Some s)
    same_depth o true s = refl
    same_depth o false s = refl

    same_stay : (o : ObjId) (s : Option Stay) → depth_for o (option_map (λ (s : Stay). cond (same_object s.object object) (woken s) s) s) ≡ depth_for o s
    same_stay o None = refl
    same_stay o (Some s) = same_depth o (same_object s.object object) s

    same_member : (o : ObjId) (m : Option Member) → option_map_or (λ (m : Member). depth_for o m.stay) (option_map (woken_on object) m) None ≡ option_map_or (λ (m : Member). depth_for o m.stay) m None
    same_member o None = refl
    same_member o (Some m) = same_stay o m.stay

    kept-all : (o : ObjId) (x : GuestNo) → kept_in (map (woken_on object) r.members) o x ≡ kept_in r.members o x
    kept-all o x = ap (λ m. option_map_or (λ (m : Member). depth_for o m.stay) m None) (numbered_map (woken_on object) r.members x.0) ∙ same_member o (numbered r.members x.0)

same_park : (object : ObjId) (o : Option Member)
    → option_map_or (λ (m : Member). option_map deed_at m.parked) (option_map (woken_on object) o) None ≡ option_map_or (λ (m : Member). option_map deed_at m.parked) o None
same_park object None = refl
same_park object (Some m) = refl

pub wake_all-rest : (r : Roster) (object : ObjId) → KeepsRest r (record r { members = map (woken_on object) r.members })
wake_all-rest r object = record {
  parked = λ g. ap (λ o. option_map_or (λ (m : Member). option_map deed_at m.parked) o None) (numbered_map (woken_on object) r.members g.0) ∙ same_park object (numbered r.members g.0);
  spare = omega arith;
}

-- ---- guests start and end

abbrev pub started : ObjId → Member
started object = record { object = Some object; ended = false; parked = None; stay = None }

pub start-agrees : (r : Roster) (object : ObjId)
    → Agree (world_of (record r { members = r.members ++ started object ∷ [] }))
    (record (world_of r) { guests = map guest_as r.members ++ record { object = Some object; body = None; ended = false } ∷ [] })
start-agrees r object = record {
  holds = λ o. refl;
  waiting = λ o. waiters-push 1 o r.members (started object) refl;
  kept = λ o x. numbered_push (λ (m : Member). depth_for o m.stay) r.members (started object) x.0 refl;
  guests = ap (map without_body) (map-append guest_as r.members (started object ∷ []));
}

pub start-rest : (r : Roster) (object : ObjId) → KeepsRest r (record r { members = r.members ++ started object ∷ [] })
start-rest r object = record {
  parked = λ g. numbered_push (λ (m : Member). option_map deed_at m.parked) r.members (started object) g.0 refl;
  spare = omega arith;
}

-- one that has no stay keeps none
pub start-kept : (members : List Member) (object o : ObjId) (g : GuestNo) → kept_in (members ++ started object ∷ []) o g ≡ kept_in members o g
start-kept members object o g = numbered_push (λ (m : Member). depth_for o m.stay) members (started object) g.0 refl

found_step : (b : Bool) (m : Member) (x : Option Guest) (y : Option Member) → x ≡ option_map guest_as y → cond b (Some (guest_as m)) x ≡ option_map guest_as (cond b (Some m) y)
found_step true m x y e = refl
found_step false m x y e = e

found_as : (object : ObjId) (ms : List Member) → find (runs_object object) (map guest_as ms) ≡ option_map guest_as (find (is_run_of object) ms)
found_as object [] = refl
found_as object (m ∷ ms) = found_step (is_run_of object m) m (find (runs_object object) (map guest_as ms)) (find (is_run_of object) ms) (found_as object ms)

-- the guest of a Thread object
pub run-is : (r : Roster) (object : ObjId) → guest_of (world_of r) object ≡ option_map guest_as (find (is_run_of object) r.members)
run-is r object = found_as object r.members

pub join-found : (r : Roster) (object : ObjId) (found : Option Member) → found ≡ find (is_run_of object) r.members → may_join (world_of r) object ≡ option_map_or (λ (m : Member). m.ended) found true
join-found r object found is =
    ap (λ o. option_map_or (λ (guest : Guest). guest.ended) o true) (run-is r object ∙ ap (option_map guest_as) (sym is)) ∙ by found
  where
    by : (o : Option Member) → option_map_or (λ (guest : Guest). guest.ended) (option_map guest_as o) true ≡ option_map_or (λ (m : Member). m.ended) o true
    by None = refl
    by (Some m) = refl

module _ (r : Roster) (g : GuestNo) (m : Member) (is : numbered r.members g.0 ≡ Some m) where
  pub end-agrees : Agree (world_of (record r { members = set r.members (g.0 - 1) (record m { ended = true }) })) (mark_ended (world_of r) g (guest_at (world_of r) g))
  end-agrees = subst (λ o. Agree (world_of (record r { members = set r.members (g.0 - 1) (record m { ended = true }) })) (mark_ended (world_of r) g o))
      (sym (numbered_map guest_as r.members g.0 ∙ ap (option_map guest_as) is)) (record {
        holds = λ o. refl;
        waiting = λ o. waiters-same 1 o r.members (g.0 - 1) m (record m { ended = true }) (at-index r.members g m m is) refl;
        kept = λ o x. kept-set r.members g m (record m { ended = true }) is o x ∙ same_if (same_guest x g) _ _ (λ own. sym (ap (kept_in r.members o) (guest_is x g own) ∙ kept-now r.members g m m is o));
        guests = ap (map without_body) (guests-set r.members g m (record m { ended = true }) is);
      })

  pub end-rest : KeepsRest r (record r { members = set r.members (g.0 - 1) (record m { ended = true }) })
  end-rest = record {
    parked = λ x. parked-set r.members g m (record m { ended = true }) is x ∙ same_if (same_guest x g) _ _ (λ own. sym (ap (parked_in r.members) (guest_is x g own) ∙ parked-now r.members g m m is));
    spare = omega arith;
  }

pub end-nobody : (r : Roster) (g : GuestNo) → numbered r.members g.0 ≡ None → Agree (world_of r) (mark_ended (world_of r) g (guest_at (world_of r) g))
end-nobody r g none = subst (λ o. Agree (world_of r) (mark_ended (world_of r) g o)) (sym (numbered_map guest_as r.members g.0 ∙ ap (option_map guest_as) none)) (agree-itself (world_of r))

pub owning-is : (g : GuestNo) (found : Option Owner) (depth : Option ℕ) (d : ℕ) → Owning g found depth → depth ≡ Some d → found ≡ Some (record { guest = g; depth = d })
owning-is g found None d is e = absurd (cc)
owning-is g found (Some depth) d is e = let same : depth ≡ d = cc in is ∙ ap (λ n. let o : Owner = record { guest = g; depth = n } in Some o) same

-- a guest that keeps a depth for no object has no stay
pub no-stay : (r : Roster) (g : GuestNo) (m : Member) → numbered r.members g.0 ≡ Some m → ((o : ObjId) → kept_in r.members o g ≡ None) → m.stay ≡ None
no-stay r g m is none = by m.stay (λ o. sym (kept-now r.members g m m is o) ∙ none o)
  where
    by : (s : Option Stay) → ((o : ObjId) → depth_for o s ≡ None) → s ≡ None
    by None f = refl
    by (Some s) f = absurd (let e = sym (ap (λ b. cond b (Some s.depth) None) (object_itself s.object)) ∙ f s.object in (cc))

-- ---- a guest is started

pub started-is : (r : Roster) (object : ObjId) (found : Option Member) (b : Bool) → found ≡ find (is_run_of object) r.members → is_some found ≡ b → is_some (guest_of (world_of r) object) ≡ b
started-is r object found b is has = ap is_some (run-is r object ∙ ap (option_map guest_as) (sym is)) ∙ (by found ∙ has)
  where
    by : (o : Option Member) → is_some (option_map guest_as o) ≡ is_some o
    by None = refl
    by (Some m) = refl

pub room-to-start : (n : ℕ) (o : Option Guest) → MayStart n o → is_some o ≡ false → n < 16
room-to-start n None may none = may
room-to-start n (Some g) may none = absurd (true≢false none)

none-numbered : {A : Type 0} (n : ℕ) → numbered {A = A} [] n ≡ None
none-numbered zero = refl
none-numbered (suc n) = refl

no-body : (program : Program) (r : Roster) (object : ObjId) → body_for program (world_of r) object ≡ None
no-body program r object = ap (body_by program (world_of r) object) (none-numbered object.0)

count-as : (ms : List Member) → length (map guest_as ms) ≡ length ms
count-as [] = refl
count-as (m ∷ ms) = ap suc (count-as ms)

pub start-refused : (program : Program) (r : Roster) (object : ObjId) → is_some (guest_of (world_of r) object) ≡ true → replies.Illegal ≡ start_reply program (world_of r) object
start-refused program r object has = sym (ap (λ b. cond b replies.Illegal (replies.Started (record { 0 = length (map guest_as r.members) + 1 }) (body_for program (world_of r) object))) has)

pub start-replied : (program : Program) (r : Roster) (object : ObjId) (g : GuestNo) → is_some (guest_of (world_of r) object) ≡ false → g.0 ≡ length r.members + 1
    → replies.Started g None ≡ start_reply program (world_of r) object
start-replied program r object g none number =
    let n : g.0 ≡ length (map guest_as r.members) + 1 = number ∙ ap (λ k. k + 1) (sym (count-as r.members)) in
    ap (λ k. let x : GuestNo = record { 0 = k } in replies.Started x None) n
    ∙ (ap (λ b. let x : GuestNo = record { 0 = length (map guest_as r.members) + 1 } in replies.Started x b) (sym (no-body program r object))
    ∙ sym (ap (λ b. cond b replies.Illegal (replies.Started (record { 0 = length (map guest_as r.members) + 1 }) (body_for program (world_of r) object))) none))

-- ---- an owner

pub owning-holds : (g : GuestNo) (found : Option Owner) (depth : Option ℕ) → Owning g found depth → is_some depth ≡ true → holds g (hold_by found) ≡ true
owning-holds g found None is some = absurd (true≢false (sym some))
owning-holds g found (Some d) is some = ap (λ o. holds g (hold_by o)) is ∙ guest_itself g

-- ---- what fits stays so

may-start-same : (n m : ℕ) (a b : Option Guest) → m ≡ n → is_some a ≡ is_some b → MayStart m b → MayStart n a
may-start-same n m None None count same may = omega (arith, count, may)
may-start-same n m None (Some g) count same may = absurd (true≢false (sym same))
may-start-same n m (Some g) b count same may = tt

pub fits-same : (a b : Roster) → a.owned ≡ b.owned → Agree (world_of a) (world_of b) → (g : GuestNo) (deed : Deed) → Fits b g deed → Fits a g deed
fits-same a b owned agree g (Enter object way) fits = subst (λ (o : Owned). MayEnter (locks_at o.locks g) (hold_in o.owners object)) (sym owned) fits
fits-same a b owned agree g (Resume object) fits = subst (λ (o : Owned). length (locks_at o.locks g) < 64) (sym owned) fits
fits-same a b owned agree g (Start object) fits =
    let count = sym (count-as b.members) ∙ (sym (count-same (world_of a) (world_of b) agree) ∙ count-as a.members) in
    may-start-same (length a.members) (length b.members) (guest_of (world_of a) object) (guest_of (world_of b) object) count (started-same (world_of a) (world_of b) agree object) fits
fits-same a b owned agree g deed fits = tt
