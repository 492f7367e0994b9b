-- Who is in a wait set, and what a notification does to what a roster shows.
use Rattle.std.proofs.Common.{◌≡◌, ◌≢◌, ◌<◌, ◌+◌, ◌-◌, ℕ, zero, suc, Bool, true, false, not, cond, ◌&&◌, ◌||◌, eq-eqb, ne_eqb, true≢false, IsSome, List, [], ◌∷◌, ◌++◌, map, slice_get, option_to_list, Option, Some, None, is_some, refl, sym, ◌∙◌, ap, subst, arith}
use Rattle.jr_base.specs.declared.number.ObjId.{ObjId}
use Rattle.jr_base.specs.declared.number.GuestNo.{GuestNo}
use Rattle.jr_base.specs.declared.action.Reply.TheVariants as replies
use Rattle.jr_program.specs.Programs.{numbered}
use Rattle.jr_meaning.specs.World.{Hold, Monitor, Waiter, same_guest, same_object}
use Rattle.jr_meaning.specs.Machine.{Allows, holds, is_among, is_timed, is_waiting, may_resume, notify_answer, resume, wake, with_monitor, without_guest}
use Rattle.jr_monitors.specs.declared.member.Member.{Member}
use Rattle.jr_monitors.specs.declared.member.Owner.{Owner}
use Rattle.jr_monitors.specs.declared.member.Stay.{Stay}
use Rattle.jr_monitors.specs.declared.member.Stage.{Stage}
use Rattle.jr_monitors.specs.declared.member.Stage.TheVariants.{Waits, WaitsForTime, Woken}
use Rattle.jr_monitors.specs.Roster.{Roster, AreApart, Owns, Stays, depth_for, guest_as, hold_by, hold_in, is_in_set, is_woken_on, kept_in, monitor_in, owner_in, waiter_at, waiter_of, waiters_from, world_of}
use Rattle.jr_monitors.specs.Stands.{Agree, without_body}
use Rattle.jr_monitors.proofs.Numbers.{flip}
use Rattle.jr_monitors.proofs.Owning.{guest_is, guest_itself, object_is}
use Rattle.jr_monitors.proofs.Rosters.{at-index, behind-one, kept-now, kept-set}
use Rattle.jr_monitors.proofs.Steps.{stands-set}
use Rattle.jr_monitors.proofs.WaitSets.{IsOf, numbers_from, nobody-leaves, waiter_number, waiters-same}

abbrev number : ℕ → GuestNo
number n = record { 0 = n }

-- ---- who is in a wait set

other-in : (g : GuestNo) (x : Option Waiter) (ws : List Waiter) (n : ℕ) → IsOf (number n) x → g.0 ≢ n → is_waiting g (option_to_list x ++ ws) ≡ is_waiting g ws
other-in g None ws n of other = refl
other-in g (Some x) ws n of other = ap (λ b. b || is_waiting g ws) (ne_eqb g.0 x.guest.0 (λ same. other (same ∙ ap (λ (y : GuestNo). y.0) of)))

own-in : (g : GuestNo) (x : Option Waiter) (ws : List Waiter) (n : ℕ) → IsOf (number n) x → g.0 ≡ n → is_waiting g ws ≡ false → is_waiting g (option_to_list x ++ ws) ≡ is_some x
own-in g None ws n of same out = out
own-in g (Some x) ws n of same out = ap (λ b. b || is_waiting g ws) (eq-eqb g.0 x.guest.0 (same ∙ sym (ap (λ (y : GuestNo). y.0) of)))

not-later : (g : GuestNo) (n : ℕ) (object : ObjId) (members : List Member) → g.0 < n → is_waiting g (waiters_from n object members) ≡ false
not-later g n object [] lt = refl
not-later g n object (m ∷ members) lt =
    other-in g (waiter_of object (number n) m.stay) (waiters_from (suc n) object members) n (waiter_number object (number n) m.stay) (λ e. omega (arith, e, lt))
    ∙ not-later g (suc n) object members (omega (arith, lt))

waiting-from : (g : GuestNo) (n : ℕ) (object : ObjId) (members : List Member) (k : ℕ) (m : Member) → slice_get members k ≡ Some m → g.0 ≡ n + k
    → is_waiting g (waiters_from n object members) ≡ is_some (waiter_of object (number (n + k)) m.stay)
waiting-from g n object [] k m is at = cc
waiting-from g n object (x ∷ members) zero m is at =
    let e : n ≡ n + 0 = omega arith in
    let same : x ≡ m = cc in
    own-in g (waiter_of object (number n) x.stay) (waiters_from (suc n) object members) n (waiter_number object (number n) x.stay) (omega (arith, at))
    (not-later g (suc n) object members (omega (arith, at)))
    ∙ (ap (λ i. is_some (waiter_of object (number i) x.stay)) e ∙ ap (λ (y : Member). is_some (waiter_of object (number (n + 0)) y.stay)) same)
waiting-from g n object (x ∷ members) (suc k) m is at =
    let e : n + suc k ≡ suc n + k = omega arith in
    other-in g (waiter_of object (number n) x.stay) (waiters_from (suc n) object members) n (waiter_number object (number n) x.stay) (λ same. omega (arith, at, same))
    ∙ (waiting-from g (suc n) object members k m is (at ∙ e) ∙ ap (λ i. is_some (waiter_of object (number i) m.stay)) (sym e))

module _ (r : Roster) (g : GuestNo) (m : Member) (is : numbered r.members g.0 ≡ Some m) where
  one-on : number (1 + (g.0 - 1)) ≡ g
  one-on = let e = behind-one r.members g m m is in ap (λ n. let x : GuestNo = record { 0 = n } in x) (sym e)

  -- a guest is in the object's wait set where its stay says so
  pub waiting-is : (object : ObjId) → is_waiting g (waiters_from 1 object r.members) ≡ is_some (waiter_of object g m.stay)
  waiting-is object =
      waiting-from g 1 object r.members (g.0 - 1) m (at-index r.members g m m is) (behind-one r.members g m m is)
      ∙ ap (λ x. is_some (waiter_of object x m.stay)) one-on

  -- it keeps a depth, and is out of the wait set
  pub was-woken : (object : ObjId) → is_woken_on object m.stay ≡ (is_some (kept_in r.members object g) && not (is_waiting g (waiters_from 1 object r.members)))
  was-woken object =
      at_stay m.stay
      ∙ sym (ap (λ w. is_some (kept_in r.members object g) && not w) (waiting-is object)
      ∙ ap (λ k. is_some k && not (is_some (waiter_of object g m.stay))) (kept-now r.members g m m is object))
    where
      in_stage : (s : Stage) → not (is_in_set s) ≡ not (is_some (waiter_at g s))
      in_stage Waits = refl
      in_stage WaitsForTime = refl
      in_stage Woken = refl

      on : (b : Bool) (s : Stage) (d : ℕ) → (b && not (is_in_set s)) ≡ (is_some (cond b (Some d) None) && not (is_some (cond b (waiter_at g s) None)))
      on true s d = in_stage s
      on false s d = refl

      at_stay : (s : Option Stay) → is_woken_on object s ≡ (is_some (depth_for object s) && not (is_some (waiter_of object g s)))
      at_stay None = refl
      at_stay (Some s) = on (same_object s.object object) s.stage s.depth

  and_true : (b : Bool) → b ≡ (b && true)
  and_true true = refl
  and_true false = refl

  -- nobody owns the monitor: so a guest that was woken may take it again
  pub may-resume : (object : ObjId) → hold_in r.owned.owners object ≡ None → is_woken_on object m.stay ≡ may_resume g (monitor_in r object)
  may-resume object free =
      was-woken object
      ∙ (and_true (is_some (kept_in r.members object g) && not (is_waiting g (waiters_from 1 object r.members)))
      ∙ sym (ap (λ h. is_some (kept_in r.members object g) && not (is_waiting g (waiters_from 1 object r.members)) && not (is_some h)) free))

  -- it owns the monitor again, as often as before
  module _ (object : ObjId) (stay : Stay) (has : m.stay ≡ Some stay) (ready : may_resume g (monitor_in r object) ≡ true) where
    free_of : (a b c : Bool) → (a && b && not c) ≡ true → c ≡ false
    free_of true true false e = refl
    free_of true true true e = cc
    free_of true false c e = cc
    free_of false b c e = cc

    unheld : is_some (hold_in r.owned.owners object) ≡ false
    unheld = free_of (is_some (kept_in r.members object g)) (not (is_waiting g (waiters_from 1 object r.members))) (is_some (hold_in r.owned.owners object)) ready

    held_none : (h : Option Hold) → is_some h ≡ false → h ≡ None
    held_none None e = refl
    held_none (Some h) e = absurd (true≢false e)

    woken-here : is_woken_on object (Some stay) ≡ true
    woken-here = sym (ap (is_woken_on object) has) ∙ (may-resume object (held_none (hold_in r.owned.owners object) unheld) ∙ ready)

    left_true : (a b : Bool) → (a && b) ≡ true → a ≡ true
    left_true true b e = refl
    left_true false b e = cc

    right_true : (a b : Bool) → (a && b) ≡ true → b ≡ true
    right_true true b e = e
    right_true false b e = cc

    here : same_object stay.object object ≡ true
    here = left_true (same_object stay.object object) (not (is_in_set stay.stage)) woken-here

    no_waiter : (s : Stage) → not (is_in_set s) ≡ true → (x : GuestNo) → waiter_at x s ≡ None
    no_waiter Waits e x = cc
    no_waiter WaitsForTime e x = cc
    no_waiter Woken e x = refl

    in_none : (o : ObjId) (x : GuestNo) → waiter_of o x m.stay ≡ None
    in_none o x = ap (waiter_of o x) has ∙ none_if (same_object stay.object o) (no_waiter stay.stage (right_true (same_object stay.object object) (not (is_in_set stay.stage)) woken-here) x)
      where
        none_if : (b : Bool) {w : Option Waiter} → w ≡ None → cond b w None ≡ None
        none_if true e = e
        none_if false e = refl

    pub kept-is : kept_in r.members object g ≡ Some stay.depth
    kept-is = kept-now r.members g m m is object ∙ (ap (depth_for object) has ∙ ap (λ b. cond b (Some stay.depth) None) here)

    abbrev resumed : Monitor
    resumed = record { hold = Some (record { guest = g; depth = stay.depth }); waiting = waiters_from 1 object r.members; kept = λ x. cond (same_guest x g) None (kept_in r.members object x) }

    elsewhere : (o : ObjId) → same_object o object ≡ false → depth_for o m.stay ≡ None
    elsewhere o other = ap (depth_for o) has ∙ ap (λ b. cond b (Some stay.depth) None) (ap (λ (p : ObjId). same_object p o) (object_is stay.object object here) ∙ (flip object.0 o.0 ∙ other))

    pub resume-agrees : (new : Roster) → Owns r.owned.owners object (Some (record { guest = g; depth = stay.depth })) new.owned.owners → Stays r.members g None new.members
        → Agree (world_of new) (resume (world_of r) g object (monitor_in r object) (kept_in r.members object g))
    resume-agrees new owns stays = subst (λ k. Agree (world_of new) (resume (world_of r) g object (monitor_in r object) k)) (sym kept-is) (record {
      holds = λ o. ap hold_by (owns o) ∙ by_hold o (same_object o object);
      waiting = λ o. same_waiters o ∙ by_waiting o (same_object o object) refl;
      kept = λ o x. ap (λ ms. kept_in ms o x) (stays m is) ∙ (kept-set r.members g m (record m { stay = None }) is o x ∙ by_kept o x (same_object o object) (same_guest x g) refl refl);
      guests = ap (map without_body) (ap (map guest_as) (stays m is) ∙ stands-set r g None m is);
    })
      where
        same_waiters : (o : ObjId) → waiters_from 1 o new.members ≡ waiters_from 1 o r.members
        same_waiters o =
            ap (waiters_from 1 o) (stays m is)
            ∙ waiters-same 1 o r.members (g.0 - 1) m (record m { stay = None }) (at-index r.members g m m is) (sym (in_none o (number (1 + (g.0 - 1)))))

        by_hold : (o : ObjId) (b : Bool) → hold_by (cond b (Some (record { guest = g; depth = stay.depth })) (owner_in r.owned.owners o)) ≡ (cond b resumed (monitor_in r o)).hold
        by_hold o true = refl
        by_hold o false = refl

        by_waiting : (o : ObjId) (b : Bool) → same_object o object ≡ b → waiters_from 1 o r.members ≡ (cond b resumed (monitor_in r o)).waiting
        by_waiting o true same = ap (λ p. waiters_from 1 p r.members) (object_is o object same)
        by_waiting o false same = refl

        by_kept : (o : ObjId) (x : GuestNo) (b c : Bool) → same_object o object ≡ b → same_guest x g ≡ c
            → cond (same_guest x g) None (kept_in r.members o x) ≡ (cond b resumed (monitor_in r o)).kept x
        by_kept o x true c same own = ap (λ p. cond (same_guest x g) None (kept_in r.members p x)) (object_is o object same)
        by_kept o x false true same own =
            ap (λ t. cond t None (kept_in r.members o x)) own
            ∙ sym (ap (kept_in r.members o) (guest_is x g own) ∙ (kept-now r.members g m m is o ∙ elsewhere o same))
        by_kept o x false false same own = ap (λ t. cond t None (kept_in r.members o x)) own

-- ---- a notification

record Waiting (object : ObjId) (members : List Member) (n x : ℕ) : Type 0 where
  place : ℕ
  member : Member
  is : slice_get members place ≡ Some member
  at : x ≡ n + place
  waits : is_some (waiter_of object (number x) member.stay) ≡ true

first-waits : (object : ObjId) (m : Member) (members : List Member) (n x : ℕ) (w : Option Waiter) (ws : List Waiter) (i : ℕ) → IsOf (number n) w
    → waiter_of object (number n) m.stay ≡ w
    → ((j : ℕ) → slice_get (map (λ (w : Waiter). w.guest.0) ws) j ≡ Some x → Waiting object members (suc n) x)
    → slice_get (map (λ (w : Waiter). w.guest.0) (option_to_list w ++ ws)) i ≡ Some x → Waiting object (m ∷ members) n x
first-waits object m members n x None ws i of same rest found =
    let w = rest i found in
    record { place = suc w.place; member = w.member; is = w.is; at = (let a = w.at in omega (arith, a)); waits = w.waits }
first-waits object m members n x (Some w) ws zero of same rest found =
    let e : w.guest.0 ≡ x = cc in
    let nx : x ≡ n = sym e ∙ ap (λ (y : GuestNo). y.0) of in
    record { place = 0; member = m; is = refl; at = (omega (arith, nx)); waits = ap (λ k. is_some (waiter_of object (number k) m.stay)) nx ∙ ap is_some same }
first-waits object m members n x (Some w) ws (suc i) of same rest found =
    let w' = rest i found in
    record { place = suc w'.place; member = w'.member; is = w'.is; at = (let a = w'.at in omega (arith, a)); waits = w'.waits }

waits-there : (object : ObjId) (members : List Member) (n i x : ℕ) → slice_get (numbers_from n object members) i ≡ Some x → Waiting object members n x
waits-there object [] n i x found = cc
waits-there object (m ∷ members) n i x found =
    first-waits object m members n x (waiter_of object (number n) m.stay) (waiters_from (suc n) object members) i (waiter_number object (number n) m.stay) refl
    (λ j f. waits-there object members (suc n) j x f) found

-- the guest of a number in the wait set
pub record WaitsOn (r : Roster) (object : ObjId) (g : GuestNo) : Type 0 where
  pub member : Member
  pub is : numbered r.members g.0 ≡ Some member
  pub waits : is_some (waiter_of object g member.stay) ≡ true

pub waits-on : (r : Roster) (object : ObjId) (i x : ℕ) → slice_get (numbers_from 1 object r.members) i ≡ Some x → WaitsOn r object (number x)
waits-on r object i x found =
    let w = waits-there object r.members 1 i x found in
    let e : x ≡ suc w.place = (let a = w.at in omega (arith, a)) in
    record { member = w.member; is = ap (numbered r.members) e ∙ w.is; waits = w.waits }

among : (ws : List Waiter) (i x : ℕ) → slice_get (map (λ (w : Waiter). w.guest.0) ws) i ≡ Some x → is_among (number x) (map (λ (w : Waiter). w.guest) ws) ≡ true
among [] i x found = cc
among (w ∷ ws) zero x found = let e : w.guest.0 ≡ x = cc in ap (λ b. b || is_among (number x) (map (λ (w : Waiter). w.guest) ws)) (eq-eqb x w.guest.0 (sym e))
among (w ∷ ws) (suc i) x found = or_right (same_guest (number x) w.guest) (among ws i x found)
  where
    or_right : (a : Bool) {b : Bool} → b ≡ true → (a || b) ≡ true
    or_right true e = refl
    or_right false e = e

pub notify-allows : (ws : List Waiter) (i x : ℕ) → slice_get (map (λ (w : Waiter). w.guest.0) ws) i ≡ Some x → Allows (notify_answer true ws) (replies.Woke (number x))
notify-allows [] i x found = cc
notify-allows (w ∷ ws) i x found = (number x, refl, among (w ∷ ws) i x found)

pub picked-is : (ws : List Waiter) (i x : ℕ) → slice_get (map (λ (w : Waiter). w.guest.0) ws) i ≡ Some x → slice_get (map (λ (w : Waiter). w.guest) ws) i ≡ Some (number x)
picked-is [] i x found = cc
picked-is (w ∷ ws) zero x found = let e : w.guest.0 ≡ x = cc in ap (λ n. Some (number n)) e
picked-is (w ∷ ws) (suc i) x found = picked-is ws i x found

-- a guest that waits for an object waits for no other
pub woke-agrees : (r : Roster) (object : ObjId) (g : GuestNo) → WaitsOn r object g
    → Agree (wake (world_of r) g)
    (with_monitor (world_of r) object (record { hold = hold_in r.owned.owners object; waiting = without_guest g (waiters_from 1 object r.members); kept = kept_in r.members object }))
woke-agrees r object g on = record {
  holds = λ o. by_hold o (same_object o object) refl;
  waiting = λ o. by_waiting o (same_object o object) refl;
  kept = λ o x. by_kept o x (same_object o object) refl;
  guests = refl;
}
  where
    by_hold : (o : ObjId) (b : Bool) → same_object o object ≡ b → hold_in r.owned.owners o
        ≡ (cond b (record { hold = hold_in r.owned.owners object; waiting = without_guest g (waiters_from 1 object r.members); kept = kept_in r.members object }) (monitor_in r o)).hold
    by_hold o true same = ap (hold_in r.owned.owners) (object_is o object same)
    by_hold o false same = refl

    by_kept : (o : ObjId) (x : GuestNo) (b : Bool) → same_object o object ≡ b → kept_in r.members o x
        ≡ (cond b (record { hold = hold_in r.owned.owners object; waiting = without_guest g (waiters_from 1 object r.members); kept = kept_in r.members object }) (monitor_in r o)).kept x
    by_kept o x true same = ap (λ p. kept_in r.members p x) (object_is o object same)
    by_kept o x false same = refl

    stay_else : (o : ObjId) (s : Option Stay) (x : GuestNo) → same_object o object ≡ false → is_some (waiter_of object g s) ≡ true → waiter_of o x s ≡ None
    stay_else o None x other waits = refl
    stay_else o (Some s) x other waits = at (same_object s.object object) refl waits
      where
        at : (b : Bool) → same_object s.object object ≡ b → is_some (cond b (waiter_at g s.stage) None) ≡ true → waiter_of o x (Some s) ≡ None
        at true same w = ap (λ b. cond b (waiter_at x s.stage) None) (ap (λ (p : ObjId). same_object p o) (object_is s.object object same) ∙ (flip object.0 o.0 ∙ other))
        at false same w = absurd (true≢false (sym w))

    by_waiting : (o : ObjId) (b : Bool) → same_object o object ≡ b → without_guest g (waiters_from 1 o r.members)
        ≡ (cond b (record { hold = hold_in r.owned.owners object; waiting = without_guest g (waiters_from 1 object r.members); kept = kept_in r.members object }) (monitor_in r o)).waiting
    by_waiting o true same = ap (λ p. without_guest g (waiters_from 1 p r.members)) (object_is o object same)
    by_waiting o false same = nobody-leaves g 1 o r.members (λ k m at is.
        let n : g.0 ≡ suc k = omega (arith, at) in
        let it : Some m ≡ Some on.member = sym (ap (numbered r.members) n ∙ is) ∙ on.is in
        let e : m ≡ on.member = cc in
        stay_else o m.stay (number (1 + k)) same (ap (λ (y : Member). is_some (waiter_of object g y.stay)) e ∙ on.waits))

pub no-owner : (r : Roster) (object : ObjId) (found : Option Owner) → found ≡ owner_in r.owned.owners object → is_some found ≡ false → hold_in r.owned.owners object ≡ None
no-owner r object found is none = by found is none
  where
    by : (o : Option Owner) → o ≡ owner_in r.owned.owners object → is_some o ≡ false → hold_in r.owned.owners object ≡ None
    by None e f = ap hold_by (sym e)
    by (Some o) e f = absurd (true≢false f)

-- a guest without a stay may own the monitor
pub take-apart : (owners after : List (ℕ × Owner)) (members : List Member) (g : GuestNo) (object : ObjId) (depth : ℕ) → AreApart owners members
    → ((o : ObjId) → kept_in members o g ≡ None) → Owns owners object (Some (record { guest = g; depth = depth })) after → AreApart after members
take-apart owners after members g object depth apart none owns x o has =
    ap (λ w. holds x (hold_by w)) (owns o) ∙ by (same_object o object) (same_guest x g) refl
  where
    by : (b c : Bool) → same_guest x g ≡ c → holds x (hold_by (cond b (Some (record { guest = g; depth = depth })) (owner_in owners o))) ≡ false
    by false c own = apart x o has
    by true true own = absurd (let e = subst IsSome (ap (kept_in members o) (guest_is x g own) ∙ none o) has in (cc))
    by true false own = flip g.0 x.0 ∙ own

pub stay-none : (members new : List Member) (g : GuestNo) (m : Member) → numbered members g.0 ≡ Some m → Stays members g None new → (o : ObjId) → kept_in new o g ≡ None
stay-none members new g m is stays o =
    ap (λ ms. kept_in ms o g) (stays m is) ∙ (kept-set members g m (record m { stay = None }) is o g ∙ ap (λ b. cond b None (kept_in members o g)) (guest_itself g))

-- ---- who waits for some time only

abbrev pub timed_of : Option Waiter → Bool
timed_of None = false
timed_of (Some w) = w.is_timed

other-timed : (g : GuestNo) (x : Option Waiter) (ws : List Waiter) (n : ℕ) → IsOf (number n) x → g.0 ≢ n → is_timed g (option_to_list x ++ ws) ≡ is_timed g ws
other-timed g None ws n of other = refl
other-timed g (Some x) ws n of other = ap (λ b. (b && x.is_timed) || is_timed g ws) (ne_eqb g.0 x.guest.0 (λ same. other (same ∙ ap (λ (y : GuestNo). y.0) of)))

or_false : (b : Bool) → (b || false) ≡ b
or_false true = refl
or_false false = refl

own-timed : (g : GuestNo) (x : Option Waiter) (ws : List Waiter) (n : ℕ) → IsOf (number n) x → g.0 ≡ n → is_timed g ws ≡ false → is_timed g (option_to_list x ++ ws) ≡ timed_of x
own-timed g None ws n of same out = out
own-timed g (Some x) ws n of same out =
    ap (λ b. (b && x.is_timed) || is_timed g ws) (eq-eqb g.0 x.guest.0 (same ∙ sym (ap (λ (y : GuestNo). y.0) of)))
    ∙ (ap (λ b. x.is_timed || b) out ∙ or_false x.is_timed)

not-later-timed : (g : GuestNo) (n : ℕ) (object : ObjId) (members : List Member) → g.0 < n → is_timed g (waiters_from n object members) ≡ false
not-later-timed g n object [] lt = refl
not-later-timed g n object (m ∷ members) lt =
    other-timed g (waiter_of object (number n) m.stay) (waiters_from (suc n) object members) n (waiter_number object (number n) m.stay) (λ e. omega (arith, e, lt))
    ∙ not-later-timed g (suc n) object members (omega (arith, lt))

timed-from : (g : GuestNo) (n : ℕ) (object : ObjId) (members : List Member) (k : ℕ) (m : Member) → slice_get members k ≡ Some m → g.0 ≡ n + k
    → is_timed g (waiters_from n object members) ≡ timed_of (waiter_of object (number (n + k)) m.stay)
timed-from g n object [] k m is at = cc
timed-from g n object (x ∷ members) zero m is at =
    let e : n ≡ n + 0 = omega arith in
    let same : x ≡ m = cc in
    own-timed g (waiter_of object (number n) x.stay) (waiters_from (suc n) object members) n (waiter_number object (number n) x.stay) (omega (arith, at))
    (not-later-timed g (suc n) object members (omega (arith, at)))
    ∙ (ap (λ i. timed_of (waiter_of object (number i) x.stay)) e ∙ ap (λ (y : Member). timed_of (waiter_of object (number (n + 0)) y.stay)) same)
timed-from g n object (x ∷ members) (suc k) m is at =
    let e : n + suc k ≡ suc n + k = omega arith in
    other-timed g (waiter_of object (number n) x.stay) (waiters_from (suc n) object members) n (waiter_number object (number n) x.stay) (λ same. omega (arith, at, same))
    ∙ (timed-from g (suc n) object members k m is (at ∙ e) ∙ ap (λ i. timed_of (waiter_of object (number i) m.stay)) (sym e))

pub timed-is : (r : Roster) (g : GuestNo) (m : Member) → numbered r.members g.0 ≡ Some m → (object : ObjId)
    → is_timed g (waiters_from 1 object r.members) ≡ timed_of (waiter_of object g m.stay)
timed-is r g m is object =
    timed-from g 1 object r.members (g.0 - 1) m (at-index r.members g m m is) (behind-one r.members g m m is)
    ∙ ap (λ x. timed_of (waiter_of object x m.stay)) (one-on r g m is)

none-from : (g : GuestNo) (n : ℕ) (object : ObjId) (members : List Member) → ((k : ℕ) (m : Member) → g.0 ≡ n + k → slice_get members k ≡ Some m → ⊥)
    → is_timed g (waiters_from n object members) ≡ false
none-from g n object [] out = refl
none-from g n object (m ∷ members) out =
    other-timed g (waiter_of object (number n) m.stay) (waiters_from (suc n) object members) n (waiter_number object (number n) m.stay)
    (λ same. let e : n + 0 ≡ n = omega arith in out 0 m (same ∙ sym e) refl)
    ∙ none-from g (suc n) object members (λ k x at is. let e : n + suc k ≡ suc n + k = omega arith in out (suc k) x (at ∙ sym e) is)

pub timed-none : (r : Roster) (g : GuestNo) → numbered r.members g.0 ≡ None → (object : ObjId) → is_timed g (waiters_from 1 object r.members) ≡ false
timed-none r g none object = none-from g 1 object r.members (λ k m at is.
    let n : g.0 ≡ suc k = omega (arith, at) in
    let e : Some m ≡ None = sym is ∙ (sym (ap (numbered r.members) n) ∙ none) in cc)

none-waiting : (g : GuestNo) (n : ℕ) (object : ObjId) (members : List Member) → ((k : ℕ) (m : Member) → g.0 ≡ n + k → slice_get members k ≡ Some m → ⊥)
    → is_waiting g (waiters_from n object members) ≡ false
none-waiting g n object [] out = refl
none-waiting g n object (m ∷ members) out =
    other-in g (waiter_of object (number n) m.stay) (waiters_from (suc n) object members) n (waiter_number object (number n) m.stay)
    (λ same. let e : n + 0 ≡ n = omega arith in out 0 m (same ∙ sym e) refl)
    ∙ none-waiting g (suc n) object members (λ k x at is. let e : n + suc k ≡ suc n + k = omega arith in out (suc k) x (at ∙ sym e) is)

pub waiting-none : (r : Roster) (g : GuestNo) → numbered r.members g.0 ≡ None → (object : ObjId) → is_waiting g (waiters_from 1 object r.members) ≡ false
waiting-none r g none object = none-waiting g 1 object r.members (λ k m at is.
    let n : g.0 ≡ suc k = omega (arith, at) in
    let e : Some m ≡ None = sym is ∙ (sym (ap (numbered r.members) n) ∙ none) in cc)
