-- Laws of who owns which monitor.
use Rattle.std.proofs.Common.{◌≡◌, ◌<◌, ◌≤◌, ◌+◌, ◌-◌, inl, inr, ◌↔◌, ℕ, zero, suc, Bool, true, false, cond, eqb-true, eq-eqb, true≢false, IsTrue, List, [], ◌∷◌, ◌++◌, length, get_or, set, length-set, slice_get, replicate, Contains, Option, Some, None, unwrap_or, refl, sym, ◌∙◌, ap, subst, arith}
use Rattle.std.specs.Map.{lookup}
use Rattle.std.specs.Prelude.{nat_eq}
use Rattle.std.proofs.lemmas.Option.{unwrap_or-slice_get}
use Rattle.jr_base.specs.declared.number.ObjId.{ObjId}
use Rattle.jr_base.specs.declared.number.GuestNo.{GuestNo}
use Rattle.jr_base.specs.Rising.{HasAlso}
use Rattle.jr_program.specs.Programs.{numbered}
use Rattle.jr_monitors.proofs.Numbers.{numbered_is, numbered_set, numbered_within, numbered_above, at_any, flip}
use Rattle.jr_meaning.specs.World.{same_object, same_guest}
use Rattle.jr_meaning.specs.Machine.{holds}
use Rattle.jr_monitors.specs.declared.member.Owner.{Owner}
use Rattle.jr_monitors.specs.Roster.{hold_by, hold_in, owner_in, locks_at, AreLocks, Owns, Without}

-- ---- numbers

pub object_is : (a b : ObjId) → same_object a b ≡ true → a ≡ b
object_is a b same = ap (λ n. let o : ObjId = record { 0 = n } in o) (eqb-true a.0 b.0 same)

pub guest_is : (a b : GuestNo) → same_guest a b ≡ true → a ≡ b
guest_is a b same = ap (λ n. let g : GuestNo = record { 0 = n } in g) (eqb-true a.0 b.0 same)

pub guest_itself : (g : GuestNo) → same_guest g g ≡ true
guest_itself g = eq-eqb g.0 g.0 refl

pub object_itself : (o : ObjId) → same_object o o ≡ true
object_itself o = eq-eqb o.0 o.0 refl

false_not_true : (b : Bool) {P : Type 0} → b ≡ false → b ≡ true → P
false_not_true b isnt is = absurd (true≢false (sym is ∙ isnt))

-- ---- the list of a guest

pub index_of : (locks : List (List ObjId)) (g : GuestNo) → 0 < g.0 → locks_at locks g ≡ get_or locks (g.0 - 1) []
index_of locks g there = ap (λ o. unwrap_or o []) (numbered_is locks g.0 there) ∙ unwrap_or-slice_get locks (g.0 - 1) []

owns_something : (found : Option (List ObjId)) (o : ObjId) → Contains (unwrap_or found []) o → (locks : List ObjId) × (found ≡ Some locks)
owns_something None o held = absurd (omega (arith, held.1))
owns_something (Some locks) o held = (locks, refl)

-- a guest that owns something has a number from 1 to that of the last list
pub owner_above : (locks : List (List ObjId)) (g : GuestNo) (o : ObjId) → Contains (locks_at locks g) o → 0 < g.0
owner_above locks g o held = let some = owns_something (numbered locks g.0) o held in numbered_above locks g.0 some.0 some.1

pub owner_within : (locks : List (List ObjId)) (g : GuestNo) (o : ObjId) → Contains (locks_at locks g) o → g.0 ≤ length locks
owner_within locks g o held = let some = owns_something (numbered locks g.0) o held in numbered_within locks g.0 some.0 some.1

given : (b : Bool) (new : List ObjId) (found : Option (List ObjId)) → unwrap_or (cond b (Some new) found) [] ≡ cond b new (unwrap_or found [])
given true new found = refl
given false new found = refl

set_at : (locks : List (List ObjId)) (g x : GuestNo) (new : List ObjId) → 0 < g.0 → g.0 ≤ length locks
    → locks_at (set locks (g.0 - 1) new) x ≡ cond (same_guest x g) new (locks_at locks x)
set_at locks g x new above within = ap (λ o. unwrap_or o []) (numbered_set locks g.0 x.0 new above within) ∙ given (same_guest x g) new (numbered locks x.0)

-- ---- a monitor changes hands

abbrev pub AreOwned : (GuestNo → List ObjId) → (ObjId → Option Owner) → Type 0
AreOwned locks owner = (g : GuestNo) (o : ObjId) → Contains (locks g) o ↔ IsTrue (holds g (hold_by (owner o)))

module _ (locks : GuestNo → List ObjId) (owner : ObjId → Option Owner) (owned : AreOwned locks owner) (g : GuestNo) (object : ObjId) (new : List ObjId) (depth : ℕ) where
  by_none : (x : GuestNo) (o : ObjId) → owner o ≡ None → Contains (locks x) o → ⊥
  by_none x o none held = true≢false (sym ((owned x o).0 held) ∙ ap (λ w. holds x (hold_by w)) none)

  taken_at : owner object ≡ None → HasAlso (locks g) object new
      → (x : GuestNo) (o : ObjId) (b c : Bool) → same_guest x g ≡ b → same_object o object ≡ c
      → Contains (cond b new (locks x)) o ↔ IsTrue (holds x (hold_by (cond c (Some (record { guest = g; depth = depth })) (owner o))))
  taken_at free also x o true true gs os = (
    λ held. subst (λ y. same_guest g y ≡ true) (sym (guest_is x g gs)) (guest_itself g),
    λ holds. (also o).1 (inl (object_is o object os)),
  )
  taken_at free also x o true false gs os = (
    λ held. elim ((also o).0 held) [
      | inl same ↦ false_not_true (same_object o object) os (subst (λ p. same_object p object ≡ true) (sym same) (object_itself object))
      | inr before ↦ (owned x o).0 (subst (λ y. Contains (locks y) o) (sym (guest_is x g gs)) before)
    ],
    λ holds. (also o).1 (inr (subst (λ y. Contains (locks y) o) (guest_is x g gs) ((owned x o).1 holds))),
  )
  taken_at free also x o false true gs os = (
    λ held. absurd (by_none x o (ap owner (object_is o object os) ∙ free) held),
    λ holds. false_not_true (same_guest x g) gs (subst (λ y. same_guest y g ≡ true) (guest_is g x holds) (guest_itself g)),
  )
  taken_at free also x o false false gs os = owned x o

  left_at : (was : Owner) → owner object ≡ Some was → was.guest ≡ g → Without (locks g) object new
      → (x : GuestNo) (o : ObjId) (b c : Bool) → same_guest x g ≡ b → same_object o object ≡ c
      → Contains (cond b new (locks x)) o ↔ IsTrue (holds x (hold_by (cond c None (owner o))))
  left_at was is its left x o true true gs os = (
    λ held. absurd (((left o).0 held).0 (object_is o object os)),
    λ holds. absurd (true≢false (sym holds)),
  )
  left_at was is its left x o true false gs os = (
    λ held. (owned x o).0 (subst (λ y. Contains (locks y) o) (sym (guest_is x g gs)) ((left o).0 held).1),
    λ holds. (left o).1 (
      λ same. false_not_true (same_object o object) os (subst (λ p. same_object p object ≡ true) (sym same) (object_itself object)),
      subst (λ y. Contains (locks y) o) (guest_is x g gs) ((owned x o).1 holds),
    ),
  )
  left_at was is its left x o false true gs os = (
    λ held.
        let own : same_guest was.guest x ≡ true = sym (ap (λ w. holds x (hold_by w)) (ap owner (object_is o object os) ∙ is)) ∙ (owned x o).0 held in
        false_not_true (same_guest x g) gs (subst (λ y. same_guest y g ≡ true) (guest_is was.guest x own) (subst (λ y. same_guest y g ≡ true) (sym its) (guest_itself g))),
    λ holds. absurd (true≢false (sym holds)),
  )
  left_at was is its left x o false false gs os = owned x o

kept_at : (locks : GuestNo → List ObjId) (owner : ObjId → Option Owner) → AreOwned locks owner → (object : ObjId) (was now : Owner)
    → owner object ≡ Some was → was.guest ≡ now.guest → (x : GuestNo) (o : ObjId) (c : Bool) → same_object o object ≡ c
    → Contains (locks x) o ↔ IsTrue (holds x (hold_by (cond c (Some now) (owner o))))
kept_at locks owner owned object was now is same x o true os =
    let e : holds x (hold_by (owner o)) ≡ same_guest now.guest x =
    ap (λ w. holds x (hold_by w)) (ap owner (object_is o object os) ∙ is) ∙ ap (λ y. same_guest y x) same in
    (λ held. sym e ∙ (owned x o).0 held, λ holds. (owned x o).1 (e ∙ holds))
kept_at locks owner owned object was now is same x o false os = owned x o

-- ---- what is kept goes on to fit

pub lists_stay : (locks : List (List ObjId)) (k : ℕ) (new : List ObjId) → length locks ≡ 16 → length (set locks k new) ≡ 16
lists_stay locks k new count = length-set locks k new ∙ count

module _ (owners after : List (ℕ × Owner)) (locks : List (List ObjId)) (are : AreLocks owners locks) (object : ObjId) where
  at : (owner : Option Owner) → Owns owners object owner after → (locks' : List (List ObjId))
      → ((x : GuestNo) (o : ObjId) → Contains (locks_at locks' x) o ↔ IsTrue (holds x (hold_by (cond (same_object o object) owner (owner_in owners o)))))
      → (x : GuestNo) (o : ObjId) → Contains (locks_at locks' x) o ↔ IsTrue (holds x (hold_in after o))
  at owner owns locks' h x o = subst (λ w. Contains (locks_at locks' x) o ↔ IsTrue (holds x (hold_by w))) (sym (owns o)) (h x o)

  module _ (g : GuestNo) (new : List ObjId) (above : 0 < g.0) (within : g.0 ≤ 16) where
    in_lists : g.0 ≤ length locks
    in_lists = let c = are.count in omega (arith, c, within)

    pub take-keeps : (depth : ℕ) → owner_in owners object ≡ None → HasAlso (locks_at locks g) object new
        → Owns owners object (Some (record { guest = g; depth = depth })) after → AreLocks after (set locks (g.0 - 1) new)
    take-keeps depth free also owns = record {
      count = lists_stay locks (g.0 - 1) new are.count;
      owned = at (Some (record { guest = g; depth = depth })) owns (set locks (g.0 - 1) new) (λ x o.
          subst (λ l. Contains l o ↔ IsTrue (holds x (hold_by (cond (same_object o object) (Some (record { guest = g; depth = depth })) (owner_in owners o)))))
          (sym (set_at locks g x new above in_lists))
          (taken_at (locks_at locks) (owner_in owners) are.owned g object new depth free also x o (same_guest x g) (same_object o object) refl refl));
    }

    pub leave-keeps : (was : Owner) → owner_in owners object ≡ Some was → was.guest ≡ g → Without (locks_at locks g) object new
        → Owns owners object None after → AreLocks after (set locks (g.0 - 1) new)
    leave-keeps was is its left owns = record {
      count = lists_stay locks (g.0 - 1) new are.count;
      owned = at None owns (set locks (g.0 - 1) new) (λ x o.
          subst (λ l. Contains l o ↔ IsTrue (holds x (hold_by (cond (same_object o object) None (owner_in owners o)))))
          (sym (set_at locks g x new above in_lists))
          (left_at (locks_at locks) (owner_in owners) are.owned g object new 0 was is its left x o (same_guest x g) (same_object o object) refl refl));
    }

  pub own-keeps : (was now : Owner) → owner_in owners object ≡ Some was → was.guest ≡ now.guest
      → Owns owners object (Some now) after → AreLocks after locks
  own-keeps was now is same owns = record {
    count = are.count;
    owned = at (Some now) owns locks (λ x o. kept_at (locks_at locks) (owner_in owners) are.owned object was now is same x o (same_object o object) refl);
  }

  -- an owner's number is that of a list
  pub owner-above : (was : Owner) → owner_in owners object ≡ Some was → 0 < was.guest.0
  owner-above was is = owner_above locks was.guest object ((are.owned was.guest object).1 (ap (λ w. holds was.guest (hold_by w)) is ∙ guest_itself was.guest))

  pub owner-within : (was : Owner) → owner_in owners object ≡ Some was → was.guest.0 ≤ 16
  owner-within was is =
      let h = owner_within locks was.guest object ((are.owned was.guest object).1 (ap (λ w. holds was.guest (hold_by w)) is ∙ guest_itself was.guest)) in
      let c = are.count in omega (arith, h, c)

-- ---- the start

all_empty : (n k : ℕ) → unwrap_or (slice_get (replicate n (let e : List ObjId = [] in e)) k) [] ≡ []
all_empty zero k = refl
all_empty (suc n) zero = refl
all_empty (suc n) (suc k) = all_empty n k

none_held : (n m : ℕ) → unwrap_or (numbered (replicate n (let e : List ObjId = [] in e)) m) [] ≡ []
none_held n zero = refl
none_held n (suc m) = all_empty n m

pub new-locks : (owners : List (ℕ × Owner)) → owners ≡ [] → AreLocks owners (replicate 16 [])
new-locks owners none = record {
  count = refl;
  owned = λ g o. (
    λ held. absurd (let h = subst (λ l. Contains l o) (none_held 16 g.0) held in omega (arith, h.1)),
    λ holds_it. absurd (true≢false (sym holds_it ∙ ap (λ w. holds g (hold_in w o)) none)),
  );
}

-- what the map's clause says of a look-up by the object
pub owns_by : (old new : List (ℕ × Owner)) (object : ObjId) (owner : Option Owner)
    → ((q : ℕ) → lookup (nat_eq q) new ≡ cond (nat_eq object.0 q) owner (lookup (nat_eq q) old)) → Owns old object owner new
owns_by old new object owner updates o = updates o.0 ∙ ap (λ b. cond b owner (owner_in old o)) (flip object.0 o.0)

-- the list at a guest's index
pub lent : (locks : List (List ObjId)) (g : GuestNo) (now : List ObjId) → length locks ≡ 16 → 0 < g.0 → g.0 ≤ 16
    → now ≡ get_or locks (g.0 - 1) now → now ≡ locks_at locks g
lent locks g now count above within is =
    is ∙ (at_any locks (g.0 - 1) now [] (omega (arith, count, above, within)) ∙ sym (index_of locks g above))

pub held-by_none : (owners : List (ℕ × Owner)) (locks : List (List ObjId)) → AreLocks owners locks → (g : GuestNo) (o : ObjId)
    → owner_in owners o ≡ None → Contains (locks_at locks g) o → ⊥
held-by_none owners locks are g o none held = true≢false (sym ((are.owned g o).0 held) ∙ ap (λ w. holds g (hold_by w)) none)

replicate-suc : (n : ℕ) → replicate n (let e : List ObjId = [] in e) ++ [] ∷ [] ≡ replicate (suc n) []
replicate-suc zero = refl
replicate-suc (suc n) = ap (λ l. [] ∷ l) (replicate-suc n)

pub replicate-more : (n : ℕ) (xs : List (List ObjId)) (x : List ObjId) → xs ≡ replicate n [] → x ≡ [] → xs ++ x ∷ [] ≡ replicate (n + 1) []
replicate-more n xs x are is =
    let e : suc n ≡ n + 1 = omega arith in
    ap (λ ys. ys ++ x ∷ []) are ∙ (ap (λ y. replicate n [] ++ y ∷ []) is ∙ (replicate-suc n ∙ ap (λ k. replicate k []) e))

pub owner-index : (owners : List (ℕ × Owner)) (locks : List (List ObjId)) → AreLocks owners locks → (object : ObjId) (was : Owner) (g : GuestNo)
    → owner_in owners object ≡ Some was → was.guest ≡ g → (0 < g.0) × (g.0 ≤ 16)
owner-index owners locks are object was g is its = (
  subst (λ (x : GuestNo). 0 < x.0) its (owner-above owners owners locks are object was is),
  subst (λ (x : GuestNo). x.0 ≤ 16) its (owner-within owners owners locks are object was is),
)
