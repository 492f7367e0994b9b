-- What a change of one guest does to what a roster shows.
use Rattle.std.proofs.Common.{◌≡◌, ◌<◌, ◌≤◌, ◌+◌, ◌-◌, ℕ, zero, suc, Bool, true, false, cond, List, [], ◌∷◌, length, map, set, slice_get, Option, Some, None, option_map, refl, sym, ◌∙◌, ap, arith}
use Rattle.std.specs.Option.{option_map_or}
use Rattle.jr_base.specs.declared.number.ObjId.{ObjId}
use Rattle.jr_base.specs.declared.number.GuestNo.{GuestNo}
use Rattle.jr_program.specs.Programs.{numbered}
use Rattle.jr_meaning.specs.World.{same_guest}
use Rattle.jr_monitors.specs.declared.member.Member.{Member}
use Rattle.jr_monitors.specs.Roster.{Owned, deed_at, depth_for, guest_as, kept_in, parked_in, waiter_of, world_of}
use Rattle.jr_monitors.specs.Stands.{Agree, without_body}
use Rattle.jr_monitors.proofs.Numbers.{numbered_is, numbered_set, numbered_above, numbered_within}
use Rattle.jr_monitors.proofs.WaitSets.{waiters-same}
use Rattle.jr_monitors.proofs.Worlds.{map-set, got_map}
use Rattle.jr_monitors.proofs.Owning.{guest_is}

or_given : {A B : Type 0} (f : A → B) (d : B) (b : Bool) (x : A) (o : Option A) → option_map_or f (cond b (Some x) o) d ≡ cond b (f x) (option_map_or f o d)
or_given f d true x o = refl
or_given f d false x o = refl

pub same_if : {A : Type 0} (b : Bool) (x y : A) → (b ≡ true → x ≡ y) → cond b x y ≡ y
same_if true x y same = same refl
same_if false x y same = refl

pub set_same : {A : Type 0} (xs : List A) (k : ℕ) (x : A) → slice_get xs k ≡ Some x → set xs k x ≡ xs
set_same [] k x is = refl
set_same (y ∷ ys) zero x is = let e : y ≡ x = cc in ap (λ v. v ∷ ys) (sym e)
set_same (y ∷ ys) (suc k) x is = ap (λ l. y ∷ l) (set_same ys k x is)

module _ (members : List Member) (g : GuestNo) (old new : Member) (is : numbered members g.0 ≡ Some old) where
  above : 0 < g.0
  above = numbered_above members g.0 old is

  within : g.0 ≤ length members
  within = numbered_within members g.0 old is

  pub at-index : slice_get members (g.0 - 1) ≡ Some old
  at-index = sym (numbered_is members g.0 above) ∙ is

  pub behind-one : g.0 ≡ 1 + (g.0 - 1)
  behind-one = omega (arith, above)

  pub parked-set : (other : GuestNo) → parked_in (set members (g.0 - 1) new) other ≡ cond (same_guest other g) (option_map deed_at new.parked) (parked_in members other)
  parked-set other =
      ap (λ o. option_map_or (λ (m : Member). option_map deed_at m.parked) o None) (numbered_set members g.0 other.0 new above within)
      ∙ or_given (λ (m : Member). option_map deed_at m.parked) None (same_guest other g) new (numbered members other.0)

  pub kept-set : (object : ObjId) (other : GuestNo) → kept_in (set members (g.0 - 1) new) object other ≡ cond (same_guest other g) (depth_for object new.stay) (kept_in members object other)
  kept-set object other =
      ap (λ o. option_map_or (λ (m : Member). depth_for object m.stay) o None) (numbered_set members g.0 other.0 new above within)
      ∙ or_given (λ (m : Member). depth_for object m.stay) None (same_guest other g) new (numbered members other.0)

  pub kept-now : (object : ObjId) → kept_in members object g ≡ depth_for object old.stay
  kept-now object = ap (λ o. option_map_or (λ (m : Member). depth_for object m.stay) o None) is

  pub parked-now : parked_in members g ≡ option_map deed_at old.parked
  parked-now = ap (λ o. option_map_or (λ (m : Member). option_map deed_at m.parked) o None) is

  pub guests-set : map guest_as (set members (g.0 - 1) new) ≡ set (map guest_as members) (g.0 - 1) (guest_as new)
  guests-set = map-set guest_as members (g.0 - 1) new

  -- a change that no monitor shows
  pub agree-stay : (owned : Owned) → new.stay ≡ old.stay → guest_as new ≡ guest_as old
      → Agree (world_of (record { owned = owned; members = set members (g.0 - 1) new })) (world_of (record { owned = owned; members = members }))
  agree-stay owned stays stands = record {
    holds = λ o. refl;
    waiting = λ o. waiters-same 1 o members (g.0 - 1) old new at-index (ap (λ s. waiter_of o (record { 0 = 1 + (g.0 - 1) }) s) stays);
    kept = λ o x. kept-set o x ∙ same_if (same_guest x g) _ _ (λ own.
        ap (depth_for o) stays ∙ (sym (kept-now o) ∙ ap (λ y. kept_in members o y) (sym (guest_same x own))));
    guests = ap (map without_body) (guests-set ∙ (ap (λ v. set (map guest_as members) (g.0 - 1) v) stands ∙ set_same (map guest_as members) (g.0 - 1) (guest_as old) (got_as)));
  }
    where
      guest_same : (x : GuestNo) → same_guest x g ≡ true → x ≡ g
      guest_same x own = guest_is x g own

      got_as : slice_get (map guest_as members) (g.0 - 1) ≡ Some (guest_as old)
      got_as = got_map guest_as members (g.0 - 1) ∙ ap (option_map guest_as) at-index

  -- and a guest is parked as before
  pub parked-stays : new.parked ≡ old.parked → (other : GuestNo) → parked_in (set members (g.0 - 1) new) other ≡ parked_in members other
  parked-stays stays other = parked-set other ∙ same_if (same_guest other g) _ _ (λ own.
      ap (option_map deed_at) stays ∙ (sym parked-now ∙ ap (λ y. parked_in members y) (sym (guest_is other g own))))
