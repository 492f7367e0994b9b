-- Who is stuck: what one guest says, and what all of them say.
use Rattle.std.proofs.Common.{◌≡◌, ◌≢◌, ◌≤◌, ◌+◌, ◌↔◌, inl, inr, ℕ, Bool, true, false, not, cond, ◌&&◌, true≢false, IsTrue, IsSome, length, Option, Some, None, IfSome, option_map, refl, sym, ◌∙◌, ap, subst, arith}
use Rattle.std.specs.Option.{option_map_or}
use Rattle.std.proofs.lemmas.Bool.{cases_eq}
use Rattle.jr_base.specs.declared.number.ObjId.{ObjId}
use Rattle.jr_base.specs.declared.number.GuestNo.{GuestNo}
use Rattle.jr_base.specs.Deed.{Deed}
use Rattle.jr_program.specs.Programs.{numbered}
use Rattle.jr_meaning.specs.World.{World, Guest, is_live}
use Rattle.jr_meaning.specs.Machine.{is_ready, is_timed_waiter, owns}
use Rattle.jr_monitors.specs.declared.member.Member.{Member}
use Rattle.jr_monitors.specs.declared.member.Parked.{Parked}
use Rattle.jr_monitors.specs.declared.member.Stay.{Stay}
use Rattle.jr_monitors.specs.Roster.{Roster, AreApart, deed_at, depth_for, guest_as, is_in_set, is_timed_stay, kept_in, parked_of, waits_for, world_of}
use Rattle.jr_monitors.specs.Stands.{StandsFor, AllStuck, IsStuck}
use Rattle.jr_monitors.proofs.Numbers.{numbered_within}
use Rattle.jr_monitors.proofs.Owning.{object_itself}
use Rattle.jr_monitors.proofs.Rosters.{kept-now, parked-now}
use Rattle.jr_monitors.proofs.Seen.{timed-seen}
use Rattle.jr_monitors.proofs.Steps.{live-there}
use Rattle.jr_monitors.proofs.Worlds.{live-same, numbered_map, ready-same}

-- if that guest lives, it is stuck
abbrev pub Rests : Roster → World → GuestNo → Type 0
Rests r world g = IsTrue (is_live world g) → IsStuck r world g

both_not : (a b : Bool) → (not a && not b) ≡ true → (a ≡ false) × (b ≡ false)
both_not false false e = (refl, refl)
both_not false true e = absurd (true≢false (sym e))
both_not true b e = absurd (true≢false (sym e))

neither : (a b : Bool) → a ≡ false → b ≡ false → (not a && not b) ≡ true
neither false false e f = refl
neither false true e f = absurd (true≢false f)
neither true b e f = absurd (true≢false e)

module _ (r : Roster) (world : World) (stands : StandsFor r world) (g : GuestNo) (m : Member) (is : numbered r.members g.0 ≡ Some m) where
  live-is : is_live world g ≡ not m.ended
  live-is =
      sym (live-same (world_of r) world stands.agrees g)
      ∙ ap (λ o. option_map_or (λ (guest : Guest). not guest.ended) o false) (numbered_map guest_as r.members g.0 ∙ ap (option_map guest_as) is)

  -- it has ended
  pub ended-rests : m.ended ≡ true → Rests r world g
  ended-rests ended live = absurd (true≢false (sym live ∙ (live-is ∙ ap not ended)))

  -- it is parked nowhere
  pub parked-nowhere : m.ended ≡ false → m.parked ≡ None → Rests r world g → false ≡ true
  parked-nowhere lives none rests =
      let stuck = rests (live-is ∙ ap not lives) in
      let e = sym stuck.parked ∙ (parked-now r.members g m m is ∙ ap (option_map deed_at) none) in absurd (cc)

  -- it is parked at that
  module _ (parked : Parked) (at : m.parked ≡ Some parked) (ready timed : Bool) (may : ready ≡ is_ready (world_of r) g (deed_at parked)) (waits : timed ≡ is_timed_stay m.stay) where
    parked-at : parked_of r g ≡ Some (deed_at parked)
    parked-at = parked-now r.members g m m is ∙ ap (option_map deed_at) at

    is-ready : ready ≡ is_ready world g (deed_at parked)
    is-ready = may ∙ ready-same (world_of r) world stands.agrees g (deed_at parked)

    is-timed : timed ≡ is_timed_waiter world g
    is-timed = waits ∙ timed-seen r world stands g m is

    some_same : (a b : Deed) → Some a ≡ Some b → a ≡ b
    some_same a b e = cc

    pub parked-rests : m.ended ≡ false → IsTrue (not ready && not timed) ↔ Rests r world g
    parked-rests lives = (
      λ holds live. let neither_is = both_not ready timed holds in
          record { deed = deed_at parked; parked = parked-at; blocked = sym is-ready ∙ neither_is.0; untimed = sym is-timed ∙ neither_is.1 },
      λ rests. let stuck = rests (live-is ∙ ap not lives) in
          let same = some_same (deed_at parked) stuck.deed (sym parked-at ∙ stuck.parked) in
          neither ready timed (is-ready ∙ (ap (is_ready world g) same ∙ stuck.blocked)) (is-timed ∙ stuck.untimed),
    )

-- ---- all of them

-- each guest up to that number rests
abbrev pub RestTo : Roster → ℕ → Type 0
RestTo r n = (world : World) → StandsFor r world → (g : GuestNo) → g.0 ≤ n → Rests r world g

none-live : (r : Roster) (world : World) → StandsFor r world → (g : GuestNo) → IsTrue (is_live world g) → g.0 ≤ length r.members
none-live r world stands g live =
    let there = live-there r g (live-same (world_of r) world stands.agrees g ∙ live) in numbered_within r.members g.0 there.0 there.1

number-zero : (r : Roster) (world : World) → StandsFor r world → (g : GuestNo) → g.0 ≤ 0 → Rests r world g
number-zero r world stands g least live =
    let there = live-there r g (live-same (world_of r) world stands.agrees g ∙ live) in
    let zero : g.0 ≡ 0 = omega (arith, least) in
    let e = sym (ap (numbered r.members) zero) ∙ there.1 in absurd (cc)

-- none so far
pub rest-none : (r : Roster) → RestTo r 0
rest-none r world stands g least = number-zero r world stands g least

-- one more
pub rest-more : (r : Roster) (n : ℕ) → RestTo r n → ((world : World) → StandsFor r world → Rests r world (record { 0 = n + 1 })) → RestTo r (n + 1)
rest-more r n before next world stands g up = elim (cases_eq g.0 (n + 1)) [
  | inl last ↦ subst (Rests r world) (sym (ap (λ k. let x : GuestNo = record { 0 = k } in x) last)) (next world stands)
  | inr other ↦ before world stands g (below g.0 n up other)
]
  where
    below : (a n : ℕ) → a ≤ n + 1 → a ≢ n + 1 → a ≤ n
    below a n up other = omega (arith, up, other)

-- all
pub rest-all : (r : Roster) (n : ℕ) → RestTo r n → length r.members ≤ n → (world : World) → StandsFor r world → AllStuck r world
rest-all r n rest all world stands g live = let h = none-live r world stands g live in rest world stands g (omega (arith, h, all)) live

-- ---- who waits owns nothing there

module _ (r : Roster) (apart : AreApart r.owned.owners r.members) (g : GuestNo) (m : Member) (is : numbered r.members g.0 ≡ Some m) where
  not-owned : (s : Stay) → m.stay ≡ Some s → owns (world_of r) g s.object ≡ false
  not-owned s has = apart g s.object (subst IsSome (sym kept) refl)
    where
      kept : kept_in r.members s.object g ≡ Some s.depth
      kept = kept-now r.members g m m is s.object ∙ (ap (depth_for s.object) has ∙ ap (λ b. cond b (Some s.depth) None) (object_itself s.object))

  in-set : (stay : Option Stay) → m.stay ≡ stay → IfSome (waits_for stay) (λ object. owns (world_of r) g object ≡ false)
  in-set None has = tt
  in-set (Some s) has = by_stage (is_in_set s.stage)
    where
      by_stage : (b : Bool) → IfSome (cond b (Some s.object) None) (λ object. owns (world_of r) g object ≡ false)
      by_stage true = not-owned s has
      by_stage false = tt

  pub waiter-owns-nothing : (found : Option ObjId) → found ≡ waits_for m.stay → IfSome found (λ object. owns (world_of r) g object ≡ false)
  waiter-owns-nothing found same = subst (λ o. IfSome o (λ object. owns (world_of r) g object ≡ false)) (sym same) (in-set m.stay refl)
