-- No two kinds of finish are true of one history, want of memory left aside.
use Rattle.std.proofs.Common.{◌≡◌, ◌≢◌, ℕ, zero, suc, not, false, List, [], ◌∷◌, All, IsTrue, slice_get, refl, arith}
use Rattle.std.specs.Option.{option_map_or}
use Rattle.std.proofs.lemmas.List.Elements.{All-head, All-tail}
use Rattle.jr_base.specs.declared.number.GuestNo.{GuestNo}
use Rattle.jr_base.specs.declared.finish.Finish.{Finish}
use Rattle.jr_base.specs.declared.finish.Finish.TheVariants.{Finished, Deadlock, Budget, Limit, Memory}
use Rattle.jr_program.specs.Programs.{Program}
use Rattle.jr_meaning.specs.Event.{Event}
use Rattle.jr_meaning.specs.World.{World, Guest, is_live}
use Rattle.jr_meaning.specs.History.{world_after}
use Rattle.jr_meaning.specs.Finish.{IsTrueFinish, kind_of_finish}

-- where each guest has ended, none is live
none-live : (world : World) (g : GuestNo) → All (λ (guest : Guest). IsTrue guest.ended) world.guests → is_live world g ≡ false
none-live world g all = by g.0
  where
    within : (gs : List Guest) (n : ℕ) → All (λ (guest : Guest). IsTrue guest.ended) gs →
        option_map_or (λ (guest : Guest). not guest.ended) (slice_get gs n) false ≡ false
    within [] n all = refl
    within (guest ∷ gs) zero all = let ended = All-head (λ (guest : Guest). IsTrue guest.ended) guest gs all in rw ended refl
    within (guest ∷ gs) (suc n) all = within gs n (All-tail (λ (guest : Guest). IsTrue guest.ended) guest gs all)

    by : (n : ℕ) → is_live world (record { 0 = n }) ≡ false
    by zero = refl
    by (suc n) = within world.guests n all

module _ (program : Program) (budget : ℕ) (h : List Event) where
  ended-not-live : (g : GuestNo) → IsTrueFinish program budget h Finished → IsTrue (is_live (world_after program h) g) → ⊥
  ended-not-live g ended live = let dead = none-live (world_after program h) g ended in cc

  pub one-kind : (f g : Finish) → IsTrueFinish program budget h f → IsTrueFinish program budget h g → f ≢ Memory → g ≢ Memory → kind_of_finish f ≡ kind_of_finish g
  one-kind Memory g a b p q = absurd (p refl)
  one-kind f Memory a b p q = absurd (q refl)
  one-kind Finished Finished a b p q = refl
  one-kind Finished Deadlock a b p q = absurd (ended-not-live b.0.0 a b.0.1)
  one-kind Finished (Budget n) a b p q = absurd (ended-not-live b.2.0 a b.2.2.live)
  one-kind Finished (Limit kind guest count) a b p q = absurd (ended-not-live guest a b.1.can.live)
  one-kind Deadlock Finished a b p q = absurd (ended-not-live a.0.0 b a.0.1)
  one-kind Deadlock Deadlock a b p q = refl
  one-kind Deadlock (Budget n) a b p q = absurd (a.1 b.2)
  one-kind Deadlock (Limit kind guest count) a b p q = absurd (a.1 (guest, b.1.deed, b.1.can))
  one-kind (Budget n) Finished a b p q = absurd (ended-not-live a.2.0 b a.2.2.live)
  one-kind (Budget n) Deadlock a b p q = absurd (b.1 a.2)
  one-kind (Budget n) (Budget m) a b p q = refl
  one-kind (Budget n) (Limit kind guest count) a b p q = absurd (let same : _ = a.0 in let most : _ = a.1 in let few : _ = b.0 in omega arith)
  one-kind (Limit kind guest count) Finished a b p q = absurd (ended-not-live guest b a.1.can.live)
  one-kind (Limit kind guest count) Deadlock a b p q = absurd (b.1 (guest, a.1.deed, a.1.can))
  one-kind (Limit kind guest count) (Budget n) a b p q = absurd (let same : _ = b.0 in let most : _ = b.1 in let few : _ = a.0 in omega arith)
  one-kind (Limit kind guest count) (Limit kind' guest' count') a b p q = refl
