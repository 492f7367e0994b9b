-- A turn of the serial rule where main's thread is the only one.
use Rattle.std.proofs.Common.{◌≡◌, ◌==◌, ◌+◌, ◌++◌, ℕ, zero, suc, Bool, true, false, not, ◌&&◌, cond, nat_lt, IsTrue, List, [], ◌∷◌, Option, Some, None, refl, sym, ap, subst, ◌∙◌, append-nil}
use Rattle.std.specs.Option.{option_map_or}
use Rattle.std.specs.List.{filter, filter_map, cons_option, list_any}
use Rattle.std.proofs.lemmas.Bool.{false≢true}
use Rattle.jr_base.specs.Deed.{Deed}
use Rattle.jr_base.specs.Deed as deeds
use Rattle.jr_base.specs.declared.number.GuestNo.{GuestNo}
use Rattle.jr_base.specs.declared.number.ObjId.{ObjId}
use Rattle.jr_base.specs.declared.action.Reply.{Reply}
use Rattle.jr_base.specs.declared.finish.Finish.TheVariants.{Finished, Budget, Limit}
use Rattle.jr_program.specs.Programs.{Program}
use Rattle.jr_meaning.specs.Next.{Next, Wants}
use Rattle.jr_meaning.specs.Event.{Event}
use Rattle.jr_meaning.specs.World.{World, Guest, free_monitor, guests_of, is_live, objects_of}
use Rattle.jr_meaning.specs.Machine.{Answer, Only, is_ready, is_timed, is_timed_waiter, answer}
use Rattle.jr_meaning.specs.Limits.{Count}
use Rattle.jr_meaning.specs.History.{world_after, step_count, next_of, limit_met}
use Rattle.jr_meaning.specs.Verdicts.{step_judged}
use Rattle.jr_meaning.specs.Serial.{moved, index_by, member, chosen, Candidate, if_ready, candidate_of, candidates, timed_waiters, some_live, Turn, Ends, Makes, step_entries, replied, unless_past, steps_as, none_steps, choose_of, turn}
use Rattle.jr_built.specs.OneThread.{IsPlain, HasOneThread}
use Rattle.jr_drive.specs.Reached.{first_guest}

-- ---- who there is

module _ (program : Program) (world : World) (one : HasOneThread program world) where
  all-guests : guests_of world ≡ first_guest ∷ []
  all-guests = ap (λ gs. guests_of (record world { guests = gs })) one.guests

  live-as : is_live world first_guest ≡ not one.ended
  live-as = ap (λ gs. is_live (record world { guests = gs }) first_guest) one.guests

  some-live-as : some_live world ≡ is_live world first_guest
  some-live-as = by one.ended (ap (λ gs. some_live (record world { guests = gs })) one.guests ∙ refl) live-as
    where
      by : (ended : Bool) → some_live world ≡ list_any (λ (guest : Guest). not guest.ended) (record { object = None; body = Some (record { method = program.main; this = None }); ended = ended } ∷ []) →
          is_live world first_guest ≡ not ended → some_live world ≡ is_live world first_guest
      by true some live = some ∙ sym live
      by false some live = some ∙ sym live

  never : {A : Type 0} (test : A → Bool) (xs : List A) → ((x : A) → test x ≡ false) → list_any test xs ≡ false
  never test [] none = refl
  never test (x ∷ xs) none = rw (none x) (never test xs none)

  none-timed : (g : GuestNo) → is_timed_waiter world g ≡ false
  none-timed g = never (λ object. is_timed g (world.monitors object).waiting) (objects_of world) (λ object. rw (one.free object) refl)

  none-wait : timed_waiters world ≡ []
  none-wait = by (guests_of world)
    where
      and-false : (b c : Bool) → c ≡ false → (b && c) ≡ false
      and-false true c e = e
      and-false false c e = refl

      by : (gs : List GuestNo) → filter (λ g. is_live world g && is_timed_waiter world g) gs ≡ []
      by [] = refl
      by (g ∷ gs) = rw (and-false (is_live world g) (is_timed_waiter world g) (none-timed g)) (by gs)

-- ---- a turn

module _ (program : Program) (budget : ℕ) (h : List Event) (one : HasOneThread program (world_after program h)) where
  abbrev world : World
  world = world_after program h

  abbrev turned : ℕ → ℕ → Turn
  turned seed x = turn program budget 0 h seed x

  only-first : candidates program h ≡ cons_option (candidate_of program h first_guest) []
  only-first = ap (filter_map (candidate_of program h)) (all-guests program world one)

  -- it has ended: so has the run
  pub over-turn : is_live world first_guest ≡ false → (seed x : ℕ) → turned seed x ≡ Ends Finished
  over-turn over seed x = ap (choose_of program budget 0 h seed x) none ∙ nobody
    where
      none : candidates program h ≡ []
      none = only-first ∙ ap (λ b. cons_option (cond b (if_ready world first_guest (next_of program h first_guest)) None) []) over

      nobody : none_steps seed x (some_live world) (timed_waiters world) ≡ Ends Finished
      nobody =
          ap (λ live. none_steps seed x live (timed_waiters world)) (some-live-as program world one ∙ over)
          ∙ ap (none_steps seed x false) (none-wait program world one)

  -- it is live, and wants to do this
  module _ (deed : Deed) (live : IsTrue (is_live world first_guest)) (wants : next_of program h first_guest ≡ Wants deed) (plain : IsPlain deed) where
    abbrev its : Candidate
    its = record { guest = first_guest; deed = deed }

    candidate : candidate_of program h first_guest ≡ Some its
    candidate = rw (live, wants, one.ready first_guest deed plain) refl

    chooses : (seed x : ℕ) → turned seed x ≡ choose_of program budget 0 h seed x (its ∷ [])
    chooses seed x = ap (choose_of program budget 0 h seed x) (only-first ∙ ap (λ o. cons_option o []) candidate)

    chosen-alone : (seed x : ℕ) → chosen seed x its [] ≡ its
    chosen-alone seed x = by (index_by seed x 1)
      where
        by : (n : ℕ) → member its [] n ≡ its
        by zero = refl
        by (suc n) = refl

    pub spent-turn : nat_lt (step_count h) budget ≡ false → (seed x : ℕ) → turned seed x ≡ Ends (Budget budget)
    spent-turn spent seed x = chooses seed x ∙ rw (spent, choose_of) refl

    steps : nat_lt (step_count h) budget ≡ true → (seed x : ℕ) →
        turned seed x ≡ unless_past program 0 h seed (moved x) its (limit_met program h first_guest deed)
    steps few seed x = chooses seed x ∙ rw (few, choose_of) (ap (steps_as program 0 h seed (moved x)) (chosen-alone seed (moved x)))

    pub limit-turn : nat_lt (step_count h) budget ≡ true → (count : Count) → limit_met program h first_guest deed ≡ Some count → (seed x : ℕ) →
        turned seed x ≡ Ends (Limit count.kind first_guest count.count)
    limit-turn few count past seed x = steps few seed x ∙ ap (unless_past program 0 h seed (moved x) its) past

    pub step-turn : nat_lt (step_count h) budget ≡ true → limit_met program h first_guest deed ≡ None →
        (reply : Reply) → answer program world first_guest deed ≡ Only reply → (seed x : ℕ) →
        turned seed x ≡ Makes (step_judged program h first_guest deed reply) (moved x)
    step-turn few within reply same seed x =
        steps few seed x ∙ ap (unless_past program 0 h seed (moved x) its) within
        ∙ ap (replied program 0 h seed (moved x) first_guest deed) same
        ∙ ap (λ es. Makes es (moved x)) (append-nil (step_judged program h first_guest deed reply))
