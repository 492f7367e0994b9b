-- What an entry more does to where entries are found.
use Rattle.std.proofs.Common.{◌≡◌, ◌+◌, ℕ, suc, List, [], ◌∷◌, ◌++◌, length, Option, Some, None, refl, ap, sym, ◌∙◌, arith}
use Rattle.std.proofs.lemmas.List.{append_assoc, append-nil}
use Rattle.std.specs.Prelude.{cond, ◌==◌, Bool, true, false}
use Rattle.jr_base.specs.Deed.{Deed}
use Rattle.jr_base.specs.declared.number.GuestNo.{GuestNo}
use Rattle.jr_base.specs.declared.number.Stamp.{Stamp}
use Rattle.jr_base.specs.declared.action.Reply.{Reply}
use Rattle.jr_base.specs.declared.finish.Verdict.{Verdict}
use Rattle.jr_meaning.specs.Event.{Event, Step, Judged, Wake}
use Rattle.jr_meaning.specs.Verdicts.{verdict_of}
use Rattle.jr_journal.specs.Entries.{step_places_from, make_places_from, made_at}
use Rattle.jr_journal.specs.Marks.{first_of}

-- ---- verdicts

pub step_gives_none : (h : List Event) (g : GuestNo) (deed : Deed) (reply : Reply) (k place : ℕ) → verdict_of (h ++ Step g deed reply ∷ []) k place ≡ verdict_of h k place
step_gives_none [] g deed reply k place = refl
step_gives_none (Step other d r ∷ h) g deed reply k place = step_gives_none h g deed reply k place
step_gives_none (Wake other ∷ h) g deed reply k place = step_gives_none h g deed reply k place
step_gives_none (Judged step at value ∷ h) g deed reply k place = rw (step_gives_none h g deed reply k place) refl

pub wake_gives_none : (h : List Event) (g : GuestNo) (k place : ℕ) → verdict_of (h ++ Wake g ∷ []) k place ≡ verdict_of h k place
wake_gives_none [] g k place = refl
wake_gives_none (Step other d r ∷ h) g k place = wake_gives_none h g k place
wake_gives_none (Wake other ∷ h) g k place = wake_gives_none h g k place
wake_gives_none (Judged step at value ∷ h) g k place = rw (wake_gives_none h g k place) refl

over : (same_step same_place : Bool) (value : Verdict) (rest other : Option Verdict) →
    cond same_step (cond same_place (Some value) (first_of rest other)) (first_of rest other) ≡ first_of (cond same_step (cond same_place (Some value) rest) rest) other
over true true value rest other = refl
over true false value rest other = refl
over false same_place value rest other = refl

pub judged_gives : (h : List Event) (s : Stamp) (p : ℕ) (v : Verdict) (k place : ℕ) →
    verdict_of (h ++ Judged s p v ∷ []) k place ≡ first_of (verdict_of h k place) (cond (s.0 == k) (cond (p == place) (Some v) None) None)
judged_gives [] s p v k place = refl
judged_gives (Step other d r ∷ h) s p v k place = judged_gives h s p v k place
judged_gives (Wake other ∷ h) s p v k place = judged_gives h s p v k place
judged_gives (Judged step at value ∷ h) s p v k place =
    rw (judged_gives h s p v k place) (over (step.0 == k) (at == place) value (verdict_of h k place) (cond (s.0 == k) (cond (p == place) (Some v) None) None))

-- ---- places

pub steps_after_step : (at : ℕ) (h : List Event) (g : GuestNo) (deed : Deed) (reply : Reply) →
    step_places_from at (h ++ Step g deed reply ∷ []) ≡ step_places_from at h ++ (at + length h) ∷ []
steps_after_step at [] g deed reply = ap (λ n. n ∷ []) (let e : at ≡ at + 0 = omega arith in e)
steps_after_step at (Step other d r ∷ h) g deed reply = let e = steps_after_step (at + 1) h g deed reply in grind arith
steps_after_step at (Wake other ∷ h) g deed reply = let e = steps_after_step (at + 1) h g deed reply in grind arith
steps_after_step at (Judged step place value ∷ h) g deed reply = let e = steps_after_step (at + 1) h g deed reply in grind arith

pub steps_after_wake : (at : ℕ) (h : List Event) (g : GuestNo) → step_places_from at (h ++ Wake g ∷ []) ≡ step_places_from at h
steps_after_wake at [] g = refl
steps_after_wake at (Step other d r ∷ h) g = ap (λ l. at ∷ l) (steps_after_wake (at + 1) h g)
steps_after_wake at (Wake other ∷ h) g = steps_after_wake (at + 1) h g
steps_after_wake at (Judged step place value ∷ h) g = steps_after_wake (at + 1) h g

pub steps_after_judged : (at : ℕ) (h : List Event) (s : Stamp) (p : ℕ) (v : Verdict) → step_places_from at (h ++ Judged s p v ∷ []) ≡ step_places_from at h
steps_after_judged at [] s p v = refl
steps_after_judged at (Step other d r ∷ h) s p v = ap (λ l. at ∷ l) (steps_after_judged (at + 1) h s p v)
steps_after_judged at (Wake other ∷ h) s p v = steps_after_judged (at + 1) h s p v
steps_after_judged at (Judged step place value ∷ h) s p v = steps_after_judged (at + 1) h s p v

pub makes_after_wake : (at : ℕ) (h : List Event) (g : GuestNo) → make_places_from at (h ++ Wake g ∷ []) ≡ make_places_from at h
makes_after_wake at [] g = refl
makes_after_wake at (Step other d r ∷ h) g = ap (λ l. made_at at r ++ l) (makes_after_wake (at + 1) h g)
makes_after_wake at (Wake other ∷ h) g = makes_after_wake (at + 1) h g
makes_after_wake at (Judged step place value ∷ h) g = makes_after_wake (at + 1) h g

pub makes_after_judged : (at : ℕ) (h : List Event) (s : Stamp) (p : ℕ) (v : Verdict) → make_places_from at (h ++ Judged s p v ∷ []) ≡ make_places_from at h
makes_after_judged at [] s p v = refl
makes_after_judged at (Step other d r ∷ h) s p v = ap (λ l. made_at at r ++ l) (makes_after_judged (at + 1) h s p v)
makes_after_judged at (Wake other ∷ h) s p v = makes_after_judged (at + 1) h s p v
makes_after_judged at (Judged step place value ∷ h) s p v = makes_after_judged (at + 1) h s p v

pub makes_after_step : (at : ℕ) (h : List Event) (g : GuestNo) (deed : Deed) (reply : Reply) →
    make_places_from at (h ++ Step g deed reply ∷ []) ≡ make_places_from at h ++ made_at (at + length h) reply
makes_after_step at [] g deed reply = append-nil (made_at at reply) ∙ ap (λ n. made_at n reply) (let e : at ≡ at + 0 = omega arith in e)
makes_after_step at (Step other d r ∷ h) g deed reply =
    ap (λ l. made_at at r ++ l) (makes_after_step (at + 1) h g deed reply ∙ ap (λ n. make_places_from (at + 1) h ++ made_at n reply) (let e : (at + 1) + length h ≡ at + suc (length h) = omega arith in e))
    ∙ sym (append_assoc (made_at at r) (make_places_from (at + 1) h) (made_at (at + suc (length h)) reply))
makes_after_step at (Wake other ∷ h) g deed reply = makes_after_step (at + 1) h g deed reply ∙ ap (λ n. make_places_from (at + 1) h ++ made_at n reply) (let e : (at + 1) + length h ≡ at + suc (length h) = omega arith in e)
makes_after_step at (Judged step place value ∷ h) g deed reply = makes_after_step (at + 1) h g deed reply ∙ ap (λ n. make_places_from (at + 1) h ++ made_at n reply) (let e : (at + 1) + length h ≡ at + suc (length h) = omega arith in e)
