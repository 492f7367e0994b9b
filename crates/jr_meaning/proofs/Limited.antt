-- In a legal history no more guests are started, and no guest has more frames, than the limits allow.
use Rattle.std.proofs.Common.{◌≡◌, ◌+◌, ◌≤◌, ℕ, Bool, true, false, cond, is_some, List, [], ◌∷◌, ◌++◌, length, Option, Some, None, refl, ap, sym, subst, append_assoc, append-nil, ◌-◌, lit≤, arith, length-append, length-drop, length-set}
use Rattle.std.specs.List.{find}
use Rattle.std.proofs.lemmas.Bool.{ltb-false}
use Rattle.jr_base.specs.Deed.{Deed, Call, Leave, Put, New, Enter, Exit, Wait, TimedWait, Resume, Notify, NotifyAll, Start, End}
use Rattle.jr_base.specs.declared.number.GuestNo.{GuestNo}
use Rattle.jr_base.specs.declared.number.ObjId.{ObjId}
use Rattle.jr_base.specs.declared.number.Stamp.{Stamp}
use Rattle.jr_base.specs.declared.finish.Verdict.{Verdict}
use Rattle.jr_base.specs.declared.action.Reply.{Reply}
use Rattle.jr_base.specs.declared.action.Reply.TheVariants as replies
use Rattle.jr_base.specs.declared.finish.LimitKind.TheVariants.{Guests, Frames}
use Rattle.jr_program.specs.Programs.{Program}
use Rattle.jr_meaning.specs.Along.{Along}
use Rattle.jr_meaning.specs.Event.{Event, Step, Judged, Wake}
use Rattle.jr_meaning.specs.World.{World, Guest, start_world, guest_at, guest_of, same_guest, body_for}
use Rattle.jr_meaning.specs.Machine.{after, start, start_reply, mark_ended}
use Rattle.jr_meaning.specs.Frames.{Frame, frames_after, frames_from, frames_of}
use Rattle.jr_meaning.specs.Limits.{Count, is_past, past_limit}
use Rattle.jr_meaning.specs.History.{world_after, MayCome, MayStep, IsLegal}
use Rattle.jr_meaning.proofs.Histories.{world_after-step, world_after-wake}
use Rattle.jr_meaning.proofs.Judging.{world_from-judged}
use Rattle.jr_meaning.proofs.Monitors.{guest-same}
use Rattle.jr_meaning.proofs.Guests.{put-guests, make-guests, wait-guests, resume-guests, notify-guests, notify-all-guests}

-- where the one count isn't past its limit
within : (c : Count) → find is_past (c ∷ []) ≡ None → is_past c ≡ false
within c none = by (is_past c) none
  where
    by : (b : Bool) → cond b (Some c) None ≡ None → b ≡ false
    by true e = cc
    by false e = refl

-- ---- guests

guests-started : (program : Program) (world : World) (frames : ℕ) (g : GuestNo) (object : ObjId) (reply : Reply) → length world.guests ≤ 16 →
    past_limit program world frames g (Start object) ≡ None → reply ≡ start_reply program world object → length (start world object reply).guests ≤ 16
guests-started program world frames g object reply few limit answer =
    subst (λ r. length (start world object r).guests ≤ 16) (sym answer) (by (is_some (guest_of world object)) limit)
  where
    by : (b : Bool) → find is_past (cond b [] (record { kind = Guests; count = length world.guests + 1 } ∷ [])) ≡ None →
        length (start world object (cond b replies.Illegal (replies.Started (record { 0 = length world.guests + 1 }) (body_for program world object)))).guests ≤ 16
    by true none = few
    by false none =
        let most : length world.guests + 1 ≤ 16 = ltb-false 16 (length world.guests + 1) (within (record { kind = Guests; count = length world.guests + 1 }) none) in
        omega (arith, length-append world.guests (record { object = Some object; body = body_for program world object; ended = false } ∷ []))

guests-ended : (world : World) (s : GuestNo) (guest : Option Guest) → length (mark_ended world s guest).guests ≡ length world.guests
guests-ended world s None = refl
guests-ended world s (Some guest) = length-set world.guests (s.0 - 1) (record guest { ended = true })

guests-step : (program : Program) (budget : ℕ) (h : List Event) (g : GuestNo) (deed : Deed) (reply : Reply) → MayStep program budget h g deed reply →
    length (world_after program h).guests ≤ 16 → length (after program (world_after program h) g deed reply).guests ≤ 16
guests-step program budget h g (Start object) reply may few =
    guests-started program (world_after program h) (length (frames_of h g)) g object reply few may.within_limits may.answer
guests-step program budget h g (End how) reply may few =
    let world = world_after program h in omega (arith, guests-ended world g (guest_at world g))
guests-step program budget h g (Put cell value) reply may few = let world = world_after program h in omega (arith, ap length (put-guests world cell value reply))
guests-step program budget h g (New kind) reply may few = let world = world_after program h in omega (arith, ap length (make-guests program world kind reply))
guests-step program budget h g (Wait o) reply may few =
    let world = world_after program h in omega (arith, ap length (wait-guests world (record { guest = g; is_timed = false }) o (world.monitors o) (world.monitors o).hold reply))
guests-step program budget h g (TimedWait o) reply may few =
    let world = world_after program h in omega (arith, ap length (wait-guests world (record { guest = g; is_timed = true }) o (world.monitors o) (world.monitors o).hold reply))
guests-step program budget h g (Resume o) reply may few =
    let world = world_after program h in omega (arith, ap length (resume-guests world g o (world.monitors o) ((world.monitors o).kept g)))
guests-step program budget h g (Notify o) reply may few =
    let world = world_after program h in omega (arith, ap length (notify-guests world o (world.monitors o) reply))
guests-step program budget h g (NotifyAll o) reply may few =
    let world = world_after program h in omega (arith, ap length (notify-all-guests world o (world.monitors o) reply))
guests-step program budget h g (Enter o way) reply may few = few
guests-step program budget h g (Exit o) reply may few = few
guests-step program budget h g _ reply may few = few

-- ---- frames

frames_from-step : (g : GuestNo) (k : ℕ) (frames : List Frame) (h : List Event) (s : GuestNo) (deed : Deed) (reply : Reply) →
    (n : ℕ) × (frames_from g k frames (h ++ Step s deed reply ∷ []) ≡ cond (same_guest s g) (frames_after n (frames_from g k frames h) deed) (frames_from g k frames h))
frames_from-step g k frames [] s deed reply = (k, refl)
frames_from-step g k frames (Step s' d' r' ∷ h) s deed reply =
    frames_from-step g (k + 1) (cond (same_guest s' g) (frames_after k frames d') frames) h s deed reply
frames_from-step g k frames (Judged t p v ∷ h) s deed reply = frames_from-step g k frames h s deed reply
frames_from-step g k frames (Wake w ∷ h) s deed reply = frames_from-step g k frames h s deed reply

frames_from-judged : (g : GuestNo) (k : ℕ) (frames : List Frame) (h : List Event) (t : Stamp) (p : ℕ) (v : Verdict) →
    frames_from g k frames (h ++ Judged t p v ∷ []) ≡ frames_from g k frames h
frames_from-judged g k frames [] t p v = refl
frames_from-judged g k frames (Step s' d' r' ∷ h) t p v = frames_from-judged g (k + 1) (cond (same_guest s' g) (frames_after k frames d') frames) h t p v
frames_from-judged g k frames (Judged t' p' v' ∷ h) t p v = frames_from-judged g k frames h t p v
frames_from-judged g k frames (Wake w ∷ h) t p v = frames_from-judged g k frames h t p v

frames_from-wake : (g : GuestNo) (k : ℕ) (frames : List Frame) (h : List Event) (w : GuestNo) → frames_from g k frames (h ++ Wake w ∷ []) ≡ frames_from g k frames h
frames_from-wake g k frames [] w = refl
frames_from-wake g k frames (Step s' d' r' ∷ h) w = frames_from-wake g (k + 1) (cond (same_guest s' g) (frames_after k frames d') frames) h w
frames_from-wake g k frames (Judged t' p' v' ∷ h) w = frames_from-wake g k frames h w
frames_from-wake g k frames (Wake w' ∷ h) w = frames_from-wake g k frames h w

frames-left : (n : ℕ) (frames : List Frame) (program : Program) (world : World) (g : GuestNo) (deed : Deed) → length frames ≤ 256 →
    past_limit program world (length frames) g deed ≡ None → length (frames_after n frames deed) ≤ 256
frames-left n frames program world g (Call m this arguments) few none =
    let most : length frames + 1 ≤ 256 = ltb-false 256 (length frames + 1) (within (record { kind = Frames; count = length frames + 1 }) none) in omega arith
frames-left n frames program world g (Leave m how) few none = omega (arith, length-drop 1 frames)
frames-left n frames program world g _ few none = few

-- ---- histories

record Few (program : Program) (h : List Event) : Type 0 where
  guests : length (world_after program h).guests ≤ 16
  frames : (g : GuestNo) → length (frames_of h g) ≤ 256

few-step : (program : Program) (budget : ℕ) (h : List Event) (s : GuestNo) (deed : Deed) (reply : Reply) → MayStep program budget h s deed reply → Few program h →
    Few program (h ++ Step s deed reply ∷ [])
few-step program budget h s deed reply may few = record {
  guests = subst (λ w. length w.guests ≤ 16) (sym (world_after-step program h s deed reply)) (guests-step program budget h s deed reply may few.guests);
  frames = frames;
}
  where
    frames : (g : GuestNo) → length (frames_of (h ++ Step s deed reply ∷ []) g) ≤ 256
    frames g =
        let step = frames_from-step g 0 [] h s deed reply in subst (λ fs. length fs ≤ 256) (sym step.1) (by step.0 (same_guest s g) refl)
      where
        by : (n : ℕ) (b : Bool) → same_guest s g ≡ b → length (cond b (frames_after n (frames_of h g) deed) (frames_of h g)) ≤ 256
        by n false is = few.frames g
        by n true is =
            let own : s ≡ g = guest-same s g is in
            frames-left n (frames_of h g) program (world_after program h) s deed (few.frames g)
            (subst (λ x. past_limit program (world_after program h) (length (frames_of h x)) s deed ≡ None) own may.within_limits)

few-judged : (program : Program) (h : List Event) (t : Stamp) (p : ℕ) (v : Verdict) → Few program h → Few program (h ++ Judged t p v ∷ [])
few-judged program h t p v few = record {
  guests = subst (λ w. length w.guests ≤ 16) (sym (world_from-judged program (start_world program) h t p (v ∷ []))) few.guests;
  frames = λ g. subst (λ fs. length fs ≤ 256) (sym (frames_from-judged g 0 [] h t p v)) (few.frames g);
}

few-wake : (program : Program) (h : List Event) (w : GuestNo) → Few program h → Few program (h ++ Wake w ∷ [])
few-wake program h w few = record {
  guests = subst (λ w. length w.guests ≤ 16) (sym (world_after-wake program h w)) few.guests;
  frames = λ g. subst (λ fs. length fs ≤ 256) (sym (frames_from-wake g 0 [] h w)) (few.frames g);
}

along-few : (program : Program) (budget : ℕ) (before h : List Event) → Few program before → Along (MayCome program budget) before h → Few program (before ++ h)
along-few program budget before [] few legal = subst (Few program) (sym (append-nil before)) few
along-few program budget before (Step s deed reply ∷ h) few legal =
    subst (Few program) (append_assoc before (Step s deed reply ∷ []) h)
    (along-few program budget (before ++ Step s deed reply ∷ []) h (few-step program budget before s deed reply legal.0 few) legal.1)
along-few program budget before (Judged t p v ∷ h) few legal =
    subst (Few program) (append_assoc before (Judged t p v ∷ []) h)
    (along-few program budget (before ++ Judged t p v ∷ []) h (few-judged program before t p v few) legal.1)
along-few program budget before (Wake w ∷ h) few legal =
    subst (Few program) (append_assoc before (Wake w ∷ []) h) (along-few program budget (before ++ Wake w ∷ []) h (few-wake program before w few) legal.1)

all-few : (program : Program) (budget : ℕ) (h : List Event) → IsLegal program budget h → Few program h
all-few program budget h legal = along-few program budget [] h (record { guests = lit≤ tt; frames = λ g. lit≤ tt }) legal

pub few-guests : (program : Program) (budget : ℕ) (h : List Event) → IsLegal program budget h → length (world_after program h).guests ≤ 16
few-guests program budget h legal = (all-few program budget h legal).guests

pub few-frames : (program : Program) (budget : ℕ) (h : List Event) → IsLegal program budget h → (g : GuestNo) → length (frames_of h g) ≤ 256
few-frames program budget h legal = (all-few program budget h legal).frames
