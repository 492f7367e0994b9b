-- What a step with its verdicts adds to a history.
use Rattle.std.proofs.Common.{◌≡◌, ◌==◌, ◌+◌, ◌++◌, ℕ, zero, suc, Bool, true, false, not, cond, IsTrue, List, [], ◌∷◌, Option, Some, None, refl, sym, ap, subst, ◌∙◌, arith}
use Rattle.std.proofs.lemmas.Bool.{eq-eqb, true≢false}
use Rattle.std.proofs.lemmas.List.Sums.{sum_by-cons, sum_by-append}
use Rattle.jr_base.specs.Deed.{Deed}
use Rattle.jr_base.specs.Deed as deeds
use Rattle.jr_base.specs.declared.number.GuestNo.{GuestNo}
use Rattle.jr_base.specs.declared.number.Stamp.{Stamp}
use Rattle.jr_base.specs.declared.action.Reply.{Reply}
use Rattle.jr_base.specs.declared.action.Reply.TheVariants as replies
use Rattle.jr_base.specs.declared.action.NewKind.{NewKind}
use Rattle.jr_base.specs.declared.finish.Verdict.{Verdict}
use Rattle.jr_base.specs.declared.value.Value.{Value}
use Rattle.jr_base.specs.declared.value.Cell.{Cell}
use Rattle.jr_program.specs.Programs.{Program}
use Rattle.jr_meaning.specs.Event.{Event, Step, Judged, Wake}
use Rattle.jr_meaning.specs.World.{World, start_world, same_guest, guest_at, is_live}
use Rattle.jr_meaning.specs.Machine.{after, wake, put, make, mark_ended}
use Rattle.jr_meaning.specs.Frames.{Frame, frames_after, frames_from, frames_of}
use Rattle.jr_meaning.specs.History.{world_from, world_after, replies_of, steps_in, step_count}
use Rattle.jr_meaning.specs.Verdicts.{judged_from, clause_values_at, verdicts_of, step_judged}
use Rattle.jr_built.specs.OneThread.{IsPlain, HasOneThread}
use Rattle.jr_drive.specs.Reached.{first_guest, is_end}

-- ---- one history behind another

world-append : (program : Program) (world : World) (h k : List Event) → world_from program world (h ++ k) ≡ world_from program (world_from program world h) k
world-append program world [] k = refl
world-append program world (Step g deed reply ∷ h) k = world-append program (after program world g deed reply) h k
world-append program world (Judged step place value ∷ h) k = world-append program world h k
world-append program world (Wake g ∷ h) k = world-append program (wake world g) h k

cond-append : (b : Bool) (reply : Reply) (xs ys : List Reply) → cond b (reply ∷ (xs ++ ys)) (xs ++ ys) ≡ cond b (reply ∷ xs) xs ++ ys
cond-append true reply xs ys = refl
cond-append false reply xs ys = refl

replies-append : (g : GuestNo) (h k : List Event) → replies_of g (h ++ k) ≡ replies_of g h ++ replies_of g k
replies-append g [] k = refl
replies-append g (Step other deed reply ∷ h) k =
    ap (λ rs. cond (same_guest other g) (reply ∷ rs) rs) (replies-append g h k) ∙ cond-append (same_guest other g) reply (replies_of g h) (replies_of g k)
replies-append g (Judged step place value ∷ h) k = replies-append g h k
replies-append g (Wake woken ∷ h) k = replies-append g h k

frames-append : (g : GuestNo) (n : ℕ) (frames : List Frame) (h k : List Event) →
    frames_from g n frames (h ++ k) ≡ frames_from g (n + step_count h) (frames_from g n frames h) k
frames-append g n frames [] k = let same : n ≡ n + 0 = omega arith in ap (λ i. frames_from g i frames k) same
frames-append g n frames (Step other deed reply ∷ h) k =
    let one : step_count (Step other deed reply ∷ h) ≡ 1 + step_count h = sum_by-cons steps_in (Step other deed reply) h in
    let same : (n + 1) + step_count h ≡ n + step_count (Step other deed reply ∷ h) = omega arith in
    let now : List Frame = cond (same_guest other g) (frames_after n frames deed) frames in
    frames-append g (n + 1) now h k ∙ ap (λ i. frames_from g i (frames_from g (n + 1) now h) k) same
frames-append g n frames (Judged step place value ∷ h) k =
    let none : step_count (Judged step place value ∷ h) ≡ 0 + step_count h = sum_by-cons steps_in (Judged step place value) h in
    let same : n + step_count h ≡ n + step_count (Judged step place value ∷ h) = omega arith in
    frames-append g n frames h k ∙ ap (λ i. frames_from g i (frames_from g n frames h) k) same
frames-append g n frames (Wake woken ∷ h) k =
    let none : step_count (Wake woken ∷ h) ≡ 0 + step_count h = sum_by-cons steps_in (Wake woken) h in
    let same : n + step_count h ≡ n + step_count (Wake woken ∷ h) = omega arith in
    frames-append g n frames h k ∙ ap (λ i. frames_from g i (frames_from g n frames h) k) same

-- ---- verdicts

judged-worlds : (program : Program) (world : World) (step : Stamp) (place : ℕ) (values : List Verdict) → world_from program world (judged_from step place values) ≡ world
judged-worlds program world step place [] = refl
judged-worlds program world step place (value ∷ values) = judged-worlds program world step (place + 1) values

judged-replies : (g : GuestNo) (step : Stamp) (place : ℕ) (values : List Verdict) → replies_of g (judged_from step place values) ≡ []
judged-replies g step place [] = refl
judged-replies g step place (value ∷ values) = judged-replies g step (place + 1) values

judged-frames : (g : GuestNo) (n : ℕ) (frames : List Frame) (step : Stamp) (place : ℕ) (values : List Verdict) → frames_from g n frames (judged_from step place values) ≡ frames
judged-frames g n frames step place [] = refl
judged-frames g n frames step place (value ∷ values) = judged-frames g n frames step (place + 1) values

judged-steps : (step : Stamp) (place : ℕ) (values : List Verdict) → step_count (judged_from step place values) ≡ 0
judged-steps step place [] = refl
judged-steps step place (value ∷ values) =
    let rest : step_count (judged_from step (place + 1) values) ≡ 0 = judged-steps step (place + 1) values in
    let none : step_count (judged_from step place (value ∷ values)) ≡ 0 + step_count (judged_from step (place + 1) values) =
    sum_by-cons steps_in (Judged step place value) (judged_from step (place + 1) values) in omega arith

-- ---- a step with verdicts

module _ (program : Program) (h : List Event) (g : GuestNo) (deed : Deed) (reply : Reply) where
  abbrev judged : List Event
  judged = step_judged program h g deed reply

  abbrev its : Stamp
  its = record { 0 = step_count h }

  abbrev values : List Verdict
  values = clause_values_at program (record { before = h; guest = g; deed = deed })

  itself : same_guest g g ≡ true
  itself = eq-eqb g.0 g.0 refl

  pub step-more : step_count (h ++ judged) ≡ step_count h + 1
  step-more =
      let one : step_count judged ≡ 1 + step_count (verdicts_of program h g deed) = sum_by-cons steps_in (Step g deed reply) (verdicts_of program h g deed) in
      let none : step_count (verdicts_of program h g deed) ≡ 0 = judged-steps its 0 values in
      let sum : step_count (h ++ judged) ≡ step_count h + step_count judged = sum_by-append steps_in h judged in omega arith

  pub world-more : world_after program (h ++ judged) ≡ after program (world_after program h) g deed reply
  world-more = world-append program (start_world program) h judged ∙ judged-worlds program (after program (world_after program h) g deed reply) its 0 values

  pub reply-more : replies_of g (h ++ judged) ≡ replies_of g h ++ reply ∷ []
  reply-more =
      replies-append g h judged
      ∙ ap (λ rs. replies_of g h ++ rs) (ap (λ b. cond b (reply ∷ replies_of g (verdicts_of program h g deed)) (replies_of g (verdicts_of program h g deed))) itself
      ∙ ap (λ rs. reply ∷ rs) (judged-replies g its 0 values))

  pub frames-more : frames_of (h ++ judged) g ≡ frames_after (step_count h) (frames_of h g) deed
  frames-more =
      frames-append g 0 [] h judged
      ∙ (let start : 0 + step_count h ≡ step_count h = omega arith in ap (λ i. frames_from g i (frames_of h g) judged) start)
      ∙ judged-frames g (step_count h + 1) (cond (same_guest g g) (frames_after (step_count h) (frames_of h g) deed) (frames_of h g)) its 0 values
      ∙ ap (λ b. cond b (frames_after (step_count h) (frames_of h g) deed) (frames_of h g)) itself

-- ---- who is live after it

module _ (program : Program) (world : World) where
  put-live : (g : GuestNo) (cell : Cell) (value : Value) (reply : Reply) → is_live (put world cell value reply) g ≡ is_live world g
  put-live g cell value replies.Unit = refl
  put-live g cell value _ = refl

  make-live : (g : GuestNo) (kind : NewKind) (reply : Reply) → is_live (make program world kind reply) g ≡ is_live world g
  make-live g kind (replies.Made object) = refl
  make-live g kind _ = refl

  -- a plain action that is no End ends nobody
  pub live-stays : (g other : GuestNo) (deed : Deed) (reply : Reply) → IsPlain deed → is_end deed ≡ false → is_live (after program world other deed reply) g ≡ is_live world g
  live-stays g other (deeds.Put cell value) reply plain goes = put-live g cell value reply
  live-stays g other (deeds.New kind) reply plain goes = make-live g kind reply
  live-stays g other (deeds.End how) reply plain goes = absurd (true≢false goes)
  live-stays g other (deeds.Enter object way) reply plain goes = absurd plain
  live-stays g other (deeds.Exit object) reply plain goes = absurd plain
  live-stays g other (deeds.Wait object) reply plain goes = absurd plain
  live-stays g other (deeds.TimedWait object) reply plain goes = absurd plain
  live-stays g other (deeds.Resume object) reply plain goes = absurd plain
  live-stays g other (deeds.Notify object) reply plain goes = absurd plain
  live-stays g other (deeds.NotifyAll object) reply plain goes = absurd plain
  live-stays g other (deeds.Start object) reply plain goes = absurd plain
  live-stays g other (deeds.Join object) reply plain goes = absurd plain
  live-stays g other _ reply plain goes = refl

  -- an End of the only thread ends it
  pub end-ends : HasOneThread program world → (deed : Deed) (reply : Reply) → is_end deed ≡ true → is_live (after program world first_guest deed reply) first_guest ≡ false
  end-ends one (deeds.End how) reply ends = ap (λ gs. is_live (mark_ended (record world { guests = gs }) first_guest (guest_at (record world { guests = gs }) first_guest)) first_guest) one.guests
  end-ends one _ reply ends = absurd (true≢false (sym ends))
