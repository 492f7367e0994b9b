-- What a guest keeps from its Wait to its Resume.
use Rattle.std.proofs.Common.{◌≡◌, ℕ, Bool, true, false, cond, ne_eqb, List, [], ◌∷◌, Option, Some, None, refl, sym, ◌∙◌, ap}
use Rattle.std.proofs.lemmas.Bool.{eqb-false}
use Rattle.jr_base.specs.Deed.{Deed, Put, New, Enter, Exit, Wait, TimedWait, Resume, Notify, NotifyAll, Start, End}
use Rattle.jr_base.specs.declared.number.ObjId.{ObjId}
use Rattle.jr_base.specs.declared.number.GuestNo.{GuestNo}
use Rattle.jr_base.specs.declared.action.NewKind.{NewKind}
use Rattle.jr_base.specs.declared.action.Reply.{Reply}
use Rattle.jr_base.specs.declared.action.Reply.TheVariants as replies
use Rattle.jr_base.specs.declared.value.Cell.{Cell}
use Rattle.jr_base.specs.declared.value.Value.{Value}
use Rattle.jr_program.specs.Programs.{Program}
use Rattle.jr_meaning.specs.Event.{Event, Step, Judged, Wake}
use Rattle.jr_meaning.specs.History.{replies_of, world_from}
use Rattle.jr_meaning.specs.Machine.{after, make, mark_ended, notify, notify_all, put, resume, start, keeping, wait, wake, with_monitor, with_waiter}
use Rattle.jr_meaning.specs.World.{World, Guest, Hold, Monitor, Waiter, guest_at, same_guest, same_object}
use Rattle.jr_monitors.proofs.Owning.{guest_itself, object_is, object_itself}

-- ---- steps that change no monitor

put-monitors : (world : World) (cell : Cell) (value : Value) (reply : Reply) → (put world cell value reply).monitors ≡ world.monitors
put-monitors world cell value replies.Unit = refl
put-monitors world cell value _ = refl

make-monitors : (program : Program) (world : World) (kind : NewKind) (reply : Reply) → (make program world kind reply).monitors ≡ world.monitors
make-monitors program world kind (replies.Made object) = refl
make-monitors program world kind _ = refl

start-monitors : (world : World) (object : ObjId) (reply : Reply) → (start world object reply).monitors ≡ world.monitors
start-monitors world object (replies.Started g body) = refl
start-monitors world object _ = refl

end-monitors : (world : World) (s : GuestNo) (guest : Option Guest) → (mark_ended world s guest).monitors ≡ world.monitors
end-monitors world s None = refl
end-monitors world s (Some guest) = refl

other-way : (a b : GuestNo) → same_guest a b ≡ false → same_guest b a ≡ false
other-way a b e = ne_eqb b.0 a.0 (λ same. eqb-false a.0 b.0 e (sym same))

-- ---- what another guest does leaves what this one keeps

module _ (g : GuestNo) (object : ObjId) where
  abbrev kept : World → Option ℕ
  kept world = (world.monitors object).kept g

  module _ (world : World) where
    at-one : (m : Monitor) (o : ObjId) → m.kept g ≡ (world.monitors o).kept g → kept (with_monitor world o m) ≡ kept world
    at-one m o same = here (same_object object o) refl
      where
        here : (b : Bool) → same_object object o ≡ b → (cond b m (world.monitors object)).kept g ≡ kept world
        here true it = same ∙ ap (λ p. (world.monitors p).kept g) (sym (object_is object o it))
        here false it = refl

    given-anew : (s : GuestNo) (depth : Option ℕ) (o : ObjId) → same_guest s g ≡ false → cond (same_guest g s) depth ((world.monitors o).kept g) ≡ (world.monitors o).kept g
    given-anew s depth o other = ap (λ b. cond b depth ((world.monitors o).kept g)) (other-way s g other)

    wait-kept : (w : Waiter) (o : ObjId) → same_guest w.guest g ≡ false → (hold : Option Hold) (reply : Reply) → kept (wait world w o (world.monitors o) hold reply) ≡ kept world
    wait-kept w o other None reply = refl
    wait-kept w o other (Some hold) replies.Unit = at-one _ o (given-anew w.guest (Some hold.depth) o other)
    wait-kept w o other (Some hold) _ = refl

    resume-kept : (s : GuestNo) (o : ObjId) → same_guest s g ≡ false → (depth : Option ℕ) → kept (resume world s o (world.monitors o) depth) ≡ kept world
    resume-kept s o other None = refl
    resume-kept s o other (Some depth) = at-one _ o (given-anew s None o other)

    notify-kept : (o : ObjId) (reply : Reply) → kept (notify world o (world.monitors o) reply) ≡ kept world
    notify-kept o (replies.Woke n) = at-one _ o refl
    notify-kept o _ = refl

    notify_all-kept : (o : ObjId) (reply : Reply) → kept (notify_all world o (world.monitors o) reply) ≡ kept world
    notify_all-kept o replies.Unit = at-one _ o refl
    notify_all-kept o _ = refl

    step-kept : (program : Program) (s : GuestNo) (deed : Deed) (reply : Reply) → same_guest s g ≡ false → kept (after program world s deed reply) ≡ kept world
    step-kept program s (Put cell value) reply other = ap (λ (ms : ObjId → Monitor). (ms object).kept g) (put-monitors world cell value reply)
    step-kept program s (New kind) reply other = ap (λ (ms : ObjId → Monitor). (ms object).kept g) (make-monitors program world kind reply)
    step-kept program s (Start o) reply other = ap (λ (ms : ObjId → Monitor). (ms object).kept g) (start-monitors world o reply)
    step-kept program s (End how) reply other = ap (λ (ms : ObjId → Monitor). (ms object).kept g) (end-monitors world s (guest_at world s))
    step-kept program s (Enter o way) reply other = at-one _ o refl
    step-kept program s (Exit o) reply other = at-one _ o refl
    step-kept program s (Wait o) reply other = wait-kept _ o other (world.monitors o).hold reply
    step-kept program s (TimedWait o) reply other = wait-kept _ o other (world.monitors o).hold reply
    step-kept program s (Resume o) reply other = resume-kept s o other ((world.monitors o).kept s)
    step-kept program s (Notify o) reply other = notify-kept o reply
    step-kept program s (NotifyAll o) reply other = notify_all-kept o reply
    step-kept program s deed reply other = refl

  -- entries of which none is a step of that guest
  meanwhile : (program : Program) (h : List Event) (world : World) → replies_of g h ≡ [] → kept (world_from program world h) ≡ kept world
  meanwhile program [] world none = refl
  meanwhile program (Step s deed reply ∷ h) world none = one (same_guest s g) refl none (meanwhile program h (after program world s deed reply))
    where
      one : (b : Bool) → same_guest s g ≡ b → cond b (reply ∷ replies_of g h) (replies_of g h) ≡ []
          → (replies_of g h ≡ [] → kept (world_from program (after program world s deed reply) h) ≡ kept (after program world s deed reply))
          → kept (world_from program (after program world s deed reply) h) ≡ kept world
      one true own e rest = absurd (cc)
      one false own e rest = rest e ∙ step-kept world program s deed reply own
  meanwhile program (Judged step place value ∷ h) world none = meanwhile program h world none
  meanwhile program (Wake s ∷ h) world none = meanwhile program h (wake world s) none

  -- ---- the Wait and the Resume

  module _ (depth : ℕ) where
    abbrev waited : World → Bool → Monitor
    waited world timed = record {
      hold = None;
      waiting = with_waiter (record { guest = g; is_timed = timed }) (world.monitors object).waiting;
      kept = keeping (world.monitors object).kept g (Some depth);
    }

    abbrev resumed : World → Monitor
    resumed world = record (world.monitors object) { hold = Some (record { guest = g; depth = depth }); kept = keeping (world.monitors object).kept g None }

    wait-keeps : (world : World) (timed : Bool) → (world.monitors object).hold ≡ Some (record { guest = g; depth = depth })
        → kept (wait world (record { guest = g; is_timed = timed }) object (world.monitors object) (world.monitors object).hold replies.Unit) ≡ Some depth
    wait-keeps world timed held =
        ap (λ h. kept (wait world (record { guest = g; is_timed = timed }) object (world.monitors object) h replies.Unit)) held
        ∙ (ap (λ b. (cond b (waited world timed) (world.monitors object)).kept g) (object_itself object)
        ∙ ap (λ b. cond b (Some depth) (kept world)) (guest_itself g))

    resume-takes : (world : World) → kept world ≡ Some depth
        → ((resume world g object (world.monitors object) (kept world)).monitors object).hold ≡ Some (record { guest = g; depth = depth })
    resume-takes world has =
        ap (λ k. ((resume world g object (world.monitors object) k).monitors object).hold) has
        ∙ ap (λ b. (cond b (resumed world) (world.monitors object)).hold) (object_itself object)

    pub given-back : (program : Program) (world : World) (h : List Event) (timed : Bool) → (world.monitors object).hold ≡ Some (record { guest = g; depth = depth }) → replies_of g h ≡ []
        → ((after program (world_from program (wait world (record { guest = g; is_timed = timed }) object (world.monitors object) (world.monitors object).hold replies.Unit) h) g (Resume object) replies.Unit).monitors object).hold
        ≡ Some (record { guest = g; depth = depth })
    given-back program world h timed held none =
        let first = wait world (record { guest = g; is_timed = timed }) object (world.monitors object) (world.monitors object).hold replies.Unit in
        resume-takes (world_from program first h) (meanwhile program h first none ∙ wait-keeps world timed held)
