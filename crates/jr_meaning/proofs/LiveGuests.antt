-- In a legal history each live guest wants something, and the history has a true finish or can go on.
use Rattle.std.proofs.Common.{◌≡◌, ℕ, not, Bool, true, false, cond, IsTrue, List, [], ◌∷◌, ◌++◌, Option, Some, None, refl, ap, sym, subst, ◌∙◌}
use Rattle.std.specs.Option.{option_map_or}
use Rattle.std.proofs.lemmas.Bool.{true≢false}
use Rattle.jr_base.specs.Deed.{Deed, Back, End}
use Rattle.jr_base.specs.declared.number.GuestNo.{GuestNo}
use Rattle.jr_base.specs.declared.action.EndHow.{EndHow}
use Rattle.jr_base.specs.declared.action.Reply.{Reply}
use Rattle.jr_program.specs.Programs.{Program}
use Rattle.jr_meaning.specs.Next.{Next, Wants, Ended, next, HasEnded}
use Rattle.jr_meaning.proofs.Endings.{ends-made}
use Rattle.jr_meaning.specs.Event.{Event, Step, Judged, Wake}
use Rattle.jr_meaning.specs.World.{World, Guest, guest_at, is_live, same_guest, start_world}
use Rattle.jr_meaning.specs.Machine.{after, wake}
use Rattle.jr_meaning.specs.History.{world_from, world_after, replies_of, body_of, next_of, MayCome, MayStep, IsLegal}
use Rattle.jr_meaning.proofs.Histories.{Each-at}
use Rattle.jr_meaning.proofs.Monitors.{guest-same}
use Rattle.jr_meaning.proofs.Guests.{Stays, stays-along, end-ends}

-- ---- where a guest had one of its replies

pub record Had (g : GuestNo) (h : List Event) (before : List Reply) : Type 0 where
  pub front : List Event
  pub deed : Deed
  pub reply : Reply
  pub back : List Event
  pub split : h ≡ front ++ Step g deed reply ∷ back
  pub so_far : replies_of g front ≡ before

head-same : {A : Type 0} (x y : A) (xs ys : List A) → x ∷ xs ≡ y ∷ ys → x ≡ y
head-same x y xs ys e = cc

tail-same : {A : Type 0} (x y : A) (xs ys : List A) → x ∷ xs ≡ y ∷ ys → xs ≡ ys
tail-same x y xs ys e = cc

had : (g : GuestNo) (h : List Event) (before : List Reply) (reply : Reply) (more : List Reply) → replies_of g h ≡ before ++ reply ∷ more → Had g h before
had g [] [] reply more e = cc
had g [] (b ∷ before) reply more e = cc
had g (Judged k p v ∷ h) before reply more e =
    let rest = had g h before reply more e in
    record { front = Judged k p v ∷ rest.front; deed = rest.deed; reply = rest.reply; back = rest.back; split = ap (λ es. Judged k p v ∷ es) rest.split; so_far = rest.so_far }
had g (Wake w ∷ h) before reply more e =
    let rest = had g h before reply more e in
    record { front = Wake w ∷ rest.front; deed = rest.deed; reply = rest.reply; back = rest.back; split = ap (λ es. Wake w ∷ es) rest.split; so_far = rest.so_far }
had g (Step s d r ∷ h) before reply more e = by (same_guest s g) refl before e (λ before. had g h before reply more)
  where
    by : (b : Bool) → same_guest s g ≡ b → (before : List Reply) → cond b (r ∷ replies_of g h) (replies_of g h) ≡ before ++ reply ∷ more →
        ((before : List Reply) → replies_of g h ≡ before ++ reply ∷ more → Had g h before) → Had g (Step s d r ∷ h) before
    by false is before e rest =
        let there = rest before e in
        record { front = Step s d r ∷ there.front; deed = there.deed; reply = there.reply; back = there.back; split = ap (λ es. Step s d r ∷ es) there.split; so_far = rw is there.so_far }
    by true is [] e rest =
        record { front = []; deed = d; reply = r; back = h; split = ap (λ x. Step x d r ∷ h) (guest-same s g is); so_far = refl }
    by true is (b ∷ before) e rest =
        let there = rest before (tail-same r b (replies_of g h) (before ++ reply ∷ more) e) in
        record {
          front = Step s d r ∷ there.front;
          deed = there.deed;
          reply = there.reply;
          back = there.back;
          split = ap (λ es. Step s d r ∷ es) there.split;
          so_far = rw is (ap (λ rs. r ∷ rs) there.so_far ∙ ap (λ x. x ∷ before) (head-same r b (replies_of g h) (before ++ reply ∷ more) e));
        }

-- ---- live guests

pub world_from-append : (program : Program) (world : World) (front back : List Event) →
    world_from program world (front ++ back) ≡ world_from program (world_from program world front) back
world_from-append program world [] back = refl
world_from-append program world (Step s d r ∷ front) back = world_from-append program (after program world s d r) front back
world_from-append program world (Judged k p v ∷ front) back = world_from-append program world front back
world_from-append program world (Wake w ∷ front) back = world_from-append program (wake world w) front back

pub live-there : (world : World) (g : GuestNo) → is_live world g ≡ true → (guest : Guest) × (guest_at world g ≡ Some guest)
live-there world g live = by (guest_at world g) live
  where
    by : (o : Option Guest) → option_map_or (λ (guest : Guest). not guest.ended) o false ≡ true → (guest : Guest) × (o ≡ Some guest)
    by None live = cc
    by (Some guest) live = (guest, refl)

abbrev wanted : Next → Deed
wanted (Wants deed) = deed
wanted Ended = Back

-- a guest that made its End isn't live
over-not-live : (program : Program) (world : World) (g : GuestNo) (guest : Guest) (how : EndHow) (reply : Reply) (back : List Event) → guest_at world g ≡ Some guest →
    is_live (world_from program (after program world g (End how) reply) back) g ≡ false
over-not-live program world g guest how reply back e =
    let later = stays-along program (after program world g (End how) reply) back g (record guest { ended = true }) (end-ends world g guest e) in
    ap (λ o. option_map_or (λ (guest : Guest). not guest.ended) o false) later.at ∙ ap not (later.over refl)

module _ (program : Program) (budget : ℕ) (h : List Event) (legal : IsLegal program budget h) (g : GuestNo) where
  ended-not-live : next_of program h g ≡ Ended → is_live (world_after program h) g ≡ true → ⊥
  ended-not-live none live = true≢false (sym live ∙ dead)
    where
      ends : HasEnded program (body_of (world_after program h) g) (replies_of g h)
      ends = ends-made program (body_of (world_after program h) g) (replies_of g h) none

      there : Had g h ends.before
      there = had g h ends.before ends.reply ends.after ends.split

      may : MayStep program budget there.front g there.deed there.reply
      may = Each-at (MayCome program budget) there.front (Step g there.deed there.reply) there.back (subst (IsLegal program budget) there.split legal)

      then : (guest : Guest) × (guest_at (world_after program there.front) g ≡ Some guest)
      then = live-there (world_after program there.front) g may.can.live

      world : world_after program h ≡ world_from program (world_after program there.front) (Step g there.deed there.reply ∷ there.back)
      world = ap (world_after program) there.split ∙ world_from-append program (start_world program) there.front (Step g there.deed there.reply ∷ there.back)

      later : Stays (world_after program there.front) (world_after program h) g then.0
      later =
          subst (λ w. Stays (world_after program there.front) w g then.0) (sym world)
          (stays-along program (world_after program there.front) (Step g there.deed there.reply ∷ there.back) g then.0 then.1)

      body : body_of (world_after program h) g ≡ body_of (world_after program there.front) g
      body =
          ap (λ o. option_map_or (λ (y : Guest). y.body) o None) later.at
          ∙ (later.same ∙ sym (ap (λ o. option_map_or (λ (y : Guest). y.body) o None) then.1))

      deed : there.deed ≡ End ends.how
      deed = ap wanted (sym may.can.next ∙ (ap (λ b. next program b (replies_of g there.front)) (sym body)
          ∙ (ap (next program (body_of (world_after program h) g)) there.so_far ∙ ends.end)))

      dead : is_live (world_after program h) g ≡ false
      dead =
          ap (λ w. is_live w g) world ∙ (ap (λ d. is_live (world_from program (after program (world_after program there.front) g d there.reply) there.back) g) deed
          ∙ over-not-live program (world_after program there.front) g then.0 ends.how there.reply there.back then.1)

  -- a live guest wants something
  pub live-wants : IsTrue (is_live (world_after program h) g) → (deed : Deed) × (next_of program h g ≡ Wants deed)
  live-wants live = by (next_of program h g) refl
    where
      by : (n : Next) → next_of program h g ≡ n → (deed : Deed) × (next_of program h g ≡ Wants deed)
      by (Wants deed) is = (deed, is)
      by Ended is = absurd (ended-not-live is live)
