-- Only a notification leaves the machine a choice, and its reply tells which it made: so guests that hear the same do
-- the same.
use Rattle.std.proofs.Common.{◌≡◌, ◌≢◌, ℕ, cond, List, [], ◌∷◌, ◌++◌, refl, ap, sym, subst, ◌∙◌}
use Rattle.jr_base.specs.Deed.{Deed, Get, Put, New, Len, Wait, TimedWait, Notify, NotifyAll, Start}
use Rattle.jr_base.specs.declared.number.GuestNo.{GuestNo}
use Rattle.jr_base.specs.declared.number.ObjId.{ObjId}
use Rattle.jr_base.specs.declared.action.Reply.{Reply}
use Rattle.jr_program.specs.Programs.{Program}
use Rattle.jr_meaning.specs.Next.{Wants, next}
use Rattle.jr_meaning.specs.Along.{Along}
use Rattle.jr_meaning.specs.Event.{Event, Step, Judged, Wake, moves_of, Heard, Replied, Woken, heard}
use Rattle.jr_meaning.specs.World.{World, start_world, same_guest}
use Rattle.jr_meaning.specs.Machine.{Answers, after, wake}
use Rattle.jr_meaning.specs.History.{world_from, world_after, replies_of, body_of, next_of, MayCome, MayStep, IsLegal}

-- two replies to one action
pub notify-chooses : (program : Program) (world : World) (g : GuestNo) (deed : Deed) (a b : Reply) → Answers program world g deed a → Answers program world g deed b → a ≢ b →
    (object : ObjId) × (deed ≡ Notify object)
notify-chooses program world g (Notify o) a b x y other = (o, refl)
notify-chooses program world g (Get cell) a b x y other = absurd (other (x ∙ sym y))
notify-chooses program world g (Put cell value) a b x y other = absurd (other (x ∙ sym y))
notify-chooses program world g (New kind) a b x y other = absurd (other (x ∙ sym y))
notify-chooses program world g (Len o) a b x y other = absurd (other (x ∙ sym y))
notify-chooses program world g (Wait o) a b x y other = absurd (other (x ∙ sym y))
notify-chooses program world g (TimedWait o) a b x y other = absurd (other (x ∙ sym y))
notify-chooses program world g (NotifyAll o) a b x y other = absurd (other (x ∙ sym y))
notify-chooses program world g (Start o) a b x y other = absurd (other (x ∙ sym y))
notify-chooses program world g _ a b x y other = absurd (other (x ∙ sym y))

-- ---- verdicts play no part

world-moves : (program : Program) (world : World) (h : List Event) → world_from program world h ≡ world_from program world (moves_of h)
world-moves program world [] = refl
world-moves program world (Step g deed reply ∷ h) = world-moves program (after program world g deed reply) h
world-moves program world (Judged k p v ∷ h) = world-moves program world h
world-moves program world (Wake g ∷ h) = world-moves program (wake world g) h

pub world_after-moves : (program : Program) (h : List Event) → world_after program h ≡ world_after program (moves_of h)
world_after-moves program h = world-moves program (start_world program) h

replies-moves : (g : GuestNo) (h : List Event) → replies_of g h ≡ replies_of g (moves_of h)
replies-moves g [] = refl
replies-moves g (Step s deed reply ∷ h) = ap (λ rs. cond (same_guest s g) (reply ∷ rs) rs) (replies-moves g h)
replies-moves g (Judged k p v ∷ h) = replies-moves g h
replies-moves g (Wake w ∷ h) = replies-moves g h

moves-append : (a b : List Event) → moves_of (a ++ b) ≡ moves_of a ++ moves_of b
moves-append [] b = refl
moves-append (Step g deed reply ∷ a) b = ap (λ es. Step g deed reply ∷ es) (moves-append a b)
moves-append (Judged k p v ∷ a) b = moves-append a b
moves-append (Wake g ∷ a) b = ap (λ es. Wake g ∷ es) (moves-append a b)

append-none : (h : List Event) → h ++ [] ≡ h
append-none [] = refl
append-none (e ∷ h) = ap (λ es. e ∷ es) (append-none h)

none-moves : (h : List Event) → [] ≡ heard h → moves_of h ≡ []
none-moves [] e = refl
none-moves (Step g deed reply ∷ h) e = cc
none-moves (Judged k p v ∷ h) e = none-moves h e
none-moves (Wake g ∷ h) e = cc

-- ---- guests that hear the same do the same

-- the first move of a history, behind verdicts that stand before it
record First (program : Program) (budget : ℕ) (before h : List Event) (move : Event → Type 0) (more : List Heard) : Type 0 where
  behind : List Event
  same : moves_of behind ≡ moves_of before
  event : Event
  is : move event
  may : MayCome program budget behind event
  rest : List Event
  legal : Along (MayCome program budget) (behind ++ event ∷ []) rest
  moves : moves_of h ≡ moves_of (event ∷ rest)
  hears : more ≡ heard rest

abbrev IsReply : GuestNo → Reply → Event → Type 0
IsReply g reply event = (deed : Deed) × (event ≡ Step g deed reply)

abbrev IsWake : GuestNo → Event → Type 0
IsWake g event = event ≡ Wake g

first-reply : (program : Program) (budget : ℕ) (before h : List Event) (g : GuestNo) (reply : Reply) (more : List Heard) → Along (MayCome program budget) before h →
    Replied g reply ∷ more ≡ heard h → First program budget before h (IsReply g reply) more
first-reply program budget before [] g reply more legal e = cc
first-reply program budget before (Wake w ∷ h) g reply more legal e = cc
first-reply program budget before (Step s deed r ∷ h) g reply more legal e =
    let guest : g ≡ s = cc in
    let same : reply ≡ r = cc in
    let hears : more ≡ heard h = cc in
    record {
      behind = before;
      same = refl;
      event = Step s deed r;
      is = (deed, ap (λ x. Step x deed r) (sym guest) ∙ ap (λ x. Step g deed x) (sym same));
      may = legal.0;
      rest = h;
      legal = legal.1;
      moves = refl;
      hears = hears;
    }
first-reply program budget before (Judged k p v ∷ h) g reply more legal e =
    let first = first-reply program budget (before ++ Judged k p v ∷ []) h g reply more legal.1 e in
    record {
      behind = first.behind;
      same = first.same ∙ (moves-append before (Judged k p v ∷ []) ∙ append-none (moves_of before));
      event = first.event;
      is = first.is;
      may = first.may;
      rest = first.rest;
      legal = first.legal;
      moves = first.moves;
      hears = first.hears;
    }

first-wake : (program : Program) (budget : ℕ) (before h : List Event) (g : GuestNo) (more : List Heard) → Along (MayCome program budget) before h →
    Woken g ∷ more ≡ heard h → First program budget before h (IsWake g) more
first-wake program budget before [] g more legal e = cc
first-wake program budget before (Step s deed r ∷ h) g more legal e = cc
first-wake program budget before (Wake w ∷ h) g more legal e =
    let guest : g ≡ w = cc in
    let hears : more ≡ heard h = cc in
    record { behind = before; same = refl; event = Wake w; is = ap Wake (sym guest); may = legal.0; rest = h; legal = legal.1; moves = refl; hears = hears }
first-wake program budget before (Judged k p v ∷ h) g more legal e =
    let first = first-wake program budget (before ++ Judged k p v ∷ []) h g more legal.1 e in
    record {
      behind = first.behind;
      same = first.same ∙ (moves-append before (Judged k p v ∷ []) ∙ append-none (moves_of before));
      event = first.event;
      is = first.is;
      may = first.may;
      rest = first.rest;
      legal = first.legal;
      moves = first.moves;
      hears = first.hears;
    }

next-moves : (program : Program) (a b : List Event) (g : GuestNo) → moves_of a ≡ moves_of b → next_of program a g ≡ next_of program b g
next-moves program a b g same =
    ap (λ w. next program (body_of w g) (replies_of g a)) (world_after-moves program a ∙ (ap (world_after program) same ∙ sym (world_after-moves program b)))
    ∙ ap (λ rs. next program (body_of (world_after program b) g) rs) (replies-moves g a ∙ (ap (replies_of g) same ∙ sym (replies-moves g b)))

wanted-same : (d e : Deed) → Wants d ≡ Wants e → d ≡ e
wanted-same d e is = cc

moves-more : (a b : List Event) (e : Event) → moves_of a ≡ moves_of b → moves_of (a ++ e ∷ []) ≡ moves_of (b ++ e ∷ [])
moves-more a b e same = moves-append a (e ∷ []) ∙ (ap (λ es. es ++ moves_of (e ∷ [])) same ∙ sym (moves-append b (e ∷ [])))

module _ (program : Program) (budget other : ℕ) where
  same-along : (a h b k : List Event) → moves_of b ≡ moves_of a → Along (MayCome program budget) a h → Along (MayCome program other) b k → heard h ≡ heard k → moves_of h ≡ moves_of k
  same-along a [] b k same legal legal' hears = sym (none-moves k hears)
  same-along a (Judged t p v ∷ h) b k same legal legal' hears =
      same-along (a ++ Judged t p v ∷ []) h b k (same ∙ sym (moves-append a (Judged t p v ∷ []) ∙ append-none (moves_of a))) legal.1 legal' hears
  same-along a (Wake w ∷ h) b k same legal legal' hears =
      let first = first-wake program other b k w (heard h) legal' hears in
      ap (λ es. Wake w ∷ es) (same-along (a ++ Wake w ∷ []) h (first.behind ++ Wake w ∷ []) first.rest (moves-more first.behind a (Wake w) (first.same ∙ same)) legal.1
      (subst (λ e. Along (MayCome program other) (first.behind ++ e ∷ []) first.rest) first.is first.legal) first.hears)
      ∙ sym (first.moves ∙ ap (λ e. moves_of (e ∷ first.rest)) first.is)
  same-along a (Step g deed reply ∷ h) b k same legal legal' hears =
      let first = first-reply program other b k g reply (heard h) legal' hears in
      let event : first.event ≡ Step g first.is.0 reply = first.is.1 in
      let may : MayStep program other first.behind g first.is.0 reply = subst (MayCome program other first.behind) event first.may in
      let next : first.is.0 ≡ deed = wanted-same first.is.0 deed (sym may.can.next ∙ (next-moves program first.behind a g (first.same ∙ same) ∙ legal.0.can.next)) in
      let is : first.event ≡ Step g deed reply = event ∙ ap (λ d. Step g d reply) next in
      ap (λ es. Step g deed reply ∷ es) (same-along (a ++ Step g deed reply ∷ []) h (first.behind ++ Step g deed reply ∷ []) first.rest
      (moves-more first.behind a (Step g deed reply) (first.same ∙ same)) legal.1
      (subst (λ e. Along (MayCome program other) (first.behind ++ e ∷ []) first.rest) is first.legal) first.hears)
      ∙ sym (first.moves ∙ ap (λ e. moves_of (e ∷ first.rest)) is)

  pub same-moves : (h k : List Event) → IsLegal program budget h → IsLegal program other k → heard h ≡ heard k → moves_of h ≡ moves_of k
  same-moves h k legal legal' hears = same-along [] h [] k refl legal legal' hears
