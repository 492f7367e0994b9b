-- In a legal history a guest's frames are those that its calls opened and its returns left, and what is done in a frame
-- is done in the newest one.
use Rattle.std.proofs.Common.{◌≡◌, ◌+◌, ℕ, Bool, true, false, cond, map, List, [], ◌∷◌, ◌++◌, Option, Some, None, is_some, refl, ap, sym, subst, ◌∙◌, append_assoc, IsTrue}
use Rattle.std.specs.Option.{option_map_or}
use Rattle.jr_base.specs.Deed.{Deed}
use Rattle.jr_base.specs.Deed as deeds
use Rattle.jr_base.specs.declared.number.GuestNo.{GuestNo}
use Rattle.jr_base.specs.declared.number.MethodId.{MethodId}
use Rattle.jr_base.specs.declared.action.Body.{Body}
use Rattle.jr_base.specs.declared.action.Reply.{Reply}
use Rattle.jr_base.specs.declared.action.EndHow.{EndHow}
use Rattle.jr_base.specs.declared.action.LeaveHow.{LeaveHow}
use Rattle.jr_base.specs.declared.action.LeaveHow.TheVariants.{Normal}
use Rattle.jr_base.specs.declared.action.Way.TheVariants as ways
use Rattle.jr_base.specs.declared.value.Value.{Value}
use Rattle.jr_program.specs.Programs.{Program, method_at}
use Rattle.jr_meaning.specs.Next.{Wants, next, result_kind}
use Rattle.jr_meaning.specs.Along.{Along}
use Rattle.jr_meaning.specs.Event.{Event, Step, Judged, Wake}
use Rattle.jr_meaning.specs.World.{Guest, guest_at, same_guest, start_world}
use Rattle.jr_meaning.specs.Frames.{Frame, frames_after, frames_from, frames_of, needs_frame}
use Rattle.jr_meaning.specs.History.{world_after, replies_of, body_of, MayCome, MayStep, IsLegal}
use Rattle.jr_meaning.proofs.Pieces.{opened, opened-by, AtTop}
use Rattle.jr_meaning.proofs.Endings.{Does, Next-deed, frame-at-top}
use Rattle.jr_meaning.proofs.Histories.{replies_of-own, replies_of-wake}
use Rattle.jr_meaning.proofs.Judging.{replies_of-judged}
use Rattle.jr_meaning.proofs.WaitSets.{replies_of-other}
use Rattle.jr_meaning.proofs.Monitors.{guest-same}
use Rattle.jr_meaning.proofs.Guests.{Stays, stays-along}
use Rattle.jr_meaning.proofs.LiveGuests.{world_from-append, live-there}

-- what a guest did
deeds_of : GuestNo → List Event → List Deed
deeds_of g [] = []
deeds_of g (Step s deed reply ∷ h) = cond (same_guest s g) (deed ∷ deeds_of g h) (deeds_of g h)
deeds_of g (Judged k p v ∷ h) = deeds_of g h
deeds_of g (Wake w ∷ h) = deeds_of g h

abbrev methods : List Frame → List MethodId
methods frames = map (λ (f : Frame). f.method) frames

-- ---- frames are what was opened and not left

methods-after : (k : ℕ) (frames : List Frame) (deed : Deed) → methods (frames_after k frames deed) ≡ opened deed (methods frames)
methods-after k frames (deeds.Call m this arguments) = refl
methods-after k [] (deeds.Leave m how) = refl
methods-after k (f ∷ frames) (deeds.Leave m how) = refl
methods-after k frames _ = refl

methods-from : (g : GuestNo) (k : ℕ) (frames : List Frame) (h : List Event) → methods (frames_from g k frames h) ≡ opened-by (deeds_of g h) (methods frames)
unfolding deeds_of
methods-from g k frames [] = refl
methods-from g k frames (Step s deed reply ∷ h) = by (same_guest s g) (λ frames. methods-from g (k + 1) frames h)
  where
    by : (b : Bool) → ((frames : List Frame) → methods (frames_from g (k + 1) frames h) ≡ opened-by (deeds_of g h) (methods frames)) →
        methods (frames_from g (k + 1) (cond b (frames_after k frames deed) frames) h) ≡ opened-by (cond b (deed ∷ deeds_of g h) (deeds_of g h)) (methods frames)
    by true rest = rest (frames_after k frames deed) ∙ ap (opened-by (deeds_of g h)) (methods-after k frames deed)
    by false rest = rest frames
methods-from g k frames (Judged t p v ∷ h) = methods-from g k frames h
methods-from g k frames (Wake w ∷ h) = methods-from g k frames h

-- ---- what a guest did is what its thread does

module _ (program : Program) (budget : ℕ) (g : GuestNo) (body : Option Body) where
  -- a guest that made a step had the body by then that it has for good
  body-then : (front back : List Event) (deed : Deed) (reply : Reply) → MayStep program budget front g deed reply →
      body_of (world_after program (front ++ Step g deed reply ∷ back)) g ≡ body → body_of (world_after program front) g ≡ body
  body-then front back deed reply may is = sym same ∙ is
    where
      there : (guest : Guest) × (guest_at (world_after program front) g ≡ Some guest)
      there = live-there (world_after program front) g may.can.live

      later : Stays (world_after program front) (world_after program (front ++ Step g deed reply ∷ back)) g there.0
      later =
          subst (λ w. Stays (world_after program front) w g there.0) (sym (world_from-append program (start_world program) front (Step g deed reply ∷ back)))
          (stays-along program (world_after program front) (Step g deed reply ∷ back) g there.0 there.1)

      same : body_of (world_after program (front ++ Step g deed reply ∷ back)) g ≡ body_of (world_after program front) g
      same = ap (λ o. option_map_or (λ (y : Guest). y.body) o None) later.at ∙ (later.same ∙ sym (ap (λ o. option_map_or (λ (y : Guest). y.body) o None) there.1))

  abbrev Doing : List Event → List Event → Type 0
  Doing front rest = Does program body (replies_of g front) (replies_of g rest) (deeds_of g rest)

  did : (front rest : List Event) → Along (MayCome program budget) front rest → body_of (world_after program (front ++ rest)) g ≡ body → Doing front rest
  unfolding deeds_of
  did front [] legal is = tt
  did front (Judged k p v ∷ rest) legal is =
      subst (λ rs. Does program body rs (replies_of g rest) (deeds_of g rest)) (replies_of-judged g front k p (v ∷ []))
      (did (front ++ Judged k p v ∷ []) rest legal.1 (ap (λ h. body_of (world_after program h) g) (append_assoc front (Judged k p v ∷ []) rest) ∙ is))
  did front (Wake w ∷ rest) legal is =
      subst (λ rs. Does program body rs (replies_of g rest) (deeds_of g rest)) (replies_of-wake g front w)
      (did (front ++ Wake w ∷ []) rest legal.1 (ap (λ h. body_of (world_after program h) g) (append_assoc front (Wake w ∷ []) rest) ∙ is))
  did front (Step s deed reply ∷ rest) legal is =
      by (same_guest s g) refl legal.0 is (did (front ++ Step s deed reply ∷ []) rest legal.1 (ap (λ h. body_of (world_after program h) g) (append_assoc front (Step s deed reply ∷ []) rest) ∙ is))
    where
      own : (s : GuestNo) → s ≡ g → MayStep program budget front s deed reply → body_of (world_after program (front ++ Step s deed reply ∷ rest)) g ≡ body →
          Does program body (replies_of g (front ++ Step s deed reply ∷ [])) (replies_of g rest) (deeds_of g rest) →
          Does program body (replies_of g front) (reply ∷ replies_of g rest) (deed ∷ deeds_of g rest)
      own s e may is later =
          let mine : MayStep program budget front g deed reply = subst (λ s. MayStep program budget front s deed reply) e may in
          let at : body_of (world_after program (front ++ Step g deed reply ∷ rest)) g ≡ body = subst (λ s. body_of (world_after program (front ++ Step s deed reply ∷ rest)) g ≡ body) e is in (
            ap (λ b. next program b (replies_of g front)) (sym (body-then front rest deed reply mine at)) ∙ mine.can.next,
            subst (λ rs. Does program body rs (replies_of g rest) (deeds_of g rest)) (replies_of-own g front deed reply)
                (subst (λ s. Does program body (replies_of g (front ++ Step s deed reply ∷ [])) (replies_of g rest) (deeds_of g rest)) e later),
          )

      by : (b : Bool) → same_guest s g ≡ b → MayStep program budget front s deed reply → body_of (world_after program (front ++ Step s deed reply ∷ rest)) g ≡ body →
          Does program body (replies_of g (front ++ Step s deed reply ∷ [])) (replies_of g rest) (deeds_of g rest) →
          Does program body (replies_of g front) (cond b (reply ∷ replies_of g rest) (replies_of g rest)) (cond b (deed ∷ deeds_of g rest) (deeds_of g rest))
      by true e may is later = own s (guest-same s g e) may is later
      by false e may is later = subst (λ rs. Does program body rs (replies_of g rest) (deeds_of g rest)) (replies_of-other g s front deed reply e) later

does-same : (program : Program) (start : Option Body) (before tape : List Reply) (ds es : List Deed) → Does program start before tape ds → Does program start before tape es → ds ≡ es
does-same program start before [] [] [] m n = refl
does-same program start before [] [] (e ∷ es) m n = absurd n
does-same program start before [] (d ∷ ds) es m n = absurd m
does-same program start before (r ∷ tape) [] es m n = absurd m
does-same program start before (r ∷ tape) (d ∷ ds) [] m n = absurd n
does-same program start before (r ∷ tape) (d ∷ ds) (e ∷ es) m n =
    ap (λ x. x ∷ ds) (one d e (sym m.0 ∙ n.0)) ∙ ap (λ xs. e ∷ xs) (does-same program start (before ++ r ∷ []) tape ds es m.1 n.1)
  where
    one : (d e : Deed) → Wants d ≡ Wants e → d ≡ e
    one d e is = cc

-- ---- what is done is done in the newest frame

at-top : (program : Program) (budget : ℕ) (h : List Event) (g : GuestNo) (deed : Deed) (reply : Reply) → IsLegal program budget h → MayStep program budget h g deed reply →
    ((how : EndHow) → deed ≡ deeds.End how → ⊥) → AtTop program deed (methods (frames_of h g))
at-top program budget h g deed reply legal may other =
    let body : Option Body = body_of (world_after program h) g in
    let now : Next-deed program body (replies_of g h) deed = frame-at-top program body (replies_of g h) deed may.can.next other in
    let same : now.does ≡ deeds_of g h = does-same program body [] (replies_of g h) now.does (deeds_of g h) now.did (did program budget g body [] h legal refl) in
    subst (AtTop program deed) (ap (λ ds. opened-by ds []) same ∙ sym (methods-from g 0 [] h)) now.at_top

pub leave-newest : (program : Program) (budget : ℕ) (h : List Event) (g : GuestNo) (method : MethodId) (how : LeaveHow) (reply : Reply) → IsLegal program budget h →
    MayStep program budget h g (deeds.Leave method how) reply → (frame : Frame) × (below : List Frame) × (frames_of h g ≡ frame ∷ below) × (frame.method ≡ method)
leave-newest program budget h g method how reply legal may = by (frames_of h g) refl (at-top program budget h g (deeds.Leave method how) reply legal may (λ end e. cc))
  where
    by : (frames : List Frame) → frames_of h g ≡ frames → AtTop program (deeds.Leave method how) (methods frames) →
        (frame : Frame) × (below : List Frame) × (frames_of h g ≡ frame ∷ below) × (frame.method ≡ method)
    by [] is top = absurd top
    by (f ∷ frames) is top = (f, frames, is, top.0)

pub leave-result : (program : Program) (budget : ℕ) (h : List Event) (g : GuestNo) (method : MethodId) (result : Option Value) (reply : Reply) → IsLegal program budget h →
    MayStep program budget h g (deeds.Leave method (Normal result)) reply → is_some result ≡ is_some (result_kind (method_at program method))
leave-result program budget h g method result reply legal may = by (frames_of h g) (at-top program budget h g (deeds.Leave method (Normal result)) reply legal may (λ end e. cc))
  where
    by : (frames : List Frame) → AtTop program (deeds.Leave method (Normal result)) (methods frames) → is_some result ≡ is_some (result_kind (method_at program method))
    by [] top = absurd top
    by (f ∷ frames) top = top.1

pub commit-newest : (program : Program) (budget : ℕ) (h : List Event) (g : GuestNo) (method : MethodId) (reply : Reply) → IsLegal program budget h →
    MayStep program budget h g (deeds.Commit method) reply → (frame : Frame) × (below : List Frame) × (frames_of h g ≡ frame ∷ below) × (frame.method ≡ method)
commit-newest program budget h g method reply legal may = by (frames_of h g) refl (at-top program budget h g (deeds.Commit method) reply legal may (λ end e. cc))
  where
    by : (frames : List Frame) → frames_of h g ≡ frames → AtTop program (deeds.Commit method) (methods frames) →
        (frame : Frame) × (below : List Frame) × (frames_of h g ≡ frame ∷ below) × (frame.method ≡ method)
    by [] is top = absurd top
    by (f ∷ frames) is top = (f, frames, is, top)

pub in-frame : (program : Program) (budget : ℕ) (h : List Event) (g : GuestNo) (deed : Deed) (reply : Reply) → IsLegal program budget h →
    MayStep program budget h g deed reply → IsTrue (needs_frame deed) → (frame : Frame) × (below : List Frame) × (frames_of h g ≡ frame ∷ below)
in-frame program budget h g deed reply legal may needs = by (frames_of h g) refl deed needs (at-top program budget h g deed reply legal may (no-end deed needs))
  where
    no-end : (deed : Deed) → needs_frame deed ≡ true → (how : EndHow) → deed ≡ deeds.End how → ⊥
    no-end deed needs how e = let not_so : false ≡ true = ap needs_frame (sym e) ∙ needs in cc

    by : (frames : List Frame) → frames_of h g ≡ frames → (deed : Deed) → needs_frame deed ≡ true → AtTop program deed (methods frames) →
        (frame : Frame) × (below : List Frame) × (frames_of h g ≡ frame ∷ below)
    by (f ∷ frames) is deed needs top = (f, frames, is)
    by [] is (deeds.Leave m how) needs top = absurd top
    by [] is (deeds.Commit m) needs top = absurd top
    by [] is (deeds.Get cell) needs top = absurd top
    by [] is (deeds.Put cell value) needs top = absurd top
    by [] is (deeds.Enter o ways.Block) needs top = absurd top
    by [] is (deeds.Enter o ways.Method) needs top = cc
    by [] is (deeds.Assert clause env) needs top = absurd top
    by [] is _ needs top = cc
