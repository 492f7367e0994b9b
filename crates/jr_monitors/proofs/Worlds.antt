-- What holds of one world and of another that has the same monitors and guests.
use Rattle.std.proofs.Common.{◌≡◌, ◌+◌, ◌-◌, ℕ, zero, suc, Bool, true, false, not, cond, ◌&&◌, List, [], ◌∷◌, ◌++◌, length, map, set, slice_get, find, Option, Some, None, is_some, option_map, refl, sym, ◌∙◌, ap, ap₂, subst}
use Rattle.std.specs.Option.{option_map_or}
use Rattle.jr_base.specs.Deed.{Deed, Get, Put, New, Len, Enter, Exit, Wait, TimedWait, Resume, Notify, NotifyAll, Start, Join, End}
use Rattle.jr_base.specs.declared.number.ObjId.{ObjId}
use Rattle.jr_base.specs.declared.number.GuestNo.{GuestNo}
use Rattle.jr_base.specs.declared.action.Body.{Body}
use Rattle.jr_base.specs.declared.action.NewKind.{NewKind}
use Rattle.jr_base.specs.declared.action.Reply.{Reply}
use Rattle.jr_base.specs.declared.action.Reply.TheVariants as replies
use Rattle.jr_base.specs.declared.value.Cell.{Cell}
use Rattle.jr_base.specs.declared.value.Value.{Value}
use Rattle.jr_program.specs.Programs.{Program, numbered}
use Rattle.jr_meaning.specs.World.{World, Monitor, Hold, Waiter, Guest, guest_at, guest_of, is_live, runs_object, same_guest, same_object, body_for, next_object}
use Rattle.jr_meaning.specs.Machine.{Allows, Answers, put_reply, owns, holds, is_ready, is_waiting, may_enter, may_resume, may_join, after, put, make, start, mark_ended, entered, exited, wait, resume, notify, notify_all, with_monitor, without_guest, with_waiter, keeping, wake, notify_answer, owner_reply, start_reply}
use Rattle.jr_monitors.specs.Stands.{Agree, completed, with_body, without_body}

-- ---- guests

pub length-map : {A B : Type 0} (f : A → B) (xs : List A) → length (map f xs) ≡ length xs
length-map f [] = refl
length-map f (x ∷ xs) = ap suc (length-map f xs)

pub got_map : {A B : Type 0} (f : A → B) (xs : List A) (k : ℕ) → slice_get (map f xs) k ≡ option_map f (slice_get xs k)
got_map f [] k = refl
got_map f (x ∷ xs) zero = refl
got_map f (x ∷ xs) (suc k) = got_map f xs k

pub numbered_map : {A B : Type 0} (f : A → B) (xs : List A) (n : ℕ) → numbered (map f xs) n ≡ option_map f (numbered xs n)
numbered_map f xs zero = refl
numbered_map f xs (suc n) = got_map f xs n

found_step : (b : Bool) (g : Guest) (x y : Option Guest) → x ≡ option_map without_body y
    → cond b (Some (without_body g)) x ≡ option_map without_body (cond b (Some g) y)
found_step true g x y rest = refl
found_step false g x y rest = rest

found_map : (object : ObjId) (gs : List Guest) → find (runs_object object) (map without_body gs) ≡ option_map without_body (find (runs_object object) gs)
found_map object [] = refl
found_map object (g ∷ gs) = found_step (runs_object object g) g (find (runs_object object) (map without_body gs)) (find (runs_object object) gs) (found_map object gs)

module _ (a b : World) (agree : Agree a b) where
  pub guest_at-same : (g : GuestNo) → option_map without_body (guest_at a g) ≡ option_map without_body (guest_at b g)
  guest_at-same g = sym (numbered_map without_body a.guests g.0) ∙ (ap (λ gs. numbered gs g.0) agree.guests ∙ numbered_map without_body b.guests g.0)

  pub guest_of-same : (object : ObjId) → option_map without_body (guest_of a object) ≡ option_map without_body (guest_of b object)
  guest_of-same object = sym (found_map object a.guests) ∙ (ap (find (runs_object object)) agree.guests ∙ found_map object b.guests)

  pub count-same : length a.guests ≡ length b.guests
  count-same = sym (length-map without_body a.guests) ∙ (ap length agree.guests ∙ length-map without_body b.guests)

  by_view : {A : Type 0} (f : Guest → A) (d : A) (x y : Option Guest) → ((g : Guest) → f (without_body g) ≡ f g)
      → option_map without_body x ≡ option_map without_body y → option_map_or f x d ≡ option_map_or f y d
  by_view f d x y keeps same = part x ∙ (ap (λ o. option_map_or f o d) same ∙ sym (part y))
    where
      part : (o : Option Guest) → option_map_or f o d ≡ option_map_or f (option_map without_body o) d
      part None = refl
      part (Some g) = sym (keeps g)

  pub live-same : (g : GuestNo) → is_live a g ≡ is_live b g
  live-same g = by_view (λ (guest : Guest). not guest.ended) false (guest_at a g) (guest_at b g) (λ guest. refl) (guest_at-same g)

  join-same : (object : ObjId) → may_join a object ≡ may_join b object
  join-same object = by_view (λ (guest : Guest). guest.ended) true (guest_of a object) (guest_of b object) (λ guest. refl) (guest_of-same object)

  pub started-same : (object : ObjId) → is_some (guest_of a object) ≡ is_some (guest_of b object)
  started-same object = by_some (guest_of a object) ∙ (ap is_some (guest_of-same object) ∙ sym (by_some (guest_of b object)))
    where
      by_some : (o : Option Guest) → is_some o ≡ is_some (option_map without_body o)
      by_some None = refl
      by_some (Some g) = refl

  resume-same : (g : GuestNo) (object : ObjId) → may_resume g (a.monitors object) ≡ may_resume g (b.monitors object)
  resume-same g object =
      ap (λ k. is_some k && not (is_waiting g (a.monitors object).waiting) && not (is_some (a.monitors object).hold)) (agree.kept object g)
      ∙ (ap (λ w. is_some ((b.monitors object).kept g) && not (is_waiting g w) && not (is_some (a.monitors object).hold)) (agree.waiting object)
      ∙ ap (λ h. is_some ((b.monitors object).kept g) && not (is_waiting g (b.monitors object).waiting) && not (is_some h)) (agree.holds object))

  pub ready-same : (g : GuestNo) (deed : Deed) → is_ready a g deed ≡ is_ready b g deed
  ready-same g (Enter object way) = ap (may_enter g) (agree.holds object)
  ready-same g (Resume object) = resume-same g object
  ready-same g (Join object) = join-same object
  ready-same g deed = refl

  pub owns-same : (g : GuestNo) (object : ObjId) → owns a g object ≡ owns b g object
  owns-same g object = ap (holds g) (agree.holds object)

-- ---- the same for two, and for three

pub agree-sym : (a b : World) → Agree a b → Agree b a
agree-sym a b s = record {
  holds = λ o. sym (s.holds o);
  waiting = λ o. sym (s.waiting o);
  kept = λ o g. sym (s.kept o g);
  guests = sym s.guests;
}

pub agree-then : (a b c : World) → Agree a b → Agree b c → Agree a c
agree-then a b c s t = record {
  holds = λ o. s.holds o ∙ t.holds o;
  waiting = λ o. s.waiting o ∙ t.waiting o;
  kept = λ o g. s.kept o g ∙ t.kept o g;
  guests = s.guests ∙ t.guests;
}

pub agree-itself : (a : World) → Agree a a
agree-itself a = record { holds = λ o. refl; waiting = λ o. refl; kept = λ o g. refl; guests = refl }

-- ---- answers

body_else : (x y : Option Body) (reply : Reply) (b : Bool) (n : GuestNo)
    → with_body x reply ≡ cond b replies.Illegal (replies.Started n x) → with_body y reply ≡ cond b replies.Illegal (replies.Started n y)
body_else x y (replies.Started g old) true n h = absurd (cc)
body_else x y (replies.Started g old) false n h = let e : g ≡ n = cc in ap (λ m. replies.Started m y) e
body_else x y reply true n h = h
body_else x y reply false n h = absurd (cc)

module _ (program : Program) (a b : World) (agree : Agree a b) (g : GuestNo) where
  start-answer : (object : ObjId) (reply : Reply) → with_body (body_for program a object) reply ≡ start_reply program a object
      → with_body (body_for program b object) reply ≡ start_reply program b object
  start-answer object reply h =
      body_else (body_for program a object) (body_for program b object) reply (is_some (guest_of b object)) (record { 0 = length b.guests + 1 })
      (h ∙ (ap (λ s. cond s replies.Illegal (replies.Started (record { 0 = length a.guests + 1 }) (body_for program a object))) (started-same a b agree object)
      ∙ ap (λ n. cond (is_some (guest_of b object)) replies.Illegal (replies.Started (record { 0 = n + 1 }) (body_for program a object))) (count-same a b agree)))

  pub answers-same : (deed : Deed) (reply : Reply) → Answers program a g deed (completed program a deed reply)
      → Answers program b g deed (completed program b deed reply)
  answers-same (Get cell) reply h = refl
  answers-same (Put cell value) reply h = refl
  answers-same (New kind) reply h = refl
  answers-same (Len object) reply h = refl
  answers-same (Wait object) reply h = h ∙ ap owner_reply (owns-same a b agree g object)
  answers-same (TimedWait object) reply h = h ∙ ap owner_reply (owns-same a b agree g object)
  answers-same (Notify object) reply h =
      subst (λ w. Allows (notify_answer (owns b g object) w) reply) (agree.waiting object)
      (subst (λ o. Allows (notify_answer o (a.monitors object).waiting) reply) (owns-same a b agree g object) h)
  answers-same (NotifyAll object) reply h = h ∙ ap owner_reply (owns-same a b agree g object)
  answers-same (Start object) reply h = start-answer object reply h
  answers-same deed reply h = h

-- ---- effects

pub record SameMonitor (m n : Monitor) : Type 0 where
  pub hold : m.hold ≡ n.hold
  pub waiting : m.waiting ≡ n.waiting
  pub kept : (g : GuestNo) → m.kept g ≡ n.kept g

same_if : (b : Bool) (m n p q : Monitor) → SameMonitor m n → SameMonitor p q → SameMonitor (cond b m p) (cond b n q)
same_if true m n p q s t = s
same_if false m n p q s t = t

monitor-same : (a b : World) → Agree a b → (object : ObjId) → SameMonitor (a.monitors object) (b.monitors object)
monitor-same a b s object = record { hold = s.holds object; waiting = s.waiting object; kept = s.kept object }

pub agree-with : (a b : World) → Agree a b → (object : ObjId) (m n : Monitor) → SameMonitor m n → Agree (with_monitor a object m) (with_monitor b object n)
agree-with a b s object m n same =
    let at : (o : ObjId) → SameMonitor (cond (same_object o object) m (a.monitors o)) (cond (same_object o object) n (b.monitors o)) =
    λ o. same_if (same_object o object) m n (a.monitors o) (b.monitors o) same (monitor-same a b s o) in
    record { holds = λ o. (at o).hold; waiting = λ o. (at o).waiting; kept = λ o. (at o).kept; guests = s.guests }

keeping-same : (f h : GuestNo → Option ℕ) (g : GuestNo) (d e : Option ℕ) → ((x : GuestNo) → f x ≡ h x) → d ≡ e → (x : GuestNo) → keeping f g d x ≡ keeping h g e x
keeping-same f h g d e same depth x = ap (λ o. cond (same_guest x g) o (f x)) depth ∙ ap (λ o. cond (same_guest x g) e o) (same x)

put-agrees : (w : World) (cell : Cell) (value : Value) (reply : Reply) → Agree (put w cell value reply) w
put-agrees w cell value replies.Unit = record { holds = λ o. refl; waiting = λ o. refl; kept = λ o g. refl; guests = refl }
put-agrees w cell value reply = agree-itself w

make-agrees : (program : Program) (w : World) (kind : NewKind) (reply : Reply) → Agree (make program w kind reply) w
make-agrees program w kind (replies.Made object) = record { holds = λ o. refl; waiting = λ o. refl; kept = λ o g. refl; guests = refl }
make-agrees program w kind reply = agree-itself w

pub map-append : {A B : Type 0} (f : A → B) (xs ys : List A) → map f (xs ++ ys) ≡ map f xs ++ map f ys
map-append f [] ys = refl
map-append f (x ∷ xs) ys = ap (λ l. f x ∷ l) (map-append f xs ys)

pub map-set : {A B : Type 0} (f : A → B) (xs : List A) (k : ℕ) (x : A) → map f (set xs k x) ≡ set (map f xs) k (f x)
map-set f [] k x = refl
map-set f (y ∷ ys) zero x = refl
map-set f (y ∷ ys) (suc k) x = ap (λ l. f y ∷ l) (map-set f ys k x)

module _ (a b : World) (agree : Agree a b) where
  wait-same : (w : Waiter) (object : ObjId) (h k : Option Hold) (reply : Reply) → h ≡ k
      → Agree (wait a w object (a.monitors object) h reply) (wait b w object (b.monitors object) k reply)
  wait-same w object h k reply is = subst (λ x. Agree (wait a w object (a.monitors object) h reply) (wait b w object (b.monitors object) x reply)) is (by h reply)
    where
      by : (h : Option Hold) (reply : Reply) → Agree (wait a w object (a.monitors object) h reply) (wait b w object (b.monitors object) h reply)
      by None reply = agree
      by (Some hold) replies.Unit = agree-with a b agree object _ _ (record {
        hold = refl;
        waiting = ap (with_waiter w) (agree.waiting object);
        kept = keeping-same (a.monitors object).kept (b.monitors object).kept w.guest (Some hold.depth) (Some hold.depth) (agree.kept object) refl;
      })
      by (Some hold) reply = agree

  resume-after : (g : GuestNo) (object : ObjId) (d e : Option ℕ) → d ≡ e → Agree (resume a g object (a.monitors object) d) (resume b g object (b.monitors object) e)
  resume-after g object d e is = subst (λ x. Agree (resume a g object (a.monitors object) d) (resume b g object (b.monitors object) x)) is (by d)
    where
      by : (d : Option ℕ) → Agree (resume a g object (a.monitors object) d) (resume b g object (b.monitors object) d)
      by None = agree
      by (Some depth) = agree-with a b agree object _ _ (record {
        hold = refl;
        waiting = agree.waiting object;
        kept = keeping-same (a.monitors object).kept (b.monitors object).kept g None None (agree.kept object) refl;
      })

  notify-same : (object : ObjId) (reply : Reply) → Agree (notify a object (a.monitors object) reply) (notify b object (b.monitors object) reply)
  notify-same object (replies.Woke g) = agree-with a b agree object _ _ (record {
    hold = agree.holds object;
    waiting = ap (without_guest g) (agree.waiting object);
    kept = agree.kept object;
  })
  notify-same object reply = agree

  notify_all-same : (object : ObjId) (reply : Reply) → Agree (notify_all a object (a.monitors object) reply) (notify_all b object (b.monitors object) reply)
  notify_all-same object replies.Unit = agree-with a b agree object _ _ (record { hold = agree.holds object; waiting = refl; kept = agree.kept object })
  notify_all-same object reply = agree

  start-same : (object : ObjId) (body : Option Body) (reply : Reply) → Agree (start a object reply) (start b object (with_body body reply))
  start-same object body (replies.Started g old) = record {
    holds = agree.holds;
    waiting = agree.waiting;
    kept = agree.kept;
    guests =
        map-append without_body a.guests (record { object = Some object; body = old; ended = false } ∷ [])
        ∙ (ap (λ l. l ++ record { object = Some object; body = None; ended = false } ∷ []) agree.guests
        ∙ sym (map-append without_body b.guests (record { object = Some object; body = body; ended = false } ∷ [])));
  }
  start-same object body reply = agree

  end-same : (g : GuestNo) (x y : Option Guest) → option_map without_body x ≡ option_map without_body y → Agree (mark_ended a g x) (mark_ended b g y)
  end-same g None None is = agree
  end-same g None (Some y) is = absurd (cc)
  end-same g (Some x) None is = absurd (cc)
  end-same g (Some x) (Some y) is =
      let e : without_body x ≡ without_body y = cc in
      record {
        holds = agree.holds;
        waiting = agree.waiting;
        kept = agree.kept;
        guests =
            map-set without_body a.guests (g.0 - 1) (record x { ended = true })
            ∙ (ap₂ (λ l v. set l (g.0 - 1) v) agree.guests (ap (λ (v : Guest). record v { ended = true }) e)
            ∙ sym (map-set without_body b.guests (g.0 - 1) (record y { ended = true })));
      }

  pub wake-same : (g : GuestNo) → Agree (wake a g) (wake b g)
  wake-same g = record { holds = agree.holds; waiting = λ o. ap (without_guest g) (agree.waiting o); kept = agree.kept; guests = agree.guests }

  pub after-same : (program : Program) (g : GuestNo) (deed : Deed) (reply : Reply)
      → Agree (after program a g deed reply) (after program b g deed (completed program b deed reply))
  after-same program g (Put cell value) reply =
      agree-then _ a _ (put-agrees a cell value reply) (agree-then a b _ agree (agree-sym (put b cell value (put_reply (b.cells cell))) b (put-agrees b cell value (put_reply (b.cells cell)))))
  after-same program g (New kind) reply =
      agree-then _ a _ (make-agrees program a kind reply) (agree-then a b _ agree (agree-sym (make program b kind (replies.Made (next_object b))) b (make-agrees program b kind (replies.Made (next_object b)))))
  after-same program g (Enter object way) reply = agree-with a b agree object _ _ (record {
    hold = ap (entered g) (agree.holds object);
    waiting = agree.waiting object;
    kept = agree.kept object;
  })
  after-same program g (Exit object) reply = agree-with a b agree object _ _ (record {
    hold = ap (exited g) (agree.holds object);
    waiting = agree.waiting object;
    kept = agree.kept object;
  })
  after-same program g (Wait object) reply = wait-same (record { guest = g; is_timed = false }) object _ _ reply (agree.holds object)
  after-same program g (TimedWait object) reply = wait-same (record { guest = g; is_timed = true }) object _ _ reply (agree.holds object)
  after-same program g (Resume object) reply = resume-after g object _ _ (agree.kept object g)
  after-same program g (Notify object) reply = notify-same object reply
  after-same program g (NotifyAll object) reply = notify_all-same object reply
  after-same program g (Start object) reply = start-same object (body_for program b object) reply
  after-same program g (End how) reply = end-same g (guest_at a g) (guest_at b g) (guest_at-same a b agree g)
  after-same program g (Get cell) reply = agree
  after-same program g (Len object) reply = agree
  after-same program g deed reply = agree
