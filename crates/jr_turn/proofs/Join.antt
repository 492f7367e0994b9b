-- A pass is joined into the first.
use Rattle.std.proofs.Common.{◌≡◌, ◌≢◌, ℕ, ◌+◌, ◌≤◌, List, [], ◌∷◌, ◌++◌, length, set, Bool, true, false, true≢false, Option, Some, refl, sym, ap, ◌∙◌, subst, arith, length-set}
use Rattle.std.specs.Prelude.{if◌then◌else◌, nat_le, is_some, Any, IsPermutation}
use Rattle.std.proofs.lemmas.List.Elements.{All-push, Contains-append_left}
use Rattle.std.proofs.lemmas.List.Quantifiers.{Any-push}
use Rattle.std.proofs.lemmas.Bool.{le-leb}
use mathlib.Core.Option.{some}
use lib.ListN.{get_elem?}
use Rattle.atomic_table.specs.Table.{Joins}
use Rattle.atomic_table.proofs.Lists.{set_here, set_else}
use Rattle.jr_turn.specs.declared.view.Past.{Past}
use Rattle.jr_turn.specs.declared.view.View.{View}
use Rattle.jr_turn.specs.Views.{IsPrefix, steps, past_of, with_joined, gone, longer, open_tickets, holding}
use Rattle.jr_turn.specs.Points.{Inner, total, one_if, drawing, spending, tickets, IsIdle, Joined, One, Two, Three, Four, Five, Six, Seven, Rule}
use Rattle.jr_turn.proofs.Places.{each_two, some_set, total_set, total_same, tickets_same, once_set, once_same, Once, none_some, below}
use Rattle.jr_turn.proofs.Frames.{is_first, owns_same, joined_set}
use Rattle.jr_turn.proofs.Look.{length-IsPrefix}

-- the longer of two is one of the two
longer_if : {E : Type 0} (P : List E → Type 0) (b : Bool) (xs ys : List E) → P xs → P ys → P (if b then xs else ys)
longer_if P true xs ys p q = p
longer_if P false xs ys p q = q

longer_is : {E : Type 0} (P : List E → Type 0) (xs ys : List E) → P xs → P ys → P (longer xs ys)
longer_is P xs ys p q = longer_if P (nat_le (length ys) (length xs)) xs ys p q

-- what holds of some element does where the list is longer
any_longer : {X : Type 0} (P : X → Type 0) (xs ys : List X) → Any P xs → Any P (xs ++ ys)
any_longer P xs ys e = let there = Contains-append_left xs ys e.1 (e.0, e.2, e.3) in (there.0, e.1, there.1, there.2, e.4)

-- nothing is longer than the journal
longer_whole : {E : Type 0} (xs ys journal : List E) → xs ≡ journal → IsPrefix ys journal → longer xs ys ≡ journal
longer_whole {E} xs ys journal whole b = let le : length ys ≤ length xs = subst (λ (l : List E). length ys ≤ length l) (sym whole) (length-IsPrefix ys journal b) in ap (λ c. if c then xs else ys) (le-leb (length ys) (length xs) le) ∙ whole

abbrev pub joined_by : {V O E T : Type 0} → Inner V O E → View O E T → Inner V O E
joined_by h u = record h { past = h.past ++ past_of u ∷ [] }

module _ {V O E T : Type 0} (h : Inner V O E) (views : List (View O E T)) (i o : ℕ) (v u : View O E T) (at : get_elem? views i ≡ some v) (there : get_elem? views o ≡ some u) (apart : o ≢ i) (live : v.spent ≡ false) (alive : u.spent ≡ false) (idle : IsIdle u) where
  abbrev w : View O E T
  w = with_joined v u

  abbrev g : View O E T
  g = gone

  abbrev views₁ : List (View O E T)
  views₁ = set views i w

  abbrev views' : List (View O E T)
  views' = set views₁ o g

  abbrev h' : Inner V O E
  h' = joined_by h u

  len : length views' ≡ length views
  len = length-set views₁ o g ∙ length-set views i w

  there₁ : get_elem? views₁ o ≡ some u
  there₁ = set_else views i o w apart ∙ there

  same_total : (f : View O E T → ℕ) → f w ≡ f v → f g ≡ f u → total f views' ≡ total f views
  same_total f a b = total_same f views₁ o u g there₁ b ∙ total_same f views i v w at a

  same_tickets : tickets views' ≡ tickets views
  same_tickets = tickets_same views₁ o u g there₁ (sym idle.ticket) ∙ tickets_same views i v w at refl

  join_one : (opening : V → O) → One h opening views → One h' opening views'
  join_one opening r = record { value = r.value; each = each_two _ _ views i o w g r.each (r.each i v at) (λ q. absurd (true≢false q)) (λ j x _ _ _ k. k) }

  join_two : (entries : V → List E) → Three h views → Five h views → Two h entries views → Two h' entries views'
  join_two entries three five r = let whole : holding v ≡ true → longer v.seen u.seen ≡ h.journal = λ hold. longer_whole v.seen u.seen h.journal (r.each i v at hold) (three.each o u there alive).0 in record {
    value = r.value;
    each = each_two _ _ views i o w g r.each whole (λ q. absurd (true≢false (sym q))) (λ j x _ _ _ k. k);
    flight = each_two _ _ views i o w g r.flight
        (λ e some. let hold = (five.turn i v at).flight (ap is_some some) in let last = r.flight i v at e some in (last.0, whole hold ∙ sym (r.each i v at hold) ∙ last.1))
        (λ e some. absurd (none_some e some))
        (λ j x _ _ _ k. k);
  }

  join_three : Three h views → Three h' views'
  join_three r = record {
    each = each_two _ _ views i o w g r.each
        (λ _. let a = r.each i v at live in let b = r.each o u there alive in (longer_is (λ l. IsPrefix l h.journal) v.seen u.seen a.0 b.0, a.1))
        (λ q. absurd (true≢false q))
        (λ j x _ _ _ k. k);
    past = All-push (λ (p : Past E). IsPrefix p.seen h.journal) h.past (past_of u) r.past (r.each o u there alive).0;
    counted = r.counted;
    short = r.short;
  }

  -- the passes that were joined before stay so
  stays : {guest : E → Option ℕ} {p : Past E} → Joined h guest views p → Joined h' guest views' p
  stays {guest} {p} k =
      let j = joined_set h guest views₁ o u g p there₁ (λ _. refl) (joined_set h guest views i v w p at (λ gone. gone) k) in
      record { spent = j.spent; mine = j.mine }

  -- and this one is joined now
  joins_now : (guest : E → Option ℕ) → Four h guest views → Joined h' guest views' (past_of u)
  joins_now guest r = let own = r.each o u there alive in record {
    spent = (o, g, set_here views₁ o g (below views₁ o u there₁), (own.number, refl));
    mine = own.mine ∙ ap (λ n. steps guest n h.journal) (sym own.number);
  }

  join_four : (guest : E → Option ℕ) → v.number ≡ 1 → Four h guest views → Four h' guest views'
  join_four guest one r =
      let more : total spending views' ≡ total spending views + 1 =
      let a = total_set spending views₁ o u g there₁ in let b = total_same spending views i v w at refl in let z : spending u ≡ 0 = ap one_if alive in omega arith in
      let own = r.each i v at live in let f = is_first h guest views i v at live one r in let zero : i ≡ 0 = f.0 in record {
        each = each_two _ _ views i o w g r.each
            (λ _. record { number = own.number; mine = own.mine })
            (λ q. absurd (true≢false q))
            (λ j x _ _ _ k alive. owns_same h h' guest j x x refl refl refl (k alive));
        first = each_two _ _ views i o w g r.first
            (λ _. record { live = live; made = f.1.made ∙ sym len; joined = ap (λ n. n + 1) f.1.joined ∙ sym more; past = ap (λ l. l ++ past_of u ∷ []) f.1.past })
            (λ first. absurd (apart (first ∙ sym zero)))
            (λ j x other _ _ k first. absurd (other (first ∙ sym zero)));
        past = All-push (Joined h' guest views') h.past (past_of u) (λ k d b. stays (r.past k d b)) (joins_now guest r);
        kept = each_two _ _ views i o w g r.kept
            (λ gone. absurd (true≢false (sym gone ∙ live)))
            (λ _. Any-push (λ (p : Past E). p.number ≡ o + 1) h.past (past_of u) (r.each o u there alive).number)
            (λ j x _ _ _ k gone. any_longer (λ (p : Past E). p.number ≡ j + 1) h.past (past_of u ∷ []) (k gone));
        none_above = λ n more. r.none_above n (let l = len in omega arith);
      }

  join_five : Five h views → Five h' views'
  join_five r = let one : Once views₁ = once_same views i v w at refl r.once in record {
    range = each_two _ _ views i o w g r.range (r.range i v at) (λ d e. absurd (none_some d e)) (λ j x _ _ _ k. k);
    once = once_set views₁ o g one (λ j d x _ _ e _. none_some d e);
    every = λ d from to. some_set (λ j (x : View O E T). x.drawn ≡ Some d) views₁ o u g there₁ (λ e. absurd (none_some d (sym idle.drawn ∙ e)))
        (some_set (λ j (x : View O E T). x.drawn ≡ Some d) views i v w at (λ e. e) (r.every d from to));
    all = r.all ∙ ap (λ n. h.served + n) (sym (same_total drawing refl (ap (λ (z : Option ℕ). one_if (is_some z)) (sym idle.drawn))));
    few = let l = len in let f = r.few in omega arith;
    turn = each_two _ _ views i o w g r.turn
        (let t = r.turn i v at in record { hold = t.hold; given = t.given; flight = t.flight })
        (record { hold = λ out. absurd (true≢false (sym out)); given = λ out. absurd (true≢false (sym out)); flight = λ out. absurd (true≢false (sym out)) })
        (λ j x _ _ _ k. record { hold = k.hold; given = k.given; flight = k.flight });
    empty = λ out. some_set (λ j (x : View O E T). holding x ≡ true) views₁ o u g there₁ (λ hold. absurd (true≢false (sym hold ∙ ap is_some idle.out)))
        (some_set (λ j (x : View O E T). holding x ≡ true) views i v w at (λ hold. hold) (r.empty out));
  }

  join_six : (in_hand waiting : V → List T) → Six h in_hand waiting views → Six h' in_hand waiting views'
  join_six in_hand waiting r = record {
    value = λ x here. subst (λ (l : List T). IsPermutation (open_tickets in_hand waiting x) (l ++ waiting x)) (sym same_tickets) (r.value x here);
    each = each_two _ _ views i o w g r.each
        (λ ts is. subst (IsPermutation ts) (sym same_tickets) (r.each i v at ts is))
        (λ ts none. absurd (none_some ts none))
        (λ j x _ _ _ k ts is. subst (IsPermutation ts) (sym same_tickets) (k ts is));
  }

  join_seven : Seven views → Seven views'
  join_seven r = record {
    each = each_two _ _ views i o w g r.each (λ q. absurd (true≢false (sym q ∙ live))) (λ _. record { drawn = refl; out = refl; given = refl; flight = refl; ticket = refl }) (λ j x _ _ _ k. k);
  }

module _ {V O E T : Type 0} (opening : V → O) (entries : V → List E) (in_hand waiting : V → List T) (guest : E → Option ℕ) where
  pub joins : (id other : ℕ) (v u : View O E T) → v.spent ≡ false → v.number ≡ 1 → u.spent ≡ false → IsIdle u → Joins {S = Option V} (Rule opening entries in_hand waiting guest) id v other u (with_joined v u) gone
  joins id other v u live one alive idle s r at apart there' =
      let h = r.inner in let there : get_elem? s.views other ≡ some u = sym (set_else s.views id other (with_joined v u) apart) ∙ there' in record {
        inner = joined_by h u;
        words = r.words;
        homes = r.homes;
        one = join_one h s.views id other v u at there apart live alive idle opening r.one;
        two = join_two h s.views id other v u at there apart live alive idle entries r.three r.five r.two;
        three = join_three h s.views id other v u at there apart live alive idle r.three;
        four = join_four h s.views id other v u at there apart live alive idle guest one r.four;
        five = join_five h s.views id other v u at there apart live alive idle r.five;
        six = join_six h s.views id other v u at there apart live alive idle in_hand waiting r.six;
        seven = join_seven h s.views id other v u at there apart live alive idle r.seven;
      }
