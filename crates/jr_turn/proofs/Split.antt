-- A pass is split off.
use Rattle.std.proofs.Common.{◌≡◌, ℕ, ◌+◌, ◌^◌, ◌<◌, List, [], ◌∷◌, ◌++◌, length, set, true, false, true≢false, Option, Some, refl, sym, ap, ◌∙◌, subst, ⊎_elim, arith, length-set, length-append}
use Rattle.std.specs.Prelude.{IsPermutation}
use mathlib.Core.Option.{some}
use lib.ListN.{get_elem?}
use Rattle.atomic_table.specs.Table.{Splits}
use Rattle.atomic_table.proofs.Lists.{at_snoc}
use Rattle.jr_turn.specs.declared.view.View.{View}
use Rattle.jr_turn.specs.Views.{with_made, split_off, open_tickets, holding}
use Rattle.jr_turn.specs.Points.{Inner, total, drawing, spending, tickets, One, Two, Three, Four, Five, Six, Seven, Rule}
use Rattle.jr_turn.proofs.Places.{each_grow, some_set, some_longer, total_append, total_same, tickets_append, tickets_same, once_same, Once, none_some, below}
use Rattle.jr_turn.proofs.Frames.{is_first, joined_set}

module _ {V O E T : Type 0} (h : Inner V O E) (views : List (View O E T)) (i : ℕ) (v : View O E T) (at : get_elem? views i ≡ some v) where
  abbrev w : View O E T
  w = with_made v

  abbrev u : View O E T
  u = split_off v

  abbrev views' : List (View O E T)
  views' = set views i w ++ u ∷ []

  len : length views' ≡ length views + 1
  len = length-append (set views i w) (u ∷ []) ∙ ap (λ n. n + 1) (length-set views i w)

  same_total : (f : View O E T → ℕ) → f w ≡ f v → f u ≡ 0 → total f views' ≡ total f views
  same_total f a b = let s = total_append f (set views i w) u in let t = total_same f views i v w at a in omega arith

  same_tickets : tickets views' ≡ tickets views
  same_tickets = tickets_append (set views i w) u refl ∙ tickets_same views i v w at refl

  split_one : (opening : V → O) → v.spent ≡ false → One h opening views → One h opening views'
  split_one opening live r = record { value = r.value; each = each_grow _ _ views i w u r.each (r.each i v at) (λ _. r.each i v at live) (λ j x _ _ k. k) }

  split_two : (entries : V → List E) → Two h entries views → Two h entries views'
  split_two entries r = record {
    value = r.value;
    each = each_grow _ _ views i w u r.each (r.each i v at) (λ out. absurd (true≢false (sym out))) (λ j x _ _ k. k);
    flight = each_grow _ _ views i w u r.flight (r.flight i v at) (λ e some. absurd (none_some e some)) (λ j x _ _ k. k);
  }

  split_three : v.spent ≡ false → Three h views → Three h views'
  split_three live r = record { each = each_grow _ _ views i w u r.each (r.each i v at) (λ _. ((r.each i v at live).0, omega arith)) (λ j x _ _ k. k); past = r.past; counted = r.counted; short = r.short }

  split_four : (guest : E → Option ℕ) → v.spent ≡ false → v.number ≡ 1 → Four h guest views → Four h guest views'
  split_four guest live one r =
      let gone : total spending views' ≡ total spending views = same_total spending refl refl in
      let o = r.each i v at live in let f = is_first h guest views i v at live one r in
      let made : v.made ≡ length views = f.1.made in let zero : i ≡ 0 = f.0 in record {
        each = each_grow _ _ views i w u r.each
            (λ _. record { number = o.number; mine = o.mine })
            (λ _. record { number = ap (λ n. n + 1) made; mine = sym (r.none_above (length views + 1) (omega arith)) })
            (λ j x _ _ k. k);
        first = each_grow _ _ views i w u r.first
            (λ _. record { live = live; made = ap (λ n. n + 1) made ∙ sym len; joined = f.1.joined ∙ sym gone; past = f.1.past })
            (λ none. absurd (let b = below views i v at in omega arith))
            (λ j x apart _ k first. absurd (apart (first ∙ sym zero)));
        past = λ k d b. let j = joined_set h guest views i v w _ at (λ gone. gone) (r.past k d b) in record { spent = some_longer _ (set views i w) u j.spent; mine = j.mine };
        kept = each_grow _ _ views i w u r.kept (r.kept i v at) (λ gone. absurd (true≢false (sym gone))) (λ j x _ _ k. k);
        none_above = λ n more. r.none_above n (let l = len in omega arith);
      }

  split_five : length views + 1 < 2 ^ 32 → Five h views → Five h views'
  split_five room r = let one : Once (set views i w) = once_same views i v w at refl r.once in record {
    range = each_grow _ _ views i w u r.range (r.range i v at) (λ d e. absurd (none_some d e)) (λ j x _ _ k. k);
    once = λ a b d x y at_a at_b dx dy. ⊎_elim
        (λ p. ⊎_elim
        (λ q. one a b d x y p q dx dy)
        (λ (q : u ≡ y). absurd (none_some d (ap (λ (z : View O E T). z.drawn) q ∙ dy)))
        (at_snoc (set views i w) u y b at_b))
        (λ (p : u ≡ x). absurd (none_some d (ap (λ (z : View O E T). z.drawn) p ∙ dx)))
        (at_snoc (set views i w) u x a at_a);
    every = λ d from to. some_longer (λ j (x : View O E T). x.drawn ≡ Some d) (set views i w) u (some_set (λ j (x : View O E T). x.drawn ≡ Some d) views i v w at (λ e. e) (r.every d from to));
    all = r.all ∙ ap (λ n. h.served + n) (sym (same_total drawing refl refl));
    few = let l = len in omega arith;
    turn = each_grow _ _ views i w u r.turn
        (let t = r.turn i v at in record { hold = t.hold; given = t.given; flight = t.flight })
        (record { hold = λ out. absurd (true≢false (sym out)); given = λ out. absurd (true≢false (sym out)); flight = λ out. absurd (true≢false (sym out)) })
        (λ j x _ _ k. k);
    empty = λ out. some_longer (λ j (x : View O E T). holding x ≡ true) (set views i w) u (some_set (λ j (x : View O E T). holding x ≡ true) views i v w at (λ hold. hold) (r.empty out));
  }

  split_six : (in_hand waiting : V → List T) → Six h in_hand waiting views → Six h in_hand waiting views'
  split_six in_hand waiting r = record {
    value = λ x there. subst (λ (l : List T). IsPermutation (open_tickets in_hand waiting x) (l ++ waiting x)) (sym same_tickets) (r.value x there);
    each = each_grow _ _ views i w u r.each
        (λ ts is. subst (IsPermutation ts) (sym same_tickets) (r.each i v at ts is))
        (λ ts none. absurd (none_some ts none))
        (λ j x _ _ k ts is. subst (IsPermutation ts) (sym same_tickets) (k ts is));
  }

  split_seven : v.spent ≡ false → Seven views → Seven views'
  split_seven live r = record { each = each_grow _ _ views i w u r.each (λ gone. absurd (true≢false (sym gone ∙ live))) (λ gone. absurd (true≢false (sym gone))) (λ j x _ _ k. k) }

module _ {V O E T : Type 0} (opening : V → O) (entries : V → List E) (in_hand waiting : V → List T) (guest : E → Option ℕ) where
  pub splits : (id : ℕ) (v : View O E T) → v.spent ≡ false → v.number ≡ 1 → v.made + 1 < 2 ^ 32 → Splits {S = Option V} (Rule opening entries in_hand waiting guest) id v (with_made v) (split_off v)
  splits id v live one room s r at = let h = r.inner in let made : v.made ≡ length s.views = (is_first h guest s.views id v at live one r.four).1.made in record {
    inner = h;
    words = r.words;
    homes = r.homes;
    one = split_one h s.views id v at opening live r.one;
    two = split_two h s.views id v at entries r.two;
    three = split_three h s.views id v at live r.three;
    four = split_four h s.views id v at guest live one r.four;
    five = split_five h s.views id v at (subst (λ n. n + 1 < 2 ^ 32) made room) r.five;
    six = split_six h s.views id v at in_hand waiting r.six;
    seven = split_seven h s.views id v at live r.seven;
  }
