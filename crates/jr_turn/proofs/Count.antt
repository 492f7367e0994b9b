-- An entry is counted.
use Rattle.std.proofs.Common.{◌≡◌, ◌≢◌, ℕ, ◌+◌, ◌%◌, ◌^◌, ◌<◌, List, [], ◌∷◌, ◌++◌, length, get_or, set, cond, true, false, true≢false, Option, Some, None, refl, sym, ap, ◌∙◌, subst, arith, length-set, length-append, append_assoc, append-nil, ne_eqb}
use Rattle.std.specs.Option.{ForSome}
use Rattle.std.proofs.lemmas.List.Elements.{filter-append}
use Rattle.std.proofs.Math.Nat.{mod-eq_of_lt}
use Rattle.atomic_table.proofs.Lists.{set_here}
use mathlib.Core.Option.{none, some, some-injective}
use lib.ListN.{get_elem?}
use Rattle.atomic_table.specs.Table.{Me, step, keeps, Allows}
use Rattle.jr_turn.specs.declared.view.Past.{Past}
use Rattle.jr_turn.specs.declared.view.View.{View}
use Rattle.jr_turn.specs.Views.{with_entry, holding, is_step_of, steps}
use Rattle.jr_turn.specs.Points.{Inner, total, drawing, spending, Joined, One, Two, Three, Four, Five, Rule}
use Rattle.jr_turn.specs.Tellings.{counted}
use Rattle.jr_turn.proofs.Places.{each_set, some_set, once_same, total_same, none_some, below}
use Rattle.jr_turn.proofs.Frames.{leads_same, joined_set, six_same, seven_live, alone}

-- no step of the guest k is one of another guest
not_by : (n k : ℕ) (o : Option ℕ) → ForSome o (λ m. m ≡ k) → n ≢ k → is_step_of n o ≡ false
not_by n k None all other = refl
not_by n k (Some m) all other = ne_eqb m n (λ e. other (sym e ∙ all m refl))

pub steps-append : {E : Type 0} (guest : E → Option ℕ) (n : ℕ) (es : List E) (e : E) → steps guest n (es ++ e ∷ []) ≡ steps guest n es ++ steps guest n (e ∷ [])
steps-append {E} guest n es e = filter-append (λ (x : E). is_step_of n (guest x)) es (e ∷ [])

-- an entry of the guest k adds no step to another guest's
pub steps_none : {E : Type 0} (guest : E → Option ℕ) (n k : ℕ) (es : List E) (e : E) → ForSome (guest e) (λ m. m ≡ k) → n ≢ k → steps guest n (es ++ e ∷ []) ≡ steps guest n es
steps_none {E} guest n k es e all other = steps-append guest n es e ∙ ap (λ c. steps guest n es ++ cond c (e ∷ []) []) (not_by n k (guest e) all other) ∙ append-nil (steps guest n es)

abbrev pub longer_by : {V O E : Type 0} → Inner V O E → E → Inner V O E
longer_by h e = record h { journal = h.journal ++ e ∷ []; count = h.count + 1 }

module _ {V O E T : Type 0} (h : Inner V O E) (guest : E → Option ℕ) (views : List (View O E T)) (i : ℕ) (v : View O E T) (at : get_elem? views i ≡ some v) (e : E) (names : ForSome (guest e) (λ m. m ≡ i + 1)) where
  abbrev w : View O E T
  w = with_entry guest v e

  count_one : (opening : V → O) → One h opening views → One (longer_by h e) opening (set views i w)
  count_one opening r = record { value = r.value; each = each_set _ _ views i w r.each (r.each i v at) (λ j u _ _ k. k) }

  count_two : (entries : V → List E) → Five h views → holding v ≡ true → Two h entries views → Two (longer_by h e) entries (set views i w)
  count_two entries five hold r = let t = (five.turn i v at).hold hold in record {
    value = λ y here. absurd (none_some y (sym t.1 ∙ here));
    each = each_set _ _ views i w r.each (λ _. ap (λ l. l ++ e ∷ []) (r.each i v at hold)) (λ j u apart there _ holds. absurd (apart (alone h views i j v u five at t.0 there holds)));
    flight = each_set _ _ views i w r.flight (λ e' some. let same : e ≡ e' = cc (some) in (v.seen, ap (λ x. v.seen ++ x ∷ []) same)) (λ j u _ _ k. k);
  }

  count_three : v.seen ≡ h.journal → length h.journal + 1 < 2 ^ 63 → Three h views → Three (longer_by h e) (set views i w)
  count_three tells room r = let len = length-append h.journal (e ∷ []) in record {
    each = each_set _ _ views i w r.each
        (λ live. (([], ap (λ l. l ++ e ∷ []) (sym tells) ∙ sym (append-nil _)), (let k = (r.each i v at live).1 in omega arith)))
        (λ j u _ _ k live. let s = k live in ((s.0.0 ++ e ∷ [], ap (λ l. l ++ e ∷ []) s.0.1 ∙ append_assoc u.seen s.0.0 (e ∷ [])), (let known = s.1 in omega arith)));
    past = λ k d b. let s = r.past k d b in (s.0 ++ e ∷ [], ap (λ l. l ++ e ∷ []) s.1 ∙ append_assoc _ s.0 (e ∷ []));
    counted = ap (λ n. n + 1) r.counted ∙ sym len;
    short = omega arith;
  }

  -- a joined pass has no step among the entries of another, since its view is spent
  counted_not : {p : Past E} → v.spent ≡ false → Joined h guest views p → Joined (longer_by h e) guest (set views i w) p
  counted_not {p} live k =
      let s = k.spent in
      let other : p.number ≢ i + 1 = λ same. let j : s.0 ≡ i = (let n = s.3.0 in omega arith) in
      let view : s.1 ≡ v = some-injective s.1 v (sym s.2 ∙ (ap (get_elem? views) j ∙ at)) in
      true≢false (sym s.3.1 ∙ (ap (λ (x : View O E T). x.spent) view ∙ live)) in
      let set = joined_set h guest views i v w p at (λ gone. gone) k in
      record { spent = set.spent; mine = set.mine ∙ sym (steps_none guest p.number (i + 1) h.journal e names other) }

  count_four : v.spent ≡ false → Four h guest views → Four (longer_by h e) guest (set views i w)
  count_four live r =
      let len : length (set views i w) ≡ length views = length-set views i w in
      let gone : total spending (set views i w) ≡ total spending views = total_same spending views i v w at refl in
      let o = r.each i v at live in record {
        each = each_set _ _ views i w r.each
            (λ _. record { number = o.number; mine = (λ k. o.mine k ++ steps guest (o.number k) (e ∷ [])) ∙ sym (steps-append guest (i + 1) h.journal e) })
            (λ j u apart _ k alive. let d = k alive in record { number = d.number; mine = d.mine ∙ sym (steps_none guest (j + 1) (i + 1) h.journal e names (λ same. apart (omega arith))) });
        first = each_set _ _ views i w r.first
            (λ zero. leads_same h (longer_by h e) _ _ _ _ v w refl len gone refl refl refl refl (r.first i v at zero))
            (λ j u _ _ k zero. leads_same h (longer_by h e) _ _ _ _ u u refl len gone refl refl refl refl (k zero));
        past = λ k d b. counted_not live (r.past k d b);
        kept = each_set _ _ views i w r.kept (r.kept i v at) (λ j u _ _ k. k);
        none_above = λ n more. steps_none guest n (i + 1) h.journal e names (λ same. let b = below views i v at in omega arith) ∙ r.none_above n (subst (λ (m : ℕ). m < n) len more);
      }

  count_five : holding v ≡ true → Five h views → Five (longer_by h e) (set views i w)
  count_five hold r = record {
    range = each_set _ _ views i w r.range (r.range i v at) (λ j u _ _ k. k);
    once = once_same views i v w at refl r.once;
    every = λ d from to. some_set (λ j (u : View O E T). u.drawn ≡ Some d) views i v w at (λ e. e) (r.every d from to);
    all = r.all ∙ ap (λ n. h.served + n) (sym (total_same drawing views i v w at refl));
    few = let same = length-set views i w in let f = r.few in omega arith;
    turn = each_set _ _ views i w r.turn (let t = r.turn i v at in record { hold = t.hold; given = t.given; flight = λ _. hold }) (λ j u _ _ k. record { hold = k.hold; given = k.given; flight = k.flight });
    empty = λ _. (i, w, set_here views i w (below views i v at), hold);
  }

module _ {V O E T : Type 0} (opening : V → O) (entries : V → List E) (in_hand waiting : V → List T) (guest : E → Option ℕ) where
  pub counts : (slots id : ℕ) (me : Me (Option V) (View O E T)) (entry : Option E) (e : E) → entry ≡ Some e → me.0.spent ≡ false → holding me.0 ≡ true → ForSome (guest e) (λ m. m ≡ me.0.number) → length me.0.seen + 1 < 2 ^ 63
      → Allows (Rule opening entries in_hand waiting guest) slots id me 2 (λ n. (n + 1) % 2 ^ 64) (counted guest entry (step slots 2 1 0 none) me)
  counts slots id me entry e is live hold names room s r _ at _ =
      let h = r.inner in let v = me.0 in
      let w : View O E T = with_entry guest v e in
      let number : v.number ≡ id + 1 = (r.four.each id v at live).number in
      let names' : ForSome (guest e) (λ m. m ≡ id + 1) = λ m q. names m q ∙ number in
      let tells : v.seen ≡ h.journal = r.two.each id v at hold in
      let room' : length h.journal + 1 < 2 ^ 63 = subst (λ (l : List E). length l + 1 < 2 ^ 63) tells room in (
        w,
        keeps,
        tt,
        record {
          inner = longer_by h e;
          words = ap (λ ws. set ws 2 ((get_or ws 2 0 + 1) % 2 ^ 64)) r.words
              ∙ ap (λ n. (h.drawn % 2 ^ 64) ∷ (h.served % 2 ^ 64) ∷ n ∷ []) (let c = r.three.counted in let small : h.count + 1 < 2 ^ 64 = omega arith in mod-eq_of_lt small);
          homes = r.homes;
          one = count_one h guest s.views id v at e names' opening r.one;
          two = count_two h guest s.views id v at e names' entries r.five hold r.two;
          three = count_three h guest s.views id v at e names' tells room' r.three;
          four = count_four h guest s.views id v at e names' live r.four;
          five = count_five h guest s.views id v at e names' hold r.five;
          six = six_same h (longer_by h e) in_hand waiting s.views id v w at (λ x q. q) refl refl r.six;
          seven = seven_live s.views id w live r.seven;
        },
        λ e' q. let same : e ≡ e' = cc (is, q) in ap (λ (x : E). (with_entry guest v x, me.1)) same,
      )
