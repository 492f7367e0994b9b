-- The value is given back.
use Rattle.std.proofs.Common.{◌≡◌, ℕ, ◌+◌, List, [], ◌∷◌, ◌++◌, set, true, false, true≢false, Option, Some, None, refl, sym, ap, ◌∙◌, subst, arith, length-set}
use Rattle.std.specs.Prelude.{is_some, IsPermutation}
use Rattle.std.proofs.lemmas.List.Sorted.{IsPermutation-trans, IsPermutation-append_left, IsPermutation-append_right}
use mathlib.Core.Option.{none, some}
use lib.ListN.{get_elem?}
use lib.Seq.{set-get_or}
use Rattle.atomic_table.specs.Table.{Me, step, gives, rest, put_back, Allows}
use Rattle.jr_turn.specs.declared.view.View.{View}
use Rattle.jr_turn.specs.Views.{IsReplaced, as_list, open_tickets, with_given, holding}
use Rattle.jr_turn.specs.Points.{Inner, drawing, tickets, One, Two, Three, Five, Six, Rule}
use Rattle.jr_turn.specs.Tellings.{gave, Fits}
use Rattle.jr_turn.proofs.Orders.{unappend}
use Rattle.jr_turn.proofs.Places.{each_set, some_set, once_same, total_same, tickets_set, none_some}
use Rattle.jr_turn.proofs.Frames.{four_same, seven_live, alone}

abbrev pub given_back : {V O E : Type 0} → Inner V O E → V → Inner V O E
given_back h x = record h { place = Some x }

module _ {V O E T : Type 0} (h : Inner V O E) (views : List (View O E T)) (i : ℕ) (v : View O E T) (at : get_elem? views i ≡ some v) (x : V) (ticket : Option T) where
  abbrev w : View O E T
  w = with_given v ticket

  give_one : (opening : V → O) → v.spent ≡ false → v.opening ≡ Some (opening x) → One h opening views → One (given_back h x) opening (set views i w)
  give_one opening live same r = record {
    value = λ y e. let is : x ≡ y = cc (e) in let both : Some (opening x) ≡ Some h.opening = sym same ∙ r.each i v at live in ap opening (sym is) ∙ (let q : opening x ≡ h.opening = cc (both) in q);
    each = each_set _ _ views i w r.each (r.each i v at) (λ j u _ _ k. k);
  }

  give_two : (entries : V → List E) → holding v ≡ true → entries x ≡ v.seen → Two h entries views → Two (given_back h x) entries (set views i w)
  give_two entries hold same r = record {
    value = λ y e. let is : x ≡ y = cc (e) in ap entries (sym is) ∙ (same ∙ r.each i v at hold);
    each = each_set _ _ views i w r.each (λ out. absurd (true≢false (sym out))) (λ j u _ _ k. k);
    flight = each_set _ _ views i w r.flight (λ e some. absurd (none_some e some)) (λ j u _ _ k. k);
  }

  give_three : Three h views → Three (given_back h x) (set views i w)
  give_three r = record { each = each_set _ _ views i w r.each (r.each i v at) (λ j u _ _ k. k); past = r.past; counted = r.counted; short = r.short }

  give_five : holding v ≡ true → Five h views → Five (given_back h x) (set views i w)
  give_five hold r = let own = ((r.turn i v at).hold hold).0 in record {
    range = each_set _ _ views i w r.range (r.range i v at) (λ j u _ _ k. k);
    once = once_same views i v w at refl r.once;
    every = λ d from to. some_set (λ j (u : View O E T). u.drawn ≡ Some d) views i v w at (λ e. e) (r.every d from to);
    all = r.all ∙ ap (λ n. h.served + n) (sym (total_same drawing views i v w at refl));
    few = let same = length-set views i w in let f = r.few in omega arith;
    turn = each_set _ _ views i w r.turn
        (record { hold = λ out. absurd (true≢false (sym out)); given = λ _. (own, refl); flight = λ out. absurd (true≢false (sym out)) })
        (λ j u apart there k. record { hold = λ holds. absurd (apart (alone h views i j v u r at own there holds)); given = k.given; flight = k.flight });
    empty = λ out. absurd (none_some x (sym out));
  }

  -- the tickets in the views are those in hand by the value
  give_tickets : (out hand : List T) → IsPermutation out (tickets views) → IsReplaced v.ticket ticket out hand → IsPermutation hand (tickets (set views i w))
  give_tickets out hand all fits = unappend (as_list v.ticket) hand (tickets (set views i w)) (IsPermutation-trans _ _ _ fits (IsPermutation-trans _ _ _ (IsPermutation-append_right (as_list ticket) _ _ all) (tickets_set views i v w at)))

  give_six : (in_hand waiting : V → List T) (out : List T) → v.out ≡ Some out → IsReplaced v.ticket ticket out (in_hand x) → Five h views → Six h in_hand waiting views → Six (given_back h x) in_hand waiting (set views i w)
  give_six in_hand waiting out is fits five r = let own = ((five.turn i v at).hold (ap is_some is)).0 in record {
    value = λ y e. let same : x ≡ y = cc (e) in subst (λ (z : V). IsPermutation (open_tickets in_hand waiting z) (tickets (set views i w) ++ waiting z)) same
        (IsPermutation-append_left (waiting x) _ _ (give_tickets out (in_hand x) (r.each i v at out is) fits));
    each = each_set _ _ views i w r.each
        (λ ts none. absurd (none_some ts none))
        (λ j u apart there k ts holds. absurd (apart (alone h views i j v u five at own there (ap is_some holds))));
  }

out_is : {A : Type 0} (o : Option A) → is_some o ≡ true → (a : A) × (o ≡ Some a)
out_is None e = absurd (true≢false (sym e))
out_is (Some a) e = (a, refl)

module _ {V O E T : Type 0} (opening : V → O) (entries : V → List E) (in_hand waiting : V → List T) (guest : E → Option ℕ) where
  pub gives_back : (slots id : ℕ) (me : Me (Option V) (View O E T)) (x : V) (ticket : Option T) → me.1 ≡ (0, Some x) ∷ [] → me.0.spent ≡ false → holding me.0 ≡ true → Fits opening entries in_hand me.0 ticket x
      → Allows (Rule opening entries in_hand waiting guest) slots id me 1 (λ n. n) (gave ticket (step slots 1 0 0 none) me)
  gives_back slots id me x ticket carries live hold fits s r _ at _ =
      let h = r.inner in let v = me.0 in let out = out_is v.out hold in
      let w : View O E T = with_given v ticket in (
        w,
        gives,
        tt,
        record {
          inner = given_back h x;
          words = set-get_or s.words 1 0 ∙ r.words;
          homes = ap (λ c. put_back s.homes c) carries ∙ ap (λ hs. set hs 0 (some (Some x))) r.homes;
          one = give_one h s.views id v at x ticket opening live fits.same_opening r.one;
          two = give_two h s.views id v at x ticket entries hold fits.same_list r.two;
          three = give_three h s.views id v at x ticket r.three;
          four = four_same h (given_back h x) guest s.views id v w at refl refl refl refl refl refl refl refl r.four;
          five = give_five h s.views id v at x ticket hold r.five;
          six = give_six h s.views id v at x ticket in_hand waiting out.0 out.1 (fits.tickets out.0 out.1) r.five r.six;
          seven = seven_live s.views id w live r.seven;
        },
        ap (λ c. (w, rest c)) carries,
      )

  -- the same of a seat whose slot was just written
  pub gives_back_from : (slots id : ℕ) (me₀ me : Me (Option V) (View O E T)) (x : V) (ticket : Option T) → me ≡ (me₀.0, (0, Some x) ∷ rest me₀.1) → me₀.1 ≡ (0, None) ∷ [] → me₀.0.spent ≡ false
      → holding me₀.0 ≡ true → Fits opening entries in_hand me₀.0 ticket x → Allows (Rule opening entries in_hand waiting guest) slots id me 1 (λ n. n) (gave ticket (step slots 1 0 0 none) me)
  gives_back_from slots id me₀ me x ticket is empty live hold fits =
      let now : ◌≡◌ {A = Me (Option V) (View O E T)} me (me₀.0, (0, Some x) ∷ []) = is ∙ ap (λ c. (me₀.0, (0, Some x) ∷ rest c)) empty in
      subst (λ (m : Me (Option V) (View O E T)). Allows (Rule opening entries in_hand waiting guest) slots id m 1 (λ n. n) (gave ticket (step slots 1 0 0 none) m)) (sym now)
      (gives_back slots id (me₀.0, (0, Some x) ∷ []) x ticket refl live hold fits)
