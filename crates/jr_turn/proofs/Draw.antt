-- A number is drawn.
use Rattle.std.proofs.Common.{◌≡◌, ℕ, ◌+◌, ◌%◌, ◌^◌, List, [], ◌∷◌, get_or, set, true, false, Option, Some, None, refl, sym, ap, ◌∙◌, arith, length-set}
use Rattle.std.proofs.Math.Nat.{mod-add-mod}
use Rattle.std.specs.Prelude.{is_some}
use mathlib.Core.Logic.{dite}
use mathlib.Core.Option.{none, some}
use native.Mathlib.Decide.{ℕ_discrete}
use lib.ListN.{get_elem?}
use Rattle.atomic_table.specs.Table.{Me, step, keeps, Allows}
use Rattle.atomic_table.proofs.Lists.{set_here}
use Rattle.jr_turn.specs.declared.view.View.{View}
use Rattle.jr_turn.specs.Views.{with_drawn, holding}
use Rattle.jr_turn.specs.Points.{Inner, total, drawing, one_if, One, Two, Three, Five, Rule}
use Rattle.jr_turn.specs.Tellings.{drew}
use Rattle.jr_turn.proofs.Places.{each_set, some_set, total_set, once_set, none_some, below}
use Rattle.jr_turn.proofs.Frames.{four_same, six_same, seven_live}

abbrev pub drawn_more : {V O E : Type 0} → Inner V O E → Inner V O E
drawn_more h = record h { drawn = h.drawn + 1 }

module _ {V O E T : Type 0} (h : Inner V O E) (views : List (View O E T)) (i : ℕ) (v : View O E T) (at : get_elem? views i ≡ some v) where
  abbrev w : View O E T
  w = with_drawn v (Some h.drawn)

  draw_one : (opening : V → O) → One h opening views → One (drawn_more h) opening (set views i w)
  draw_one opening r = record { value = r.value; each = each_set _ _ views i w r.each (r.each i v at) (λ j u _ _ k. k) }

  draw_two : (entries : V → List E) → Two h entries views → Two (drawn_more h) entries (set views i w)
  draw_two entries r = record { value = r.value; each = each_set _ _ views i w r.each (r.each i v at) (λ j u _ _ k. k); flight = each_set _ _ views i w r.flight (r.flight i v at) (λ j u _ _ k. k) }

  draw_three : Three h views → Three (drawn_more h) (set views i w)
  draw_three r = record { each = each_set _ _ views i w r.each (r.each i v at) (λ j u _ _ k. k); past = r.past; counted = r.counted; short = r.short }

  draw_five : v.drawn ≡ None → Five h views → Five (drawn_more h) (set views i w)
  draw_five idle r = let all : h.drawn ≡ h.served + total drawing views = r.all in record {
    range = each_set _ _ views i w r.range (λ d e. let same : h.drawn ≡ d = cc (e) in (omega arith, omega arith)) (λ j u _ _ k d e. let b = k d e in (b.0, omega arith));
    once = once_set views i w r.once (λ j d u _ there e f. let same : h.drawn ≡ d = cc (e) in let b = (r.range j u there d f).1 in omega arith);
    every = λ d from to. dite (ℕ_discrete d h.drawn)
        (λ is. (i, w, set_here views i w (below views i v at), ap Some (sym is)))
        (λ other. some_set (λ j (u : View O E T). u.drawn ≡ Some d) views i v w at (λ e. absurd (none_some d (sym idle ∙ e))) (r.every d from (omega arith)));
    all = let t : total drawing (set views i w) + drawing v ≡ total drawing views + 1 = total_set drawing views i v w at in let z : drawing v ≡ 0 = ap (λ (o : Option ℕ). one_if (is_some o)) idle in omega arith;
    few = let same = length-set views i w in let f = r.few in omega arith;
    turn = each_set _ _ views i w r.turn
        (let t = r.turn i v at in record {
          hold = λ hold. absurd (none_some h.served (sym idle ∙ (t.hold hold).0));
          given = λ given. absurd (none_some h.served (sym idle ∙ (t.given given).0));
          flight = t.flight;
        })
        (λ j u _ _ k. record { hold = k.hold; given = k.given; flight = k.flight });
    empty = λ out. some_set (λ j (u : View O E T). holding u ≡ true) views i v w at (λ hold. hold) (r.empty out);
  }

module _ {V O E T : Type 0} (opening : V → O) (entries : V → List E) (in_hand waiting : V → List T) (guest : E → Option ℕ) where
  pub draws : (slots id : ℕ) (me : Me (Option V) (View O E T)) → me.0.spent ≡ false → me.0.drawn ≡ None
      → Allows (Rule opening entries in_hand waiting guest) slots id me 0 (λ n. (n + 1) % 2 ^ 64) (drew (step slots 0 1 0 none) me)
  draws slots id me live idle s r _ at _ = let h = r.inner in let v = me.0 in let w = with_drawn v (Some h.drawn) in (
    w,
    keeps,
    tt,
    record {
      inner = drawn_more h;
      words = ap (λ ws. set ws 0 ((get_or ws 0 0 + 1) % 2 ^ 64)) r.words ∙ ap (λ n. n ∷ (h.served % 2 ^ 64) ∷ h.count ∷ []) (mod-add-mod h.drawn (2 ^ 64) 1);
      homes = r.homes;
      one = draw_one h s.views id v at opening r.one;
      two = draw_two h s.views id v at entries r.two;
      three = draw_three h s.views id v at r.three;
      four = four_same h (drawn_more h) guest s.views id v w at refl refl refl refl refl refl refl refl r.four;
      five = draw_five h s.views id v at idle r.five;
      six = six_same h (drawn_more h) in_hand waiting s.views id v w at (λ x e. e) refl refl r.six;
      seven = seven_live s.views id w live r.seven;
    },
    (h.drawn, sym (ap (λ ws. get_or ws 0 0) r.words), refl),
  )
