-- The count is loaded.
use Rattle.std.proofs.Common.{◌≡◌, ℕ, ◌+◌, ◌≤◌, List, length, get_or, set, true, false, Option, Some, refl, sym, ap, ◌∙◌, subst, arith, length-set, length-append, le_refl}
use mathlib.Core.Option.{none, some}
use lib.ListN.{get_elem?}
use lib.Seq.{set-get_or}
use Rattle.atomic_table.specs.Table.{Me, step, keeps, Allows}
use Rattle.jr_turn.specs.declared.view.View.{View}
use Rattle.jr_turn.specs.Views.{IsPrefix, with_known, holding}
use Rattle.jr_turn.specs.Points.{Inner, drawing, One, Two, Three, Five, Rule}
use Rattle.jr_turn.specs.Tellings.{knew}
use Rattle.jr_turn.proofs.Places.{each_set, some_set, once_same, total_same}
use Rattle.jr_turn.proofs.Frames.{four_same, six_same, seven_live}

pub length-IsPrefix : {E : Type 0} (xs ys : List E) → IsPrefix xs ys → length xs ≤ length ys
length-IsPrefix xs ys b = let e = ap length b.1 ∙ length-append xs b.0 in omega arith

module _ {V O E T : Type 0} (h : Inner V O E) (views : List (View O E T)) (i : ℕ) (v : View O E T) (at : get_elem? views i ≡ some v) where
  abbrev w : View O E T
  w = with_known v h.count

  look_one : (opening : V → O) → One h opening views → One h opening (set views i w)
  look_one opening r = record { value = r.value; each = each_set _ _ views i w r.each (r.each i v at) (λ j u _ _ k. k) }

  look_two : (entries : V → List E) → Two h entries views → Two h entries (set views i w)
  look_two entries r = record { value = r.value; each = each_set _ _ views i w r.each (r.each i v at) (λ j u _ _ k. k); flight = each_set _ _ views i w r.flight (r.flight i v at) (λ j u _ _ k. k) }

  look_three : Three h views → Three h (set views i w)
  look_three r = record { each = each_set _ _ views i w r.each (λ live. ((r.each i v at live).0, le_refl h.count)) (λ j u _ _ k. k); past = r.past; counted = r.counted; short = r.short }

  look_five : Five h views → Five h (set views i w)
  look_five r = record {
    range = each_set _ _ views i w r.range (r.range i v at) (λ j u _ _ k. k);
    once = once_same views i v w at refl r.once;
    every = λ d from to. some_set (λ j (u : View O E T). u.drawn ≡ Some d) views i v w at (λ e. e) (r.every d from to);
    all = r.all ∙ ap (λ n. h.served + n) (sym (total_same drawing views i v w at refl));
    few = let same = length-set views i w in let f = r.few in omega arith;
    turn = each_set _ _ views i w r.turn (let t = r.turn i v at in record { hold = t.hold; given = t.given; flight = t.flight }) (λ j u _ _ k. k);
    empty = λ out. some_set (λ j (u : View O E T). holding u ≡ true) views i v w at (λ hold. hold) (r.empty out);
  }

module _ {V O E T : Type 0} (opening : V → O) (entries : V → List E) (in_hand waiting : V → List T) (guest : E → Option ℕ) where
  pub looks : (slots id : ℕ) (me : Me (Option V) (View O E T)) → me.0.spent ≡ false → Allows (Rule opening entries in_hand waiting guest) slots id me 2 (λ n. n) (knew (step slots 2 0 0 none) me)
  looks slots id me live s r _ at _ =
      let h = r.inner in let v = me.0 in let w : View O E T = with_known v h.count in
      let now : h.count ≡ get_or s.words 2 0 = sym (ap (λ ws. get_or ws 2 0) r.words) in
      let sees = r.three.each id v at live in (
        w,
        keeps,
        tt,
        record {
          inner = h;
          words = set-get_or s.words 2 0 ∙ r.words;
          homes = r.homes;
          one = look_one h s.views id v at opening r.one;
          two = look_two h s.views id v at entries r.two;
          three = look_three h s.views id v at r.three;
          four = four_same h h guest s.views id v w at refl refl refl refl refl refl refl refl r.four;
          five = look_five h s.views id v at r.five;
          six = six_same h h in_hand waiting s.views id v w at (λ x e. e) refl refl r.six;
          seven = seven_live s.views id w live r.seven;
        },
        (
          ap (λ n. (with_known v n, me.1)) now,
          subst (λ (n : ℕ). length v.seen ≤ n) (sym r.three.counted ∙ now) (length-IsPrefix v.seen h.journal sees.0),
          subst (λ (n : ℕ). v.known ≤ n) now sees.1,
        ),
      )
