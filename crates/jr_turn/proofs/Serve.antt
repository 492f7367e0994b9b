-- The next number is served.
use Rattle.std.proofs.Common.{◌≡◌, ◌≢◌, ℕ, ◌+◌, ◌%◌, ◌^◌, List, [], ◌∷◌, get_or, set, true, false, true≢false, Option, Some, refl, sym, ap, ◌∙◌, arith, length-set}
use Rattle.std.proofs.Math.Nat.{mod-add-mod}
use Rattle.std.specs.Prelude.{is_some}
use mathlib.Core.Option.{none, some, some-injective}
use lib.ListN.{get_elem?}
use Rattle.atomic_table.specs.Table.{Me, step, keeps, Allows}
use Rattle.jr_turn.specs.declared.view.View.{View}
use Rattle.jr_turn.specs.Views.{with_served, with_given, holding}
use Rattle.jr_turn.specs.Points.{Inner, total, drawing, one_if, One, Two, Three, Five, Rule}
use Rattle.jr_turn.specs.Tellings.{served_next}
use Rattle.jr_turn.proofs.Places.{each_set, some_set, total_set, once_set, none_some}
use Rattle.jr_turn.proofs.Frames.{four_same, six_same, seven_live, alone}

abbrev pub served_more : {V O E : Type 0} → Inner V O E → Inner V O E
served_more h = record h { served = h.served + 1 }

module _ {V O E T : Type 0} (h : Inner V O E) (views : List (View O E T)) (i : ℕ) (v : View O E T) (at : get_elem? views i ≡ some v) where
  abbrev w : View O E T
  w = with_served v

  serve_one : (opening : V → O) → One h opening views → One (served_more h) opening (set views i w)
  serve_one opening r = record { value = r.value; each = each_set _ _ views i w r.each (r.each i v at) (λ j u _ _ k. k) }

  serve_two : (entries : V → List E) → Two h entries views → Two (served_more h) entries (set views i w)
  serve_two entries r = record { value = r.value; each = each_set _ _ views i w r.each (r.each i v at) (λ j u _ _ k. k); flight = each_set _ _ views i w r.flight (r.flight i v at) (λ j u _ _ k. k) }

  serve_three : Three h views → Three (served_more h) (set views i w)
  serve_three r = record { each = each_set _ _ views i w r.each (r.each i v at) (λ j u _ _ k. k); past = r.past; counted = r.counted; short = r.short }

  serve_five : v.given ≡ true → Five h views → Five (served_more h) (set views i w)
  serve_five mark r = let t = r.turn i v at in let own = (t.given mark).0 in let off = (t.given mark).1 in record {
    range = each_set _ _ views i w r.range (λ d e. absurd (none_some d e))
        (λ j u apart there k d e. let b = k d e in let ne : d ≢ h.served = λ q. apart (r.once j i h.served u v there at (e ∙ ap Some q) own) in (omega arith, b.1));
    once = once_set views i w r.once (λ j d u _ there e _. none_some d e);
    every = λ d from to. some_set (λ j (u : View O E T). u.drawn ≡ Some d) views i v w at
        (λ e. let both : Some h.served ≡ Some d = sym own ∙ e in let same : h.served ≡ d = cc (both) in absurd (omega arith))
        (r.every d (omega arith) to);
    all = let all : h.drawn ≡ h.served + total drawing views = r.all in let s : total drawing (set views i w) + drawing v ≡ total drawing views + 0 = total_set drawing views i v w at in
        let one : drawing v ≡ 1 = ap (λ (o : Option ℕ). one_if (is_some o)) own in omega arith;
    few = let same = length-set views i w in let f = r.few in omega arith;
    turn = each_set _ _ views i w r.turn
        (record { hold = λ holds. absurd (true≢false (sym holds ∙ off)); given = λ none. absurd (true≢false (sym none)); flight = λ some. absurd (true≢false (sym (t.flight some) ∙ off)) })
        (λ j u apart there k. record {
          hold = λ holds. absurd (apart (alone h views i j v u r at own there holds));
          given = λ given. absurd (apart (r.once j i h.served u v there at (k.given given).0 own));
          flight = k.flight;
        });
    empty = λ out. let e = r.empty out in let same = alone h views i e.0 v e.1 r at own e.2 e.3 in
        let view : e.1 ≡ v = some-injective e.1 v (sym e.2 ∙ (ap (get_elem? views) same ∙ at)) in absurd (true≢false (sym e.3 ∙ (ap (λ (x : View O E T). holding x) view ∙ off)));
  }

module _ {V O E T : Type 0} (opening : V → O) (entries : V → List E) (in_hand waiting : V → List T) (guest : E → Option ℕ) where
  pub serves : (slots id : ℕ) (me : Me (Option V) (View O E T)) → me.0.spent ≡ false → me.0.given ≡ true
      → Allows (Rule opening entries in_hand waiting guest) slots id me 1 (λ n. (n + 1) % 2 ^ 64) (served_next (step slots 1 1 0 none) me)
  serves slots id me live mark s r _ at _ = let h = r.inner in let v = me.0 in let w : View O E T = with_served v in (
    w,
    keeps,
    tt,
    record {
      inner = served_more h;
      words = ap (λ ws. set ws 1 ((get_or ws 1 0 + 1) % 2 ^ 64)) r.words ∙ ap (λ n. (h.drawn % 2 ^ 64) ∷ n ∷ h.count ∷ []) (mod-add-mod h.served (2 ^ 64) 1);
      homes = r.homes;
      one = serve_one h s.views id v at opening r.one;
      two = serve_two h s.views id v at entries r.two;
      three = serve_three h s.views id v at r.three;
      four = four_same h (served_more h) guest s.views id v w at refl refl refl refl refl refl refl refl r.four;
      five = serve_five h s.views id v at mark r.five;
      six = six_same h (served_more h) in_hand waiting s.views id v w at (λ x e. e) refl refl r.six;
      seven = seven_live s.views id w live r.seven;
    },
    refl,
  )

  -- the same of a seat that has just given the slot back
  pub serves_from : (slots id : ℕ) (v : View O E T) (me₁ me : Me (Option V) (View O E T)) (ticket : Option T) → me₁.0 ≡ v → me ≡ (with_given me₁.0 ticket, []) → v.spent ≡ false
      → Allows (Rule opening entries in_hand waiting guest) slots id me 1 (λ n. (n + 1) % 2 ^ 64) (served_next (step slots 1 1 0 none) me)
  serves_from slots id v me₁ me ticket was is live =
      serves slots id me (ap (λ (m : Me (Option V) (View O E T)). m.0.spent) is ∙ (ap (λ (x : View O E T). x.spent) was ∙ live)) (ap (λ (m : Me (Option V) (View O E T)). m.0.given) is)
