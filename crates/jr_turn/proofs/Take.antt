-- The value is taken where the number served is the pass's own.
use Rattle.std.proofs.Common.{◌≡◌, ℕ, ◌+◌, ◌%◌, ◌^◌, List, [], ◌∷◌, get_or, set, false, true≢false, Option, Some, None, refl, sym, ap, ◌∙◌, subst, arith, length-set, append-nil, eq-eqb, ne_eqb}
use Rattle.std.specs.Prelude.{MatchBool, IsPermutation, is_some}
use Rattle.std.proofs.lemmas.List.Sorted.{IsPermutation-sym, Contains-permutation}
use mathlib.Core.Logic.{dite}
use mathlib.Core.Option.{none, some, some-injective}
use native.Mathlib.Decide.{ℕ_discrete}
use lib.ListN.{get_elem?}
use lib.Seq.{set-get_or}
use Rattle.atomic_table.specs.Table.{State, Me, Act, Valid, step, keeps, takes, stepped, rest, carried_after, Allows}
use Rattle.atomic_table.proofs.Lists.{set_here}
use Rattle.jr_turn.specs.declared.annal.Face.{Face}
use Rattle.jr_turn.specs.declared.view.View.{View}
use Rattle.jr_turn.specs.Views.{with_taken, holding, steps}
use Rattle.jr_turn.specs.Points.{Inner, drawing, tickets, home_of, One, Two, Three, Five, Six, Rule}
use Rattle.jr_turn.specs.Tellings.{took, IsFound}
use Rattle.jr_turn.proofs.Orders.{unappend_behind}
use Rattle.jr_turn.proofs.Places.{each_set, some_set, once_same, total_same, tickets_same, ticket_among, none_some, below}
use Rattle.jr_turn.proofs.Frames.{four_same, seven_live, is_served, alone, unmoved}

abbrev pub taken_out : {V O E : Type 0} → Inner V O E → Inner V O E
taken_out h = record h { place = None }

module _ {V O E T : Type 0} (h : Inner V O E) (views : List (View O E T)) (i : ℕ) (v : View O E T) (at : get_elem? views i ≡ some v) (x : V) (place : h.place ≡ Some x) (es : List E) (face : Face) (ts : List T) where
  abbrev w : View O E T
  w = with_taken v es face ts

  take_one : (opening : V → O) → One h opening views → One (taken_out h) opening (set views i w)
  take_one opening r = record { value = λ y e. absurd (none_some y e); each = each_set _ _ views i w r.each (r.each i v at) (λ j u _ _ k. k) }

  take_two : (entries : V → List E) → es ≡ h.journal → v.out ≡ None → Five h views → Two h entries views → Two (taken_out h) entries (set views i w)
  take_two entries same idle five r = record {
    value = λ y e. absurd (none_some y e);
    each = each_set _ _ views i w r.each (λ _. same) (λ j u _ _ k. k);
    flight = each_set _ _ views i w r.flight (λ e some. absurd (true≢false (sym ((five.turn i v at).flight (ap is_some some)) ∙ ap is_some idle))) (λ j u _ _ k. k);
  }

  take_three : es ≡ h.journal → Three h views → Three (taken_out h) (set views i w)
  take_three same r = record { each = each_set _ _ views i w r.each (λ live. (([], sym same ∙ sym (append-nil es)), (r.each i v at live).1)) (λ j u _ _ k. k); past = r.past; counted = r.counted; short = r.short }

  take_five : v.drawn ≡ Some h.served → v.given ≡ false → Five h views → Five (taken_out h) (set views i w)
  take_five own calm r = record {
    range = each_set _ _ views i w r.range (r.range i v at) (λ j u _ _ k. k);
    once = once_same views i v w at refl r.once;
    every = λ d from to. some_set (λ j (u : View O E T). u.drawn ≡ Some d) views i v w at (λ e. e) (r.every d from to);
    all = r.all ∙ ap (λ n. h.served + n) (sym (total_same drawing views i v w at refl));
    few = let same = length-set views i w in let f = r.few in omega arith;
    turn = each_set _ _ views i w r.turn
        (record { hold = λ _. (own, refl); given = λ given. absurd (true≢false (sym given ∙ calm)); flight = λ _. refl })
        (λ j u _ _ k. record { hold = λ hold. absurd (none_some x (sym (k.hold hold).1 ∙ place)); given = k.given; flight = k.flight });
    empty = λ _. (i, w, set_here views i w (below views i v at), refl);
  }

  -- the tickets out are those in the views
  take_six : (in_hand waiting : V → List T) → IsPermutation ts (tickets views) → Six h in_hand waiting views → Six (taken_out h) in_hand waiting (set views i w)
  take_six in_hand waiting all r = let same : tickets views ≡ tickets (set views i w) = sym (tickets_same views i v w at refl) in record {
    value = λ y e. absurd (none_some y e);
    each = each_set _ _ views i w r.each
        (λ out is. subst (IsPermutation out) same (let own : ts ≡ out = cc (is) in subst (λ (l : List T). IsPermutation l (tickets views)) own all))
        (λ j u _ _ k out is. subst (IsPermutation out) same (k out is));
  }

module _ {V O E T : Type 0} (opening : V → O) (entries : V → List E) (in_hand waiting : V → List T) (face : V → Face) (guest : E → Option ℕ) where
  abbrev St : Type 0
  St = State (Option V) (View O E T)

  abbrev Held : Type 0
  Held = Me (Option V) (View O E T)

  abbrev Goal : St → ℕ → Held → Type 0
  Goal s id me = (w : View O E T) × (a : Act (Option V)) × Valid s.homes me.1 a × Rule opening entries in_hand waiting guest (stepped s 1 (get_or s.words 1 0) id me.1 w a)
      × took opening entries in_hand face guest (step 1 1 0 0 none) me (get_or s.words 1 0) (w, carried_after me.1 a)

  abbrev TakesIt : Held → View O E T → V → Type 0
  TakesIt me u y = (x : V) × IsFound opening entries in_hand guest me.0 x × (◌≡◌ {A = Held} (u, (0, Some y) ∷ me.1) (with_taken me.0 (entries x) (face x) (in_hand x), (0, Some x) ∷ me.1))

  -- the value is at home where it is not out with another
  hit : (s : St) (r : Rule opening entries in_hand waiting guest s) (id d : ℕ) (me : Held) → get_elem? s.views id ≡ some me.0 → me.0.spent ≡ false → me.0.out ≡ None → me.0.given ≡ false → me.0.drawn ≡ Some d
      → get_or s.words 1 0 ≡ d % 2 ^ 64 → r.inner.served ≡ d → (p : Option V) → r.inner.place ≡ p → Goal s id me
  hit s r id d me at live idle calm own found served None place =
      let e = r.five.empty place in
      let same : e.0 ≡ id = alone r.inner s.views id e.0 me.0 e.1 r.five at (own ∙ ap Some (sym served)) e.2 e.3 in
      let view : e.1 ≡ me.0 = some-injective e.1 me.0 (sym e.2 ∙ (ap (get_elem? s.views) same ∙ at)) in
      absurd (true≢false (sym e.3 ∙ (ap (λ (v : View O E T). holding v) view ∙ ap is_some idle)))
  hit s r id d me at live idle calm own found served (Some x) place =
      let h = r.inner in let v = me.0 in
      let tells : entries x ≡ h.journal = r.two.value x place in
      let sees = (r.three.each id v at live).0 in
      let o = r.four.each id v at live in
      let out : IsPermutation (in_hand x) (tickets s.views) = unappend_behind (in_hand x) (tickets s.views) (waiting x) (r.six.value x place) in
      let w : View O E T = with_taken v (entries x) (face x) (in_hand x) in (
        w,
        takes 0 (Some x),
        ap (λ hs. get_elem? hs 0) (r.homes ∙ ap (λ p. home_of p ∷ []) place),
        record {
          inner = taken_out h;
          words = set-get_or s.words 1 0 ∙ r.words;
          homes = ap (λ hs. set hs 0 none) r.homes;
          one = take_one h s.views id v at x place (entries x) (face x) (in_hand x) opening r.one;
          two = take_two h s.views id v at x place (entries x) (face x) (in_hand x) entries tells idle r.five r.two;
          three = take_three h s.views id v at x place (entries x) (face x) (in_hand x) tells r.three;
          four = four_same h (taken_out h) guest s.views id v w at refl refl refl refl refl refl refl refl r.four;
          five = take_five h s.views id v at x place (entries x) (face x) (in_hand x) (own ∙ ap Some (sym served)) calm r.five;
          six = take_six h s.views id v at x place (entries x) (face x) (in_hand x) in_hand waiting out r.six;
          seven = seven_live s.views id w live r.seven;
        },
        λ d' e'. let same : d ≡ d' = cc (own, e') in subst (λ b. MatchBool b (TakesIt me w x) ((w, (0, Some x) ∷ me.1) ≡ me)) (sym (eq-eqb (get_or s.words 1 0) (d' % 2 ^ 64) (found ∙ ap (λ n. n % 2 ^ 64) same))) (
          x,
          record {
            same_opening = r.one.each id v at live ∙ ap Some (sym (r.one.value x place));
            more = (sees.0, tells ∙ sees.1);
            own_steps = o.mine ∙ (λ k. steps guest (sym o.number k) (sym tells k));
            own_ticket = λ t is. Contains-permutation _ _ t (IsPermutation-sym _ _ out) (ticket_among s.views id v t at is);
          },
          refl,
        ),
      )

  pub takes_turn : (slots id d : ℕ) (me : Held) → me.0.spent ≡ false → me.0.out ≡ None → me.0.given ≡ false → me.0.drawn ≡ Some d
      → Allows (Rule opening entries in_hand waiting guest) slots id me 1 (λ n. n) (took opening entries in_hand face guest (step slots 1 0 0 none) me)
  takes_turn slots id d me live idle calm own s r _ at _ = let h = r.inner in let n : ℕ = get_or s.words 1 0 in let now : n ≡ h.served % 2 ^ 64 = ap (λ ws. get_or ws 1 0) r.words in dite (ℕ_discrete n (d % 2 ^ 64))
      (λ found. let b = r.five.range id me.0 at d own in
      hit s r id d me at live idle calm own found (is_served s.views h.served h.drawn d r.five.all r.five.few b.0 b.1 (sym now ∙ found)) h.place refl)
      (λ other. (
        me.0,
        keeps,
        tt,
        unmoved opening entries in_hand waiting guest s 1 id me.1 me.0 at r,
        λ d' e'. let same : d ≡ d' = cc (own, e') in
            subst (λ b. MatchBool b ((x : V) × IsFound opening entries in_hand guest me.0 x × (me ≡ (with_taken me.0 (entries x) (face x) (in_hand x), (0, Some x) ∷ me.1))) (me ≡ me))
            (sym (ne_eqb n (d' % 2 ^ 64) (λ e. other (e ∙ ap (λ m. m % 2 ^ 64) (sym same))))) refl,
      ))

-- What a load of the number served tells
module _ {V O E T : Type 0} (opening : V → O) (entries : V → List E) (in_hand : V → List T) (face : V → Face) (guest : E → Option ℕ) where
  abbrev M : Type 0
  M = Me (Option V) (View O E T)

  -- the seat after the slot was taken
  abbrev pub Got : M → M → Type 0
  Got m m' = (x : V) × IsFound opening entries in_hand guest m.0 x × (m' ≡ (with_taken m.0 (entries x) (face x) (in_hand x), (0, Some x) ∷ m.1))

  pub hit_tells : (m m₀ m' : M) (n d number : ℕ) → m ≡ m₀ → m₀.0.drawn ≡ Some d → d % 2 ^ 64 ≡ number → n ≡ number → took opening entries in_hand face guest (step 0 0 0 0 none) m n m' → Got m₀ m'
  hit_tells m m₀ m' n d number is own word found tells =
      subst (λ (z : M). Got z m') is (subst (λ b. MatchBool b (Got m m') (m' ≡ m)) (eq-eqb n (d % 2 ^ 64) (found ∙ sym word)) (tells d (ap (λ (z : M). z.0.drawn) is ∙ own)))

  -- the slot has the value
  pub there : (m m' : M) → Got m m' → (y : Option V) × (m'.1 ≡ (0, y) ∷ rest m'.1)
  there m m' got = let e = ap (λ (z : M). z.1) got.2 in (Some got.0, e ∙ ap (λ r. (0, Some got.0) ∷ r) (sym (ap rest e)))
