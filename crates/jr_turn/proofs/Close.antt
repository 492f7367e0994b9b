-- The beginning and the end.
use Rattle.std.proofs.Common.{◌≡◌, ◌≢◌, ℕ, zero, suc, ◌+◌, ◌-◌, ◌<◌, ◌≤◌, List, [], ◌∷◌, ◌++◌, length, set, Bool, true, false, true≢false, Option, Some, None, refl, sym, ap, ◌∙◌, subst, arith, length-set}
use Rattle.std.specs.Prelude.{is_some, All, Any, IsPermutation}
use Rattle.std.proofs.lemmas.List.Elements.{All-nil}
use Rattle.std.proofs.lemmas.List.Sorted.{IsPermutation-refl, IsPermutation-sym}
use mathlib.Core.Option.{some, some-injective, some-ne-none}
use lib.ListN.{get_elem?}
use Rattle.atomic_table.specs.Table.{State, opening, Final, Seen}
use Rattle.atomic_table.proofs.Lists.{set_else}
use Rattle.jr_turn.specs.declared.view.Past.{Past}
use Rattle.jr_turn.specs.declared.view.View.{View}
use Rattle.jr_turn.specs.Views.{as_list, open_tickets, newcomer, holding, steps, StandsIn}
use Rattle.jr_turn.specs.Points.{total, one_if, spending, tickets, home_of, Rule}
use Rattle.jr_turn.specs.Tellings.{IsLast}
use Rattle.jr_turn.proofs.Orders.{unappend_behind, one_order, no_order}
use Rattle.jr_turn.proofs.Places.{each_one, at_place, total_set, tickets_only, none_some}
use Rattle.jr_turn.proofs.Frames.{is_first}

one_if_le : (b : Bool) → one_if b ≤ 1
one_if_le true = omega arith
one_if_le false = omega arith

one_is : (b : Bool) → 1 ≤ one_if b → b ≡ true
one_is true le = refl
one_is false le = absurd (omega arith)

-- the tickets in hand at the end, as a list of none or one
last_tickets : {T : Type 0} (o : Option T) (ts : List T) → IsPermutation ts (as_list o) → ts ≡ as_list o
last_tickets None ts p = no_order ts (IsPermutation-sym _ _ p)
last_tickets (Some t) ts p = one_order ts t (IsPermutation-sym _ _ p)

module _ {O E T : Type 0} where
  spending_le : (l : List (View O E T)) → total spending l ≤ length l
  spending_le [] = omega arith
  spending_le (v ∷ vs) = let rest = spending_le vs in let one = one_if_le v.spent in omega arith

  all_spent : (l : List (View O E T)) → length l ≤ total spending l → (j : ℕ) (u : View O E T) → get_elem? l j ≡ some u → u.spent ≡ true
  all_spent [] le j u e = absurd (some-ne-none u (sym e))
  all_spent (x ∷ xs) le zero u e = let rest = spending_le xs in one_is u.spent (let same : spending x ≡ spending u = ap (λ (v : View O E T). spending v) (some-injective x u e) in omega arith)
  all_spent (x ∷ xs) le (suc j) u e = all_spent xs (let one = one_if_le x.spent in omega arith) j u e

  -- where all but one of the passes were joined, the others are spent
  one_left : (l : List (View O E T)) (i : ℕ) (v : View O E T) → get_elem? l i ≡ some v → v.spent ≡ false → length l ≡ total spending l + 1 → (j : ℕ) (u : View O E T) → j ≢ i → get_elem? l j ≡ some u → u.spent ≡ true
  one_left l i v at live left j u apart there =
      let w : View O E T = record v { spent = true } in
      let t : total spending (set l i w) + spending v ≡ total spending l + 1 = total_set spending l i v w at in
      let z : spending v ≡ 0 = ap one_if live in
      let len = length-set l i w in
      all_spent (set l i w) (omega arith) j u (set_else l i j w apart ∙ there)

module _ {V O E T : Type 0} (opens : V → O) (entries : V → List E) (in_hand waiting : V → List T) (guest : E → Option ℕ) where
  abbrev St : Type 0
  St = State (Option V) (View O E T)

  begins : (x : V) → entries x ≡ [] → open_tickets in_hand waiting x ≡ [] → Rule opens entries in_hand waiting guest (opening (0 ∷ 0 ∷ 0 ∷ []) (Some x ∷ []) (newcomer {T = T} 1 (Some (opens x)) []))
  begins x nothing no_ticket = let v : View O E T = newcomer 1 (Some (opens x)) [] in record {
    inner = record { opening = opens x; journal = []; drawn = 0; served = 0; count = 0; place = Some x; past = [] };
    words = refl;
    homes = refl;
    one = record { value = λ y e. let is : x ≡ y = cc (e) in ap opens (sym is); each = each_one _ v (λ _. refl) };
    two = record { value = λ y e. let is : x ≡ y = cc (e) in ap entries (sym is) ∙ nothing; each = each_one _ v (λ out. absurd (true≢false (sym out))); flight = each_one _ v (λ e some. absurd (none_some e some)) };
    three = record { each = each_one _ v (λ _. (([], refl), omega arith)); past = All-nil _; counted = refl; short = omega arith };
    four = record { each = each_one _ v (λ _. record { number = refl; mine = refl }); first = each_one _ v (λ _. record { live = refl; made = refl; joined = refl; past = refl }); past = All-nil _; kept = each_one _ v (λ gone. absurd (true≢false (sym gone))); none_above = λ n _. refl };
    five = record {
      range = each_one _ v (λ d e. absurd (none_some d e));
      once = λ a b d p q at_a at_b dp dq. absurd (none_some d (each_one (λ j (u : View O E T). None ≡ u.drawn) v refl a p at_a ∙ dp));
      every = λ d from to. absurd (omega arith);
      all = refl;
      few = omega arith;
      turn = each_one _ v (record { hold = λ out. absurd (true≢false (sym out)); given = λ out. absurd (true≢false (sym out)); flight = λ out. absurd (true≢false (sym out)) });
      empty = λ e. absurd (none_some x (sym e));
    };
    six = record {
      value = λ y e. let is : x ≡ y = cc (e) in subst (λ (z : V). IsPermutation (open_tickets in_hand waiting z) (waiting z)) is (no_tickets (in_hand x) (waiting x) no_ticket);
      each = each_one _ v (λ ts e. absurd (none_some ts e));
    };
    seven = record { each = each_one _ v (λ q. absurd (true≢false (sym q))) };
  }
    where
      no_tickets : (xs ys : List T) → xs ++ ys ≡ [] → IsPermutation (xs ++ ys) ys
      no_tickets [] ys e = IsPermutation-refl ys
      no_tickets (x ∷ xs) ys e = absurd (cc (e))

  -- each pass but the first is among those that were joined
  no_more : (id : ℕ) (v : View O E T) (s : St) (r : Rule opens entries in_hand waiting guest s) → get_elem? s.views id ≡ some v → v.spent ≡ false → v.number ≡ 1 → v.made ≡ v.joined + 1
      → (n : ℕ) → 1 < n → n ≤ v.made → Any (λ (p : Past E). p.number ≡ n) v.past
  no_more id v s r at live one left n more made =
      let f = is_first r.inner guest s.views id v at live one r.four in let m = f.1 in
      let zero : id ≡ 0 = f.0 in let passes : v.made ≡ length s.views = m.made in
      let e = at_place s.views (n - 1) (omega arith) in
      let gone = one_left s.views id v at live (sym m.made ∙ (left ∙ ap (λ n. n + 1) m.joined)) (n - 1) e.0 (λ q. omega arith) e.1 in
      let number : (n - 1) + 1 ≡ n = omega arith in
      subst (λ (z : List (Past E) × ℕ). Any (λ (p : Past E). p.number ≡ z.1) z.0) (λ k. (sym m.past k, number k)) (r.four.kept (n - 1) e.0 e.1 gone)

  closes_at : (id : ℕ) (v : View O E T) (xs : List (Option V)) (s : St) (r : Rule opens entries in_hand waiting guest s) → get_elem? s.views id ≡ some v
      → ((k : ℕ) (y : Option V) → get_elem? s.homes k ≡ some (some y) → get_elem? xs k ≡ some y) → v.spent ≡ false → v.number ≡ 1 → v.made ≡ v.joined + 1 → v.out ≡ None
      → (p : Option V) → r.inner.place ≡ p → (x : V) × (get_elem? xs 0 ≡ some (Some x)) × IsLast opens entries in_hand guest v x
  closes_at id v xs s r at values live one left idle None place =
      let e = r.five.empty place in
      let m = (is_first r.inner guest s.views id v at live one r.four).1 in
      let not_own : (j : ℕ) → j ≡ id → (u : View O E T) → get_elem? s.views j ≡ some u → holding u ≡ true → ⊥ = λ j is u there hold.
      true≢false (sym hold ∙ (ap (λ (y : View O E T). holding y) (some-injective u v (sym there ∙ (ap (get_elem? s.views) is ∙ at))) ∙ ap is_some idle)) in
      let apart : e.0 ≢ id = λ is. not_own e.0 is e.1 e.2 e.3 in
      let gone = one_left s.views id v at live (sym m.made ∙ (left ∙ ap (λ n. n + 1) m.joined)) e.0 e.1 apart e.2 in
      absurd (true≢false (sym e.3 ∙ ap is_some (r.seven.each e.0 e.1 e.2 gone).out))
  closes_at id v xs s r at values live one left idle (Some x) place =
      let m = (is_first r.inner guest s.views id v at live one r.four).1 in
      let o = r.four.each id v at live in
      let sees = (r.three.each id v at live).0 in
      let tells : entries x ≡ r.inner.journal = r.two.value x place in
      let only : tickets s.views ≡ as_list v.ticket = tickets_only s.views id v at (λ j u apart there. (r.seven.each j u there (one_left s.views id v at live (sym m.made ∙ (left ∙ ap (λ n. n + 1) m.joined)) j u apart there)).ticket) in (
        x,
        values 0 (Some x) (ap (λ hs. get_elem? hs 0) (r.homes ∙ ap (λ p. home_of p ∷ []) place)),
        record {
          same_opening = r.one.each id v at live ∙ ap Some (sym (r.one.value x place));
          more = (sees.0, tells ∙ sees.1);
          own_steps = o.mine ∙ (λ k. steps guest (sym o.number k) (sym tells k));
          past = subst (All (StandsIn guest (entries x))) (sym m.past) (λ k d b. record { seen = (let seen = r.three.past k d b in (seen.0, tells ∙ seen.1)); mine = (r.four.past k d b).mine ∙ ap (steps guest _) (sym tells) });
          none_missing = no_more id v s r at live one left;
          own_ticket = last_tickets v.ticket (in_hand x) (subst (IsPermutation (in_hand x)) only (unappend_behind (in_hand x) (tickets s.views) (waiting x) (r.six.value x place)));
        },
      )

  -- the value at the end
  closes : (id : ℕ) (v : View O E T) (ws : List ℕ) (xs : List (Option V)) → v.spent ≡ false → v.number ≡ 1 → v.made ≡ v.joined + 1 → v.out ≡ None
      → Final (Seen (Rule opens entries in_hand waiting guest) id v) ws xs → (x : V) × (get_elem? xs 0 ≡ some (Some x)) × IsLast opens entries in_hand guest v x
  closes id v ws xs live one left idle (s, (r, at), _, _, values) = closes_at id v xs s r at values live one left idle r.inner.place refl

  pub closes_full : (id : ℕ) (v : View O E T) (ws : List ℕ) (xs : List (Option V)) (y : Option V) → v.spent ≡ false → v.number ≡ 1 → v.made ≡ v.joined + 1 → v.out ≡ None
      → Final (Seen (Rule opens entries in_hand waiting guest) id v) ws xs → get_elem? xs 0 ≡ some y → y ≡ None → ⊥
  closes_full id v ws xs y live one left idle final there is = let e = closes id v ws xs live one left idle final in none_some e.0 (sym is ∙ some-injective y (Some e.0) (sym there ∙ e.1))

  pub closes_value : (id : ℕ) (v : View O E T) (ws : List ℕ) (xs : List (Option V)) (y : Option V) (x : V) → v.spent ≡ false → v.number ≡ 1 → v.made ≡ v.joined + 1 → v.out ≡ None
      → Final (Seen (Rule opens entries in_hand waiting guest) id v) ws xs → get_elem? xs 0 ≡ some y → y ≡ Some x → IsLast opens entries in_hand guest v x
  closes_value id v ws xs y x live one left idle final there is = let e = closes id v ws xs live one left idle final in
      let both : Some e.0 ≡ Some x = some-injective (Some e.0) y (sym e.1 ∙ there) ∙ is in let same : e.0 ≡ x = cc (both) in subst (IsLast opens entries in_hand guest v) same e.2

  pub begins_from : (x y : V) (items : List (Option V)) → entries x ≡ [] → open_tickets in_hand waiting x ≡ [] → items ≡ Some x ∷ [] → y ≡ x → Rule opens entries in_hand waiting guest (opening (0 ∷ 0 ∷ 0 ∷ []) items (newcomer {T = T} 1 (Some (opens y)) []))
  begins_from x y items nothing no_ticket is same = subst (λ (z : List (Option V) × V). Rule opens entries in_hand waiting guest (opening (0 ∷ 0 ∷ 0 ∷ []) z.0 (newcomer {T = T} 1 (Some (opens z.1)) []))) (λ k. (sym is k, sym same k)) (begins x nothing no_ticket)
