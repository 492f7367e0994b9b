-- Laws of the order in which pins are kept.
use Rattle.std.proofs.Common.{◌≡◌, ◌≢◌, ◌<◌, ◌≤◌, ◌+◌, ◌-◌, inl, inr, ℕ, List, length, get_or, Option, Some, None, sym, ◌∙◌, ap, subst, arith}
use Rattle.std.specs.Prelude.{insert, remove}
use Rattle.std.proofs.lemmas.Bool.{cases_eq, cases_order, cases_lt}
use Rattle.std.proofs.lemmas.List.Edits.{length-insert, get_or-insert_below, get_or-insert_at, get_or-insert_above, length-remove, get_or-remove_below, get_or-remove_above}
use Rattle.std.specs.List.Sorted.{IsNonDecreasingBy}
use Rattle.jr_base.specs.declared.number.Stamp.{Stamp}
use Rattle.jr_stamps.specs.declared.pins.Pin.{Pin}
use Rattle.jr_stamps.specs.declared.pins.Placed.{Placed}
use Rattle.jr_stamps.specs.Pins.{pin_in, IsGreatest}
use Rattle.jr_stamps.specs.Order.{Pairwise, IsBefore, IsKept, IsInOrder, IsBelow, IsNotBelow}

-- ---- lists of which any two are so related

module _ {A : Type 0} where
  -- an item behind the place of an insert
  behind_insert : (xs : List A) (i : ℕ) (x d : A) (k : ℕ) → i ≤ length xs → i < k → get_or (insert xs i x) k d ≡ get_or xs (k - 1) d
  behind_insert xs i x d k within lt =
      let e : (k - 1) + 1 ≡ k = omega arith in
      let h = get_or-insert_above xs i x d (k - 1) (omega arith) within in
      subst (λ n. get_or (insert xs i x) n d ≡ get_or xs (k - 1) d) e h

  pub Pairwise-insert : (R : A → A → Type 0) (xs : List A) (i : ℕ) (x : A) → Pairwise R xs → i ≤ length xs
      → ((k : ℕ) (d : A) → k < i → R (get_or xs k d) x)
      → ((k : ℕ) (d : A) → i ≤ k → k < length xs → R x (get_or xs k d))
      → Pairwise R (insert xs i x)
  Pairwise-insert R xs i x pairs within lows highs a b d lt inside =
      let n = length-insert xs i x within in
      let at = get_or-insert_at xs i x d within in
      elim (cases_order a i) [
        | inl a_at ↦
            let eb = behind_insert xs i x d b within (omega arith) in
            rw (a_at, at, eb) (highs (b - 1) d (omega arith) (omega arith))
        | inr (inl a_below) ↦
            let ea = get_or-insert_below xs i x d a a_below within in
            elim (cases_order b i) [
              | inl b_at ↦ rw (b_at, at, ea) (lows a d a_below)
              | inr (inl b_below) ↦ let eb = get_or-insert_below xs i x d b b_below within in rw (ea, eb) (pairs a b d lt (omega arith))
              | inr (inr b_above) ↦ let eb = behind_insert xs i x d b within b_above in rw (ea, eb) (pairs a (b - 1) d (omega arith) (omega arith))
            ]
        | inr (inr a_above) ↦
            let ea = behind_insert xs i x d a within a_above in
            let eb = behind_insert xs i x d b within (omega arith) in
            rw (ea, eb) (pairs (a - 1) (b - 1) d (omega arith) (omega arith))
      ]

  pub Pairwise-remove : (R : A → A → Type 0) (xs : List A) (i : ℕ) → Pairwise R xs → i < length xs → Pairwise R (remove xs i)
  Pairwise-remove R xs i pairs within a b d lt inside =
      let n = length-remove xs i within in
      elim (cases_order b i) [
        | inl b_at ↦
            let ea = get_or-remove_below xs i d a (omega arith) within in
            let eb = get_or-remove_above xs i d b (omega arith) within in
            rw (ea, eb) (pairs a (b + 1) d (omega arith) (omega arith))
        | inr (inl b_below) ↦
            let ea = get_or-remove_below xs i d a (omega arith) within in
            let eb = get_or-remove_below xs i d b b_below within in
            rw (ea, eb) (pairs a b d lt (omega arith))
        | inr (inr b_above) ↦
            let eb = get_or-remove_above xs i d b (omega arith) within in
            elim (cases_order a i) [
              | inl a_at ↦ let ea = get_or-remove_above xs i d a (omega arith) within in rw (ea, eb) (pairs (a + 1) (b + 1) d (omega arith) (omega arith))
              | inr (inl a_below) ↦ let ea = get_or-remove_below xs i d a a_below within in rw (ea, eb) (pairs a (b + 1) d (omega arith) (omega arith))
              | inr (inr a_above) ↦ let ea = get_or-remove_above xs i d a (omega arith) within in rw (ea, eb) (pairs (a + 1) (b + 1) d (omega arith) (omega arith))
            ]
      ]

-- ---- the order of the pins

pub falls_nowhere : (order : List Placed) → Pairwise IsBefore order → IsNonDecreasingBy (λ (p : Placed). p.stamp) order
falls_nowhere order rising i j d le within =
    elim (cases_order i j) [
      | inl same ↦ grind arith
      | inr (inl lt) ↦ (rising i j d lt within).stamps
      | inr (inr gt) ↦ absurd (omega arith)
    ]

-- a pin that another change leaves
kept_else : (pins new : List (Option Pin)) (p : ℕ) (a : Placed) → ((o : ℕ) → o ≢ p → pin_in new o ≡ pin_in pins o)
    → a.key ≢ p → IsKept pins a → IsKept new a
kept_else pins new p a others differs kept = (kept.0, others a.key differs ∙ kept.1, kept.2)

pub in_order-insert : (pins new : List (Option Pin)) (order : List Placed) (i : ℕ) (x : Placed) (pin : Pin)
    → IsInOrder pins order → i ≤ length order → pin_in pins x.key ≡ None → pin_in new x.key ≡ Some pin → pin.stamp.0 ≡ x.stamp
    → ((o : ℕ) → o ≢ x.key → pin_in new o ≡ pin_in pins o)
    → ((k : ℕ) (d : Placed) → k < i → (get_or order k d).stamp ≤ x.stamp)
    → ((k : ℕ) (d : Placed) → i ≤ k → k < length order → x.stamp ≤ (get_or order k d).stamp)
    → IsInOrder new (insert order i x)
in_order-insert pins new order i x pin ok within fresh set same others lows highs =
    let n = length-insert order i x within in
    let apart : (k : ℕ) (d : Placed) → k < length order → (get_or order k d).key ≢ x.key =
    λ k d h e. (let kept = ok.kept k d h in let f : pin_in pins x.key ≡ Some kept.0 = rw (← e) kept.1 in cc) in
    record {
      rising = Pairwise-insert IsBefore order i x ok.rising within
          (λ k d h. record { stamps = lows k d h; keys = apart k d (omega arith) })
          (λ k d le h. record { stamps = highs k d le h; keys = λ e. apart k d h (sym e) });
      kept = λ k d h. elim (cases_order k i) [
        | inl k_at ↦ let e : get_or (insert order i x) k d ≡ x = rw k_at (get_or-insert_at order i x d within) in rw e (pin, set, same)
        | inr (inl k_below) ↦ rw (get_or-insert_below order i x d k k_below within) (kept_else pins new x.key (get_or order k d) others (apart k d (omega arith)) (ok.kept k d (omega arith)))
        | inr (inr k_above) ↦ rw (behind_insert order i x d k within k_above) (kept_else pins new x.key (get_or order (k - 1) d) others (apart (k - 1) d (omega arith)) (ok.kept (k - 1) d (omega arith)))
      ];
      placed = λ p q found. elim (cases_eq p x.key) [
        | inl here ↦ (i, omega arith, λ d. rw (get_or-insert_at order i x d within) (sym here))
        | inr there ↦
            let old = ok.placed p q (sym (others p there) ∙ found) in
            elim (cases_order old.0 i) [
              | inl at ↦ (old.0 + 1, omega arith, λ d. rw (get_or-insert_above order i x d old.0 (omega arith) within) (old.2 d))
              | inr (inl below) ↦ (old.0, omega arith, λ d. rw (get_or-insert_below order i x d old.0 below within) (old.2 d))
              | inr (inr above) ↦ (old.0 + 1, omega arith, λ d. rw (get_or-insert_above order i x d old.0 (omega arith) within) (old.2 d))
            ]
      ];
    }

pub in_order-remove : (pins new : List (Option Pin)) (order : List Placed) (i p : ℕ)
    → IsInOrder pins order → i < length order → ((d : Placed) → (get_or order i d).key ≡ p) → pin_in new p ≡ None
    → ((o : ℕ) → o ≢ p → pin_in new o ≡ pin_in pins o)
    → IsInOrder new (remove order i)
in_order-remove pins new order i p ok within here gone others =
    let n = length-remove order i within in
    let apart : (k : ℕ) (d : Placed) → k < length order → k ≢ i → (get_or order k d).key ≢ p =
    λ k d h differs e. elim (cases_order k i) [
      | inl same ↦ differs same
      | inr (inl below) ↦ (ok.rising k i d below within).keys (e ∙ sym (here d))
      | inr (inr above) ↦ (ok.rising i k d above h).keys (here d ∙ sym e)
    ] in
    record {
      rising = Pairwise-remove IsBefore order i ok.rising within;
      kept = λ k d h. elim (cases_order k i) [
        | inl at ↦ rw (get_or-remove_above order i d k (omega arith) within) (kept_else pins new p (get_or order (k + 1) d) others (apart (k + 1) d (omega arith) (omega arith)) (ok.kept (k + 1) d (omega arith)))
        | inr (inl below) ↦ rw (get_or-remove_below order i d k below within) (kept_else pins new p (get_or order k d) others (apart k d (omega arith) (omega arith)) (ok.kept k d (omega arith)))
        | inr (inr above) ↦ rw (get_or-remove_above order i d k (omega arith) within) (kept_else pins new p (get_or order (k + 1) d) others (apart (k + 1) d (omega arith) (omega arith)) (ok.kept (k + 1) d (omega arith)))
      ];
      placed = λ q pin found. elim (cases_eq q p) [
        | inl same ↦ absurd (cc (gone, found, same))
        | inr there ↦
            let old = ok.placed q pin (sym (others q there) ∙ found) in
            let k : ℕ = old.0 in
            elim (cases_order k i) [
              | inl at ↦ absurd (there (let d : Placed = record { stamp = 0; key = 0 } in sym (old.2 d) ∙ (ap (λ m. (get_or order m d).key) at ∙ here d)))
              | inr (inl below) ↦ (k, omega (arith, old.1), λ d. rw (get_or-remove_below order i d k below within) (old.2 d))
              | inr (inr above) ↦ (
                k - 1,
                omega (arith, old.1),
                λ d.
                    let e : (k - 1) + 1 ≡ k = omega arith in
                    let h : get_or (remove order i) (k - 1) d ≡ get_or order ((k - 1) + 1) d = get_or-remove_above order i d (k - 1) (omega arith) within in
                    ap (λ (a : Placed). a.key) h ∙ (ap (λ m. (get_or order m d).key) e ∙ old.2 d),
              )
            ]
      ];
    }

-- a change that leaves each stamp
pub in_order-same : (pins new : List (Option Pin)) (order : List Placed) (p : ℕ) (old pin : Pin)
    → IsInOrder pins order → pin_in pins p ≡ Some old → pin_in new p ≡ Some pin → pin.stamp ≡ old.stamp
    → ((o : ℕ) → o ≢ p → pin_in new o ≡ pin_in pins o)
    → IsInOrder new order
in_order-same pins new order p old pin ok was now same others =
    record {
      rising = ok.rising;
      kept = λ k d h.
          let kept = ok.kept k d h in
          elim (cases_eq (get_or order k d).key p) [
            | inl here ↦
                let f : pin_in pins p ≡ Some kept.0 = rw (← here) kept.1 in
                let e : kept.0 ≡ old = cc in
                (pin, ap (pin_in new) here ∙ now, ap (λ (s : Stamp). s.0) same ∙ (ap (λ (q : Pin). q.stamp.0) (sym e) ∙ kept.2))
            | inr there ↦ kept_else pins new p (get_or order k d) others there kept
          ];
      placed = λ q r found. elim (cases_eq q p) [
        | inl here ↦ ok.placed q old (ap (pin_in pins) here ∙ was)
        | inr there ↦ ok.placed q r (sym (others q there) ∙ found)
      ];
    }

-- ---- what a search in the order finds

same_stamp : (pins : List (Option Pin)) (a : Placed) (p : ℕ) (pin : Pin) → IsKept pins a → a.key ≡ p → pin_in pins p ≡ Some pin → pin.stamp.0 ≡ a.stamp
same_stamp pins a p pin kept key found =
    let f : pin_in pins p ≡ Some kept.0 = sym (ap (pin_in pins) key) ∙ kept.1 in
    let e : pin ≡ kept.0 = cc in
    ap (λ (q : Pin). q.stamp.0) e ∙ kept.2

-- no stamp below the bound stands in an order that the bound cuts at its start
pub none_below : (pins : List (Option Pin)) (order : List Placed) (bound : ℕ) → IsInOrder pins order → IsNotBelow order bound 0
    → (p : ℕ) (pin : Pin) → pin_in pins p ≡ Some pin → bound ≤ pin.stamp.0
none_below pins order bound ok high p pin found =
    let at = ok.placed p pin found in
    let d : Placed = record { stamp = 0; key = 0 } in
    let s = same_stamp pins (get_or order at.0 d) p pin (ok.kept at.0 d at.1) (at.2 d) found in
    let h = high at.0 d (omega arith) at.1 in omega (arith, h, s)

-- the last stamp below the bound is the greatest of those
pub greatest_below : (pins : List (Option Pin)) (order : List Placed) (bound n : ℕ) (x : Placed) → IsInOrder pins order
    → IsNotBelow order bound (n + 1) → n < length order → x ≡ get_or order n x
    → (p : ℕ) (pin : Pin) → pin_in pins p ≡ Some pin → pin.stamp.0 < bound → pin.stamp.0 ≤ x.stamp
greatest_below pins order bound n x ok high within last p pin found below =
    let at = ok.placed p pin found in
    let s = same_stamp pins (get_or order at.0 x) p pin (ok.kept at.0 x at.1) (at.2 x) found in
    let l = ap (λ (q : Placed). q.stamp) last in
    elim (cases_order at.0 n) [
      | inl same ↦ let m = ap (λ k. (get_or order k x).stamp) same in omega (arith, s, l, m)
      | inr (inl before) ↦ let r = (ok.rising at.0 n x before within).stamps in omega (arith, s, l, r)
      | inr (inr behind) ↦ absurd (let h = high at.0 x (omega arith) at.1 in omega (arith, h, s))
    ]

-- a pin has a place behind those of lower stamps
pub placed_behind : (pins : List (Option Pin)) (order : List Placed) (first p : ℕ) (pin : Pin) → IsInOrder pins order
    → IsBelow order pin.stamp.0 first → pin_in pins p ≡ Some pin
    → (i : ℕ) × (first ≤ i) × (i < length order) × ((d : Placed) → (get_or order i d).key ≡ p)
placed_behind pins order first p pin ok low found =
    let at = ok.placed p pin found in
    let d : Placed = record { stamp = 0; key = 0 } in
    let s = same_stamp pins (get_or order at.0 d) p pin (ok.kept at.0 d at.1) (at.2 d) found in
    elim (cases_lt at.0 first) [
      | inl before ↦ absurd (let h = low at.0 d before in omega (arith, h, s))
      | inr behind ↦ (at.0, behind, at.1, at.2)
    ]

-- what the search for a pin of the greatest stamp answers
pub last_below : (pins : List (Option Pin)) (order : List Placed) (bound n : ℕ) (x : Placed) → IsInOrder pins order
    → IsBelow order (bound + 1) n → IsNotBelow order (bound + 1) n → n ≤ length order → (n ≡ 0 → ⊥) → x ≡ get_or order (n - 1) x
    → IsGreatest pins bound x.key x.stamp
last_below pins order bound n x ok low high within some last =
    let h = low (n - 1) x (omega arith) in
    let l = ap (λ (q : Placed). q.stamp) last in
    let kept : IsKept pins x = subst (IsKept pins) (sym last) (ok.kept (n - 1) x (omega arith)) in
    let e : (n - 1) + 1 ≡ n = omega arith in
    let behind : IsNotBelow order (bound + 1) ((n - 1) + 1) = subst (IsNotBelow order (bound + 1)) (sym e) high in
    record {
      pin = kept.0;
      is = kept.1;
      same = kept.2;
      upto = omega (arith, h, l);
      greatest = λ q other found le. greatest_below pins order (bound + 1) (n - 1) x ok behind (omega arith) last q other found (omega arith);
    }
