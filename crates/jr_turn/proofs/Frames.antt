-- What a point keeps where a step doesn't touch what it speaks of.
use Rattle.std.proofs.Common.{◌≡◌, ℕ, ◌+◌, ◌%◌, ◌^◌, ◌<◌, ◌≤◌, List, ◌++◌, length, get_or, set, true, false, true≢false, Option, Some, refl, sym, ap, ◌∙◌, subst, arith, length-set}
use Rattle.std.specs.Prelude.{All, Any, IsPermutation}
use mathlib.Core.Option.{some}
use lib.ListN.{get_elem?}
use lib.Seq.{set-get_or}
use Rattle.atomic_table.specs.Table.{State, keeps, stepped}
use Rattle.atomic_table.proofs.Lists.{set_again, one_turn}
use Rattle.jr_turn.specs.declared.view.Past.{Past}
use Rattle.jr_turn.specs.declared.view.View.{View}
use Rattle.jr_turn.specs.Views.{holding, steps, open_tickets}
use Rattle.jr_turn.specs.Points.{Inner, total, one_if, drawing, spending, tickets, Owns, Leads, Joined, Four, Five, Six, Seven, Rule}
use Rattle.jr_turn.proofs.Places.{each_set, some_set, total_same, tickets_same, drawing_le}

-- a number among those drawn whose word is the one served is the one served
pub is_served : {O E T : Type 0} (views : List (View O E T)) (served drawn d : ℕ) → drawn ≡ served + total drawing views → length views < 2 ^ 32 → served ≤ d → d < drawn → served % 2 ^ 64 ≡ d % 2 ^ 64 → served ≡ d
is_served views served drawn d all few from to same = let le = drawing_le views in one_turn served d (2 ^ 64) from (omega arith) same

pub seven_live : {O E T : Type 0} (views : List (View O E T)) (i : ℕ) (w : View O E T) → w.spent ≡ false → Seven views → Seven (set views i w)
seven_live views i w live r = record { each = each_set _ _ views i w r.each (λ gone. absurd (true≢false (sym gone ∙ live))) (λ j u _ _ k. k) }

module _ {V O E T : Type 0} where
  pub owns_same : (h h' : Inner V O E) (guest : E → Option ℕ) (j : ℕ) (v w : View O E T) → h'.journal ≡ h.journal → w.number ≡ v.number → w.mine ≡ v.mine → Owns h guest j v → Owns h' guest j w
  owns_same h h' guest j v w journal number mine o = record { number = number ∙ o.number; mine = mine ∙ (o.mine ∙ ap (steps guest (j + 1)) (sym journal)) }

  -- the first view, where the lists are as long and the same ones were joined
  pub leads_same : (h h' : Inner V O E) (n n' k k' : ℕ) (v w : View O E T) → h'.past ≡ h.past → n' ≡ n → k' ≡ k → w.spent ≡ v.spent → w.made ≡ v.made → w.joined ≡ v.joined → w.past ≡ v.past → Leads h n k v → Leads h' n' k' w
  leads_same h h' n n' k k' v w kept len gone spent made joined past l = record {
    live = spent ∙ l.live;
    made = made ∙ (l.made ∙ sym len);
    joined = joined ∙ (l.joined ∙ sym gone);
    past = past ∙ (l.past ∙ sym kept);
  }

  -- a joined pass, where a view stays spent or not
  pub joined_set : (h : Inner V O E) (guest : E → Option ℕ) (views : List (View O E T)) (i : ℕ) (v w : View O E T) (p : Past E) → get_elem? views i ≡ some v → (v.spent ≡ true → w.spent ≡ true) → Joined h guest views p → Joined h guest (set views i w) p
  joined_set h guest views i v w p at spent k = record {
    spent = some_set (λ j (x : View O E T). (p.number ≡ j + 1) × (x.spent ≡ true)) views i v w at (λ s. (s.0, spent s.1)) k.spent;
    mine = k.mine;
  }

  pub four_same : (h h' : Inner V O E) (guest : E → Option ℕ) (views : List (View O E T)) (i : ℕ) (v w : View O E T) → get_elem? views i ≡ some v → h'.journal ≡ h.journal → h'.past ≡ h.past
      → w.spent ≡ v.spent → w.number ≡ v.number → w.mine ≡ v.mine → w.made ≡ v.made → w.joined ≡ v.joined → w.past ≡ v.past → Four h guest views → Four h' guest (set views i w)
  four_same h h' guest views i v w at journal kept spent number mine made joined past r =
      let len : length (set views i w) ≡ length views = length-set views i w in
      let gone : total spending (set views i w) ≡ total spending views = total_same spending views i v w at (ap one_if spent) in record {
        each = each_set _ _ views i w r.each
            (λ live. owns_same h h' guest i v w journal number mine (r.each i v at (sym spent ∙ live)))
            (λ j u _ _ k live. owns_same h h' guest j u u journal refl refl (k live));
        first = each_set _ _ views i w r.first
            (λ zero. leads_same h h' _ _ _ _ v w kept len gone spent made joined past (r.first i v at zero))
            (λ j u _ _ k zero. leads_same h h' _ _ _ _ u u kept len gone refl refl refl refl (k zero));
        past = subst (All (Joined h' guest (set views i w))) (sym kept) (λ n d b. joined_same (joined_set h guest views i v w _ at (λ gone. spent ∙ gone) (r.past n d b)));
        kept = each_set _ _ views i w r.kept
            (λ gone. subst (Any (λ (p : Past E). p.number ≡ i + 1)) (sym kept) (r.kept i v at (sym spent ∙ gone)))
            (λ j u _ _ k gone. subst (Any (λ (p : Past E). p.number ≡ j + 1)) (sym kept) (k gone));
        none_above = λ n more. ap (steps guest n) journal ∙ r.none_above n (subst (λ (m : ℕ). m < n) len more);
      }
    where
      joined_same : {p : Past E} → Joined h guest (set views i w) p → Joined h' guest (set views i w) p
      joined_same {p} k = record { spent = k.spent; mine = k.mine ∙ ap (steps guest p.number) (sym journal) }

  pub six_same : (h h' : Inner V O E) (in_hand waiting : V → List T) (views : List (View O E T)) (i : ℕ) (v w : View O E T) → get_elem? views i ≡ some v → ((x : V) → h'.place ≡ Some x → h.place ≡ Some x)
      → w.ticket ≡ v.ticket → w.out ≡ v.out → Six h in_hand waiting views → Six h' in_hand waiting (set views i w)
  six_same h h' in_hand waiting views i v w at place ticket out r = let same : tickets views ≡ tickets (set views i w) = sym (tickets_same views i v w at ticket) in record {
    value = λ x there. subst (λ (l : List T). IsPermutation (open_tickets in_hand waiting x) (l ++ waiting x)) same (r.value x (place x there));
    each = each_set _ _ views i w r.each
        (λ ts is. subst (IsPermutation ts) same (r.each i v at ts (sym out ∙ is)))
        (λ j u _ _ k ts is. subst (IsPermutation ts) same (k ts is));
  }

  -- one view at most holds the turn
  pub alone : (h : Inner V O E) (views : List (View O E T)) (i j : ℕ) (v u : View O E T) → Five h views → get_elem? views i ≡ some v → v.drawn ≡ Some h.served → get_elem? views j ≡ some u → holding u ≡ true → j ≡ i
  alone h views i j v u r at own there hold = r.once j i h.served u v there at ((r.turn j u there).hold hold).0 own

  -- the first pass, by its number
  pub is_first : (h : Inner V O E) (guest : E → Option ℕ) (views : List (View O E T)) (i : ℕ) (v : View O E T) → get_elem? views i ≡ some v → v.spent ≡ false → v.number ≡ 1 → Four h guest views → (i ≡ 0) × Leads h (length views) (total spending views) v
  is_first h guest views i v at live one r = let n = (r.each i v at live).number in let zero : i ≡ 0 = omega arith in (zero, r.first i v at zero)

  -- a load that changes no view
  pub unmoved : (opening : V → O) (entries : V → List E) (in_hand waiting : V → List T) (guest : E → Option ℕ) (s : State (Option V) (View O E T)) (i id : ℕ) (c : List (ℕ × Option V)) (v : View O E T) → get_elem? s.views id ≡ some v
      → Rule opening entries in_hand waiting guest s → Rule opening entries in_hand waiting guest (stepped s i (get_or s.words i 0) id c v keeps)
  unmoved opening entries in_hand waiting guest s i id c v at r = subst (λ (z : List ℕ × List (View O E T)). Rule opening entries in_hand waiting guest record { words = z.0; homes = s.homes; views = z.1 }) (λ k. (sym (set-get_or s.words i 0) k, sym (set_again s.views id v at) k)) r
