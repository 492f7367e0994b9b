-- Lists of views, of which one is changed, two are, or one is added.
use Rattle.std.proofs.Common.{◌≡◌, ◌≢◌, ◌⊎◌, ℕ, zero, suc, ◌+◌, ◌<◌, ◌≤◌, List, [], ◌∷◌, ◌++◌, length, set, Option, Some, None, refl, sym, ap, ◌∙◌, subst, ⊎_elim, inl, inr, arith, length-set, append-nil}
use Rattle.std.specs.Prelude.{is_some, IsPermutation, Contains}
use Rattle.std.proofs.lemmas.List.Sorted.{IsPermutation-sym, IsPermutation-trans, IsPermutation-append_right, Contains-permutation}
use mathlib.Core.Option.{some, some-ne-none, some-injective}
use mathlib.Core.Logic.{dite}
use native.Mathlib.Decide.{ℕ_discrete}
use lib.ListN.{get_elem?}
use Rattle.atomic_table.proofs.Lists.{at_set, at_longer, set_here, set_else}
use Rattle.jr_turn.specs.declared.view.View.{View}
use Rattle.jr_turn.specs.Views.{as_list}
use Rattle.jr_turn.specs.Points.{Each, SomeOf, total, one_if, drawing, tickets}
use Rattle.jr_turn.proofs.Orders.{second_first}

pub none_some : {A : Type 0} (x : A) → None ≡ Some x → ⊥
none_some x e = cc

-- a place that has an element is in range
pub below : {A : Type 0} (l : List A) (i : ℕ) (a : A) → get_elem? l i ≡ some a → i < length l
below [] i a e = absurd (some-ne-none a (sym e))
below (x ∷ xs) zero a e = omega arith
below (x ∷ xs) (suc i) a e = let rest = below xs i a e in omega arith

-- in range there is an element
pub at_place : {A : Type 0} (l : List A) (i : ℕ) → i < length l → (a : A) × (get_elem? l i ≡ some a)
at_place [] i e = absurd (omega arith)
at_place (x ∷ xs) zero e = (x, refl)
at_place (x ∷ xs) (suc i) e = at_place xs i (omega arith)

pub at_end : {A : Type 0} (l : List A) (a b : A) (j : ℕ) → get_elem? (l ++ a ∷ []) j ≡ some b → (get_elem? l j ≡ some b) ⊎ ((j ≡ length l) × (a ≡ b))
at_end [] a b zero e = inr (refl, some-injective a b e)
at_end [] a b (suc j) e = absurd (some-ne-none b (sym e))
at_end (x ∷ xs) a b zero e = inl e
at_end (x ∷ xs) a b (suc j) e = ⊎_elim (λ t. inl t) (λ t. inr (ap suc t.0, t.1)) (at_end xs a b j e)

module _ {W : Type 0} where
  -- one view is changed
  pub each_set : (K L : ℕ → W → Type 0) (views : List W) (i : ℕ) (w : W) → Each K views → L i w → ((j : ℕ) (u : W) → j ≢ i → get_elem? views j ≡ some u → K j u → L j u) → Each L (set views i w)
  each_set K L views i w all own others j u e =
      ⊎_elim
      (λ (t : (j ≡ i) × (w ≡ u)). subst (λ (y : ℕ × W). L y.0 y.1) (λ k. (sym t.0 k, t.1 k)) own)
      (λ (t : (j ≢ i) × (get_elem? views j ≡ some u)). others j u t.0 t.1 (all j u t.1))
      (at_set views i j w u e)

  -- one view is changed, and one comes at the end
  pub each_grow : (K L : ℕ → W → Type 0) (views : List W) (i : ℕ) (w u : W) → Each K views → L i w → L (length views) u → ((j : ℕ) (x : W) → j ≢ i → get_elem? views j ≡ some x → K j x → L j x) → Each L (set views i w ++ u ∷ [])
  each_grow K L views i w u all own new others j x e = ⊎_elim
      (λ t. each_set K L views i w all own others j x t)
      (λ (t : (j ≡ length (set views i w)) × (u ≡ x)). subst (λ (y : ℕ × W). L y.0 y.1) (λ k. (sym (t.0 ∙ length-set views i w) k, t.1 k)) new)
      (at_end (set views i w) u x j e)

  -- two views are changed
  pub each_two : (K L : ℕ → W → Type 0) (views : List W) (i o : ℕ) (w g : W) → Each K views → L i w → L o g → ((j : ℕ) (x : W) → j ≢ i → j ≢ o → get_elem? views j ≡ some x → K j x → L j x) → Each L (set (set views i w) o g)
  each_two K L views i o w g all own its others = each_set (λ j x. j ≢ o → L j x) L (set views i w) o g
      (each_set K (λ j x. j ≢ o → L j x) views i w all (λ _. own) (λ j x a there k b. others j x a b there k))
      its
      (λ j x b _ k. k b)

  -- a list of one view
  pub each_one : (K : ℕ → W → Type 0) (v : W) → K 0 v → Each K (v ∷ [])
  each_one K v k zero u e = subst (K 0) (some-injective v u e) k
  each_one K v k (suc j) u e = absurd (some-ne-none u (sym e))

  -- some view has K still, where the changed one keeps it
  pub some_set : (K : ℕ → W → Type 0) (views : List W) (i : ℕ) (v w : W) → get_elem? views i ≡ some v → (K i v → K i w) → SomeOf K views → SomeOf K (set views i w)
  some_set K views i v w at keeps e = dite (ℕ_discrete e.0 i)
      (λ is. let view : e.1 ≡ v = some-injective e.1 v (sym e.2 ∙ (ap (get_elem? views) is ∙ at)) in
      (i, w, set_here views i w (below views i v at), keeps (subst (λ (y : ℕ × W). K y.0 y.1) (λ k. (is k, view k)) e.3)))
      (λ other. (e.0, e.1, set_else views i e.0 w other ∙ e.2, e.3))

  pub some_longer : (K : ℕ → W → Type 0) (views : List W) (u : W) → SomeOf K views → SomeOf K (views ++ u ∷ [])
  some_longer K views u e = (e.0, e.1, at_longer views (u ∷ []) e.0 e.1 e.2, e.3)

  pub total_set : (f : W → ℕ) (l : List W) (i : ℕ) (v w : W) → get_elem? l i ≡ some v → total f (set l i w) + f v ≡ total f l + f w
  total_set f [] i v w e = absurd (some-ne-none v (sym e))
  total_set f (x ∷ xs) zero v w e = let same : f x ≡ f v = ap f (some-injective x v e) in omega arith
  total_set f (x ∷ xs) (suc i) v w e = let rest = total_set f xs i v w e in omega arith

  pub total_same : (f : W → ℕ) (l : List W) (i : ℕ) (v w : W) → get_elem? l i ≡ some v → f w ≡ f v → total f (set l i w) ≡ total f l
  total_same f l i v w at same = let t = total_set f l i v w at in omega arith

  pub total_append : (f : W → ℕ) (l : List W) (w : W) → total f (l ++ w ∷ []) ≡ total f l + f w
  total_append f [] w = omega arith
  total_append f (x ∷ xs) w = let rest = total_append f xs w in omega arith

drawn_le : (o : Option ℕ) → one_if (is_some o) ≤ 1
drawn_le None = omega arith
drawn_le (Some x) = omega arith

module _ {O E T : Type 0} where
  -- no more views wait than there are
  pub drawing_le : (l : List (View O E T)) → total drawing l ≤ length l
  drawing_le [] = omega arith
  drawing_le (v ∷ vs) = let rest = drawing_le vs in let one = drawn_le v.drawn in omega arith

  abbrev pub Once : List (View O E T) → Type 0
  Once views = (i j d : ℕ) (v w : View O E T) → get_elem? views i ≡ some v → get_elem? views j ≡ some w → v.drawn ≡ Some d → w.drawn ≡ Some d → i ≡ j

  -- no number is drawn twice, where no other view has the changed view's number
  pub once_set : (views : List (View O E T)) (i : ℕ) (w : View O E T) → Once views
      → ((j d : ℕ) (u : View O E T) → j ≢ i → get_elem? views j ≡ some u → w.drawn ≡ Some d → u.drawn ≡ Some d → ⊥) → Once (set views i w)
  once_set views i w once apart a b d x y at_a at_b dx dy =
      ⊎_elim
      (λ (s : (a ≡ i) × (w ≡ x)). ⊎_elim
      (λ (t : (b ≡ i) × (w ≡ y)). s.0 ∙ sym t.0)
      (λ (t : (b ≢ i) × (get_elem? views b ≡ some y)). absurd (apart b d y t.0 t.1 (ap (λ (v : View O E T). v.drawn) s.1 ∙ dx) dy))
      (at_set views i b w y at_b))
      (λ (s : (a ≢ i) × (get_elem? views a ≡ some x)). ⊎_elim
      (λ (t : (b ≡ i) × (w ≡ y)). absurd (apart a d x s.0 s.1 (ap (λ (v : View O E T). v.drawn) t.1 ∙ dy) dx))
      (λ (t : (b ≢ i) × (get_elem? views b ≡ some y)). once a b d x y s.1 t.1 dx dy)
      (at_set views i b w y at_b))
      (at_set views i a w x at_a)

  -- the same where the changed view keeps its number
  pub once_same : (views : List (View O E T)) (i : ℕ) (v w : View O E T) → get_elem? views i ≡ some v → w.drawn ≡ v.drawn → Once views → Once (set views i w)
  once_same views i v w at same once = once_set views i w once (λ j d u apart there a b. apart (once j i d u v there at b (sym same ∙ a)))

  -- the tickets, where the changed view has another
  pub tickets_set : (l : List (View O E T)) (i : ℕ) (v w : View O E T) → get_elem? l i ≡ some v → IsPermutation (as_list w.ticket ++ tickets l) (as_list v.ticket ++ tickets (set l i w))
  tickets_set [] i v w e = absurd (some-ne-none v (sym e))
  tickets_set (x ∷ xs) zero v w e = subst (λ (y : View O E T). IsPermutation (as_list w.ticket ++ tickets (x ∷ xs)) (as_list y.ticket ++ tickets (w ∷ xs))) (some-injective x v e) (second_first (as_list w.ticket) (as_list x.ticket) (tickets xs))
  tickets_set (x ∷ xs) (suc i) v w e = IsPermutation-trans _ _ _ (second_first (as_list w.ticket) (as_list x.ticket) (tickets xs))
      (IsPermutation-trans _ _ _ (IsPermutation-append_right (as_list x.ticket) _ _ (tickets_set xs i v w e)) (second_first (as_list x.ticket) (as_list v.ticket) (tickets (set xs i w))))

  -- where it has the same
  pub tickets_same : (l : List (View O E T)) (i : ℕ) (v w : View O E T) → get_elem? l i ≡ some v → w.ticket ≡ v.ticket → tickets (set l i w) ≡ tickets l
  tickets_same [] i v w e same = refl
  tickets_same (x ∷ xs) zero v w e same = ap (λ (o : Option T). as_list o ++ tickets xs) (same ∙ ap (λ (y : View O E T). y.ticket) (sym (some-injective x v e)))
  tickets_same (x ∷ xs) (suc i) v w e same = ap (λ (l : List T). as_list x.ticket ++ l) (tickets_same xs i v w e same)

  pub tickets_append : (l : List (View O E T)) (u : View O E T) → u.ticket ≡ None → tickets (l ++ u ∷ []) ≡ tickets l
  tickets_append [] u none = ap (λ (o : Option T). as_list o ++ []) none
  tickets_append (x ∷ xs) u none = ap (λ (l : List T). as_list x.ticket ++ l) (tickets_append xs u none)

  -- a view's ticket is among them
  pub ticket_among : (l : List (View O E T)) (i : ℕ) (v : View O E T) (t : T) → get_elem? l i ≡ some v → v.ticket ≡ Some t → Contains (tickets l) t
  ticket_among l i v t at is =
      let w : View O E T = record v { ticket = None } in
      Contains-permutation _ _ t (IsPermutation-sym _ _ (subst (λ (o : Option T). IsPermutation (tickets l) (as_list o ++ tickets (set l i w))) is (tickets_set l i v w at))) (0, omega arith, refl)

  -- where the others have none
  pub tickets_only : (l : List (View O E T)) (i : ℕ) (v : View O E T) → get_elem? l i ≡ some v → ((j : ℕ) (u : View O E T) → j ≢ i → get_elem? l j ≡ some u → u.ticket ≡ None) → tickets l ≡ as_list v.ticket
  tickets_only [] i v e none = absurd (some-ne-none v (sym e))
  tickets_only (x ∷ xs) zero v e none =
      let rest : tickets xs ≡ [] = nothing xs (λ j u t. none (suc j) u (λ q. omega arith) t) in
      ap (λ (l : List T). as_list x.ticket ++ l) rest ∙ append-nil (as_list x.ticket) ∙ ap (λ (y : View O E T). as_list y.ticket) (some-injective x v e)
    where
      nothing : (l : List (View O E T)) → ((j : ℕ) (u : View O E T) → get_elem? l j ≡ some u → u.ticket ≡ None) → tickets l ≡ []
      nothing [] none = refl
      nothing (x ∷ xs) none = (λ k. as_list (none 0 x refl k) ++ tickets xs) ∙ nothing xs (λ j u t. none (suc j) u t)
  tickets_only (x ∷ xs) (suc i) v e none =
      ap (λ (o : Option T). as_list o ++ tickets xs) (none 0 x (λ q. omega arith) refl) ∙ tickets_only xs i v e (λ j u ne t. none (suc j) u (λ q. ne (omega arith)) t)
