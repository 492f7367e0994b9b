-- One list in another order: what was put in front of both can be taken away.
use Rattle.std.proofs.Common.{◌≡◌, ℕ, zero, suc, ◌<◌, List, [], ◌∷◌, ◌++◌, length, get_or, set, refl, ap, subst, arith, append_assoc}
use Rattle.std.specs.Prelude.{IsPermutation, Contains, swap}
use Rattle.std.proofs.lemmas.List.Sorted.{IsPermutation-refl, IsPermutation-sym, IsPermutation-trans, IsPermutation-cons, IsPermutation-keeps, IsPermutation-middle, IsPermutation-append_left, IsPermutation-append_comm, Contains-permutation, length_permutation}

-- a list is the other after some exchanges of neighbours
data Moved {X : Type 0} : List X → List X → Type 0 where
  nothing : Moved [] []
  under : (x : X) {xs ys : List X} → Moved xs ys → Moved (x ∷ xs) (x ∷ ys)
  flip : (x y : X) (xs : List X) → Moved (x ∷ y ∷ xs) (y ∷ x ∷ xs)
  again : {xs ys zs : List X} → Moved xs ys → Moved ys zs → Moved xs zs

module _ {X : Type 0} where
  same : (xs : List X) → Moved xs xs
  same [] = nothing
  same (x ∷ xs) = under x (same xs)

  -- the first of x ∷ xs and the element at i of xs, exchanged
  to_first : (x d : X) (xs : List X) (i : ℕ) → i < length xs → Moved (x ∷ xs) (get_or xs i d ∷ set xs i x)
  to_first x d [] i p = absurd (omega arith)
  to_first x d (y ∷ ys) zero p = flip x y ys
  to_first x d (y ∷ ys) (suc i) p = again (flip x y ys) (again (under y (to_first x d ys i (omega arith))) (flip y (get_or ys i d) (set ys i x)))

  exchanged : (d : X) (xs : List X) (i j : ℕ) → i < length xs → j < length xs → Moved xs (set (set xs i (get_or xs j d)) j (get_or xs i d))
  exchanged d [] i j p q = absurd (omega arith)
  exchanged d (x ∷ xs) zero zero p q = same (x ∷ xs)
  exchanged d (x ∷ xs) zero (suc j) p q = to_first x d xs j (omega arith)
  exchanged d (x ∷ xs) (suc i) zero p q = to_first x d xs i (omega arith)
  exchanged d (x ∷ xs) (suc i) (suc j) p q = under x (exchanged d xs i j (omega arith) (omega arith))

  swapped : (xs : List X) (i j : ℕ) → i < length xs → j < length xs → Moved xs (swap xs i j)
  swapped [] i j p q = absurd (omega arith)
  swapped (x ∷ xs) i j p q = exchanged x (x ∷ xs) i j p q

  moved : (xs ys : List X) → IsPermutation xs ys → Moved xs ys
  moved xs ys = IsPermutation-keeps xs (Moved xs) (same xs) (λ l i j p q m. again m (swapped l i j p q)) ys

  reordered : {xs ys : List X} → Moved xs ys → IsPermutation xs ys
  reordered nothing = IsPermutation-refl []
  reordered (under x m) = IsPermutation-cons x _ _ (reordered m)
  reordered (flip x y xs) = IsPermutation-middle (x ∷ []) y xs
  reordered (again m n) = IsPermutation-trans _ _ _ (reordered m) (reordered n)

  -- where x stands in ys, and that the rest is as before
  abbrev Without : X → List X → List X → Type 0
  Without x rest ys = (pre : List X) × (post : List X) × (ys ≡ pre ++ x ∷ post) × Moved rest (pre ++ post)

  without : {ls ms : List X} → Moved ls ms → (x : X) (pre post : List X) → ls ≡ pre ++ x ∷ post → Without x (pre ++ post) ms
  without nothing x [] post e = cc
  without nothing x (a ∷ pre) post e = cc
  without (under y {xs} {ys} m) x [] post e = let first : y ≡ x = cc (e) in let rest : xs ≡ post = cc (e) in ([], ys, ap (λ z. z ∷ ys) first, subst (λ l. Moved l ys) rest m)
  without (under y {xs} {ys} m) x (a ∷ pre) post e =
      let first : y ≡ a = cc (e) in let rest : xs ≡ pre ++ x ∷ post = cc (e) in let r = without m x pre post rest in (a ∷ r.0, r.1, (λ k. first k ∷ r.2 k), under a r.3)
  without (flip y z xs) x [] post e =
      let first : y ≡ x = cc (e) in let rest : z ∷ xs ≡ post = cc (e) in (z ∷ [], xs, ap (λ w. z ∷ w ∷ xs) first, subst (λ l. Moved l (z ∷ xs)) rest (same (z ∷ xs)))
  without (flip y z xs) x (a ∷ []) post e =
      let first : y ≡ a = cc (e) in let second : z ≡ x = cc (e) in let rest : xs ≡ post = cc (e) in ([], y ∷ xs, ap (λ w. w ∷ y ∷ xs) second, subst (λ l. Moved l (y ∷ xs)) (λ k. first k ∷ rest k) (same (y ∷ xs)))
  without (flip y z xs) x (a ∷ b ∷ pre) post e =
      let first : y ≡ a = cc (e) in let second : z ≡ b = cc (e) in let rest : xs ≡ pre ++ x ∷ post = cc (e) in (b ∷ a ∷ pre, post, (λ k. second k ∷ first k ∷ rest k), flip a b (pre ++ post))
  without (again m n) x pre post e = let r = without m x pre post e in let s = without n x r.0 r.1 r.2 in (s.0, s.1, s.2, again r.3 s.3)

  rest_is : (x : X) (xs ys pre post : List X) → x ∷ ys ≡ pre ++ x ∷ post → Moved xs (pre ++ post) → IsPermutation xs ys
  rest_is x xs ys [] post e m = let rest : post ≡ ys = cc (e) in subst (IsPermutation xs) rest (reordered m)
  rest_is x xs ys (a ∷ pre) post e m =
      let first : a ≡ x = cc (e) in let rest : pre ++ x ∷ post ≡ ys = cc (e) in
      subst (IsPermutation xs) rest (IsPermutation-trans _ _ _ (subst (λ (z : X). IsPermutation xs (z ∷ (pre ++ post))) first (reordered m)) (IsPermutation-sym _ _ (IsPermutation-middle pre x post)))

  pub uncons : (x : X) (xs ys : List X) → IsPermutation (x ∷ xs) (x ∷ ys) → IsPermutation xs ys
  uncons x xs ys p = let r = without (moved (x ∷ xs) (x ∷ ys) p) x [] xs refl in rest_is x xs ys r.0 r.1 r.2 r.3

  pub unappend : (zs xs ys : List X) → IsPermutation (zs ++ xs) (zs ++ ys) → IsPermutation xs ys
  unappend [] xs ys p = p
  unappend (z ∷ zs) xs ys p = unappend zs xs ys (uncons z (zs ++ xs) (zs ++ ys) p)

  -- the same of what was put behind
  pub unappend_behind : (xs ys zs : List X) → IsPermutation (xs ++ zs) (ys ++ zs) → IsPermutation xs ys
  unappend_behind xs ys zs p = unappend zs xs ys (IsPermutation-trans _ _ _ (IsPermutation-append_comm zs xs) (IsPermutation-trans _ _ _ p (IsPermutation-append_comm ys zs)))

  -- the first and the second of three, exchanged
  pub second_first : (xs ys zs : List X) → IsPermutation (xs ++ (ys ++ zs)) (ys ++ (xs ++ zs))
  second_first xs ys zs = subst (λ (l : List X). IsPermutation l (ys ++ (xs ++ zs))) (append_assoc xs ys zs)
      (subst (IsPermutation ((xs ++ ys) ++ zs)) (append_assoc ys xs zs) (IsPermutation-append_left zs (xs ++ ys) (ys ++ xs) (IsPermutation-append_comm xs ys)))

  -- a list of none or one has no other order
  pub one_order : (ys : List X) (x : X) → IsPermutation (x ∷ []) ys → ys ≡ x ∷ []
  one_order [] x p = absurd (let n : 0 ≡ 1 = length_permutation _ _ p in omega arith)
  one_order (y ∷ []) x p = is_it (Contains-permutation _ _ x p (0, omega arith, refl))
    where
      is_it : Contains (y ∷ []) x → y ∷ [] ≡ x ∷ []
      is_it (zero, below, is) = ap (λ z. z ∷ []) is
      is_it (suc k, below, is) = absurd (omega arith)
  one_order (y ∷ z ∷ ys) x p = absurd (let n : length (y ∷ z ∷ ys) ≡ 1 = length_permutation _ _ p in omega arith)

  pub no_order : (ys : List X) → IsPermutation [] ys → ys ≡ []
  no_order [] p = refl
  no_order (y ∷ ys) p = absurd (let n : length (y ∷ ys) ≡ 0 = length_permutation _ _ p in omega arith)
