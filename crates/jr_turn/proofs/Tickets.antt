-- What a holder of the turn does to the tickets in hand, for `give`.
use Rattle.std.proofs.Common.{List, [], ◌∷◌, ◌++◌, Option, Some, None}
use Rattle.std.proofs.lemmas.List.Sorted.{IsPermutation-refl, IsPermutation-sym, IsPermutation-trans, IsPermutation-cons, IsPermutation-to_front, IsPermutation-middle}
use Rattle.jr_turn.specs.Views.{IsReplaced, as_list}

module _ {T : Type 0} where
  -- nothing, where the pass keeps what it has
  pub IsReplaced-same : (own : Option T) (ts : List T) → IsReplaced own own ts ts
  IsReplaced-same own ts = IsPermutation-refl (as_list own ++ ts)

  -- it took one in hand: a new one, or one that waited
  pub IsReplaced-opened : (t : T) (ts : List T) → IsReplaced None (Some t) ts (ts ++ t ∷ [])
  IsReplaced-opened t ts = IsPermutation-to_front ts t

  -- it closed its own
  pub IsReplaced-closed : (t : T) (xs ys : List T) → IsReplaced (Some t) None (xs ++ t ∷ ys) (xs ++ ys)
  IsReplaced-closed t xs ys = IsPermutation-sym _ _ (IsPermutation-middle xs t ys)

  -- it goes on with another in its place
  pub IsReplaced-changed : (t u : T) (xs ys : List T) → IsReplaced (Some t) (Some u) (xs ++ t ∷ ys) (xs ++ u ∷ ys)
  IsReplaced-changed t u xs ys = IsPermutation-trans _ _ _ (IsPermutation-cons t _ _ (IsPermutation-middle xs u ys))
      (IsPermutation-trans _ _ _ (IsPermutation-middle (t ∷ []) u (xs ++ ys)) (IsPermutation-cons u _ _ (IsPermutation-sym _ _ (IsPermutation-middle xs t ys))))
