-- One clause more in the lists of owners.
use Rattle.std.proofs.Common.{◌≡◌, ◌==◌, ◌≢◌, ◌<◌, ◌≤◌, ◌⊎◌, inl, inr, ℕ, zero, suc, ◌+◌, Bool, true, false, cond, List, [], ◌∷◌, ◌++◌, length, get_or, set, take, map, Option, Some, None, refl, sym, ap, ◌∙◌, arith, append-nil}
use Rattle.std.specs.Option.{option_map_or}
use Rattle.std.proofs.lemmas.Bool.{cases_eq, cases_lt, ne_eqb, eq-eqb}
use Rattle.std.proofs.lemmas.List.{length-map, length-take-le, get_or-set_same, get_or-set_other, get_or_append_left, get_or-append_right, get_or_past, get_or_default, map-append, take_more}
use Rattle.jr_base.specs.declared.number.ClauseId.{ClauseId}
use Rattle.jr_program.specs.Clauses.{Clause}
use Rattle.jr_program.specs.ClauseViews.{view_clause}
use Rattle.jr_program.specs.declared.clause.TypedSpec.{TypedSpec}
use Rattle.jr_program.specs.Sites.{chosen_from}
use Rattle.jr_safepoints.specs.declared.sorted.Wanted.{Wanted}
use Rattle.jr_safepoints.specs.Sorted.{is_wanted, AreSorted, Notes}

-- ---- lists

-- an empty list at the end changes none
pub still_same : (lists : List (List ClauseId)) (n : ℕ) → get_or (lists ++ [] ∷ []) n [] ≡ get_or lists n []
still_same [] zero = refl
still_same [] (suc n) = refl
still_same (l ∷ lists) zero = refl
still_same (l ∷ lists) (suc n) = still_same lists n

pub noted : (owner : ℕ) (clause : ClauseId) (lists : List (List ClauseId)) (list new : List ClauseId) → owner < length lists → list ≡ get_or lists owner list → new ≡ list ++ clause ∷ [] →
    Notes (Some owner) clause lists (set lists owner new)
noted owner clause lists list new below found last n = by (cases_eq owner n)
  where
    by : (owner ≡ n) ⊎ (owner ≢ n) → get_or (set lists owner new) n [] ≡ get_or lists n [] ++ cond (owner == n) (clause ∷ []) []
    by (inl same) =
        let here : list ≡ get_or lists owner [] = found ∙ get_or_default lists owner list [] below in
        ap (λ k. get_or (set lists owner new) k []) (sym same) ∙ get_or-set_same lists owner new [] below ∙ last
        ∙ ap (λ l. l ++ clause ∷ []) (here ∙ ap (λ k. get_or lists k []) same)
        ∙ ap (λ b. get_or lists n [] ++ cond b (clause ∷ []) []) (sym (eq-eqb owner n same))
    by (inr other) =
        get_or-set_other lists owner n new [] (λ e. other (sym e)) ∙ sym (append-nil (get_or lists n []))
        ∙ ap (λ b. get_or lists n [] ++ cond b (clause ∷ []) []) (sym (ne_eqb owner n other))

-- the same, where lists are made before
pub noted_behind : (owner : ℕ) (clause : ClauseId) (first lists last : List (List ClauseId)) → ((n : ℕ) → get_or lists n [] ≡ get_or first n []) → Notes (Some owner) clause lists last → Notes (Some owner) clause first last
noted_behind owner clause first lists last same notes n = notes n ∙ ap (λ l. l ++ cond (owner == n) (clause ∷ []) []) (same n)

pub noted_nowhere : (clause : ClauseId) (lists : List (List ClauseId)) → Notes None clause lists lists
noted_nowhere clause lists n = sym (append-nil (get_or lists n []))

-- ---- the clauses that are chosen

pub chosen-last : (p : Clause → Bool) (n : ℕ) (cs : List Clause) (c : Clause) → chosen_from p n (cs ++ c ∷ []) ≡ chosen_from p n cs ++ cond (p c) (record { 0 = n + length cs } ∷ []) []
chosen-last p n [] c = let e : n ≡ n + 0 = omega arith in ap (λ k. cond (p c) (record { 0 = k } ∷ []) []) e
chosen-last p n (x ∷ cs) c =
    let e : n + 1 + length cs ≡ n + length (x ∷ cs) = omega arith in
    let rest : chosen_from p (n + 1) (cs ++ c ∷ []) ≡ chosen_from p (n + 1) cs ++ cond (p c) (record { 0 = n + length (x ∷ cs) } ∷ []) [] =
    chosen-last p (n + 1) cs c ∙ ap (λ k. chosen_from p (n + 1) cs ++ cond (p c) (record { 0 = k } ∷ []) []) e in
    elim (p x) as (λ b. cond b (record { 0 = n } ∷ chosen_from p (n + 1) (cs ++ c ∷ [])) (chosen_from p (n + 1) (cs ++ c ∷ []))
    ≡ cond b (record { 0 = n } ∷ chosen_from p (n + 1) cs) (chosen_from p (n + 1) cs) ++ cond (p c) (record { 0 = n + length (x ∷ cs) } ∷ []) []) [
      | true ↦ ap (λ ns. record { 0 = n } ∷ ns) rest
      | false ↦ rest
    ]

-- ---- one clause more is sorted

pub sorted_next : (wanted : Wanted) (clauses : List TypedSpec) (place : ℕ) (c : TypedSpec) (owner : Option ℕ) (old new : List (List ClauseId)) → place < length clauses → c ≡ get_or clauses place c →
    ((n : ℕ) → is_wanted wanted n (view_clause c) ≡ option_map_or (λ k. k == n) owner false) → Notes owner (record { 0 = place + 1 }) old new →
    AreSorted wanted (map view_clause (take place clauses)) old → AreSorted wanted (map view_clause (take (place + 1) clauses)) new
sorted_next wanted clauses place c owner old new below found wants notes sorted n =
    let before = map view_clause (take place clauses) in
    let p = is_wanted wanted n in
    let number : 1 + length before ≡ place + 1 = omega (arith, length-map (take place clauses) view_clause, length-take-le place clauses (omega arith)) in
    let more : map view_clause (take (place + 1) clauses) ≡ before ++ view_clause c ∷ [] =
    ap (map view_clause) (take_more clauses place c below) ∙ map-append view_clause (take place clauses) (get_or clauses place c ∷ []) ∙ ap (λ (x : TypedSpec). before ++ view_clause x ∷ []) (sym found) in
    notes n ∙ ap (λ l. l ++ cond (option_map_or (λ k. k == n) owner false) (record { 0 = place + 1 } ∷ []) []) (sorted n)
    ∙ ap (λ b. chosen_from p 1 before ++ cond b (record { 0 = place + 1 } ∷ []) []) (sym (wants n))
    ∙ ap (λ k. chosen_from p 1 before ++ cond (p (view_clause c)) (record { 0 = k } ∷ []) []) (sym number)
    ∙ sym (chosen-last p 1 before (view_clause c)) ∙ ap (chosen_from p 1) (sym more)

pub sorted_none : (wanted : Wanted) (clauses : List TypedSpec) → AreSorted wanted (map view_clause (take 0 clauses)) []
sorted_none wanted clauses n = refl
