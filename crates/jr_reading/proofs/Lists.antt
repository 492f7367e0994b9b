-- One or more with commas between: what is read is spelled, and what is spelled is read.
use Rattle.std.proofs.Common.{◌≡◌, ℕ, zero, suc, ◌+◌, ◌≤◌, ◌<◌, Bool, true, false, cond, List, [], ◌∷◌, ◌++◌, length, Result, Ok, Err, refl, sym, ap, ◌∙◌, subst, append_assoc, arith}
use Rattle.jr_base.specs.declared.refusal.Refusal.{Refusal}
use Rattle.jr_lexer.specs.declared.kind.Kind.TheVariants as k
use Rattle.jr_lexer.specs.Token.{Token}
use Rattle.jr_reading.specs.Seen.{seen}
use Rattle.jr_reading.specs.Listed.{Listed, last, more}
use Rattle.jr_reading.specs.Outcomes.{Outcome, ◌>>=◌}
use Rattle.jr_reading.specs.Steps.{refusal_at, sees, listed}
use Rattle.jr_reading.proofs.Tokens.{seen_is, sees_it}
use Rattle.jr_reading.proofs.Told.{Told, told_then, told_to, told_if}

module _ {A : Type 0} (jml : Bool) (ts : List Token) (One : ℕ → A → ℕ → Type 0) where
  -- no two lists stand at an index, unless a comma follows one of them
  pub one_list : ((i j m : ℕ) (x y : A) → One i x j → One i y m → (x ≡ y) × (j ≡ m))
      → (i j m : ℕ) (xs ys : List A) → Listed jml ts One i xs j → Listed jml ts One i ys m
      → (seen jml ts j ≡ k.Comma → ⊥) → (seen jml ts m ≡ k.Comma → ⊥) → (xs ≡ ys) × (j ≡ m)
  one_list unique i j m xs ys (last {x = x} a) (last {x = y} b) s t = let e = unique i j m x y a b in (ap (λ (x : A). x ∷ []) e.0, e.1)
  one_list unique i j m xs ys (last {x = x} a) (more {j = n} {x = y} b comma rest) s t =
      let e = unique i j n x y a b in absurd (s (subst (λ n. seen jml ts n ≡ k.Comma) (sym e.1) comma))
  one_list unique i j m xs ys (more {j = n} {x = x} a comma rest) (last {x = y} b) s t =
      let e = unique i n m x y a b in absurd (t (subst (λ n. seen jml ts n ≡ k.Comma) e.1 comma))
  one_list unique i j m xs ys (more {j = n} {x = x} {xs = vs} a comma rest) (more {j = o} {x = y} {xs = ws} b other behind) s t =
      let e = unique i n o x y a b in
      let f = one_list unique (n + 1) j m vs ws rest (subst (λ o. Listed jml ts One (o + 1) ws m) (sym e.1) behind) s t in
      (ap (λ (x : A). x ∷ vs) e.0 ∙ ap (λ (vs : List A). y ∷ vs) f.0, f.1)

  -- a list goes on where each of it does
  pub listed_on : ((i j : ℕ) (x : A) → One i x j → i < j) → {i j : ℕ} {xs : List A} → Listed jml ts One i xs j → i < j
  listed_on on (last {i = i} {j = j} {x = x} one) = on i j x one
  listed_on on (more {i = i} {j = j} {x = x} one comma rest) = omega (arith, on i j x one, listed_on on rest)

  module _ (read : ℕ → Outcome A) where
    abbrev Behind : List A → ℕ → List A × ℕ → Type 0
    Behind found i r = (xs : List A) × (r.0 ≡ found ++ xs) × Listed jml ts One i xs r.1

    module _ (Cause : Refusal → Type 0) (refused : (i : ℕ) → Cause (refusal_at ts i)) (told : (i : ℕ) → Told Cause (λ (r : A × ℕ). One i r.0 r.1) (read i)) where
      listed_behind : (n : ℕ) (found : List A) (i : ℕ) → Told Cause (Behind found i) (listed jml ts read n found i)
      unfolding listed
      listed_behind zero found i = refused i
      listed_behind (suc n) found i =
          told_then Cause (λ (r : A × ℕ). One i r.0 r.1) (Behind found i) (read i) (λ x. cond (sees jml ts x.1 k.Comma) (listed jml ts read n (found ++ x.0 ∷ []) (x.1 + 1)) (Ok (found ++ x.0 ∷ [], x.1))) (told i) (λ x one.
          told_if Cause (Behind found i) (sees jml ts x.1 k.Comma) (listed jml ts read n (found ++ x.0 ∷ []) (x.1 + 1)) (Ok (found ++ x.0 ∷ [], x.1))
          (λ comma. told_to Cause (Behind (found ++ x.0 ∷ []) (x.1 + 1)) (Behind found i) (listed jml ts read n (found ++ x.0 ∷ []) (x.1 + 1))
          (λ r b. (x.0 ∷ b.0, b.1 ∙ append_assoc found (x.0 ∷ []) b.0, more one (seen_is jml ts x.1 k.Comma comma) b.2)) (listed_behind n (found ++ x.0 ∷ []) (x.1 + 1)))
          (λ comma. (x.0 ∷ [], refl, last one)))

      -- what is read is spelled
      pub listed_told : (i : ℕ) → Told Cause (λ (r : List A × ℕ). Listed jml ts One i r.0 r.1) (listed jml ts read (length ts) [] i)
      listed_told i = told_to Cause (Behind [] i) (λ (r : List A × ℕ). Listed jml ts One i r.0 r.1) (listed jml ts read (length ts) [] i)
          (λ r b. subst (λ xs. Listed jml ts One i xs r.1) (sym b.1) b.2) (listed_behind (length ts) [] i)

    module _ (Ends : ℕ → Type 0) (comma_ends : (j : ℕ) → seen jml ts j ≡ k.Comma → Ends j) (on : (i j : ℕ) (x : A) → One i x j → (i < j) × (i < length ts))
        (reads : (i j : ℕ) (x : A) → One i x j → Ends j → read i ≡ Ok (x, j)) where
      listed_all : (n : ℕ) (found : List A) {i j : ℕ} {xs : List A} → length ts ≤ i + n → Listed jml ts One i xs j → Ends j → sees jml ts j k.Comma ≡ false → listed jml ts read n found i ≡ Ok (found ++ xs, j)
      unfolding listed
      listed_all zero found fuel (last {i = i} {j = j} {x = x} one) ends stop = absurd (omega (arith, (on i j x one).1))
      listed_all zero found fuel (more {i = i} {j = j} {x = x} one comma rest) ends stop = absurd (omega (arith, (on i j x one).1))
      listed_all (suc n) found fuel (last {i = i} {j = j} {x = x} one) ends stop = rw (reads i j x one ends, stop)
      listed_all (suc n) found {j = m} fuel (more {i = i} {j = j} {x = x} {xs = xs} one comma rest) ends stop =
          rw (reads i j x one (comma_ends j comma), sees_it jml ts j k.Comma comma)
          (listed_all n (found ++ x ∷ []) (omega (arith, (on i j x one).0)) rest ends stop ∙ ap (λ (xs : List A). Ok (xs, m)) (append_assoc found (x ∷ []) xs))

      -- what is spelled is read, where it ends
      pub listed_read : (i j : ℕ) (xs : List A) → Listed jml ts One i xs j → Ends j → sees jml ts j k.Comma ≡ false → listed jml ts read (length ts) [] i ≡ Ok (xs, j)
      listed_read i j xs l ends stop = listed_all (length ts) [] (omega arith) l ends stop
