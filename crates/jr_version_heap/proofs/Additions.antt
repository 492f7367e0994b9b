-- A new cell with its first version keeps the chains and the lists.
use Rattle.std.proofs.Common.{◌≡◌, ◌≢◌, ◌<◌, ◌≤◌, ◌+◌, ◌-◌, ◌⊎◌, inl, inr, ℕ, List, [], ◌∷◌, ◌++◌, length, get_or, Option, Some, None, true, false, refl, sym, ◌∙◌, ap, arith, length-append}
use Rattle.std.specs.Prelude.{slice_index, slice_index_or}
use Rattle.std.proofs.lemmas.Bool.{cases_eq, cases_lt}
use Rattle.jr_base.specs.declared.value.Value.{Value}
use Rattle.jr_stamps.specs.declared.pins.Pin.{Pin}
use Rattle.jr_version_heap.specs.declared.version.Past.{Past}
use Rattle.jr_version_heap.specs.declared.version.Version.{Version}
use Rattle.jr_version_heap.specs.declared.version.Home.TheVariants.{Loose}
use Rattle.jr_version_heap.specs.Versions.{version_in, is_newest, is_pending, IsFront, IsOlder, IsNewer, IsClosest, IsChained, HasFirst, HasFirsts, first_version}
use Rattle.jr_version_heap.specs.Needs.{body, body_of, body_in, IsKept}
use Rattle.jr_version_heap.proofs.Chains.{one_version}
use Rattle.jr_version_heap.proofs.Keeps.{kept_fresh}
use Rattle.std.proofs.lemmas.List.{get_or_append_left, get_or-append_right}

pub data Source (old : List (Option Version)) (key : ℕ) (x : Version) (k : ℕ) (v : Version) : Type 0 where
  First : k ≡ key → v ≡ x → Source old key x k v
  Kept : k ≢ key → version_in old k ≡ Some v → Source old key x k v

module _ (newest : List ℕ) (old new : List (Option Version)) (past : Past) (key : ℕ) (value : Value) (since : ℕ)
    (ok : IsChained newest old past) (a : HasFirst old new key (length newest) value since) (begins : since ≤ past.changes) where
  abbrev x : Version
  x = first_version (length newest) value since

  source : (k : ℕ) (v : Version) → version_in new k ≡ Some v → Source old key x k v
  source k v is =
      elim (cases_eq k key) [
        | inl here ↦ First here (one_version new k key v x is a.first here)
        | inr there ↦ Kept there (sym (a.others k there) ∙ is)
      ]

  not_fresh : (k : ℕ) (v : Version) → version_in old k ≡ Some v → k ≢ key
  not_fresh k v is same = let e = sym (ap (version_in old) same) ∙ is in cc (e, a.fresh)

  still : (k : ℕ) (v : Version) → version_in old k ≡ Some v → version_in new k ≡ Some v
  still k v is = a.others k (not_fresh k v is) ∙ is

  at_old : (p : ℕ) → p < length newest → slice_index (newest ++ key ∷ []) p ≡ slice_index newest p
  at_old p inside = get_or_append_left newest (key ∷ []) 0 p inside

  at_new : slice_index (newest ++ key ∷ []) (length newest) ≡ key
  at_new = get_or-append_right newest (key ∷ []) (length newest) (length newest) 0 refl (omega arith) ∙ ap (λ (z : ℕ). get_or (key ∷ []) z 0) (let e : length newest - length newest ≡ 0 = omega arith in e)

  front : (p : ℕ) → p < length newest + 1 → IsFront new (slice_index (newest ++ key ∷ []) p) p
  front p inside =
      elim (cases_lt p (length newest)) [
        | inl before ↦
            let f = ok.front p before in
            record { version = f.version; is = ap (version_in new) (at_old p before) ∙ still (slice_index newest p) f.version f.is; home = f.home; place = f.place }
        | inr last ↦
            let e : p ≡ length newest = omega arith in
            record { version = x; is = ap (λ (z : ℕ). version_in new (slice_index (newest ++ key ∷ []) z)) e ∙ (ap (version_in new) at_new ∙ a.first); home = refl; place = sym e }
      ]

  placed : (k : ℕ) (v : Version) → Source old key x k v → v.place < length newest + 1
  placed k v (First here same) = let e = ap (λ (z : Version). z.place) same in omega arith
  placed k v (Kept there is) = let p = ok.placed k v is in omega arith

  alone : (k : ℕ) (v : Version) → Source old key x k v → is_newest v.home ≡ true → slice_index (newest ++ key ∷ []) v.place ≡ k
  alone k v (First here same) home = ap (λ (z : Version). slice_index (newest ++ key ∷ []) z.place) same ∙ (at_new ∙ sym here)
  alone k v (Kept there is) home = at_old v.place (ok.placed k v is) ∙ ok.alone k v is home

  forever : (k : ℕ) (v : Version) → Source old key x k v → is_newest v.home ≡ true → v.upto ≡ 18446744073709551615
  forever k v (First here same) home = ap (λ (z : Version). z.upto) same
  forever k v (Kept there is) home = ok.forever k v is home

  made : (k : ℕ) (v : Version) → Source old key x k v → v.since ≤ past.changes
  made k v (First here same) = let e = ap (λ (z : Version). z.since) same in omega arith
  made k v (Kept there is) = ok.made k v is

  kept_of : (k : ℕ) (v : Version) → Source old key x k v → is_newest v.home ≡ false → version_in old k ≡ Some v
  kept_of k v (First here same) home = let e = ap (λ (z : Version). is_newest z.home) same in cc
  kept_of k v (Kept there is) home = is

  other_cell : (k : ℕ) (v u : Version) → version_in old k ≡ Some v → u ≡ x → v.place ≡ u.place → ⊥
  other_cell k v u is same here = let e = ap (λ (z : Version). z.place) same in let p = ok.placed k v is in omega arith

  apart : (k j : ℕ) (v u : Version) → Source old key x k v → Source old key x j u → k ≢ j → v.place ≡ u.place → (v.upto < u.since) ⊎ (u.upto < v.since)
  apart k j v u (First h s) (First i t) other here = absurd (other (h ∙ sym i))
  apart k j v u (First h s) (Kept i is) other here = absurd (other_cell j u v is s (sym here))
  apart k j v u (Kept h is) (First i t) other here = absurd (other_cell k v u is t here)
  apart k j v u (Kept h is) (Kept i is') other here = ok.apart k j v u is is' other here

  older : (k j : ℕ) (v : Version) → Source old key x k v → is_pending v.home ≡ false → v.older ≡ Some j → IsOlder new k v j
  older k j v (First here same) stands link = let e = ap (λ (z : Version). z.older) same in cc (e, link)
  older k j v (Kept there is) stands link =
      let o = ok.older k j v is stands link in
      record { version = o.version; is = still j o.version o.is; stands = o.stands; place = o.place; before = o.before; back = o.back }

  newer : (k : ℕ) (v : Version) → version_in old k ≡ Some v → is_pending v.home ≡ false → is_newest v.home ≡ false → IsNewer new k v
  newer k v is stands behind =
      let o = ok.newer k v is stands behind in
      record { key = o.key; link = o.link; version = o.version; is = still o.key o.version o.is; stands = o.stands; place = o.place; back = o.back }

  closest : (k j : ℕ) (v u : Version) → Source old key x k v → Source old key x j u → is_pending v.home ≡ false → is_pending u.home ≡ false
      → v.place ≡ u.place → u.upto < v.since → IsClosest new v.older u
  closest k j v u (First h s) (First i t) sv su here before =
      absurd (let e = ap (λ (z : Version). z.since) s in let f = ap (λ (z : Version). z.upto) t in let n = ok.short in omega arith)
  closest k j v u (First h s) (Kept i is) sv su here before = absurd (other_cell j u v is s (sym here))
  closest k j v u (Kept h is) (First i t) sv su here before = absurd (other_cell k v u is t here)
  closest k j v u (Kept h is) (Kept i is') sv su here before =
      let c = ok.closest k j v u is is' sv su here before in
      record { key = c.key; link_is = c.link_is; version = c.version; is = still c.key c.version c.is; least = c.least }

  pub chained_first : IsChained (newest ++ key ∷ []) new past
  chained_first =
      let size : length (newest ++ key ∷ []) ≡ length newest + 1 = length-append newest (key ∷ []) in
      record {
        short = ok.short;
        writes = ok.writes;
        front = λ p inside. front p (omega arith);
        placed = λ k v is. (let p = placed k v (source k v is) in omega arith);
        alone = λ k v is. alone k v (source k v is);
        forever = λ k v is. forever k v (source k v is);
        made = λ k v is. made k v (source k v is);
        span = λ k v is behind. ok.span k v (kept_of k v (source k v is) behind) behind;
        apart = λ k j v u isv isu. apart k j v u (source k v isv) (source j u isu);
        older = λ k j v is. older k j v (source k v is);
        newer = λ k v is stands behind. newer k v (kept_of k v (source k v is) behind) stands behind;
        closest = λ k j v u isv isu. closest k j v u (source k v isv) (source j u isu);
      }

-- ---- the loop over the values

-- one more value
pub firsts_more : (old middle new : List (Option Version)) (start key : ℕ) (values : List Value) (value : Value) (since n place : ℕ)
    → HasFirsts old middle start values since n → HasFirst middle new key place value since → place ≡ start + n
    → ((d : Value) → slice_index_or values n d ≡ value)
    → HasFirsts old new start values since (n + 1)
firsts_more old middle new start key values value since n place so a at read =
    let stays : (k : ℕ) (v : Version) → version_in middle k ≡ Some v → version_in new k ≡ Some v =
    λ k v is. a.others k (λ same. (let e = sym (ap (version_in middle) same) ∙ is in cc (e, a.fresh))) ∙ is in
    record {
      kept = λ k v is. stays k v (so.kept k v is);
      firsts = λ i d inside. elim (cases_lt i n) [
        | inl before ↦ let f = so.firsts i d before in (f.0, stays f.0 _ f.1)
        | inr last ↦
            let e : i ≡ n = omega arith in
            let p : start + i ≡ place = omega arith in (
              key,
              a.first ∙ (ap (λ (z : ℕ). Some (first_version z value since)) (sym p)
                  ∙ ap (λ (z : Value). Some (first_version (start + i) z since)) (sym (ap (λ (z : ℕ). slice_index_or values z d) e ∙ read d))),
            )
      ];
    }

pub kept_first : (old new : List (Option Version)) (pins : List (Option Pin)) (pending : List ℕ) (limit key place : ℕ) (value : Value) (since : ℕ)
    → HasFirst old new key place value since → (key < 4294967295) × (key < limit)
    → IsKept (body_in old) pins pending Loose None [] 0 limit → IsKept (body_in new) pins pending Loose None [] 0 limit
kept_first old new pins pending limit key place value since a small ok =
    kept_fresh (body_in old) (body_in new) pins pending limit key (body (first_version place value since)) ok (ap body_of a.fresh) (ap body_of a.first) refl
    (λ k other. ap body_of (a.others k other)) small
