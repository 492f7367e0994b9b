-- A new version at the front of a chain keeps the chains.
use Rattle.std.proofs.Common.{◌≡◌, ◌≢◌, ◌<◌, ◌≤◌, ◌+◌, ◌⊎◌, inl, inr, ℕ, List, length, get_or, set, Option, Some, None, true, false, refl, sym, ◌∙◌, ap, arith, length-set, get_or-set_same, get_or-set_other}
use Rattle.std.specs.Prelude.{slice_index}
use Rattle.std.proofs.lemmas.Bool.{cases_eq, cases_Bool}
use Rattle.std.proofs.lemmas.List.{get_or_default}
use Rattle.jr_base.specs.declared.value.Value.{Value}
use Rattle.jr_version_heap.specs.declared.version.Past.{Past}
use Rattle.jr_version_heap.specs.declared.version.Version.{Version}
use Rattle.jr_version_heap.specs.declared.version.Home.{Home}
use Rattle.jr_version_heap.specs.declared.version.Home.TheVariants.{Newest, Loose, Dead, Pending}
use Rattle.jr_version_heap.specs.Versions.{version_in, is_newest, is_pending, IsFront, IsOlder, IsNewer, IsClosest, IsChained, IsAdvanced, newest_version}
use Rattle.jr_version_heap.proofs.Chains.{one_version, not_empty}

-- where a version of the new heap comes from
pub data Origin (old : List (Option Version)) (r n : ℕ) (x y : Version) (k : ℕ) (v : Version) : Type 0 where
  Added : k ≡ n → v ≡ x → Origin old r n x y k v
  Replaced : k ≡ r → v ≡ y → Origin old r n x y k v
  Kept : k ≢ n → k ≢ r → version_in old k ≡ Some v → Origin old r n x y k v

module _ (newest : List ℕ) (old new : List (Option Version)) (past : Past) (r n place at : ℕ) (value : Value)
    (ok : IsChained newest old past) (within : place < length newest) (is_front : slice_index newest place ≡ r)
    (later : past.changes ≤ at) (short : at < 4294967296) (a : IsAdvanced old new r n place at value) where
  abbrev x : Version
  x = newest_version place value at r

  abbrev w : Version
  w = a.was

  abbrev y : Version
  y = record a.was { upto = at; home = Loose; newer = Some n; next = None }

  pub origin : (k : ℕ) (v : Version) → version_in new k ≡ Some v → Origin old r n x y k v
  origin k v is =
      elim (cases_eq k n) [
        | inl added ↦ Added added (one_version new k n v x is a.front added)
        | inr other ↦ elim (cases_eq k r) [
          | inl replaced ↦ Replaced replaced (one_version new k r v y is a.now replaced)
          | inr kept ↦ Kept other kept (sym (a.others k other kept) ∙ is)
        ]
      ]

  -- a key that had a version is not the new one
  not_fresh : (k : ℕ) (v : Version) → version_in old k ≡ Some v → k ≢ n
  not_fresh k v is same = let e = sym (ap (version_in old) same) ∙ is in cc (e, a.fresh)

  was_front : (w.place ≡ place) × (is_newest w.home ≡ true)
  was_front =
      let f = ok.front place within in
      let e = one_version old (slice_index newest place) r f.version w f.is a.was_is is_front in
      (ap (λ (u : Version). u.place) (sym e) ∙ f.place, ap (λ (u : Version). is_newest u.home) (sym e) ∙ f.home)

  was_upto : w.upto ≡ 18446744073709551615
  was_upto = ok.forever r w a.was_is was_front.1

  -- a version that another key has is not the newest of this cell
  not_newest : (k : ℕ) (v : Version) → version_in old k ≡ Some v → k ≢ r → v.place ≡ place → is_newest v.home ≡ false
  not_newest k v is other here =
      elim (cases_Bool (is_newest v.home)) [
        | inl front ↦ absurd (other (sym (ok.alone k v is front) ∙ (ap (slice_index newest) here ∙ is_front)))
        | inr behind ↦ behind
      ]

  -- a version that was there is there still, with the same first stamp
  pub record Persists (k : ℕ) (v : Version) : Type 0 where
    pub version : Version
    pub is : version_in new k ≡ Some version
    pub since : version.since ≡ v.since

  pub persists : (k : ℕ) (v : Version) → version_in old k ≡ Some v → Persists k v
  persists k v is =
      elim (cases_eq k r) [
        | inl replaced ↦ record { version = y; is = ap (version_in new) replaced ∙ a.now; since = ap (λ (u : Version). u.since) (one_version old r k w v a.was_is is (sym replaced)) }
        | inr kept ↦ record { version = v; is = a.others k (not_fresh k v is) kept ∙ is; since = refl }
      ]

  front : (p : ℕ) → p < length (set newest place n) → IsFront new (slice_index (set newest place n) p) p
  front p inside =
      elim (cases_eq p place) [
        | inl here ↦
            let e : slice_index (set newest place n) p ≡ n = ap (slice_index (set newest place n)) here ∙ get_or-set_same newest place n 0 within in
            record { version = x; is = ap (version_in new) e ∙ a.front; home = refl; place = sym here }
        | inr there ↦
            let f = ok.front p (omega (arith, length-set {A = ℕ})) in
            let e : slice_index (set newest place n) p ≡ slice_index newest p = get_or-set_other newest place p n 0 there in
            let other : slice_index newest p ≢ r = λ same. there (sym f.place ∙ (ap (λ (u : Version). u.place) (one_version old (slice_index newest p) r f.version w f.is a.was_is same) ∙ was_front.0)) in
            record {
              version = f.version;
              is = ap (version_in new) e ∙ (a.others (slice_index newest p) (not_fresh (slice_index newest p) f.version f.is) other ∙ f.is);
              home = f.home;
              place = f.place;
            }
      ]

  placed : (k : ℕ) (v : Version) → Origin old r n x y k v → v.place < length newest
  placed k v (Added here same) = let e = ap (λ (u : Version). u.place) same in omega arith
  placed k v (Replaced here same) = let e = ap (λ (u : Version). u.place) same in let p = was_front.0 in omega arith
  placed k v (Kept o p is) = ok.placed k v is

  alone : (k : ℕ) (v : Version) → Origin old r n x y k v → is_newest v.home ≡ true → slice_index (set newest place n) v.place ≡ k
  alone k v (Added here same) front =
      let e = ap (λ (u : Version). u.place) same in
      ap (slice_index (set newest place n)) e ∙ (get_or-set_same newest place n 0 within ∙ sym here)
  alone k v (Replaced here same) front = absurd (let e = ap (λ (u : Version). is_newest u.home) same in cc)
  alone k v (Kept o p is) front =
      let e = ok.alone k v is front in
      let there : v.place ≢ place = λ same. p (sym e ∙ (ap (slice_index newest) same ∙ is_front)) in
      get_or-set_other newest place v.place n 0 there ∙ e

  forever : (k : ℕ) (v : Version) → Origin old r n x y k v → is_newest v.home ≡ true → v.upto ≡ 18446744073709551615
  forever k v (Added here same) front = ap (λ (u : Version). u.upto) same
  forever k v (Replaced here same) front = absurd (let e = ap (λ (u : Version). is_newest u.home) same in cc)
  forever k v (Kept o p is) front = ok.forever k v is front

  made : (k : ℕ) (v : Version) → Origin old r n x y k v → v.since ≤ at + 1
  made k v (Added here same) = let e = ap (λ (u : Version). u.since) same in omega arith
  made k v (Replaced here same) = let e = ap (λ (u : Version). u.since) same in let m = ok.made r w a.was_is in omega arith
  made k v (Kept o p is) = let m = ok.made k v is in omega arith

  span : (k : ℕ) (v : Version) → Origin old r n x y k v → is_newest v.home ≡ false → (v.since ≤ v.upto) × (v.upto < at + 1)
  span k v (Added here same) behind = absurd (let e = ap (λ (u : Version). is_newest u.home) same in cc)
  span k v (Replaced here same) behind =
      let e = ap (λ (u : Version). u.since) same in let f = ap (λ (u : Version). u.upto) same in let m = ok.made r w a.was_is in
      (omega arith, omega arith)
  span k v (Kept o p is) behind = let s = ok.span k v is behind in (s.0, omega (arith, s.1, ok.writes))

  -- another version of the cell ends before the replaced one begins
  before_replaced : (k : ℕ) (v : Version) → k ≢ r → version_in old k ≡ Some v → v.place ≡ place → v.upto < w.since
  before_replaced k v other is here =
      elim (ok.apart k r v w is a.was_is other (here ∙ sym was_front.0)) [
        | inl before ↦ before
        | inr behind ↦ absurd (let u = was_upto in let m = ok.made k v is in let s = ok.short in omega arith)
      ]

  apart : (k j : ℕ) (v u : Version) → Origin old r n x y k v → Origin old r n x y j u → k ≢ j → v.place ≡ u.place → (v.upto < u.since) ⊎ (u.upto < v.since)
  apart k j v u (Added h s) (Added i t) other here = absurd (other (h ∙ sym i))
  apart k j v u (Added h s) (Replaced i t) other here = inr (let e = ap (λ (z : Version). z.since) s in let f = ap (λ (z : Version). z.upto) t in omega arith)
  apart k j v u (Added h s) (Kept o p is) other here =
      let e = ap (λ (z : Version). z.since) s in let f = ap (λ (z : Version). z.place) s in
      let q = (ok.span j u is (not_newest j u is p (sym here ∙ f))).1 in inr (omega (arith, ok.writes))
  apart k j v u (Replaced h s) (Added i t) other here = inl (let e = ap (λ (z : Version). z.since) t in let f = ap (λ (z : Version). z.upto) s in omega arith)
  apart k j v u (Replaced h s) (Replaced i t) other here = absurd (other (h ∙ sym i))
  apart k j v u (Replaced h s) (Kept o p is) other here =
      let e = ap (λ (z : Version). z.since) s in let f = ap (λ (z : Version). z.place) s in
      let b = before_replaced j u p is (sym here ∙ (f ∙ was_front.0)) in inr (omega arith)
  apart k j v u (Kept o p is) (Added i t) other here =
      let e = ap (λ (z : Version). z.since) t in let f = ap (λ (z : Version). z.place) t in
      let q = (ok.span k v is (not_newest k v is p (here ∙ f))).1 in inl (omega (arith, ok.writes))
  apart k j v u (Kept o p is) (Replaced i t) other here =
      let e = ap (λ (z : Version). z.since) t in let f = ap (λ (z : Version). z.place) t in
      let b = before_replaced k v p is (here ∙ (f ∙ was_front.0)) in inl (omega arith)
  apart k j v u (Kept o p is) (Kept o' p' is') other here = ok.apart k j v u is is' other here

  -- what stands before a version that was there, other than the replaced one, is as before
  older_kept : (k j : ℕ) (v : Version) → version_in old k ≡ Some v → is_pending v.home ≡ false → v.older ≡ Some j → (j ≡ r → ⊥) → IsOlder new k v j
  older_kept k j v is stands link other =
      let o = ok.older k j v is stands link in
      record {
        version = o.version;
        is = a.others j (not_fresh j o.version o.is) other ∙ o.is;
        stands = o.stands;
        place = o.place;
        before = o.before;
        back = o.back;
      }

  newest_stands : (h : Home) → is_newest h ≡ true → is_pending h ≡ false
  newest_stands Newest front = refl
  newest_stands Loose front = cc
  newest_stands (Dead p) front = cc
  newest_stands Pending front = cc

  older : (k j : ℕ) (v : Version) → Origin old r n x y k v → is_pending v.home ≡ false → v.older ≡ Some j → IsOlder new k v j
  older k j v (Added here same) stands link =
      let e : j ≡ r = (let f = ap (λ (u : Version). u.older) same in cc (f, link)) in
      let s = ap (λ (u : Version). u.since) same in
      record {
        version = y;
        is = ap (version_in new) e ∙ a.now;
        stands = refl;
        place = was_front.0 ∙ sym (ap (λ (u : Version). u.place) same);
        before = omega arith;
        back = ap (λ (m : ℕ). Some m) (sym here);
      }
  older k j v (Replaced here same) stands link =
      let f = ap (λ (u : Version). u.older) same in
      let link' : w.older ≡ Some j = sym f ∙ link in
      let o = ok.older r j w a.was_is (newest_stands w.home was_front.1) link' in
      let other : j ≡ r → ⊥ = λ e. (let g = one_version old j r o.version w o.is a.was_is e in let u = ap (λ (z : Version). z.upto) g in let q = was_upto in let m = ok.made r w a.was_is in let s = ok.short in let b = o.before in omega arith) in
      let p = older_kept r j w a.was_is (newest_stands w.home was_front.1) link' other in
      record {
        version = p.version;
        is = p.is;
        stands = p.stands;
        place = p.place ∙ sym (ap (λ (u : Version). u.place) same);
        before = (let e = ap (λ (u : Version). u.since) same in let b = p.before in omega arith);
        back = p.back ∙ ap (λ (m : ℕ). Some m) (sym here);
      }
  older k j v (Kept o p is) stands link =
      let q = ok.older k j v is stands link in
      let other : j ≡ r → ⊥ = λ e. (let g = one_version old j r q.version w q.is a.was_is e in let u = ap (λ (z : Version). z.upto) g in let l = was_upto in let m = ok.made k v is in let s = ok.short in let b = q.before in omega arith) in
      older_kept k j v is stands link other

  newer : (k : ℕ) (v : Version) → Origin old r n x y k v → is_pending v.home ≡ false → is_newest v.home ≡ false → IsNewer new k v
  newer k v (Added here same) stands behind = absurd (let e = ap (λ (u : Version). is_newest u.home) same in cc)
  newer k v (Replaced here same) stands behind =
      record {
        key = n;
        link = ap (λ (u : Version). u.newer) same;
        version = x;
        is = a.front;
        stands = refl;
        place = sym (ap (λ (u : Version). u.place) same ∙ was_front.0);
        back = ap (λ (m : ℕ). Some m) (sym here);
      }
  newer k v (Kept o p is) stands behind =
      let q = ok.newer k v is stands behind in
      elim (cases_eq q.key r) [
        | inl replaced ↦
            let e = one_version old q.key r q.version w q.is a.was_is replaced in
            record {
              key = q.key;
              link = q.link;
              version = y;
              is = ap (version_in new) replaced ∙ a.now;
              stands = refl;
              place = ap (λ (u : Version). u.place) (sym e) ∙ q.place;
              back = ap (λ (u : Version). u.older) (sym e) ∙ q.back;
            }
        | inr kept ↦ record {
          key = q.key;
          link = q.link;
          version = q.version;
          is = a.others q.key (not_fresh q.key q.version q.is) kept ∙ q.is;
          stands = q.stands;
          place = q.place;
          back = q.back;
        }
      ]

  closest_kept : (k j : ℕ) (v u : Version) → version_in old k ≡ Some v → version_in old j ≡ Some u → is_pending v.home ≡ false → is_pending u.home ≡ false
      → v.place ≡ u.place → u.upto < v.since → IsClosest new v.older u
  closest_kept k j v u isv isu sv su here before =
      let c = ok.closest k j v u isv isu sv su here before in
      let p = persists c.key c.version c.is in
      record { key = c.key; link_is = c.link_is; version = p.version; is = p.is; least = (let e = p.since in let l = c.least in omega arith) }

  closest : (k j : ℕ) (v u : Version) → Origin old r n x y k v → Origin old r n x y j u → is_pending v.home ≡ false → is_pending u.home ≡ false
      → v.place ≡ u.place → u.upto < v.since → IsClosest new v.older u
  closest k j v u (Added h s) (Added i t) sv su here before = absurd (let e = ap (λ (z : Version). z.since) s in let f = ap (λ (z : Version). z.upto) t in omega arith)
  closest k j v u (Added h s) (Replaced i t) sv su here before =
      record { key = r; link_is = ap (λ (z : Version). z.older) s; version = y; is = a.now; least = (let e = ap (λ (z : Version). z.since) t in omega arith) }
  closest k j v u (Added h s) (Kept o p is) sv su here before =
      let b = before_replaced j u p is (sym here ∙ ap (λ (z : Version). z.place) s) in
      let e = not_empty newest old past ok j u is in
      record { key = r; link_is = ap (λ (z : Version). z.older) s; version = y; is = a.now; least = omega arith }
  closest k j v u (Replaced h s) (Added i t) sv su here before = absurd (let e = ap (λ (z : Version). z.since) s in let f = ap (λ (z : Version). z.upto) t in let m = ok.made r w a.was_is in omega arith)
  closest k j v u (Replaced h s) (Replaced i t) sv su here before = absurd (let e = ap (λ (z : Version). z.since) s in let f = ap (λ (z : Version). z.upto) t in let m = ok.made r w a.was_is in omega arith)
  closest k j v u (Replaced h s) (Kept o p is) sv su here before =
      let e = ap (λ (z : Version). z.since) s in
      let c = closest_kept r j w u a.was_is is (newest_stands w.home was_front.1) su (sym (ap (λ (z : Version). z.place) s) ∙ here) (omega arith) in
      record { key = c.key; link_is = ap (λ (z : Version). z.older) s ∙ c.link_is; version = c.version; is = c.is; least = c.least }
  closest k j v u (Kept o p is) (Added i t) sv su here before = absurd (let f = ap (λ (z : Version). z.upto) t in let m = ok.made k v is in omega arith)
  closest k j v u (Kept o p is) (Replaced i t) sv su here before = absurd (let f = ap (λ (z : Version). z.upto) t in let m = ok.made k v is in omega arith)
  closest k j v u (Kept o p is) (Kept o' p' is') sv su here before = closest_kept k j v u is is' sv su here before

  pub chained_advance : IsChained (set newest place n) new (record { changes = at + 1; writes = at + 1 })
  chained_advance =
      let size : length (set newest place n) ≡ length newest = length-set newest place n in
      record {
        short = omega arith;
        writes = omega arith;
        front = front;
        placed = λ k v is. (let p = placed k v (origin k v is) in omega arith);
        alone = λ k v is. alone k v (origin k v is);
        forever = λ k v is. forever k v (origin k v is);
        made = λ k v is. made k v (origin k v is);
        span = λ k v is. span k v (origin k v is);
        apart = λ k j v u isv isu. apart k j v u (origin k v isv) (origin j u isu);
        older = λ k j v is. older k j v (origin k v is);
        newer = λ k v is. newer k v (origin k v is);
        closest = λ k j v u isv isu. closest k j v u (origin k v isv) (origin j u isu);
      }

-- the two writes that put a new front
pub advanced_by_writes : (first second last : List (Option Version)) (r n place at : ℕ) (value : Value) (was : Version)
    → version_in first r ≡ Some was → is_newest was.home ≡ true → was.place ≡ place → version_in first n ≡ None
    → version_in second n ≡ Some (newest_version place value at r) → ((k : ℕ) → k ≢ n → version_in second k ≡ version_in first k)
    → version_in last r ≡ Some (record was { upto = at; home = Loose; newer = Some n; next = None }) → ((k : ℕ) → k ≢ r → version_in last k ≡ version_in second k)
    → IsAdvanced first last r n place at value
advanced_by_writes first second last r n place at value was is front here fresh second_n second_others last_r last_others =
    let other : n ≢ r = λ same. (let e = sym (ap (version_in first) same) ∙ fresh in cc (e, is)) in
    record {
      fresh = fresh;
      front = last_others n other ∙ second_n;
      was = was;
      was_is = is;
      was_newest = front;
      was_place = here;
      now = last_r;
      others = λ k not_n not_r. last_others k not_r ∙ second_others k not_n;
    }

-- the version in front of a cell's chain, as it was read
pub front_is : (newest : List ℕ) (slots : List (Option Version)) (past : Past) (place : ℕ) (v : Version) → IsChained newest slots past → place < length newest
    → version_in slots (slice_index newest place) ≡ Some v → (is_newest v.home ≡ true) × (v.place ≡ place)
front_is newest slots past place v ok within is =
    let f = ok.front place within in
    let e = one_version slots (slice_index newest place) (slice_index newest place) f.version v f.is is refl in
    (ap (λ (u : Version). is_newest u.home) (sym e) ∙ f.home, ap (λ (u : Version). u.place) (sym e) ∙ f.place)

-- what the call of a new front leaves
module _ (newest : List ℕ) (first second last : List (Option Version)) (past : Past) (r n place at : ℕ) (value : Value) (was : Version)
    (ok : IsChained newest first past) (within : place < length newest) (read : r ≡ get_or newest place r) (later : past.changes ≤ at) (short : at < 4294967296)
    (is : version_in first r ≡ Some was) (fresh : version_in first n ≡ None)
    (second_n : version_in second n ≡ Some (newest_version place value at r)) (second_others : (k : ℕ) → k ≢ n → version_in second k ≡ version_in first k)
    (last_r : version_in last r ≡ Some (record was { upto = at; home = Loose; newer = Some n; next = None })) (last_others : (k : ℕ) → k ≢ r → version_in last k ≡ version_in second k) where
  in_front : slice_index newest place ≡ r
  in_front = sym (read ∙ get_or_default newest place r 0 within)

  pub put_front : IsAdvanced first last r n place at value
  put_front =
      let f = front_is newest first past place was ok within (ap (version_in first) in_front ∙ is) in
      advanced_by_writes first second last r n place at value was is f.0 f.1 fresh second_n second_others last_r last_others

  pub put_front_chained : IsChained (set newest place n) last (record { changes = at + 1; writes = at + 1 })
  put_front_chained = chained_advance newest first last past r n place at value ok within in_front later short put_front
