-- Laws of the chains of versions.
use Rattle.std.proofs.Common.{◌≡◌, ◌≢◌, ◌<◌, ◌≤◌, ◌⊎◌, inl, inr, ℕ, List, length, Option, Some, None, true, false, refl, sym, ◌∙◌, ap, arith}
use Rattle.std.specs.Prelude.{slice_index}
use Rattle.std.proofs.lemmas.Bool.{cases_eq, cases_Bool}
use Rattle.jr_base.specs.declared.value.Value.{Value}
use Rattle.jr_version_heap.specs.declared.version.Past.{Past}
use Rattle.jr_version_heap.specs.declared.version.Version.{Version}
use Rattle.jr_version_heap.specs.declared.version.Home.{Home}
use Rattle.jr_version_heap.specs.declared.version.Home.TheVariants.{Newest, Loose, Dead, Pending}
use Rattle.jr_version_heap.specs.Versions.{version_in, is_newest, is_pending, Serves, IsChained, IsReached, IsBehind, since_of}

-- two versions under one key are one
pub one_version : (slots : List (Option Version)) (k j : ℕ) (v w : Version) → version_in slots k ≡ Some v → version_in slots j ≡ Some w → k ≡ j → v ≡ w
one_version slots k j v w a b same =
    let c : version_in slots k ≡ Some w = ap (version_in slots) same ∙ b in cc

module _ (newest : List ℕ) (slots : List (Option Version)) (past : Past) (ok : IsChained newest slots past) where
  -- a version serves some stamp
  pub not_empty : (k : ℕ) (v : Version) → version_in slots k ≡ Some v → v.since ≤ v.upto
  not_empty k v is =
      elim (cases_Bool (is_newest v.home)) [
        | inl front ↦ let a = ok.forever k v is front in let b = ok.made k v is in let c = ok.short in omega arith
        | inr behind ↦ (ok.span k v is behind).0
      ]

  -- a version that begins no later than another of its cell is it, or stands before it
  pub earlier : (k j : ℕ) (v w : Version) → version_in slots k ≡ Some v → version_in slots j ≡ Some w → v.place ≡ w.place → v.since ≤ w.since
      → (k ≡ j) ⊎ (v.upto < w.since)
  earlier k j v w isv isw place le =
      elim (cases_eq k j) [
        | inl same ↦ inl same
        | inr other ↦ elim (ok.apart k j v w isv isw other place) [
          | inl before ↦ inr before
          | inr behind ↦ absurd (let e = not_empty j w isw in omega arith)
        ]
      ]

  -- each version of a cell begins no later than the newest
  pub behind_front : (k j : ℕ) (v w : Version) → version_in slots k ≡ Some v → version_in slots j ≡ Some w → v.place ≡ w.place → is_newest w.home ≡ true
      → v.since ≤ w.since
  behind_front k j v w isv isw place front =
      elim (cases_eq k j) [
        | inl same ↦ let e = ap (λ (u : Version). u.since) (one_version slots k j v w isv isw same) in omega arith
        | inr other ↦ elim (ok.apart k j v w isv isw other place) [
          | inl before ↦ let e = not_empty k v isv in omega arith
          | inr behind ↦ absurd (let a = ok.forever j w isw front in let b = ok.made k v isv in let c = ok.short in omega arith)
        ]
      ]

  pub reached_front : (at stamp : ℕ) → at < length newest → IsReached slots at stamp (slice_index newest at)
  reached_front at stamp within =
      let f = ok.front at within in
      record {
        version = f.version;
        is = f.is;
        stands = front_stands f.version.home f.home;
        place = f.place;
        behind = λ j v is place stands serves. behind_front j (slice_index newest at) v f.version is f.is (place ∙ sym f.place) f.home;
      }
    where
      front_stands : (h : Home) → is_newest h ≡ true → is_pending h ≡ false
      front_stands Newest front = refl
      front_stands Loose front = cc
      front_stands (Dead p) front = cc
      front_stands Pending front = cc

  pub reached_shows : (at stamp k : ℕ) (u : Version) → IsReached slots at stamp k → version_in slots k ≡ Some u → u.since ≤ stamp
      → (j : ℕ) (v : Version) → version_in slots j ≡ Some v → v.place ≡ at → is_pending v.home ≡ false → Serves v stamp
      → let r : Option Value = Some u.value in r ≡ Some v.value
  reached_shows at stamp k u r is le j v isv place stands serves =
      let same : r.version ≡ u = cc (r.is, is) in
      let e = ap (λ (x : Version). x.since) same in
      let p : v.place ≡ u.place = place ∙ (sym r.place ∙ ap (λ (x : Version). x.place) same) in
      let b = r.behind j v isv place stands serves in
      elim (earlier j k v u isv is p (omega arith)) [
        | inl here ↦ let o = one_version slots j k v u isv is here in ap (λ (x : Version). Some x.value) (sym o)
        | inr before ↦ absurd (omega (arith, serves.upto))
      ]

  pub reached_older : (at stamp k o : ℕ) (u : Version) → IsReached slots at stamp k → version_in slots k ≡ Some u → stamp < u.since → u.older ≡ Some o
      → IsReached slots at stamp o × (since_of (version_in slots o) < since_of (version_in slots k))
  reached_older at stamp k o u r is lt link =
      let same : r.version ≡ u = cc (r.is, is) in
      let stands : is_pending u.home ≡ false = ap (λ (x : Version). is_pending x.home) (sym same) ∙ r.stands in
      let place : u.place ≡ at = ap (λ (x : Version). x.place) (sym same) ∙ r.place in
      let old = ok.older k o u is stands link in
      let e = not_empty o old.version old.is in (
        record {
          version = old.version;
          is = old.is;
          stands = old.stands;
          place = old.place ∙ place;
          behind = λ j v isv p s serves.
              let b = r.behind j v isv p s serves in
              let b' = ap (λ (x : Version). x.since) same in
              elim (earlier j k v u isv is (p ∙ sym place) (omega arith)) [
                | inl here ↦ absurd (let h = ap (λ (x : Version). x.since) (one_version slots j k v u isv is here) in omega (arith, serves.since))
                | inr before ↦
                    let c = ok.closest k j u v is isv stands s (place ∙ sym p) before in
                    let key : c.key ≡ o = cc (link, c.link_is) in
                    let h = ap (λ (x : Version). x.since) (one_version slots c.key o c.version old.version c.is old.is key) in
                    omega (arith, c.least)
              ];
        },
        (let a = ap since_of old.is in let b = ap since_of is in omega (arith, old.before)),
      )

  pub reached_last : (at stamp k : ℕ) (u : Version) → IsReached slots at stamp k → version_in slots k ≡ Some u → stamp < u.since → u.older ≡ None
      → (j : ℕ) (v : Version) → version_in slots j ≡ Some v → v.place ≡ at → is_pending v.home ≡ false → Serves v stamp → ⊥
  reached_last at stamp k u r is lt link j v isv p s serves =
      let same : r.version ≡ u = cc (r.is, is) in
      let stands : is_pending u.home ≡ false = ap (λ (x : Version). is_pending x.home) (sym same) ∙ r.stands in
      let place : u.place ≡ at = ap (λ (x : Version). x.place) (sym same) ∙ r.place in
      let b = r.behind j v isv p s serves in
      let b' = ap (λ (x : Version). x.since) same in
      elim (earlier j k v u isv is (p ∙ sym place) (omega arith)) [
        | inl here ↦ (let h = ap (λ (x : Version). x.since) (one_version slots j k v u isv is here) in omega (arith, serves.since))
        | inr before ↦ (let c = ok.closest k j u v is isv stands s (place ∙ sym p) before in cc (link, c.link_is))
      ]

  -- the neighbours of a version that stands behind the front
  module _ (key : ℕ) (x : Version) (found : version_in slots key ≡ Some x) (stands : is_pending x.home ≡ false) (behind : is_newest x.home ≡ false) where
    pub newer_key : ℕ
    newer_key = (ok.newer key x found stands behind).key

    pub record HasNewer (b : ℕ) : Type 0 where
      pub version : Version
      pub is : version_in slots b ≡ Some version
      pub other : b ≢ key
      pub since : x.upto < version.since

    pub has_newer : (b : ℕ) → x.newer ≡ Some b → HasNewer b
    has_newer b link =
        let q = ok.newer key x found stands behind in
        let e : q.key ≡ b = cc (q.link, link) in
        let o = ok.older q.key key q.version q.is q.stands q.back in
        let u = ap (λ (z : Version). z.upto) (one_version slots key key o.version x o.is found refl) in
        let n = not_empty key x found in
        record {
          version = q.version;
          is = ap (version_in slots) (sym e) ∙ q.is;
          other = λ same. (let s = ap (λ (z : Version). z.since) (one_version slots q.key key q.version x q.is found (e ∙ same)) in let b' = o.before in omega arith);
          since = (let b' = o.before in omega arith);
        }

    pub no_newer : x.newer ≡ None → ⊥
    no_newer link = let q = ok.newer key x found stands behind in cc (q.link, link)

    pub record HasOlder (b j : ℕ) : Type 0 where
      pub version : Version
      pub is : version_in slots j ≡ Some version
      pub other : j ≢ key
      pub apart : j ≢ b

    pub has_older : (b j : ℕ) → x.newer ≡ Some b → x.older ≡ Some j → HasOlder b j
    has_older b j link to =
        let o = ok.older key j x found stands to in
        let h = has_newer b link in
        let n = not_empty key x found in
        let m = not_empty b h.version h.is in
        record {
          version = o.version;
          is = o.is;
          other = λ same. (let s = ap (λ (z : Version). z.upto) (one_version slots j key o.version x o.is found same) in let b' = o.before in omega arith);
          apart = λ same. (let s = ap (λ (z : Version). z.upto) (one_version slots j b o.version h.version o.is h.is same) in let b' = o.before in let c = h.since in omega arith);
        }

-- a version that stands behind the front, as it was read
pub behind_is : (slots : List (Option Version)) (key : ℕ) (b : IsBehind slots key) (x : Version) → version_in slots key ≡ Some x
    → (is_pending x.home ≡ false) × (is_newest x.home ≡ false)
behind_is slots key b x found =
    let e = one_version slots key key x b.version found b.is refl in
    (ap (λ (v : Version). is_pending v.home) e ∙ b.stands, ap (λ (v : Version). is_newest v.home) e ∙ b.behind)

-- chains stand for later makes too
pub chained_later : (newest : List ℕ) (slots : List (Option Version)) (past : Past) (changes : ℕ) → past.changes ≤ changes → changes ≤ 4294967296
    → IsChained newest slots past → IsChained newest slots (record past { changes = changes })
chained_later newest slots past changes later short ok = record {
  short = short;
  writes = omega (arith, ok.writes);
  front = ok.front;
  placed = ok.placed;
  alone = ok.alone;
  forever = ok.forever;
  made = λ k v is. (let m = ok.made k v is in omega arith);
  span = ok.span;
  apart = ok.apart;
  older = ok.older;
  newer = ok.newer;
  closest = ok.closest;
}
