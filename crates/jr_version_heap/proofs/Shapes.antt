-- The chains stand where each version is linked as before, and none but pending ones went away.
use Rattle.std.proofs.Common.{◌≡◌, inl, inr, ℕ, List, Option, Some, true, false, refl, sym, ◌∙◌, ap, arith}
use Rattle.std.specs.Prelude.{slice_index}
use Rattle.jr_version_heap.specs.declared.version.Past.{Past}
use Rattle.jr_version_heap.specs.declared.version.Version.{Version}
use Rattle.jr_version_heap.specs.declared.version.Home.{Home}
use Rattle.jr_version_heap.specs.declared.version.Home.TheVariants.{Newest, Loose, Dead, Pending}
use Rattle.jr_version_heap.specs.Versions.{version_in, is_newest, is_pending, IsChained}
use Rattle.jr_version_heap.proofs.Chains.{one_version}

-- the version under a key is linked as this one
pub record Same (slots : List (Option Version)) (k : ℕ) (v : Version) : Type 0 where
  pub version : Version
  pub is : version_in slots k ≡ Some version
  pub place : version.place ≡ v.place
  pub since : version.since ≡ v.since
  pub upto : version.upto ≡ v.upto
  pub older : version.older ≡ v.older
  pub newer : version.newer ≡ v.newer
  pub front : is_newest version.home ≡ is_newest v.home
  pub stands : is_pending version.home ≡ is_pending v.home

pub newest_stands : (h : Home) → is_newest h ≡ true → is_pending h ≡ false
newest_stands Newest front = refl
newest_stands Loose front = cc
newest_stands (Dead p) front = cc
newest_stands Pending front = cc

module _ (newest : List ℕ) (old new : List (Option Version)) (past : Past) (ok : IsChained newest old past)
    (back : (k : ℕ) (v : Version) → version_in new k ≡ Some v → Same old k v)
    (forth : (k : ℕ) (v : Version) → version_in old k ≡ Some v → is_pending v.home ≡ false → Same new k v) where
  pub chained_by : IsChained newest new past
  chained_by = record {
    short = ok.short;
    writes = ok.writes;
    front = λ p inside.
        let f = ok.front p inside in
        let s = forth (slice_index newest p) f.version f.is (newest_stands f.version.home f.home) in
        record { version = s.version; is = s.is; home = s.front ∙ f.home; place = s.place ∙ f.place };
    placed = λ k v is. (let s = back k v is in let p = ok.placed k s.version s.is in let e = s.place in omega arith);
    alone = λ k v is home. (let s = back k v is in ap (slice_index newest) (sym s.place) ∙ ok.alone k s.version s.is (s.front ∙ home));
    forever = λ k v is home. (let s = back k v is in sym s.upto ∙ ok.forever k s.version s.is (s.front ∙ home));
    made = λ k v is. (let s = back k v is in let m = ok.made k s.version s.is in let e = s.since in omega arith);
    span = λ k v is behind. (let s = back k v is in let m = ok.span k s.version s.is (s.front ∙ behind) in let e = s.since in let f = s.upto in (omega (arith, m.0), omega (arith, m.1)));
    apart = λ k j v w isv isw other here.
        let s = back k v isv in
        let t = back j w isw in
        elim (ok.apart k j s.version t.version s.is t.is other (s.place ∙ (here ∙ sym t.place))) [
          | inl before ↦ inl (let e = s.upto in let f = t.since in omega arith)
          | inr after ↦ inr (let e = t.upto in let f = s.since in omega arith)
        ];
    older = λ k j v is stands link.
        let s = back k v is in
        let o = ok.older k j s.version s.is (s.stands ∙ stands) (s.older ∙ link) in
        let t = forth j o.version o.is o.stands in
        record {
          version = t.version;
          is = t.is;
          stands = t.stands ∙ o.stands;
          place = t.place ∙ (o.place ∙ s.place);
          before = (let b = o.before in let e = t.upto in let f = s.since in omega arith);
          back = t.newer ∙ o.back;
        };
    newer = λ k v is stands behind.
        let s = back k v is in
        let o = ok.newer k s.version s.is (s.stands ∙ stands) (s.front ∙ behind) in
        let t = forth o.key o.version o.is o.stands in
        record {
          key = o.key;
          link = sym s.newer ∙ o.link;
          version = t.version;
          is = t.is;
          stands = t.stands ∙ o.stands;
          place = t.place ∙ (o.place ∙ s.place);
          back = t.older ∙ o.back;
        };
    closest = λ k j v w isv isw sv sw here before.
        let s = back k v isv in
        let t = back j w isw in
        let c = ok.closest k j s.version t.version s.is t.is (s.stands ∙ sv) (t.stands ∙ sw) (s.place ∙ (here ∙ sym t.place)) (let e = t.upto in let f = s.since in omega arith) in
        let o = ok.older k c.key s.version s.is (s.stands ∙ sv) c.link_is in
        let h = one_version old c.key c.key c.version o.version c.is o.is refl in
        let z = forth c.key c.version c.is (ap (λ (u : Version). is_pending u.home) h ∙ o.stands) in
        record {
          key = c.key;
          link_is = sym s.older ∙ c.link_is;
          version = z.version;
          is = z.is;
          least = (let l = c.least in let e = z.since in let f = t.since in omega arith);
        };
  }
