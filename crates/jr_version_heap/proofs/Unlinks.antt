-- A version that leaves its chain leaves the chains linked.
use Rattle.std.proofs.Common.{◌≡◌, ◌≢◌, ◌<◌, ◌⊎◌, inl, inr, ℕ, List, length, Option, Some, None, true, false, refl, sym, ◌∙◌, ap, arith}
use Rattle.std.specs.Prelude.{slice_index}
use Rattle.std.proofs.lemmas.Bool.{cases_eq}
use Rattle.jr_version_heap.specs.declared.version.Past.{Past}
use Rattle.jr_version_heap.specs.declared.version.Version.{Version}
use Rattle.jr_version_heap.specs.declared.version.Home.{Home}
use Rattle.jr_version_heap.specs.declared.version.Home.TheVariants.{Newest, Loose, Dead, Pending}
use Rattle.jr_version_heap.specs.Versions.{version_in, is_newest, is_pending, IsFront, IsOlder, IsNewer, IsClosest, IsChained, IsUnlinked, IsRelinked}
use Rattle.jr_version_heap.proofs.Chains.{one_version, not_empty, earlier}

-- whether a link leads to a key
pub data Leads (link : Option ℕ) (k : ℕ) : Type 0 where
  To : link ≡ Some k → Leads link k
  Elsewhere : (link ≡ Some k → ⊥) → Leads link k

some_apart : (a b : ℕ) → (a ≡ b → ⊥) → (let s : Option ℕ = Some a in s ≡ Some b) → ⊥
some_apart a b other same = other (cc)

pub leads : (link : Option ℕ) (k : ℕ) → Leads link k
leads None k = Elsewhere (λ e. cc)
leads (Some m) k =
    elim (cases_eq m k) [
      | inl same ↦ To (ap (λ (z : ℕ). Some z) same)
      | inr other ↦ Elsewhere (some_apart m k other)
    ]

-- what a version of the new heap was, but for its links
pub record Was (old : List (Option Version)) (k : ℕ) (v : Version) : Type 0 where
  pub version : Version
  pub is : version_in old k ≡ Some version
  pub place : version.place ≡ v.place
  pub since : version.since ≡ v.since
  pub upto : version.upto ≡ v.upto
  pub front : is_newest version.home ≡ is_newest v.home

module _ (newest : List ℕ) (old new : List (Option Version)) (past : Past) (key : ℕ) (ok : IsChained newest old past) (a : IsUnlinked old new key)
    (stood : is_pending a.version.home ≡ false) (behind : is_newest a.version.home ≡ false) where
  abbrev x : Version
  x = a.version

  -- the version behind it
  next_back : a.newer.older ≡ Some key
  next_back =
      let q = ok.newer key x a.is stood behind in
      let e : q.key ≡ a.behind = cc (q.link, a.link) in
      ap (λ (u : Version). u.older) (sym (one_version old q.key a.behind q.version a.newer q.is a.newer_is e)) ∙ q.back

  next_stands : is_pending a.newer.home ≡ false
  next_stands =
      let q = ok.newer key x a.is stood behind in
      let e : q.key ≡ a.behind = cc (q.link, a.link) in
      ap (λ (u : Version). is_pending u.home) (sym (one_version old q.key a.behind q.version a.newer q.is a.newer_is e)) ∙ q.stands

  next_before : (x.upto < a.newer.since) × (x.place ≡ a.newer.place)
  next_before =
      let o = ok.older a.behind key a.newer a.newer_is next_stands next_back in
      let e = one_version old key key o.version x o.is a.is refl in
      let u = ap (λ (z : Version). z.upto) e in
      (let b = o.before in omega arith, ap (λ (z : Version). z.place) (sym e) ∙ o.place)

  next_other : a.behind ≢ key
  next_other same =
      let e = ap (λ (z : Version). z.since) (one_version old a.behind key a.newer x a.newer_is a.is same) in
      let n = not_empty newest old past ok key x a.is in let b = next_before.0 in omega arith

  -- the version before it
  module _ (j : ℕ) (to : x.older ≡ Some j) where
    abbrev o : IsOlder old key x j
    o = ok.older key j x a.is stood to

    last_other : j ≢ key
    last_other same =
        let e = ap (λ (z : Version). z.upto) (one_version old j key o.version x o.is a.is same) in
        let n = not_empty newest old past ok key x a.is in let b = o.before in omega arith

    last_not_next : j ≢ a.behind
    last_not_next same =
        let e = ap (λ (z : Version). z.upto) (one_version old j a.behind o.version a.newer o.is a.newer_is same) in
        let n = not_empty newest old past ok key x a.is in let m = not_empty newest old past ok a.behind a.newer a.newer_is in
        let b = o.before in let c = next_before.0 in omega arith

  was : (k : ℕ) (v : Version) → version_in new k ≡ Some v → Was old k v
  was k v is =
      elim (cases_eq k key) [
        | inl here ↦
            let e = one_version new k key v _ is a.now here in
            record {
              version = x;
              is = ap (version_in old) here ∙ a.is;
              place = ap (λ (z : Version). z.place) (sym e);
              since = ap (λ (z : Version). z.since) (sym e);
              upto = ap (λ (z : Version). z.upto) (sym e);
              front = behind ∙ ap (λ (z : Version). is_newest z.home) (sym e);
            }
        | inr not_here ↦ elim (cases_eq k a.behind) [
          | inl next_key ↦
              let e = one_version new k a.behind v _ is a.newer_now next_key in
              record {
                version = a.newer;
                is = ap (version_in old) next_key ∙ a.newer_is;
                place = ap (λ (z : Version). z.place) (sym e);
                since = ap (λ (z : Version). z.since) (sym e);
                upto = ap (λ (z : Version). z.upto) (sym e);
                front = ap (λ (z : Version). is_newest z.home) (sym e);
              }
          | inr not_next ↦ elim (leads x.older k) [
            | To to ↦
                let l = a.older k to in
                let e = one_version new k k v _ is l.now refl in
                record {
                  version = l.version;
                  is = l.is;
                  place = ap (λ (z : Version). z.place) (sym e);
                  since = ap (λ (z : Version). z.since) (sym e);
                  upto = ap (λ (z : Version). z.upto) (sym e);
                  front = ap (λ (z : Version). is_newest z.home) (sym e);
                }
            | Elsewhere other ↦ record {
              version = v;
              is = sym (a.others k not_here not_next other) ∙ is;
              place = refl;
              since = refl;
              upto = refl;
              front = refl;
            }
          ]
        ]
      ]

  -- what became of a version that stands, whether its neighbours changed or not
  pub record Stood (k : ℕ) (v : Version) : Type 0 where
    pub other : k ≢ key
    pub version : Version
    pub is : version_in old k ≡ Some version
    pub stands : is_pending version.home ≡ false
    pub place : version.place ≡ v.place
    pub since : version.since ≡ v.since
    pub upto : version.upto ≡ v.upto
    pub front : is_newest version.home ≡ is_newest v.home
    pub older : ((k ≡ a.behind) × (v.older ≡ x.older)) ⊎ ((k ≢ a.behind) × (v.older ≡ version.older))
    pub newer : ((x.older ≡ Some k) × (v.newer ≡ x.newer)) ⊎ ((x.older ≡ Some k → ⊥) × (v.newer ≡ version.newer))

  stood_there : (k : ℕ) (v : Version) → version_in new k ≡ Some v → is_pending v.home ≡ false → Stood k v
  stood_there k v is stands =
      elim (cases_eq k key) [
        | inl here ↦ absurd (let e = ap (λ (z : Version). is_pending z.home) (one_version new k key v _ is a.now here) in cc)
        | inr not_here ↦ elim (cases_eq k a.behind) [
          | inl next_key ↦
              let e = one_version new k a.behind v _ is a.newer_now next_key in
              record {
                other = not_here;
                version = a.newer;
                is = ap (version_in old) next_key ∙ a.newer_is;
                stands = next_stands;
                place = ap (λ (z : Version). z.place) (sym e);
                since = ap (λ (z : Version). z.since) (sym e);
                upto = ap (λ (z : Version). z.upto) (sym e);
                front = ap (λ (z : Version). is_newest z.home) (sym e);
                older = inl (next_key, ap (λ (z : Version). z.older) e);
                newer = inr ((λ to. last_not_next k to next_key), ap (λ (z : Version). z.newer) e);
              }
          | inr not_next ↦ elim (leads x.older k) [
            | To to ↦
                let l = a.older k to in
                let e = one_version new k k v _ is l.now refl in
                record {
                  other = not_here;
                  version = l.version;
                  is = l.is;
                  stands = ap (λ (z : Version). is_pending z.home) (sym e) ∙ stands;
                  place = ap (λ (z : Version). z.place) (sym e);
                  since = ap (λ (z : Version). z.since) (sym e);
                  upto = ap (λ (z : Version). z.upto) (sym e);
                  front = ap (λ (z : Version). is_newest z.home) (sym e);
                  older = inr (not_next, ap (λ (z : Version). z.older) e);
                  newer = inl (to, ap (λ (z : Version). z.newer) e);
                }
            | Elsewhere other ↦ record {
              other = not_here;
              version = v;
              is = sym (a.others k not_here not_next other) ∙ is;
              stands = stands;
              place = refl;
              since = refl;
              upto = refl;
              front = refl;
              older = inr (not_next, refl);
              newer = inr (other, refl);
            }
          ]
        ]
      ]

  -- a version that stood and still does
  pub record Stays (k : ℕ) (v : Version) : Type 0 where
    pub version : Version
    pub is : version_in new k ≡ Some version
    pub stands : is_pending version.home ≡ false
    pub place : version.place ≡ v.place
    pub since : version.since ≡ v.since
    pub upto : version.upto ≡ v.upto
    pub front : is_newest version.home ≡ is_newest v.home
    pub older : (k ≢ a.behind) → version.older ≡ v.older
    pub newer : (x.older ≡ Some k → ⊥) → version.newer ≡ v.newer
    pub older_next : k ≡ a.behind → version.older ≡ x.older
    pub newer_last : x.older ≡ Some k → version.newer ≡ x.newer

  stays : (k : ℕ) (v : Version) → version_in old k ≡ Some v → is_pending v.home ≡ false → k ≢ key → Stays k v
  stays k v is stands not_here =
      elim (cases_eq k a.behind) [
        | inl next_key ↦
            let e = one_version old k a.behind v a.newer is a.newer_is next_key in
            record {
              version = record a.newer { older = x.older };
              is = ap (version_in new) next_key ∙ a.newer_now;
              stands = next_stands;
              place = ap (λ (z : Version). z.place) (sym e);
              since = ap (λ (z : Version). z.since) (sym e);
              upto = ap (λ (z : Version). z.upto) (sym e);
              front = ap (λ (z : Version). is_newest z.home) (sym e);
              older = λ other. absurd (other next_key);
              newer = λ other. ap (λ (z : Version). z.newer) (sym e);
              older_next = λ h. refl;
              newer_last = λ to. absurd (last_not_next k to next_key);
            }
        | inr not_next ↦ elim (leads x.older k) [
          | To to ↦
              let l = a.older k to in
              let e = one_version old k k v l.version is l.is refl in
              record {
                version = record l.version { newer = x.newer };
                is = l.now;
                stands = ap (λ (z : Version). is_pending z.home) (sym e) ∙ stands;
                place = ap (λ (z : Version). z.place) (sym e);
                since = ap (λ (z : Version). z.since) (sym e);
                upto = ap (λ (z : Version). z.upto) (sym e);
                front = ap (λ (z : Version). is_newest z.home) (sym e);
                older = λ other. ap (λ (z : Version). z.older) (sym e);
                newer = λ other. absurd (other to);
                older_next = λ h. absurd (not_next h);
                newer_last = λ h. refl;
              }
          | Elsewhere other ↦ record {
            version = v;
            is = a.others k not_here not_next other ∙ is;
            stands = stands;
            place = refl;
            since = refl;
            upto = refl;
            front = refl;
            older = λ h. refl;
            newer = λ h. refl;
            older_next = λ h. absurd (not_next h);
            newer_last = λ to. absurd (other to);
          }
        ]
      ]

  newest_stands : (h : Home) → is_newest h ≡ true → is_pending h ≡ false
  newest_stands Newest front = refl
  newest_stands Loose front = cc
  newest_stands (Dead p) front = cc
  newest_stands Pending front = cc

  front : (p : ℕ) → p < length newest → IsFront new (slice_index newest p) p
  front p inside =
      let f = ok.front p inside in
      let not_here : slice_index newest p ≢ key = λ same. (let e = ap (λ (z : Version). is_newest z.home) (one_version old (slice_index newest p) key f.version x f.is a.is same) in let h = f.home in cc) in
      let s = stays (slice_index newest p) f.version f.is (newest_stands f.version.home f.home) not_here in
      record { version = s.version; is = s.is; home = s.front ∙ f.home; place = s.place ∙ f.place }

  older : (k j : ℕ) (v : Version) → version_in new k ≡ Some v → is_pending v.home ≡ false → v.older ≡ Some j → IsOlder new k v j
  older k j v is stands link =
      let s = stood_there k v is stands in
      elim s.older [
        | inl (next_key, same) ↦
            let to : x.older ≡ Some j = sym same ∙ link in
            let l = a.older j to in
            let q = ok.older key j x a.is stood to in
            let e = one_version old j j l.version q.version l.is q.is refl in
            let n = one_version old k a.behind s.version a.newer s.is a.newer_is next_key in
            record {
              version = record l.version { newer = x.newer };
              is = l.now;
              stands = ap (λ (z : Version). is_pending z.home) e ∙ q.stands;
              place = ap (λ (z : Version). z.place) e ∙ (q.place ∙ (next_before.1 ∙ (ap (λ (z : Version). z.place) (sym n) ∙ s.place)));
              before = (let b = q.before in let c = next_before.0 in let d = not_empty newest old past ok key x a.is in
                  let u = ap (λ (z : Version). z.upto) e in let m = ap (λ (z : Version). z.since) n in let t = s.since in omega arith);
              back = a.link ∙ ap (λ (z : ℕ). Some z) (sym next_key);
            }
        | inr (not_next, same) ↦
            let q = ok.older k j s.version s.is s.stands (sym same ∙ link) in
            let not_key : j ≢ key = λ e. not_next (let g = ap (λ (z : Version). z.newer) (one_version old j key q.version x q.is a.is e) in let b = q.back in cc (g, b, a.link)) in
            let not_last : x.older ≡ Some j → ⊥ = λ to. s.other (let p = ok.older key j x a.is stood to in
            let g = ap (λ (z : Version). z.newer) (one_version old j j q.version p.version q.is p.is refl) in let b = q.back in let c = p.back in cc (g, b, c)) in
            let t = stays j q.version q.is q.stands not_key in
            record {
              version = t.version;
              is = t.is;
              stands = t.stands;
              place = t.place ∙ (q.place ∙ s.place);
              before = (let b = q.before in let u = t.upto in let m = s.since in omega arith);
              back = t.newer not_last ∙ q.back;
            }
      ]

  newer : (k : ℕ) (v : Version) → version_in new k ≡ Some v → is_pending v.home ≡ false → is_newest v.home ≡ false → IsNewer new k v
  newer k v is stands not_front =
      let s = stood_there k v is stands in
      elim s.newer [
        | inl (to, same) ↦
            let q = ok.older key k x a.is stood to in
            let e = one_version old k k s.version q.version s.is q.is refl in
            record {
              key = a.behind;
              link = same ∙ a.link;
              version = record a.newer { older = x.older };
              is = a.newer_now;
              stands = next_stands;
              place = sym next_before.1 ∙ (sym q.place ∙ (ap (λ (z : Version). z.place) (sym e) ∙ s.place));
              back = to;
            }
        | inr (not_last, same) ↦
            let q = ok.newer k s.version s.is s.stands (s.front ∙ not_front) in
            let not_key : q.key ≢ key = λ e. not_last (ap (λ (z : Version). z.older) (sym (one_version old q.key key q.version x q.is a.is e)) ∙ q.back) in
            let not_next : q.key ≢ a.behind = λ e. s.other (let g = ap (λ (z : Version). z.older) (one_version old q.key a.behind q.version a.newer q.is a.newer_is e) in let b = q.back in let c = next_back in cc (g, b, c)) in
            let t = stays q.key q.version q.is q.stands not_key in
            record {
              key = q.key;
              link = same ∙ q.link;
              version = t.version;
              is = t.is;
              stands = t.stands;
              place = t.place ∙ (q.place ∙ s.place);
              back = t.older not_next ∙ q.back;
            }
      ]

  closest : (k j : ℕ) (v u : Version) → version_in new k ≡ Some v → version_in new j ≡ Some u → is_pending v.home ≡ false → is_pending u.home ≡ false
      → v.place ≡ u.place → u.upto < v.since → IsClosest new v.older u
  closest k j v u isv isu sv su here before =
      let s = stood_there k v isv sv in
      let t = stood_there j u isu su in
      let c = ok.closest k j s.version t.version s.is t.is s.stands t.stands (s.place ∙ (here ∙ sym t.place)) (let a' = s.since in let b' = t.upto in omega arith) in
      elim s.older [
        | inl (next_key, same) ↦
            let n = one_version old k a.behind s.version a.newer s.is a.newer_is next_key in
            let f = ap (λ (z : Version). z.older) n in
            let e : c.key ≡ key = (let l = c.link_is in let b = next_back in cc (f, l, b)) in
            let g = ap (λ (z : Version). z.since) (one_version old c.key key c.version x c.is a.is e) in
            let place : t.version.place ≡ x.place = t.place ∙ (sym here ∙ (sym s.place ∙ (ap (λ (z : Version). z.place) n ∙ sym next_before.1))) in
            elim (earlier newest old past ok j key t.version x t.is a.is place (let l = c.least in omega arith)) [
              | inl it ↦ absurd (t.other it)
              | inr sooner ↦
                  let d = ok.closest key j x t.version a.is t.is stood t.stands (sym place) sooner in
                  let o = ok.older key d.key x a.is stood d.link_is in
                  let h = one_version old d.key d.key d.version o.version d.is o.is refl in
                  let z = stays d.key d.version d.is (ap (λ (z : Version). is_pending z.home) h ∙ o.stands) (last_other d.key d.link_is) in
                  record {
                    key = d.key;
                    link_is = same ∙ d.link_is;
                    version = z.version;
                    is = z.is;
                    least = (let l = d.least in let m = z.since in let p = t.since in omega arith);
                  }
            ]
        | inr (not_next, same) ↦
            let q = ok.older k c.key s.version s.is s.stands c.link_is in
            let h = one_version old c.key c.key c.version q.version c.is q.is refl in
            let not_key : c.key ≢ key = λ e. not_next (let g = ap (λ (z : Version). z.newer) (one_version old c.key key q.version x q.is a.is e) in let b = q.back in cc (g, b, a.link)) in
            let z = stays c.key c.version c.is (ap (λ (z : Version). is_pending z.home) h ∙ q.stands) not_key in
            record {
              key = c.key;
              link_is = same ∙ c.link_is;
              version = z.version;
              is = z.is;
              least = (let l = c.least in let m = z.since in let p = t.since in omega arith);
            }
      ]

  pub chained_unlink : IsChained newest new past
  chained_unlink = record {
    short = ok.short;
    writes = ok.writes;
    front = front;
    placed = λ k v is. (let w = was k v is in let p = ok.placed k w.version w.is in let e = w.place in omega arith);
    alone = λ k v is f. (let w = was k v is in ap (slice_index newest) (sym w.place) ∙ ok.alone k w.version w.is (w.front ∙ f));
    forever = λ k v is f. (let w = was k v is in sym w.upto ∙ ok.forever k w.version w.is (w.front ∙ f));
    made = λ k v is. (let w = was k v is in let m = ok.made k w.version w.is in let e = w.since in omega arith);
    span = λ k v is b. (let w = was k v is in let m = ok.span k w.version w.is (w.front ∙ b) in let e = w.since in let f = w.upto in (omega (arith, m.0), omega (arith, m.1)));
    apart = λ k j v u isv isu other here.
        let w = was k v isv in
        let z = was j u isu in
        elim (ok.apart k j w.version z.version w.is z.is other (w.place ∙ (here ∙ sym z.place))) [
          | inl before ↦ inl (let e = w.upto in let f = z.since in omega arith)
          | inr after ↦ inr (let e = z.upto in let f = w.since in omega arith)
        ];
    older = older;
    newer = newer;
    closest = closest;
  }

-- the three writes that unlink a version
pub unlinked_by_writes : (first second third last : List (Option Version)) (key b : ℕ) (x u : Version)
    → version_in first key ≡ Some x → x.newer ≡ Some b → b ≢ key → ((j : ℕ) → x.older ≡ Some j → (j ≢ key) × (j ≢ b))
    → version_in second key ≡ Some (record x { home = Pending }) → ((k : ℕ) → k ≢ key → version_in second k ≡ version_in first k)
    → version_in second b ≡ Some u
    → version_in third b ≡ Some (record u { older = x.older }) → ((k : ℕ) → k ≢ b → version_in third k ≡ version_in second k)
    → ((j : ℕ) → x.older ≡ Some j → IsRelinked third last x.newer j)
    → ((k : ℕ) → (x.older ≡ Some k → ⊥) → version_in last k ≡ version_in third k)
    → IsUnlinked first last key
unlinked_by_writes first second third last key b x u is link b_other j_other second_key second_others second_b third_b third_others last_older last_others =
    record {
      version = x;
      is = is;
      now = last_others key (λ to. (j_other key to).0 refl) ∙ (third_others key (λ e. b_other (sym e)) ∙ second_key);
      behind = b;
      link = link;
      newer = u;
      newer_is = sym (second_others b b_other) ∙ second_b;
      newer_now = last_others b (λ to. (j_other b to).1 refl) ∙ third_b;
      older = λ j to.
          let l = last_older j to in
          let o = j_other j to in
          record { version = l.version; is = sym (second_others j o.0) ∙ (sym (third_others j o.1) ∙ l.is); now = l.now };
      others = λ k not_key not_b not_j. last_others k not_j ∙ (third_others k not_b ∙ second_others k not_key);
    }
