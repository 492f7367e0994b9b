-- What the calls that place a version leave.
use Rattle.std.proofs.Common.{◌≡◌, ◌≢◌, ◌<◌, ◌≤◌, inl, inr, ℕ, List, ◌∷◌, [], ◌++◌, length, Option, Some, None, false, refl, sym, ◌∙◌, ap, subst, arith}
use Rattle.std.proofs.lemmas.Bool.{cases_eq}
use Rattle.jr_base.specs.declared.number.Stamp.{Stamp}
use Rattle.jr_stamps.specs.declared.pins.Pin.{Pin}
use Rattle.jr_stamps.specs.declared.pins.PinId.{PinId}
use Rattle.jr_stamps.specs.Pins.{pin_in, IsGreatest, IsLatest}
use Rattle.jr_version_heap.specs.declared.version.Past.{Past}
use Rattle.jr_version_heap.specs.declared.version.Version.{Version}
use Rattle.jr_version_heap.specs.declared.version.Home.{Home}
use Rattle.jr_version_heap.specs.declared.version.Home.TheVariants.{Dead, Pending}
use Rattle.jr_version_heap.specs.Versions.{version_in, is_newest, is_pending, IsChained, IsUnlinked, IsBehind}
use Rattle.jr_version_heap.specs.Needs.{Body, body, body_of, body_in, Has, IsKept, IsPlaced, IsPlacedSo, IsToPlace, Placing, BeginsBy, IsUnneeded}
use Rattle.jr_version_heap.proofs.Chains.{one_version}
use Rattle.jr_version_heap.proofs.Lists.{body_is, has_version, listed_home, one_body, IsOnce-length}
use Rattle.jr_version_heap.proofs.Shapes.{chained_by}
use Rattle.jr_version_heap.proofs.Attaches.{kept_attach}
use Rattle.jr_version_heap.proofs.Retires.{kept_retire}
use Rattle.jr_version_heap.proofs.Unlinks.{leads, To, Elsewhere}

-- a loose version stands behind its cell's front
pub loose_behind : (slots : List (Option Version)) (pins : List (Option Pin)) (pending : List ℕ) (loose : Home) (first : Option ℕ) (rest : List ℕ) (bound limit key : ℕ) (v : Version)
    → IsKept (body_in slots) pins pending loose first (key ∷ rest) bound limit → version_in slots key ≡ Some v
    → (is_pending v.home ≡ false) × (is_newest v.home ≡ false)
loose_behind slots pins pending loose first rest bound limit key v ok is =
    let e : v.home ≡ loose = listed_home (body_in slots) loose first (key ∷ rest) ok.loose_list key (body v) (inl refl) (body_is (version_in slots key) v is) in
    (ap is_pending e ∙ ok.loose_chain, ap is_newest e ∙ ok.loose_front)

pub loose_there : (slots : List (Option Version)) (pins : List (Option Pin)) (pending : List ℕ) (loose : Home) (first : Option ℕ) (rest : List ℕ) (bound limit key : ℕ)
    → IsKept (body_in slots) pins pending loose first (key ∷ rest) bound limit → IsBehind slots key
loose_there slots pins pending loose first rest bound limit key ok =
    let l = ok.loose_list in
    let h = has_version (version_in slots key) l.1 l.2 in
    let b = loose_behind slots pins pending loose first rest bound limit key h.version ok h.is in
    record { version = h.version; is = h.is; stands = b.0; behind = b.1 }

-- a change of a version's home and link
rehomed : (newest : List ℕ) (past : Past) (old new : List (Option Version)) (key : ℕ) (v : Version) (home : Home) (link : Option ℕ) → IsChained newest old past
    → version_in old key ≡ Some v → version_in new key ≡ Some (record v { home = home; next = link })
    → ((k : ℕ) → k ≢ key → version_in new k ≡ version_in old k)
    → is_newest home ≡ is_newest v.home → is_pending home ≡ is_pending v.home → IsChained newest new past
rehomed newest past old new key v home link ok is now others front stands =
    let w : Version = record v { home = home; next = link } in
    chained_by newest old new past ok
    (λ k u found. elim (cases_eq k key) [
      | inl here ↦
          let e = one_version new k key u w found now here in
          record {
            version = v;
            is = ap (version_in old) here ∙ is;
            place = ap (λ (z : Version). z.place) (sym e);
            since = ap (λ (z : Version). z.since) (sym e);
            upto = ap (λ (z : Version). z.upto) (sym e);
            older = ap (λ (z : Version). z.older) (sym e);
            newer = ap (λ (z : Version). z.newer) (sym e);
            front = sym front ∙ ap (λ (z : Version). is_newest z.home) (sym e);
            stands = sym stands ∙ ap (λ (z : Version). is_pending z.home) (sym e);
          }
      | inr there ↦ record { version = u; is = sym (others k there) ∙ found; place = refl; since = refl; upto = refl; older = refl; newer = refl; front = refl; stands = refl }
    ])
    (λ k u found chain. elim (cases_eq k key) [
      | inl here ↦
          let e = one_version old k key u v found is here in
          record {
            version = w;
            is = ap (version_in new) here ∙ now;
            place = ap (λ (z : Version). z.place) (sym e);
            since = ap (λ (z : Version). z.since) (sym e);
            upto = ap (λ (z : Version). z.upto) (sym e);
            older = ap (λ (z : Version). z.older) (sym e);
            newer = ap (λ (z : Version). z.newer) (sym e);
            front = front ∙ ap (λ (z : Version). is_newest z.home) (sym e);
            stands = stands ∙ ap (λ (z : Version). is_pending z.home) (sym e);
          }
      | inr there ↦ record { version = u; is = others k there ∙ found; place = refl; since = refl; upto = refl; older = refl; newer = refl; front = refl; stands = refl }
    ])

-- ---- into a dead list

module _ (newest : List ℕ) (past : Past) (old new : List (Option Version)) (pins after : List (Option Pin)) (pending : List ℕ) (loose : Home) (first : Option ℕ) (rest : List ℕ)
    (bound limit key : ℕ) (pin : PinId) (v : Version) (link : Option ℕ) (kept again : Pin) (stamp : ℕ)
    (chained : IsChained newest old past) (ok : IsKept (body_in old) pins pending loose first (key ∷ rest) bound limit)
    (is : version_in old key ≡ Some v) (now : version_in new key ≡ Some (record v { home = Dead pin; next = link }))
    (others : (k : ℕ) → k ≢ key → version_in new k ≡ version_in old k)
    (pinned : pin_in pins pin.0 ≡ Some kept) (head : link ≡ kept.head)
    (pinned_again : pin_in pins pin.0 ≡ Some again) (pinned_now : pin_in after pin.0 ≡ Some (record again { head = Some key }))
    (pins_others : (p : ℕ) → p ≢ pin.0 → pin_in after p ≡ pin_in pins p)
    (latest : IsGreatest pins bound pin.0 stamp) (since : (b : Body) → body_in old key ≡ Some b → b.since ≤ stamp) where
  pub attached_chain : IsChained newest new past
  attached_chain =
      let b = loose_behind old pins pending loose first rest bound limit key v ok is in
      rehomed newest past old new key v (Dead pin) link chained is now others (sym b.1) (sym b.0)

  pub attached_placed : IsPlaced old new key
  attached_placed = record {
    was = body v;
    was_is = body_is (version_in old key) v is;
    now = body (record v { home = Dead pin; next = link });
    now_is = body_is (version_in new key) (record v { home = Dead pin; next = link }) now;
    place = refl;
    value = refl;
    since = refl;
    upto = refl;
    others = λ k other. ap body_of (others k other);
  }

  pub attached_kept : (b : Body) → body_in old key ≡ Some b → IsKept (body_in new) after pending loose b.next rest bound limit
  attached_kept b found =
      let e : body v ≡ b = (let d = body_is (version_in old key) v is in cc) in
      let f : again ≡ kept = cc in
      let g : latest.pin ≡ kept = (let d = latest.is in cc) in
      let s = ap (λ (z : Pin). z.stamp.0) g in
      let t = latest.same in
      let u = latest.upto in
      let w = since (body v) (body_is (version_in old key) v is) in
      let r = kept_attach (body_in old) (body_in new) pins after pending loose first rest bound limit key pin (body v) kept ok
      (body_is (version_in old key) v is)
      (body_is (version_in new key) (record v { home = Dead pin; next = link }) now ∙ ap (λ (z : Option ℕ). let c : Body = record (body v) { home = Dead pin; next = z } in Some c) head)
      (λ k other. ap body_of (others k other)) pinned
      (pinned_now ∙ ap (λ (z : Pin). let c : Pin = record z { head = Some key } in Some c) f) pins_others (omega arith) (omega arith)
      (λ p q q_is le. (let m = latest.greatest p q q_is le in omega arith)) in
      subst (λ (z : Body). IsKept (body_in new) after pending loose z.next rest bound limit) e r

-- ---- into the pending list

-- a version's body after another was unlinked
unlinked_others : (old new : List (Option Version)) (key : ℕ) (u : IsUnlinked old new key) → (k : ℕ) → k ≢ key → body_in new k ≡ body_in old k
unlinked_others old new key u k other =
    elim (cases_eq k u.behind) [
      | inl behind ↦
          let a = ap body_of (ap (version_in old) behind ∙ u.newer_is) in
          let b = ap body_of (ap (version_in new) behind ∙ u.newer_now) in
          b ∙ sym a
      | inr not_next ↦ elim (leads u.version.older k) [
        | To to ↦ let l = u.older k to in ap body_of l.now ∙ sym (ap body_of l.is)
        | Elsewhere else ↦ ap body_of (u.others k other not_next else)
      ]
    ]

module _ (old new : List (Option Version)) (pins : List (Option Pin)) (pending : List ℕ) (loose : Home) (first : Option ℕ) (rest : List ℕ) (bound limit key : ℕ)
    (ok : IsKept (body_in old) pins pending loose first (key ∷ rest) bound limit) where
  -- there is room for one more pending version
  pub retired_room : length pending < limit
  retired_room =
      let l = ok.loose_list in
      let stands : is_pending l.1.home ≡ false = ap is_pending l.3 ∙ ok.loose_chain in
      let fresh : Has key pending → ⊥ = λ has. (let w = ok.waiting key has in
      let f = ap (λ (z : Body). is_pending z.home) (one_body (body_in old) key key w.waits l.1 w.is l.2 refl) in let h = w.home in cc) in
      let below : (k : ℕ) → Has k (key ∷ pending) → k < limit = λ k has. elim has [
        | inl here ↦ (let s = (ok.small key l.1 l.2).1 in omega arith)
        | inr later ↦ (let w = ok.waiting k later in (ok.small k w.waits w.is).1)
      ] in
      let n : length (key ∷ pending) ≤ limit = IsOnce-length (key ∷ pending) limit (fresh, ok.once) below in
      omega arith

  module _ (u : IsUnlinked old new key) (free : (b : Body) → body_in old key ≡ Some b → IsUnneeded pins b) where
    pub retired_kept : (b : Body) → body_in old key ≡ Some b → IsKept (body_in new) pins (pending ++ key ∷ []) loose b.next rest bound limit
    retired_kept b found =
        let e : body u.version ≡ b = (let d = body_is (version_in old key) u.version u.is in cc) in
        let r = kept_retire (body_in old) (body_in new) pins pending loose first rest bound limit key (body u.version) ok
        (body_is (version_in old key) u.version u.is) (body_is (version_in new key) (record u.version { home = Pending }) u.now)
        (unlinked_others old new key u) (free (body u.version) (body_is (version_in old key) u.version u.is)) in
        subst (λ (z : Body). IsKept (body_in new) pins (pending ++ key ∷ []) loose z.next rest bound limit) e r

-- an unlinked version keeps its value and its stamps
pub unlinked_placed : (old new : List (Option Version)) (key : ℕ) → IsUnlinked old new key → IsPlaced old new key
unlinked_placed old new key u = record {
  was = body u.version;
  was_is = body_is (version_in old key) u.version u.is;
  now = body (record u.version { home = Pending });
  now_is = body_is (version_in new key) (record u.version { home = Pending }) u.now;
  place = refl;
  value = refl;
  since = refl;
  upto = refl;
  others = unlinked_others old new key u;
}

-- ---- what the calls say

module _ (old new : List (Option Version)) (pins after : List (Option Pin)) (limit key : ℕ) (pin : PinId) (v : Version) (link : Option ℕ) (kept again : Pin) (stamp : Stamp) (g : Placing)
    (ok : IsToPlace old pins (Some (pin, stamp)) key limit g)
    (is : version_in old key ≡ Some v) (now : version_in new key ≡ Some (record v { home = Dead pin; next = link }))
    (others : (k : ℕ) → k ≢ key → version_in new k ≡ version_in old k)
    (pinned : pin_in pins pin.0 ≡ Some kept) (head : link ≡ kept.head)
    (pinned_again : pin_in pins pin.0 ≡ Some again) (pinned_now : pin_in after pin.0 ≡ Some (record again { head = Some key }))
    (pins_others : (p : ℕ) → p ≢ pin.0 → pin_in after p ≡ pin_in pins p)
    (since : BeginsBy old key stamp.0) where
  pub attached_so : IsPlacedSo old new after g.pending key limit g
  attached_so = record {
    chained = attached_chain g.newest g.past old new pins after g.pending g.loose g.first g.rest g.bound limit key pin v link kept again stamp.0 ok.chained ok.kept is now others
        pinned head pinned_again pinned_now pins_others ok.latest_is since;
    kept = attached_kept g.newest g.past old new pins after g.pending g.loose g.first g.rest g.bound limit key pin v link kept again stamp.0 ok.chained ok.kept is now others
        pinned head pinned_again pinned_now pins_others ok.latest_is since;
  }

-- a version that begins behind the greatest pinned stamp is not needed
pub unneeded_behind : (slots : List (Option Version)) (pins : List (Option Pin)) (latest : Option (PinId × Stamp)) (key limit : ℕ) (g : Placing) (v : Version)
    → IsToPlace slots pins latest key limit g → version_in slots key ≡ Some v
    → ((pin : PinId) (stamp : Stamp) → latest ≡ Some (pin, stamp) → stamp.0 < v.since)
    → (b : Body) → body_in slots key ≡ Some b → IsUnneeded pins b
unneeded_behind slots pins latest key limit g v ok is behind b found p pin pin_is le =
    let e : body v ≡ b = (let d = body_is (version_in slots key) v is in cc) in
    let s = ap (λ (z : Body). z.since) e in
    let home : b.home ≡ g.loose = listed_home (body_in slots) g.loose g.first (key ∷ g.rest) ok.kept.loose_list key b (inl refl) found in
    let l = (ok.kept.loose_bound key b found home).1 p pin pin_is le in
    by_answer latest ok.latest_is behind s l
  where
    by_answer : (found : Option (PinId × Stamp)) → IsLatest pins g.bound found → ((r : PinId) (stamp : Stamp) → found ≡ Some (r, stamp) → stamp.0 < v.since)
        → v.since ≡ b.since → pin.stamp.0 ≤ g.bound → pin.stamp.0 < b.since
    by_answer None answer none s l = absurd (answer p pin pin_is l)
    by_answer (Some f) answer some s l = let a = answer.greatest p pin pin_is l in let c = some f.0 f.1 refl in omega arith

abbrev stamp_in : Option (PinId × Stamp) → Stamp → Stamp
stamp_in None d = d
stamp_in (Some f) d = f.1

-- one answer has one stamp
pub same_answer : (o : Option (PinId × Stamp)) (p q : PinId) (s t : Stamp) → o ≡ Some (p, s) → o ≡ Some (q, t) → s ≡ t
same_answer o p q s t a b = ap (λ (z : Option (PinId × Stamp)). stamp_in z s) (sym a ∙ b)

pub begins_by : (slots : List (Option Version)) (key stamp : ℕ) (v : Version) → version_in slots key ≡ Some v → v.since ≤ stamp → BeginsBy slots key stamp
begins_by slots key stamp v is le b found =
    let e : body v ≡ b = (let d = body_is (version_in slots key) v is in cc) in
    let s = ap (λ (z : Body). z.since) e in omega arith
