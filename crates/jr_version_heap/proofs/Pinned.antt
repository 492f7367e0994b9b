-- What setting a pin, taking one away, and freeing leave.
use Rattle.std.proofs.Common.{◌≡◌, ◌≢◌, ◌≤◌, ◌+◌, ◌⊎◌, inl, inr, ℕ, List, [], ◌∷◌, ◌++◌, length, Option, Some, None, true, false, refl, sym, ◌∙◌, ap, subst, arith}
use Rattle.std.proofs.lemmas.Bool.{cases_eq, cases_Bool}
use Rattle.jr_base.specs.declared.number.Stamp.{Stamp}
use Rattle.jr_base.specs.declared.value.Ask.{Ask}
use Rattle.jr_base.specs.declared.value.Ask.TheVariants as asks
use Rattle.jr_base.specs.declared.value.Seen.{Seen}
use Rattle.jr_heap.specs.Layout.{LayoutOf, object_at}
use Rattle.jr_stamps.specs.declared.pins.Pin.{Pin}
use Rattle.jr_stamps.specs.declared.pins.PinId.{PinId}
use Rattle.jr_stamps.specs.Pins.{PinsOf, pin_in, pin_at, IsPinned, Changes, IsLatest}
use Rattle.jr_version_heap.specs.declared.version.Past.{Past}
use Rattle.jr_version_heap.specs.declared.version.Version.{Version}
use Rattle.jr_version_heap.specs.declared.version.Home.{Home}
use Rattle.jr_version_heap.specs.declared.version.Home.TheVariants.{Newest, Loose, Dead, Pending}
use Rattle.jr_version_heap.specs.Versions.{version_in, is_newest, is_pending, IsChained, LAST}
use Rattle.jr_version_heap.specs.Needs.{Placing, IsNeeded, IsToPlace, IsListToPlace, IsAllPlaced, IsPlacedSo, IsPlaced, IsLeft, IsKept, IsListed, IsOnce, Has, SameStamps, Lasts, AllLast, LosesPin, Body, body, body_of, body_in, stamp_of}
use Rattle.jr_version_heap.specs.Histories.{VersionsOf, StandsFor, IsReadable, ShowsIn, IsHeap, KeepsWhatIsRead, seen_before, slot_then, Change}
use Rattle.jr_version_heap.proofs.Stands.{shows_still}
use Rattle.std.specs.Prelude.{is_some}
use Rattle.jr_version_heap.proofs.Shapes.{chained_by}
use Rattle.jr_version_heap.proofs.Lists.{has_version, one_body, IsOnce-length, Has-append_right}
use Rattle.jr_version_heap.proofs.Keeps.{kept_pin, kept_unpin, kept_done, kept_freed}

-- ---- a new pin

pub pin_heap : (layout : LayoutOf) (newest : List ℕ) (versions : List (Option Version)) (pins after : PinsOf) (pending : List ℕ) (past : Past) (room p : ℕ) (s : Stamp)
    → IsHeap layout newest versions pins.pins pending past room → IsPinned pins s.0 ⊎ (past.writes ≤ s.0) → pin_at pins p ≡ None
    → Changes pins p (Some (record { stamp = s; head = None })) after → IsHeap layout newest versions after.pins pending past room
pin_heap layout newest versions pins after pending past room p s heap readable fresh changes = record {
  count = heap.count;
  chained = heap.chained;
  kept = kept_pin (body_in versions) pins.pins after.pins pending room p (record { stamp = s; head = None }) heap.kept fresh changes.changed refl changes.others
      (elim readable [
        | inl pinned ↦ inl (pinned.0, pinned.1, pinned.2, pinned.3)
        | inr late ↦ inr (λ k b is behind.
            let h = has_version (version_in versions k) b is in
            let a = (heap.chained.span k h.version h.is (ap (λ (z : Body). is_newest z.home) h.same ∙ behind)).1 in
            let e = ap (λ (z : Body). z.upto) h.same in omega arith)
      ]);
  made = heap.made;
}

pub pin_readable : (pins after : PinsOf) (next p k : ℕ) (s : Stamp) → IsPinned pins s.0 ⊎ (next ≤ s.0)
    → Changes pins p (Some (record { stamp = s; head = None })) after → IsPinned after k ⊎ (next ≤ k) → IsPinned pins k ⊎ (next ≤ k)
pin_readable pins after next p k s allowed changes (inr late) = inr late
pin_readable pins after next p k s allowed changes (inl pinned) =
    elim (cases_eq pinned.0 p) [
      | inl here ↦
          let new : Pin = record { stamp = s; head = None } in
          let e : pinned.1 ≡ new = (let d : pin_at after p ≡ Some pinned.1 = ap (pin_at after) (sym here) ∙ pinned.2 in let c = changes.changed in cc) in
          let k_is : s.0 ≡ k = ap (λ (z : Pin). z.stamp.0) (sym e) ∙ pinned.3 in
          subst (λ (z : ℕ). IsPinned pins z ⊎ (next ≤ z)) k_is allowed
      | inr there ↦ inl (pinned.0, pinned.1, sym (changes.others pinned.0 there) ∙ pinned.2, pinned.3)
    ]

-- ---- a pin is gone

pub lost_readable : (pins after : PinsOf) (next p k : ℕ) → LosesPin pins.pins p after.pins → IsPinned after k ⊎ (next ≤ k) → IsPinned pins k ⊎ (next ≤ k)
lost_readable pins after next p k lost (inr late) = inr late
lost_readable pins after next p k lost (inl pinned) =
    elim (cases_eq pinned.0 p) [
      | inl here ↦ absurd (let d = ap (pin_in after.pins) (sym here) ∙ pinned.2 in let g = lost.gone in cc (d, g))
      | inr there ↦
          let e : stamp_of (pin_in pins.pins pinned.0) ≡ Some k = sym (lost.others pinned.0 there) ∙ (ap stamp_of pinned.2 ∙ ap (λ (z : ℕ). Some z) pinned.3) in
          let h = had (pin_in pins.pins pinned.0) e in
          inl (pinned.0, h.0, h.1, h.2)
    ]
  where
    had : (o : Option Pin) → stamp_of o ≡ Some k → (pin : Pin) × (o ≡ Some pin) × (pin.stamp.0 ≡ k)
    had None is = cc
    had (Some pin) is = (pin, refl, cc)

-- an answer is one where each pin has the stamp that it had
pub answer_same : (old new : List (Option Pin)) (bound : ℕ) (latest : Option (PinId × Stamp)) → SameStamps old new → IsLatest old bound latest → IsLatest new bound latest
answer_same old new bound latest same = by_answer latest
  where
    had : (o : Option Pin) (k : ℕ) → stamp_of o ≡ Some k → (pin : Pin) × (o ≡ Some pin) × (pin.stamp.0 ≡ k)
    had None k is = cc
    had (Some pin) k is = (pin, refl, cc)

    back : (p : ℕ) (pin : Pin) → pin_in new p ≡ Some pin → (was : Pin) × (pin_in old p ≡ Some was) × (was.stamp.0 ≡ pin.stamp.0)
    back p pin is = had (pin_in old p) pin.stamp.0 (sym (same p) ∙ ap stamp_of is)

    forth : (p : ℕ) (pin : Pin) → pin_in old p ≡ Some pin → (now : Pin) × (pin_in new p ≡ Some now) × (now.stamp.0 ≡ pin.stamp.0)
    forth p pin is = had (pin_in new p) pin.stamp.0 (same p ∙ ap stamp_of is)

    by_answer : (found : Option (PinId × Stamp)) → IsLatest old bound found → IsLatest new bound found
    by_answer None none = λ p pin is le. (let b = back p pin is in none p b.0 b.1 (let e = b.2 in omega arith))
    by_answer (Some f) answer =
        let n = forth f.0.0 answer.pin answer.is in
        record {
          pin = n.0;
          is = n.1;
          same = n.2 ∙ answer.same;
          upto = answer.upto;
          greatest = λ q other is le. (let b = back q other is in let g = answer.greatest q b.0 b.1 (let e = b.2 in omega arith) in let e = b.2 in omega arith);
        }

-- ---- the versions of a list, one after another

pub lasts_refl : (versions : List (Option Version)) → AllLast versions versions
lasts_refl versions j b is = record { key = j; body = b; is = is; place = refl; value = refl; since = refl; upto = refl }

pub lasts_more : (old middle new : List (Option Version)) (key : ℕ) → AllLast old middle → IsPlaced middle new key → AllLast old new
lasts_more old middle new key so p j b is =
    let l = so j b is in
    elim (cases_eq l.key key) [
      | inl here ↦
          let e = one_body (body_in middle) l.key key l.body p.was l.is p.was_is here in
          record {
            key = key;
            body = p.now;
            is = p.now_is;
            place = p.place ∙ (ap (λ (z : Body). z.place) (sym e) ∙ l.place);
            value = p.value ∙ (ap (λ (z : Body). z.value) (sym e) ∙ l.value);
            since = p.since ∙ (ap (λ (z : Body). z.since) (sym e) ∙ l.since);
            upto = p.upto ∙ (ap (λ (z : Body). z.upto) (sym e) ∙ l.upto);
          }
      | inr there ↦ record { key = l.key; body = l.body; is = p.others l.key there ∙ l.is; place = l.place; value = l.value; since = l.since; upto = l.upto }
    ]

-- the keys of a list are distinct
listed_once : (bodies : ℕ → Option Body) (home : Home) (first : Option ℕ) (ks : List ℕ) → IsListed bodies home first ks → IsOnce ks
listed_once bodies home first [] listed = tt
listed_once bodies home first (k ∷ ks) listed = (listed.4, listed_once bodies home listed.1.next ks listed.5)

listed_there : (bodies : ℕ → Option Body) (home : Home) (first : Option ℕ) (ks : List ℕ) → IsListed bodies home first ks → (k : ℕ) → Has k ks → (b : Body) × (bodies k ≡ Some b)
listed_there bodies home first [] listed k has = absurd has
listed_there bodies home first (j ∷ js) listed k (inl here) = (listed.1, ap bodies here ∙ listed.2)
listed_there bodies home first (j ∷ js) listed k (inr later) = listed_there bodies home listed.1.next js listed.5 k later

-- at the start as many are left as fit at most
pub left_all : (slots : List (Option Version)) (pins : List (Option Pin)) (pending : List ℕ) (latest : Option (PinId × Stamp)) (limit : ℕ) (g : Placing) (first : Option ℕ)
    → IsListToPlace slots pins latest limit g → g.pending ≡ pending → g.first ≡ first → IsLeft slots pins pending latest limit g first limit
left_all slots pins pending latest limit g first ok same_pending same_first = record {
  rest = g.rest;
  to_place = record {
    chained = ok.chained;
    kept = subst (λ (z : List ℕ). IsKept (body_in slots) pins z g.loose first g.rest g.bound limit) same_pending
        (subst (λ (z : Option ℕ). IsKept (body_in slots) pins g.pending g.loose z g.rest g.bound limit) same_first ok.kept);
    latest_is = ok.latest_is;
  };
  few = IsOnce-length g.rest limit (listed_once (body_in slots) g.loose g.first g.rest ok.kept.loose_list)
      (λ k has. (let t = listed_there (body_in slots) g.loose g.first g.rest ok.kept.loose_list k has in (ok.kept.small k t.0 t.1).1));
}

-- the list is empty where it has no first, and where none is left
pub all_placed : (slots : List (Option Version)) (pins : List (Option Pin)) (pending : List ℕ) (latest : Option (PinId × Stamp)) (limit left : ℕ) (g : Placing) (first : Option ℕ)
    → IsLeft slots pins pending latest limit g first left → (first ≡ None) ⊎ (left ≡ 0) → IsAllPlaced slots pins pending limit g
all_placed slots pins pending latest limit left g first l ends = by_rest l.rest l.to_place l.few
  where
    by_rest : (rest : List ℕ) → IsListToPlace slots pins latest limit (record { newest = g.newest; past = g.past; pending = pending; loose = g.loose; first = first; rest = rest; bound = g.bound })
        → length rest ≤ left → IsAllPlaced slots pins pending limit g
    by_rest [] ok few = record { chained = ok.chained; kept = kept_done (body_in slots) pins pending g.loose first g.bound limit ok.kept }
    by_rest (k ∷ ks) ok few = absurd (elim ends [
      | inl none ↦ (let f = ok.kept.loose_list.0 in cc (f, none))
      | inr zero ↦ omega arith
    ])

-- the first of those left
pub left_first : (slots : List (Option Version)) (pins : List (Option Pin)) (pending : List ℕ) (latest : Option (PinId × Stamp)) (limit left key : ℕ) (g : Placing) (first : Option ℕ)
    → IsLeft slots pins pending latest limit g first left → first ≡ Some key
    → (h : Placing) × IsToPlace slots pins latest key limit h × (h.pending ≡ pending)
left_first slots pins pending latest limit left key g first l is = by_rest l.rest l.to_place
  where
    by_rest : (rest : List ℕ) → IsListToPlace slots pins latest limit (record { newest = g.newest; past = g.past; pending = pending; loose = g.loose; first = first; rest = rest; bound = g.bound })
        → (h : Placing) × IsToPlace slots pins latest key limit h × (h.pending ≡ pending)
    by_rest [] ok = absurd (let f = ok.kept.loose_list in cc (f, is))
    by_rest (k ∷ ks) ok =
        let e : k ≡ key = (let f = ok.kept.loose_list.0 in cc (f, is)) in (
          record { newest = g.newest; past = g.past; pending = pending; loose = g.loose; first = first; rest = ks; bound = g.bound },
          record {
            chained = ok.chained;
            kept = subst (λ (z : ℕ). IsKept (body_in slots) pins pending g.loose first (z ∷ ks) g.bound limit) e ok.kept;
            latest_is = ok.latest_is;
          },
          refl,
        )

pub left_next : (old new : List (Option Version)) (pins after : List (Option Pin)) (pending later : List ℕ) (latest : Option (PinId × Stamp)) (limit left key : ℕ) (g : Placing) (first : Option ℕ) (v : Version)
    → IsLeft old pins pending latest limit g first (left + 1) → first ≡ Some key → version_in old key ≡ Some v
    → ((h : Placing) → IsToPlace old pins latest key limit h → h.pending ≡ pending → IsPlacedSo old new after later key limit h) → SameStamps pins after
    → IsLeft new after later latest limit g v.next left
left_next old new pins after pending later latest limit left key g first v l is version so same = by_rest l.rest l.to_place l.few
  where
    by_rest : (rest : List ℕ) → IsListToPlace old pins latest limit (record { newest = g.newest; past = g.past; pending = pending; loose = g.loose; first = first; rest = rest; bound = g.bound })
        → length rest ≤ left + 1 → IsLeft new after later latest limit g v.next left
    by_rest [] ok few = absurd (let f = ok.kept.loose_list in cc (f, is))
    by_rest (k ∷ ks) ok few =
        let e : k ≡ key = (let f = ok.kept.loose_list.0 in cc (f, is)) in
        let s = so (record { newest = g.newest; past = g.past; pending = pending; loose = g.loose; first = first; rest = ks; bound = g.bound })
        (record {
          chained = ok.chained;
          kept = subst (λ (z : ℕ). IsKept (body_in old) pins pending g.loose first (z ∷ ks) g.bound limit) e ok.kept;
          latest_is = ok.latest_is;
        }) refl in
        record {
          rest = ks;
          to_place = record { chained = s.chained; kept = s.kept (body v) (ap body_of version); latest_is = answer_same pins after g.bound latest same ok.latest_is };
          few = omega arith;
        }

-- ---- a pin is taken away

-- what is known of the versions of its dead list
pub unpin_list : (layout : LayoutOf) (newest : List ℕ) (versions : List (Option Version)) (pins after : PinsOf) (pending : List ℕ) (past : Past) (room : ℕ) (p : PinId) (pin kept : Pin) (first : Option ℕ)
    (latest : Option (PinId × Stamp))
    → IsHeap layout newest versions pins.pins pending past room → pin_at pins p.0 ≡ Some pin → pin_at pins p.0 ≡ Some kept → first ≡ kept.head → Changes pins p.0 None after
    → IsLatest after.pins pin.stamp.0 latest
    → (g : Placing) × IsListToPlace versions after.pins latest room g × (g.pending ≡ pending) × (g.first ≡ first) × (g.newest ≡ newest) × (g.past ≡ past)
unpin_list layout newest versions pins after pending past room p pin kept first latest heap was again head changes answer =
    let e : pin ≡ kept = cc in (
      record { newest = newest; past = past; pending = pending; loose = Dead p; first = pin.head; rest = (heap.kept.lists p pin was).keys; bound = pin.stamp.0 },
      record {
        chained = heap.chained;
        kept = kept_unpin (body_in versions) pins.pins after.pins pending room p pin heap.kept was changes.changed changes.others;
        latest_is = answer;
      },
      refl,
      ap (λ (z : Pin). z.head) e ∙ sym head,
      refl,
      refl,
    )

pub unpin_heap : (layout : LayoutOf) (newest : List ℕ) (old new : List (Option Version)) (pins after : List (Option Pin)) (pending later : List ℕ) (past : Past) (room : ℕ) (g : Placing)
    → IsHeap layout newest old pins pending past room → g.newest ≡ newest → g.past ≡ past → IsAllPlaced new after later room g → IsHeap layout newest new after later past room
unpin_heap layout newest old new pins after pending later past room g heap same_newest same_past all = record {
  count = heap.count;
  chained = subst (λ (z : List ℕ). IsChained z new past) same_newest (subst (λ (z : Past). IsChained g.newest new z) same_past all.chained);
  kept = all.kept;
  made = heap.made;
}

-- every stamp that may still be read shows what it showed
pub still_stands : (m new : VersionsOf) (h : List Change) → new.layout ≡ m.layout → AllLast m.versions new.versions
    → ((k : ℕ) → IsReadable new k → IsReadable m k) → StandsFor m h → StandsFor new h
still_stands m new h layout lasts readable stands what k small may =
    subst (λ (z : LayoutOf). ShowsIn z new.versions what k (seen_before h what k)) (sym layout)
    (shows_lasting m.layout m.versions new.versions what k (seen_before h what k) lasts (stands what k small (readable k may)))
  where
    shows_lasting : (l : LayoutOf) (old now : List (Option Version)) (ask : Ask) (at : ℕ) (seen : Seen) → AllLast old now → ShowsIn l old ask at seen → ShowsIn l now ask at seen
    shows_lasting l old now (asks.Cell cell) at seen all shown = shows_still old now (slot_then (object_at l cell.obj) cell.slot at) at seen (λ j b is since upto. all j b is) shown
    shows_lasting l old now (asks.Length object) at seen all shown = shown

-- the first of those to be placed has a version
pub to_place_there : (slots : List (Option Version)) (pins : List (Option Pin)) (latest : Option (PinId × Stamp)) (key limit : ℕ) (g : Placing) → IsToPlace slots pins latest key limit g
    → is_some (version_in slots key) ≡ true
to_place_there slots pins latest key limit g ok =
    let l = ok.kept.loose_list in
    let h = has_version (version_in slots key) l.1 l.2 in ap is_some h.is

pub no_stamp : (o : Option Pin) → (let n : Option ℕ = None in stamp_of o ≡ n) → o ≡ None
no_stamp None is = refl
no_stamp (Some pin) is = cc

-- ---- a version is freed

pub waits_there : (slots : List (Option Version)) (pins : List (Option Pin)) (front : List ℕ) (limit key : ℕ) → IsKept (body_in slots) pins (front ++ key ∷ []) Loose None [] 0 limit
    → is_some (version_in slots key) ≡ true
waits_there slots pins front limit key ok =
    let w = ok.waiting key (Has-append_right key key front refl) in
    let h = has_version (version_in slots key) w.waits w.is in ap is_some h.is

module _ (newest : List ℕ) (past : Past) (old new : List (Option Version)) (pins : List (Option Pin)) (front : List ℕ) (limit key : ℕ)
    (chained : IsChained newest old past) (ok : IsKept (body_in old) pins (front ++ key ∷ []) Loose None [] 0 limit)
    (gone : version_in new key ≡ None) (others : (k : ℕ) → k ≢ key → version_in new k ≡ version_in old k) where
  freed_other : (k : ℕ) (v : Version) → version_in new k ≡ Some v → k ≢ key
  freed_other k v is here = let e = sym (ap (version_in new) here) ∙ is in cc (e, gone)

  stands_other : (k : ℕ) (v : Version) → version_in old k ≡ Some v → is_pending v.home ≡ false → k ≢ key
  stands_other k v is stands here =
      let w = ok.waiting key (Has-append_right key key front refl) in
      let e = one_body (body_in old) k key (body v) w.waits (ap body_of is) w.is here in
      let f = ap (λ (z : Body). is_pending z.home) e in
      let h = w.home in cc

  pub free_chain : IsChained newest new past
  free_chain = chained_by newest old new past chained
      (λ k v is. record { version = v; is = sym (others k (freed_other k v is)) ∙ is; place = refl; since = refl; upto = refl; older = refl; newer = refl; front = refl; stands = refl })
      (λ k v is stands. record { version = v; is = others k (stands_other k v is stands) ∙ is; place = refl; since = refl; upto = refl; older = refl; newer = refl; front = refl; stands = refl })

  pub free_kept : IsKept (body_in new) pins front Loose None [] 0 limit
  free_kept = kept_freed (body_in old) (body_in new) pins front limit key ok (ap body_of gone) (λ k other. ap body_of (others k other))

  pub free_else : (k : ℕ) (b : Body) → body_in old k ≡ Some b → is_pending b.home ≡ false → body_in new k ≡ Some b
  free_else k b is stands =
      let h = has_version (version_in old k) b is in
      ap body_of (others k (stands_other k h.version h.is (ap (λ (z : Body). is_pending z.home) h.same ∙ stands))) ∙ is

-- ---- freed versions are shown to nobody

waits_behind : (h : Home) → is_pending h ≡ true → is_newest h ≡ false
waits_behind Newest w = cc
waits_behind Loose w = refl
waits_behind (Dead p) w = refl
waits_behind Pending w = refl

pub shown_stands : (layout : LayoutOf) (newest : List ℕ) (versions : List (Option Version)) (pins : PinsOf) (pending : List ℕ) (past : Past) (room k j : ℕ) (b : Body)
    → IsHeap layout newest versions pins.pins pending past room → IsPinned pins k ⊎ (past.writes ≤ k) → body_in versions j ≡ Some b → b.since ≤ k → k ≤ b.upto → is_pending b.home ≡ false
shown_stands layout newest versions pins pending past room k j b heap readable is since upto =
    elim (cases_Bool (is_pending b.home)) [
      | inl waits ↦ absurd (
          let free = heap.kept.unneeded j b is waits in
          elim readable [
            | inl pinned ↦ (let a = free.0 pinned.0 pinned.1 pinned.2 (let t = pinned.3 in omega arith) in let t = pinned.3 in omega arith)
            | inr late ↦
                (let h = has_version (version_in versions j) b is in
                let a = (heap.chained.span j h.version h.is (ap (λ (z : Body). is_newest z.home) h.same ∙ waits_behind b.home waits)).1 in
                let e = ap (λ (z : Body). z.upto) h.same in omega arith)
          ])
      | inr stands ↦ stands
    ]

pub sweep_stands : (m new : VersionsOf) (newest : List ℕ) (room : ℕ) (h : List Change) → IsHeap m.layout newest m.versions m.pins.pins m.pending m.past room → new.layout ≡ m.layout
    → ((k : ℕ) (b : Body) → body_in m.versions k ≡ Some b → is_pending b.home ≡ false → body_in new.versions k ≡ Some b)
    → ((k : ℕ) → IsReadable new k → IsReadable m k) → StandsFor m h → StandsFor new h
sweep_stands m new newest room h heap layout kept readable stands what k small may =
    let was = readable k may in
    subst (λ (z : LayoutOf). ShowsIn z new.versions what k (seen_before h what k)) (sym layout)
    (shows_lasting what (stands what k small was)
    (λ j b is since upto. record { key = j; body = b; is = kept j b is (shown_stands m.layout newest m.versions m.pins m.pending m.past room k j b heap was is since upto); place = refl; value = refl; since = refl; upto = refl }))
  where
    shows_lasting : (ask : Ask) → ShowsIn m.layout m.versions ask k (seen_before h ask k)
        → ((j : ℕ) (b : Body) → body_in m.versions j ≡ Some b → b.since ≤ k → k ≤ b.upto → Lasts new.versions b) → ShowsIn m.layout new.versions ask k (seen_before h ask k)
    shows_lasting (asks.Cell cell) shown lasts = shows_still m.versions new.versions (slot_then (object_at m.layout cell.obj) cell.slot k) k (seen_before h (asks.Cell cell) k) lasts shown
    shows_lasting (asks.Length object) shown lasts = shown

-- ---- what is pending

pub keeps_what_is_read : (m : VersionsOf) (newest : List ℕ) (limit : ℕ) → IsHeap m.layout newest m.versions m.pins.pins m.pending m.past limit → KeepsWhatIsRead m
keeps_what_is_read m newest limit heap = record {
  kept = λ key b is. by_home key b is b.home refl;
  pending = λ key has.
      let w = heap.kept.waiting key has in
      let h = has_version (version_in m.versions key) w.waits w.is in
      let s = (heap.chained.span key h.version h.is (ap (λ (z : Body). is_newest z.home) h.same ∙ waits_behind w.waits.home w.home)).1 in
      let e = ap (λ (z : Body). z.upto) h.same in
      let n = heap.chained.short in
      let before = heap.chained.writes in
      (w.waits, w.is, (λ last. omega arith), (heap.kept.unneeded key w.waits w.is w.home).0);
  once = heap.kept.once;
  apart = λ key other b c is is_other differs here.
      let h = has_version (version_in m.versions key) b is in
      let g = has_version (version_in m.versions other) c is_other in
      let p = ap (λ (z : Body). z.place) h.same ∙ (here ∙ ap (λ (z : Body). z.place) (sym g.same)) in
      let hs = ap (λ (z : Body). z.since) h.same in
      let hu = ap (λ (z : Body). z.upto) h.same in
      let gs = ap (λ (z : Body). z.since) g.same in
      let gu = ap (λ (z : Body). z.upto) g.same in
      elim (heap.chained.apart key other h.version g.version h.is g.is differs p) [
        | inl before ↦ inl (omega arith)
        | inr behind ↦ inr (omega arith)
      ];
}
  where
    by_home : (key : ℕ) (b : Body) → body_in m.versions key ≡ Some b → (home : Home) → b.home ≡ home → (b.upto ≡ LAST) ⊎ (IsNeeded m.pins.pins b ⊎ Has key m.pending)
    by_home key b is Newest here =
        let h = has_version (version_in m.versions key) b is in
        inl (ap (λ (z : Body). z.upto) (sym h.same) ∙ heap.chained.forever key h.version h.is (ap (λ (z : Body). is_newest z.home) h.same ∙ ap is_newest here))
    by_home key b is Loose here = absurd (heap.kept.only key b is here)
    by_home key b is (Dead p) here =
        let s = heap.kept.served key b p is here (λ bad. cc) in
        inr (inl (record { number = p.0; pin = s.pin; is = s.is; since = s.since; upto = s.upto }))
    by_home key b is Pending here = inr (inr (heap.kept.unneeded key b is (ap is_pending here)).1)

pub pending_few : (m : VersionsOf) (newest : List ℕ) (room : ℕ) → IsHeap m.layout newest m.versions m.pins.pins m.pending m.past room → length m.pending ≤ 4294967295
pending_few m newest room heap = IsOnce-length m.pending 4294967295 heap.kept.once (λ k has. (let w = heap.kept.waiting k has in (heap.kept.small k w.waits w.is).0))
