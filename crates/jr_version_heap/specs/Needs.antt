-- Which versions a pin needs, and which are pending.
use Rattle.std.specs.Prelude.{◌≡◌, ◌≢◌, ◌⊎◌, ℕ, ◌≤◌, ◌<◌, List, [], ◌∷◌, Option, Some, None, true, false, length}
use Rattle.jr_base.specs.declared.number.Stamp.{Stamp}
use Rattle.jr_base.specs.declared.value.Value.{Value}
use Rattle.jr_stamps.specs.declared.pins.Pin.{Pin}
use Rattle.jr_stamps.specs.declared.pins.PinId.{PinId}
use Rattle.jr_stamps.specs.Pins.{pin_in, IsLatest}
use Rattle.jr_version_heap.specs.declared.version.Past.{Past}
use Rattle.jr_version_heap.specs.declared.version.Version.{Version}
use Rattle.jr_version_heap.specs.declared.version.Home.{Home}
use Rattle.jr_version_heap.specs.declared.version.Home.TheVariants.{Loose, Dead}
use Rattle.jr_version_heap.specs.Versions.{version_in, is_newest, is_pending, IsChained}

-- a version without its links in the chain
pub record Body : Type 0 where
  pub place : ℕ
  pub value : Value
  pub since : ℕ
  pub upto : ℕ
  pub home : Home
  pub next : Option ℕ

abbrev pub body : Version → Body
body v = record { place = v.place; value = v.value; since = v.since; upto = v.upto; home = v.home; next = v.next }

abbrev pub body_of : Option Version → Option Body
body_of None = None
body_of (Some v) = Some (body v)

abbrev pub body_in : List (Option Version) → ℕ → Option Body
body_in slots k = body_of (version_in slots k)

-- ---- lists of keys

abbrev pub Has : ℕ → List ℕ → Type 0
Has k [] = ⊥
Has k (x ∷ xs) = (k ≡ x) ⊎ Has k xs

-- no key stands twice
abbrev pub IsOnce : List ℕ → Type 0
IsOnce [] = Unit {0}
IsOnce (x ∷ xs) = (Has x xs → ⊥) × IsOnce xs

-- a first key and the links from there on lead to these versions, all of that home, and then end
abbrev pub IsListed : (ℕ → Option Body) → Home → Option ℕ → List ℕ → Type 0
IsListed bodies home first [] = first ≡ None
IsListed bodies home first (k ∷ ks) = (first ≡ Some k) × (b : Body) × (bodies k ≡ Some b) × (b.home ≡ home) × (Has k ks → ⊥) × IsListed bodies home b.next ks

-- the list has each version of that home
pub record HasList (bodies : ℕ → Option Body) (home : Home) (first : Option ℕ) : Type 0 where
  pub keys : List ℕ
  pub listed : IsListed bodies home first keys
  pub all : (k : ℕ) (b : Body) → bodies k ≡ Some b → b.home ≡ home → Has k keys

-- ---- pins

-- no pinned stamp lies within those that a version serves
abbrev pub IsUnneeded : List (Option Pin) → Body → Type 0
IsUnneeded pins b = (p : ℕ) (pin : Pin) → pin_in pins p ≡ Some pin → pin.stamp.0 ≤ b.upto → pin.stamp.0 < b.since

-- a pinned stamp lies within those that a version serves
pub record IsNeeded (pins : List (Option Pin)) (b : Body) : Type 0 where
  pub number : ℕ
  pub pin : Pin
  pub is : pin_in pins number ≡ Some pin
  pub since : b.since ≤ pin.stamp.0
  pub upto : pin.stamp.0 ≤ b.upto

-- the pin's stamp is the greatest that the version serves
pub record IsServed (pins : List (Option Pin)) (b : Body) (p : ℕ) : Type 0 where
  pub pin : Pin
  pub is : pin_in pins p ≡ Some pin
  pub since : b.since ≤ pin.stamp.0
  pub upto : pin.stamp.0 ≤ b.upto
  pub greatest : (q : ℕ) (other : Pin) → pin_in pins q ≡ Some other → other.stamp.0 ≤ b.upto → other.stamp.0 ≤ pin.stamp.0

-- a version that waits to be freed
pub record IsWaiting (bodies : ℕ → Option Body) (k : ℕ) : Type 0 where
  pub waits : Body
  pub is : bodies k ≡ Some waits
  pub home : is_pending waits.home ≡ true

-- Each version behind its cell's newest is in the dead list of the greatest pinned stamp that it serves, or it is pending and no
-- pinned stamp needs it. Those of the home `loose` are still to be placed, from `first` on; no pinned stamp between `bound` and
-- their last stamp needs them. Keys are below `limit`.
pub record IsKept (bodies : ℕ → Option Body) (pins : List (Option Pin)) (pending : List ℕ) (loose : Home) (first : Option ℕ) (rest : List ℕ) (bound limit : ℕ)
    : Type 0 where
  pub small : (k : ℕ) (b : Body) → bodies k ≡ Some b → (k < 4294967295) × (k < limit)
  pub served : (k : ℕ) (b : Body) (p : PinId) → bodies k ≡ Some b → b.home ≡ Dead p → (loose ≡ Dead p → ⊥) → IsServed pins b p.0
  pub lists : (p : PinId) (pin : Pin) → pin_in pins p.0 ≡ Some pin → HasList bodies (Dead p) pin.head
  pub unneeded : (k : ℕ) (b : Body) → bodies k ≡ Some b → is_pending b.home ≡ true → IsUnneeded pins b × Has k pending
  pub waiting : (k : ℕ) → Has k pending → IsWaiting bodies k
  pub once : IsOnce pending
  pub loose_list : IsListed bodies loose first rest
  pub loose_all : (k : ℕ) (b : Body) → bodies k ≡ Some b → b.home ≡ loose → Has k rest
  pub loose_bound : (k : ℕ) (b : Body) → bodies k ≡ Some b → b.home ≡ loose
      → (bound ≤ b.upto) × ((p : ℕ) (pin : Pin) → pin_in pins p ≡ Some pin → pin.stamp.0 ≤ b.upto → pin.stamp.0 ≤ bound)
  pub only : (k : ℕ) (b : Body) → bodies k ≡ Some b → b.home ≡ Loose → Has k rest
  pub loose_front : is_newest loose ≡ false
  pub loose_chain : is_pending loose ≡ false
  pub loose_free : (p : PinId) → loose ≡ Dead p → pin_in pins p.0 ≡ None

-- what is known while versions are placed
pub record Placing : Type 0 where
  pub newest : List ℕ
  pub past : Past
  pub pending : List ℕ
  pub loose : Home
  pub first : Option ℕ
  pub rest : List ℕ
  pub bound : ℕ

-- each pin has the stamp that it had
abbrev pub stamp_of : Option Pin → Option ℕ
stamp_of None = None
stamp_of (Some pin) = Some pin.stamp.0

abbrev pub SameStamps : List (Option Pin) → List (Option Pin) → Type 0
SameStamps old new = (p : ℕ) → stamp_of (pin_in new p) ≡ stamp_of (pin_in old p)

-- a version under a key is as before but for its home and its link, and each other is as before
pub record IsPlaced (old new : List (Option Version)) (key : ℕ) : Type 0 where
  pub was : Body
  pub was_is : body_in old key ≡ Some was
  pub now : Body
  pub now_is : body_in new key ≡ Some now
  pub place : now.place ≡ was.place
  pub value : now.value ≡ was.value
  pub since : now.since ≡ was.since
  pub upto : now.upto ≡ was.upto
  pub others : (k : ℕ) → k ≢ key → body_in new k ≡ body_in old k

-- a loose version that stands first among those to be placed, with the greatest pinned stamp up to their bound
pub record IsToPlace (slots : List (Option Version)) (pins : List (Option Pin)) (latest : Option (PinId × Stamp)) (key limit : ℕ) (g : Placing) : Type 0 where
  pub chained : IsChained g.newest slots g.past
  pub kept : IsKept (body_in slots) pins g.pending g.loose g.first (key ∷ g.rest) g.bound limit
  pub latest_is : IsLatest pins g.bound latest

-- a version begins at a stamp or before
abbrev pub BeginsBy : List (Option Version) → ℕ → ℕ → Type 0
BeginsBy slots key stamp = (b : Body) → body_in slots key ≡ Some b → b.since ≤ stamp

-- after the version was placed, the others are to be placed still
pub record IsPlacedSo (old new : List (Option Version)) (pins : List (Option Pin)) (pending : List ℕ) (key limit : ℕ) (g : Placing) : Type 0 where
  pub chained : IsChained g.newest new g.past
  pub kept : (b : Body) → body_in old key ≡ Some b → IsKept (body_in new) pins pending g.loose b.next g.rest g.bound limit

-- the pin is gone, and each other has the stamp that it had
pub record LosesPin (old : List (Option Pin)) (p : ℕ) (new : List (Option Pin)) : Type 0 where
  pub gone : pin_in new p ≡ None
  pub others : (q : ℕ) → q ≢ p → stamp_of (pin_in new q) ≡ stamp_of (pin_in old q)

-- the loose versions from `first` on are all those that are to be placed
pub record IsListToPlace (slots : List (Option Version)) (pins : List (Option Pin)) (latest : Option (PinId × Stamp)) (limit : ℕ) (g : Placing) : Type 0 where
  pub chained : IsChained g.newest slots g.past
  pub kept : IsKept (body_in slots) pins g.pending g.loose g.first g.rest g.bound limit
  pub latest_is : IsLatest pins g.bound latest

-- some version of the cell has the same value, for the same stamps
pub record Lasts (versions : List (Option Version)) (b : Body) : Type 0 where
  pub key : ℕ
  pub body : Body
  pub is : body_in versions key ≡ Some body
  pub place : body.place ≡ b.place
  pub value : body.value ≡ b.value
  pub since : body.since ≡ b.since
  pub upto : body.upto ≡ b.upto

abbrev pub AllLast : List (Option Version) → List (Option Version) → Type 0
AllLast old new = (j : ℕ) (b : Body) → body_in old j ≡ Some b → Lasts new b

-- how far placing has come: so many keys are left at most
pub record IsLeft (slots : List (Option Version)) (pins : List (Option Pin)) (pending : List ℕ) (latest : Option (PinId × Stamp)) (limit : ℕ) (g : Placing) (first : Option ℕ) (left : ℕ) : Type 0 where
  pub rest : List ℕ
  pub to_place : IsListToPlace slots pins latest limit (record { newest = g.newest; past = g.past; pending = pending; loose = g.loose; first = first; rest = rest; bound = g.bound })
  pub few : length rest ≤ left

-- all are placed
pub record IsAllPlaced (slots : List (Option Version)) (pins : List (Option Pin)) (pending : List ℕ) (limit : ℕ) (g : Placing) : Type 0 where
  pub chained : IsChained g.newest slots g.past
  pub kept : IsKept (body_in slots) pins pending Loose None [] 0 limit
