-- The rule of a turn, in seven points. Each step keeps it, whatever the other passes do.
use Rattle.std.specs.Prelude.{◌≡◌, ℕ, ◌+◌, ◌%◌, ◌^◌, ◌<◌, ◌≤◌, List, [], ◌∷◌, ◌++◌, length, Bool, true, false, Option, Some, None, is_some, All, Any, IsPermutation}
use mathlib.Core.Option.{none, some}
use lib.ListN.{get_elem?}
use Rattle.atomic_table.specs.Table.{State}
use Rattle.jr_turn.specs.declared.view.Past.{Past}
use Rattle.jr_turn.specs.declared.view.View.{View}
use Rattle.jr_turn.specs.Views.{IsPrefix, steps, as_list, open_tickets, holding}

-- What the words, the slot and the views stand for
pub record Inner (V O E : Type 0) : Type 0 where
  pub opening : O
  pub journal : List E
  -- how many numbers were drawn, how many were served, and the word count
  pub drawn : ℕ
  pub served : ℕ
  pub count : ℕ
  -- the value, unless a pass has it
  pub place : Option V
  -- the passes that were joined into the first
  pub past : List (Past E)

-- the words ticket, serving and count
abbrev pub words_of : ℕ → ℕ → ℕ → List ℕ
words_of drawn served count = (drawn % 2 ^ 64) ∷ (served % 2 ^ 64) ∷ count ∷ []

-- the slot, at home with the value or out with a pass
abbrev pub home_of : {V : Type 0} → Option V → mathlib.Core.Option.Option (Option V)
home_of (Some x) = some (Some x)
home_of None = none

abbrev pub one_if : Bool → ℕ
one_if false = 0
one_if true = 1

-- f of each view, added up
abbrev pub total : {W : Type 0} → (W → ℕ) → List W → ℕ
total f [] = 0
total f (v ∷ vs) = f v + total f vs

-- K of each view and its place
abbrev pub Each : {W : Type 0} → (ℕ → W → Type 0) → List W → Type 0
Each {W} K views = (j : ℕ) (v : W) → get_elem? views j ≡ some v → K j v

-- K of some view and its place
abbrev pub SomeOf : {W : Type 0} → (ℕ → W → Type 0) → List W → Type 0
SomeOf {W} K views = (j : ℕ) × (v : W) × (get_elem? views j ≡ some v) × K j v

module _ {O E T : Type 0} where
  -- 1 if it drew a number, else 0
  abbrev pub drawing : View O E T → ℕ
  drawing v = one_if (is_some v.drawn)

  -- 1 if it was joined into the first, else 0
  abbrev pub spending : View O E T → ℕ
  spending v = one_if v.spent

  -- the tickets in hand, in the order of the views
  abbrev pub tickets : List (View O E T) → List T
  tickets [] = []
  tickets (v ∷ vs) = as_list v.ticket ++ tickets vs

module _ {V O E T : Type 0} (h : Inner V O E) where
  -- 1. The opening is the same in every view and in the value
  abbrev pub Opens : View O E T → Type 0
  Opens v = v.spent ≡ false → v.opening ≡ Some h.opening

  pub record One (opening : V → O) (views : List (View O E T)) : Type 0 where
    pub value : (x : V) → h.place ≡ Some x → opening x ≡ h.opening
    pub each : Each (λ j (v : View O E T). Opens v) views

  -- 2. The journal is the list of the value, or of the view that holds the turn, with the entry
  -- in flight as its last
  abbrev pub Tells : View O E T → Type 0
  Tells v = holding v ≡ true → v.seen ≡ h.journal

  abbrev pub Counted : View O E T → Type 0
  Counted v = (e : E) → v.flight ≡ Some e → (before : List E) × (v.seen ≡ before ++ e ∷ [])

  pub record Two (entries : V → List E) (views : List (View O E T)) : Type 0 where
    pub value : (x : V) → h.place ≡ Some x → entries x ≡ h.journal
    pub each : Each (λ j (v : View O E T). Tells v) views
    pub flight : Each (λ j (v : View O E T). Counted v) views

  -- 3. What a pass has seen begins the journal, and what a joined pass had seen does too. What a pass knows
  -- is at most the count, which is the journal's length
  abbrev pub Sees : View O E T → Type 0
  Sees v = v.spent ≡ false → IsPrefix v.seen h.journal × (v.known ≤ h.count)

  pub record Three (views : List (View O E T)) : Type 0 where
    pub each : Each (λ j (v : View O E T). Sees v) views
    pub past : All (λ p. IsPrefix p.seen h.journal) h.past
    pub counted : h.count ≡ length h.journal
    pub short : length h.journal < 2 ^ 63

  -- 4. A pass has its own number, which is its place, and the steps of its number. The first pass
  -- stays, and keeps how many passes were made, and how many and which ones were joined. Each joined pass is
  -- kept with its number and the steps of its number. No higher number than that of passes made has a step
  pub record Owns (guest : E → Option ℕ) (j : ℕ) (v : View O E T) : Type 0 where
    pub number : v.number ≡ j + 1
    pub mine : v.mine ≡ steps guest (j + 1) h.journal

  pub record Leads (passes gone : ℕ) (v : View O E T) : Type 0 where
    pub live : v.spent ≡ false
    pub made : v.made ≡ passes
    pub joined : v.joined ≡ gone
    pub past : v.past ≡ h.past

  pub record Joined (guest : E → Option ℕ) (views : List (View O E T)) (p : Past E) : Type 0 where
    pub spent : SomeOf (λ j (v : View O E T). (p.number ≡ j + 1) × (v.spent ≡ true)) views
    pub mine : p.mine ≡ steps guest p.number h.journal

  abbrev pub IsKept : ℕ → View O E T → Type 0
  IsKept j v = v.spent ≡ true → Any (λ p. p.number ≡ j + 1) h.past

  pub record Four (guest : E → Option ℕ) (views : List (View O E T)) : Type 0 where
    pub each : Each (λ j (v : View O E T). v.spent ≡ false → Owns guest j v) views
    pub first : Each (λ j (v : View O E T). j ≡ 0 → Leads (length views) (total spending views) v) views
    pub past : All (Joined guest views) h.past
    pub kept : Each (λ j (v : View O E T). IsKept j v) views
    pub none_above : (n : ℕ) → length views < n → steps guest n h.journal ≡ []

  -- 5. The numbers drawn are those from serving up to ticket, each in one view. The slot is empty
  -- exactly while a view holds the turn, which only the one that drew serving does; only that one
  -- counts, and has the mark once it has given the slot back
  abbrev pub Draws : View O E T → Type 0
  Draws v = (d : ℕ) → v.drawn ≡ Some d → (h.served ≤ d) × (d < h.drawn)

  pub record InTurn (v : View O E T) : Type 0 where
    pub hold : holding v ≡ true → (v.drawn ≡ Some h.served) × (h.place ≡ None)
    pub given : v.given ≡ true → (v.drawn ≡ Some h.served) × (holding v ≡ false)
    pub flight : is_some v.flight ≡ true → holding v ≡ true

  pub record Five (views : List (View O E T)) : Type 0 where
    pub range : Each (λ j (v : View O E T). Draws v) views
    pub once : (i j d : ℕ) (v w : View O E T) → get_elem? views i ≡ some v → get_elem? views j ≡ some w → v.drawn ≡ Some d → w.drawn ≡ Some d → i ≡ j
    pub every : (d : ℕ) → h.served ≤ d → d < h.drawn → SomeOf (λ j (v : View O E T). v.drawn ≡ Some d) views
    pub all : h.drawn ≡ h.served + total drawing views
    pub few : length views < 2 ^ 32
    pub turn : Each (λ j (v : View O E T). InTurn v) views
    pub empty : h.place ≡ None → SomeOf (λ j (v : View O E T). holding v ≡ true) views

  -- 6. The open tickets of the value are those in the views and those that wait in it, each once.
  -- While the value is out, those in the views are the ones that the holder keeps as out
  abbrev pub Keeps : List (View O E T) → View O E T → Type 0
  Keeps views v = (out : List T) → v.out ≡ Some out → IsPermutation out (tickets views)

  pub record Six (in_hand waiting : V → List T) (views : List (View O E T)) : Type 0 where
    pub value : (x : V) → h.place ≡ Some x → IsPermutation (open_tickets in_hand waiting x) (tickets views ++ waiting x)
    pub each : Each (λ j (v : View O E T). Keeps views v) views

-- 7. A pass that was joined has no number drawn, nothing in flight and no ticket, and doesn't
-- hold the turn
pub record IsIdle {O E T : Type 0} (v : View O E T) : Type 0 where
  pub drawn : v.drawn ≡ None
  pub out : v.out ≡ None
  pub given : v.given ≡ false
  pub flight : v.flight ≡ None
  pub ticket : v.ticket ≡ None

pub record Seven {O E T : Type 0} (views : List (View O E T)) : Type 0 where
  pub each : Each (λ j (v : View O E T). v.spent ≡ true → IsIdle v) views

-- The seven points, of a table's words, slot and views
pub record Rule {V O E T : Type 0} (opening : V → O) (entries : V → List E) (in_hand waiting : V → List T) (guest : E → Option ℕ) (s : State (Option V) (View O E T)) : Type 0 where
  pub inner : Inner V O E
  pub words : s.words ≡ words_of inner.drawn inner.served inner.count
  pub homes : s.homes ≡ home_of inner.place ∷ []
  pub one : One inner opening s.views
  pub two : Two inner entries s.views
  pub three : Three inner s.views
  pub four : Four inner guest s.views
  pub five : Five inner s.views
  pub six : Six inner in_hand waiting s.views
  pub seven : Seven s.views
