-- The order in which pins are kept.
use Rattle.std.specs.Prelude.{◌≡◌, ◌≢◌, ℕ, ◌≤◌, ◌<◌, List, Option, Some, length, slice_index_or}
use Rattle.jr_stamps.specs.declared.pins.Pin.{Pin}
use Rattle.jr_stamps.specs.declared.pins.Placed.{Placed}
use Rattle.jr_stamps.specs.Pins.{pin_in}

-- a holds of any two, of which the first stands before the second
abbrev pub Pairwise : {A : Type 0} → (A → A → Type 0) → List A → Type 0
Pairwise {A} R xs = (i j : ℕ) (d : A) → i < j → j < length xs → R (slice_index_or xs i d) (slice_index_or xs j d)

pub record IsBefore (a b : Placed) : Type 0 where
  pub stamps : a.stamp ≤ b.stamp
  pub keys : a.key ≢ b.key

-- the pin of that key has that stamp
abbrev pub IsKept : List (Option Pin) → Placed → Type 0
IsKept pins a = (pin : Pin) × (pin_in pins a.key ≡ Some pin) × (pin.stamp.0 ≡ a.stamp)

-- each pin has one place, by rising stamp
pub record IsInOrder (pins : List (Option Pin)) (order : List Placed) : Type 0 where
  pub rising : Pairwise IsBefore order
  pub kept : (i : ℕ) (d : Placed) → i < length order → IsKept pins (slice_index_or order i d)
  pub placed : (p : ℕ) (pin : Pin) → pin_in pins p ≡ Some pin
      → (i : ℕ) × (i < length order) × ((d : Placed) → (slice_index_or order i d).key ≡ p)

-- the first so many have stamps below the bound
abbrev pub IsBelow : List Placed → ℕ → ℕ → Type 0
IsBelow order bound n = (k : ℕ) (d : Placed) → k < n → (slice_index_or order k d).stamp < bound

-- those behind the first so many have none
abbrev pub IsNotBelow : List Placed → ℕ → ℕ → Type 0
IsNotBelow order bound n = (k : ℕ) (d : Placed) → n ≤ k → k < length order → bound ≤ (slice_index_or order k d).stamp

-- that key has a place from there on
abbrev pub HasFrom : List Placed → ℕ → ℕ → Type 0
HasFrom order first key = (i : ℕ) × (first ≤ i) × (i < length order) × ((d : Placed) → (slice_index_or order i d).key ≡ key)
