-- The pins that are set.
use Rattle.std.specs.Prelude.{◌≡◌, ◌≢◌, ℕ, ◌≤◌, List, Option, Some, None, slice_index_or}
use Rattle.jr_base.specs.declared.number.Stamp.{Stamp}
use Rattle.jr_stamps.specs.declared.pins.Pin.{Pin}
use Rattle.jr_stamps.specs.declared.pins.PinId.{PinId}

-- the pin of each number, or none, and how many more may be set
pub record PinsOf : Type 0 where
  pub pins : List (Option Pin)
  pub spare : ℕ

abbrev pub pin_in : List (Option Pin) → ℕ → Option Pin
pin_in pins p = slice_index_or pins p None

abbrev pub pin_at : PinsOf → ℕ → Option Pin
pin_at s p = pin_in s.pins p

-- a pin has this stamp
abbrev pub IsPinned : PinsOf → ℕ → Type 0
IsPinned s stamp = (p : ℕ) × (pin : Pin) × (pin_at s p ≡ Some pin) × (pin.stamp.0 ≡ stamp)

-- the pin of that number is now so, and each other pin as before
pub record Changes (old : PinsOf) (p : ℕ) (pin : Option Pin) (new : PinsOf) : Type 0 where
  pub changed : pin_at new p ≡ pin
  pub others : (other : ℕ) → other ≢ p → pin_at new other ≡ pin_at old other

-- the greatest pinned stamp that is at most `bound`, with a pin of it
pub record IsGreatest (pins : List (Option Pin)) (bound p stamp : ℕ) : Type 0 where
  pub pin : Pin
  pub is : pin_in pins p ≡ Some pin
  pub same : pin.stamp.0 ≡ stamp
  pub upto : stamp ≤ bound
  pub greatest : (q : ℕ) (other : Pin) → pin_in pins q ≡ Some other → other.stamp.0 ≤ bound → other.stamp.0 ≤ stamp

-- a pin of the greatest pinned stamp that is at most `bound`, or none where no pinned stamp is
abbrev pub IsLatest : List (Option Pin) → ℕ → Option (PinId × Stamp) → Type 0
IsLatest pins bound None = (p : ℕ) (pin : Pin) → pin_in pins p ≡ Some pin → pin.stamp.0 ≤ bound → ⊥
IsLatest pins bound (Some found) = IsGreatest pins bound found.0.0 found.1.0
