-- Which stamps are pinned, as the pins' stamps tell it.
use Rattle.std.proofs.Common.{◌≡◌, ◌≤◌, inl, inr, ap, sym, ◌∙◌, arith}
use Rattle.std.specs.Prelude.{ℕ, Some, None}
use Rattle.std.proofs.lemmas.Bool.{cases_eq}
use Rattle.jr_base.specs.declared.number.Stamp.{Stamp}
use Rattle.jr_stamps.specs.declared.pins.Pin.{Pin}
use Rattle.jr_stamps.specs.Pins.{PinsOf, pin_at, IsPinned, Changes}
use Rattle.jr_version_heap.specs.Needs.{stamp_of}
use Rattle.jr_version_heap.proofs.Stands.{had_stamp}

pub stamp_pinned : (pins : PinsOf) (p k : ℕ) → stamp_of (pin_at pins p) ≡ Some k → IsPinned pins k
stamp_pinned pins p k is = let h = had_stamp (pin_at pins p) k is in (p, h.0, h.1, h.2)

-- a new pin keeps the bound of all stamps
pub pinned_upto : (old new : PinsOf) (p k bound : ℕ) (s : Stamp) → Changes old p (Some (record { stamp = s; head = None })) new
    → ((j : ℕ) → IsPinned old j → j ≤ bound) → s.0 ≤ bound → IsPinned new k → k ≤ bound
pinned_upto old new p k bound s changes upto small pinned =
    elim (cases_eq pinned.0 p) [
      | inl here ↦
          let fresh : Pin = record { stamp = s; head = None } in
          let e : pinned.1 ≡ fresh = (let d : pin_at new p ≡ Some pinned.1 = ap (pin_at new) (sym here) ∙ pinned.2 in let c = changes.changed in cc) in
          let k_is : s.0 ≡ k = ap (λ (z : Pin). z.stamp.0) (sym e) ∙ pinned.3 in
          omega arith
      | inr there ↦ upto k (pinned.0, pinned.1, sym (changes.others pinned.0 there) ∙ pinned.2, pinned.3)
    ]
