-- Laws of the places of cells.
use Rattle.std.proofs.Common.{◌≡◌, ◌<◌, ◌+◌, inl, inr, ℕ, Option, Some, None, Bool, true, false, cond, refl, sym, ◌∙◌, ap, arith}
use Rattle.std.specs.Prelude.{nat_lt}
use Rattle.std.proofs.lemmas.Bool.{cases_eq, ltb-true}
use Rattle.jr_base.specs.declared.value.Cell.{Cell}
use Rattle.jr_heap.specs.declared.layout.Place.{Place}
use Rattle.jr_heap.specs.Layout.{LayoutOf, IsLaidOut, HasOwnPlaces, slot_at, object_at, cell_at}

-- what a place of a slot comes from
pub record FoundAt (p : Option Place) (slot at : ℕ) : Type 0 where
  pub place : Place
  pub is : p ≡ Some place
  pub within : slot < place.len
  pub sum : at ≡ place.start + slot

found_in : (q : Place) (slot at : ℕ) (b : Bool) → nat_lt slot q.len ≡ b → cond b (Some (q.start + slot)) None ≡ Some at
    → FoundAt (Some q) slot at
found_in q slot at true below found = record { place = q; is = refl; within = ltb-true _ _ below; sum = cc }
found_in q slot at false below found = cc

pub found : (p : Option Place) (slot at : ℕ) → slot_at p slot ≡ Some at → FoundAt p slot at
found None slot at h = cc
found (Some q) slot at h = found_in q slot at (nat_lt slot q.len) refl h

below : (l : LayoutOf) → IsLaidOut l.objects l.cells → (c : Cell) (at : ℕ) → cell_at l c ≡ Some at → at < l.cells
below l ok c at h =
    let f = found (object_at l c.obj) c.slot at h in let e = ok.within c.obj.0 f.place f.is in omega (arith, f.within, f.sum)

same_cell : (c d : Cell) → c.obj.0 ≡ d.obj.0 → c.slot ≡ d.slot → d ≡ c
same_cell c d o s =
    let cell : ℕ → ℕ → Cell = λ n m. record { obj = record { 0 = n }; slot = m } in
    ap (λ n. cell n d.slot) (sym o) ∙ ap (λ n. cell c.obj.0 n) (sym s)

own : (l : LayoutOf) → IsLaidOut l.objects l.cells → (c d : Cell) (at : ℕ) → cell_at l c ≡ Some at → cell_at l d ≡ Some at → d ≡ c
own l ok c d at h k =
    let f = found (object_at l c.obj) c.slot at h in let g = found (object_at l d.obj) d.slot at k in
    elim (cases_eq c.obj.0 d.obj.0) [
      | inl same ↦
          let e : f.place ≡ g.place = cc (f.is, g.is, same) in
          let s : c.slot ≡ d.slot = (let e' = ap (λ (q : Place). q.start) e in omega (arith, f.sum, g.sum, e')) in
          same_cell c d same s
      | inr other ↦ absurd (elim (ok.apart c.obj.0 d.obj.0 f.place g.place (λ e. other (sym e)) f.is g.is) [
        | inl a ↦ omega (arith, f.within, f.sum, g.within, g.sum)
        | inr b ↦ omega (arith, f.within, f.sum, g.within, g.sum)
      ])
    ]

pub own_places : (l : LayoutOf) → IsLaidOut l.objects l.cells → HasOwnPlaces l
own_places l ok = record { below = below l ok; own = own l ok }
