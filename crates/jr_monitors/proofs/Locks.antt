-- Laws of the objects that a thread owns.
use Rattle.std.proofs.Common.{◌≡◌, ◌≢◌, ◌<◌, ◌+◌, ◌⊎◌, inl, inr, ◌↔◌, ℕ, zero, suc, Bool, true, false, not, eqb, eq-eqb, eqb-true, true≢false, List, [], ◌∷◌, length, get_or, Contains, refl, sym, ◌∙◌, ap, subst, arith}
use Rattle.std.proofs.lemmas.Bool.{cases_eq}
use Rattle.std.proofs.lemmas.List.Elements.{Contains-get_or}
use Rattle.jr_base.specs.declared.number.ObjId.{ObjId}
use Rattle.jr_base.specs.Rising.{IsRising, HasAlso}
use Rattle.jr_base.proofs.RisingLists.{IsRising-unique}
use Rattle.jr_monitors.specs.Roster.{Without}

-- the object is one of the first so many
abbrev pub Among : List ObjId → ℕ → ObjId → Type 0
Among objects n o = (k : ℕ) × (k < n) × (get_or objects k o ≡ o)

-- an item is the same whatever the default
at_any : (xs : List ObjId) (k : ℕ) (c d : ObjId) → k < length xs → get_or xs k c ≡ get_or xs k d
at_any [] k c d within = absurd (omega (arith, within))
at_any (x ∷ xs) zero c d within = cc
at_any (x ∷ xs) (suc k) c d within = at_any xs k c d (omega (arith, within))

more : (xs : List ObjId) (n : ℕ) (x z o : ObjId) → n < length xs → x ≡ get_or xs n z → (o ≡ x) ⊎ Among xs n o → Among xs (n + 1) o
more xs n x z o within here (inl same) = (n, omega arith, at_any xs n o z within ∙ (sym here ∙ sym same))
more xs n x z o within here (inr before) = (before.0, omega (arith, before.1), before.2)

fewer : (xs : List ObjId) (n : ℕ) (x z o : ObjId) → n < length xs → x ≡ get_or xs n z → Among xs (n + 1) o → (o ≡ x) ⊎ Among xs n o
fewer xs n x z o within here among = elim (cases_eq among.0 n) [
  | inl last ↦ inl (sym among.2 ∙ (ap (λ k. get_or xs k o) last ∙ (at_any xs n o z within ∙ sym here)))
  | inr other ↦ inr (among.0, omega (arith, among.1), among.2)
]

-- an object of a rising list isn't among those before it
pub not_before : (xs : List ObjId) (n : ℕ) (x z : ObjId) → IsRising xs → n < length xs → x ≡ get_or xs n z → Among xs n x → ⊥
not_before xs n x z rising within here among =
    let below = rising among.0 n z among.1 within in
    let e : (get_or xs among.0 z).0 ≡ (get_or xs n z).0 = ap (λ (o : ObjId). o.0) (at_any xs among.0 z x (omega (arith, among.1, within)) ∙ (among.2 ∙ here)) in
    omega (arith, below, e)

whole_to : (xs : List ObjId) (o : ObjId) → Among xs (length xs) o → Contains xs o
whole_to xs o among = subst (Contains xs) among.2 (Contains-get_or xs among.0 o among.1)

whole_from : (xs : List ObjId) (o : ObjId) → Contains xs o → Among xs (length xs) o
whole_from xs o held = (held.0, held.1, held.2)

-- one object more was copied
pub copied_more : (copy new xs : List ObjId) (n : ℕ) (x z : ObjId) → n < length xs → x ≡ get_or xs n z
    → ((o : ObjId) → Contains copy o ↔ Among xs n o) → HasAlso copy x new → (o : ObjId) → Contains new o ↔ Among xs (n + 1) o
copied_more copy new xs n x z within here same also o = (
  λ held. more xs n x z o within here (elim ((also o).0 held) [ inl is ↦ inl is | inr before ↦ inr ((same o).0 before) ]),
  λ among. (also o).1 (elim (fewer xs n x z o within here among) [ inl is ↦ inl is | inr before ↦ inr ((same o).1 before) ]),
)

-- all were copied
pub copied_all : (copy xs : List ObjId) → IsRising copy → IsRising xs → ((o : ObjId) → Contains copy o ↔ Among xs (length xs) o) → copy ≡ xs
copied_all copy xs rises rising same =
    IsRising-unique copy xs rises rising (λ o. (λ held. whole_to xs o ((same o).0 held), λ held. (same o).1 (whole_from xs o held)))

-- one object more is left, or it is that one
pub left_more : (left new xs : List ObjId) (n : ℕ) (object x z : ObjId) → n < length xs → x ≡ get_or xs n z → x ≢ object
    → ((o : ObjId) → Contains left o ↔ ((o ≢ object) × Among xs n o)) → HasAlso left x new
    → (o : ObjId) → Contains new o ↔ ((o ≢ object) × Among xs (n + 1) o)
left_more left new xs n object x z within here other same also o = (
  λ held. elim ((also o).0 held) [
    | inl is ↦ (λ e. other (sym is ∙ e), more xs n x z o within here (inl is))
    | inr before ↦ let known = (same o).0 before in (known.0, more xs n x z o within here (inr known.1))
  ],
  λ among. (also o).1 (elim (fewer xs n x z o within here among.1) [ inl is ↦ inl is | inr before ↦ inr ((same o).1 (among.0, before)) ]),
)

pub left_out : (left xs : List ObjId) (n : ℕ) (object x z : ObjId) → n < length xs → x ≡ get_or xs n z → x ≡ object
    → ((o : ObjId) → Contains left o ↔ ((o ≢ object) × Among xs n o))
    → (o : ObjId) → Contains left o ↔ ((o ≢ object) × Among xs (n + 1) o)
left_out left xs n object x z within here is same o = (
  λ held. let known = (same o).0 held in (known.0, more xs n x z o within here (inr known.1)),
  λ among. (same o).1 (among.0, elim (fewer xs n x z o within here among.1) [ inl e ↦ absurd (among.0 (e ∙ is)) | inr before ↦ before ]),
)

pub left_all : (left xs : List ObjId) (object : ObjId) → ((o : ObjId) → Contains left o ↔ ((o ≢ object) × Among xs (length xs) o)) → Without xs object left
left_all left xs object same o = (
  λ held. let known = (same o).0 held in (known.0, whole_to xs o known.1),
  λ held. (same o).1 (held.0, whole_from xs o held.1),
)

-- ---- whether two objects are one

pub apart_by_test : (x o : ObjId) → not (eqb x.0 o.0) ≡ true → x ≢ o
apart_by_test x o differs same = true≢false (sym differs ∙ ap not (eq-eqb x.0 o.0 (ap (λ (p : ObjId). p.0) same)))

of_number : (x o : ObjId) → x.0 ≡ o.0 → x ≡ o
of_number x o same = ap (λ n. let p : ObjId = record { 0 = n } in p) same

same_by_not : (a b : ℕ) (t : Bool) → eqb a b ≡ t → not t ≡ false → a ≡ b
same_by_not a b true is e = eqb-true a b is
same_by_not a b false is e = absurd (true≢false e)

pub same_by_test : (x o : ObjId) → not (eqb x.0 o.0) ≡ false → x ≡ o
same_by_test x o e = of_number x o (same_by_not x.0 o.0 (eqb x.0 o.0) refl e)
