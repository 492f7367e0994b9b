use Rattle.std.proofs.Common.{◌≡◌, ℕ, ◌+◌, ◌-◌, ◌<◌, ◌++◌, List, [], length, min, take, drop, sym, ap, ◌∙◌, arith, length-take, length-drop, length-append, take-append-drop, take_all, drop_of_length-le, le_refl}
use lib.Seq.{take-take, drop-drop, take-append-le}
use Rattle.jr_io.proofs.memory.MemSourceSource.read.Goals as goal

-- what is given and what is left after it are what was left
left_parts : (left into : List ℕ) (n : ℕ) → n ≡ min (length left) (length into) → left ≡ take n (take n left ++ drop n into) ++ drop n left
left_parts left into n count =
    sym (take-append-drop n left) ∙ ap (λ l. l ++ drop n left) (sym (take-append-le n (take n left) (drop n into) (omega (arith, length-take n left)) ∙ take-take n n left (le_refl n)))

-- nothing is given into room only where nothing is left
none_left : (left into : List ℕ) (n : ℕ) → n ≡ min (length left) (length into) → n ≡ 0 → 0 < length (take n left ++ drop n into) → drop n left ≡ []
none_left left into n count none room =
    drop_of_length-le left (omega (arith, length-append (take n left) (drop n into), length-take n left, length-drop n into))

-- the same of a slice from a place on
parts_from : (xs bytes left into gave : List ℕ) (at n : ℕ) → xs ≡ bytes → drop at bytes ≡ left
    → n ≡ min (length (take (length xs - at) (drop at xs))) (length into) → gave ≡ take n (take (length xs - at) (drop at xs)) ++ drop n into
    → (left ≡ take n gave ++ drop (at + n) bytes) × (n ≡ 0 → 0 < length gave → drop (at + n) bytes ≡ [])
parts_from xs bytes left into gave at n same from count given =
    let slice : take (length xs - at) (drop at xs) ≡ left = take_all (length xs - at) (drop at xs) (omega (arith, length-drop at xs)) ∙ ap (drop at) same ∙ from in
    let rest : drop n left ≡ drop (at + n) bytes = ap (drop n) (sym from) ∙ drop-drop n at bytes in
    let counted : n ≡ min (length left) (length into) = rw slice at count in
    let gave_is : gave ≡ take n left ++ drop n into = rw slice at given in
    (rw (gave_is, ← rest) (left_parts left into n counted), λ none. rw (gave_is, ← rest) (none_left left into n counted none))

pub returns-clause-bytes : goal.returns-clause-bytes
returns-clause-bytes c =
    parts_from _ _ _ _ _ _ _ c.deref.ensures.value (ap (λ s. s.left) c.self.view_is) c.copy_front-count.ensures.count c.copy_front-count.ensures.front
