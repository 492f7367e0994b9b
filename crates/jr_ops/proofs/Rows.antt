-- What the row of a word says of the words.
use Rattle.std.proofs.Common.{◌≡◌, ◌≢◌, ℕ, zero, suc, ◌+◌, ◌-◌, ◌≤◌, ◌<◌, Bool, true, false, cond, List, [], ◌∷◌, length, Option, Some, None, refl, sym, ap, arith}
use Rattle.std.specs.Prelude.{slice_get, AllPairs, IfSome, IfNone}
use Rattle.std.specs.Str.{bytes_eq}
use Rattle.std.proofs.lemmas.Slice.Eq.{bytes_eq-Decides}
use Rattle.std.proofs.lemmas.Cmp.{nat_list_eq_equiv}
use Rattle.std.proofs.lemmas.Map.Made.{AllPairs-from_IsDistinct, IsDistinct-from_count}
use Rattle.jr_ops.specs.Keywords.{keywords, row_from}

found_step : (w word : List ℕ) (ws : List (List ℕ)) (at row : ℕ) (later : row_from (at + 1) ws word ≡ Some row → (at + 1 ≤ row) × (slice_get ws (row - (at + 1)) ≡ Some word)) (b : Bool) → bytes_eq w word ≡ b → cond b (Some at) (row_from (at + 1) ws word) ≡ Some row → (at ≤ row) × (slice_get (w ∷ ws) (row - at) ≡ Some word)
found_step w word ws at row later true e h =
    let same : at ≡ row = cc in
    let first : row - at ≡ 0 = omega arith in
    (omega arith, rw first (ap Some ((bytes_eq-Decides w word).0 e)))
found_step w word ws at row later false e h =
    let there = later h in
    let above : at + 1 ≤ row = there.0 in
    let next : row - at ≡ suc (row - (at + 1)) = omega arith in
    (omega arith, rw next there.1)

-- a word that is found stands in its row
found_at : (at : ℕ) (ws : List (List ℕ)) (word : List ℕ) (row : ℕ) → row_from at ws word ≡ Some row → (at ≤ row) × (slice_get ws (row - at) ≡ Some word)
found_at at [] word row h = absurd (cc)
found_at at (w ∷ ws) word row h = found_step w word ws at row (found_at (at + 1) ws word row) (bytes_eq w word) refl h

nowhere_step : (w word : List ℕ) (ws : List (List ℕ)) (at : ℕ) (later : row_from (at + 1) ws word ≡ None → (row : ℕ) → slice_get ws row ≢ Some word) (b : Bool) → bytes_eq w word ≡ b → cond b (Some at) (row_from (at + 1) ws word) ≡ None → (row : ℕ) → slice_get (w ∷ ws) row ≢ Some word
nowhere_step w word ws at later true e h row there = absurd (cc)
nowhere_step w word ws at later false e h zero there =
    let same : w ≡ word = cc in
    let equal : bytes_eq w word ≡ true = (bytes_eq-Decides w word).1 same in
    cc
nowhere_step w word ws at later false e h (suc row) there = later h row there

-- a word that isn't found stands in no row
found_nowhere : (at : ℕ) (ws : List (List ℕ)) (word : List ℕ) → row_from at ws word ≡ None → (row : ℕ) → slice_get ws row ≢ Some word
found_nowhere at [] word h row there = absurd (cc)
found_nowhere at (w ∷ ws) word h row there = nowhere_step w word ws at (found_nowhere (at + 1) ws word) (bytes_eq w word) refl h row there

pub found : (ws : List (List ℕ)) (word : List ℕ) (r : Option ℕ) → r ≡ row_from 0 ws word → IfSome r (λ row. slice_get ws row ≡ Some word)
found ws word None e = tt
found ws word (Some row) e = let all : row - 0 ≡ row = omega arith in rw all at (found_at 0 ws word row (sym e)).1

pub nowhere : (ws : List (List ℕ)) (word : List ℕ) (r : Option ℕ) → r ≡ row_from 0 ws word → IfNone r ((row : ℕ) → slice_get ws row ≢ Some word)
nowhere ws word None e = found_nowhere 0 ws word (sym e)
nowhere ws word (Some row) e = tt

pub few : (jml : Bool) → length (keywords jml) < 256
unfolding keywords
few true = omega arith
few false = omega arith

pub no_twins : AllPairs (λ x y. x ≢ y) (keywords true)
unfolding keywords
no_twins = AllPairs-from_IsDistinct bytes_eq-Decides (keywords true) (IsDistinct-from_count nat_list_eq_equiv (keywords true) refl)
