-- The first sign of the table that stands in a text is the longest.
use Rattle.std.proofs.Common.{◌≡◌, ℕ, zero, suc, ◌+◌, ◌≤◌, ◌<◌, Bool, true, false, if◌then◌else◌, not, ◌&&◌, ◌||◌, List, [], ◌∷◌, ◌++◌, length, drop, get_or, inl, inr, refl, sym, ◌∙◌, ap, arith}
use Rattle.std.specs.Prelude.{◌==◌, ◌⊎◌, IsTrue, Option, Some, None, Contains, slice_index_or}
use Rattle.std.specs.List.{list_all}
use Rattle.std.proofs.lemmas.Bool.{eqb-true, eq-eqb, and_parts, and_from, cases_lt, both_ways, not-true, true≢false}
use Rattle.std.proofs.lemmas.List.{get_or_past, drop_more, get_or-drop, drop-drop}
use Rattle.jr_lexer.specs.Signs.{Sign, signs, stands, first_sign, longest_sign}
use Rattle.jr_token_laws.specs.LongestSign.{BeginsWith, IsLongest}

abbrev no_zero : List ℕ → Bool
no_zero [] = true
no_zero (b ∷ bs) = not (b == 0) && no_zero bs

-- the second begins with the first
abbrev pub begins : List ℕ → List ℕ → Bool
begins [] t = true
begins (a ∷ s) [] = false
begins (a ∷ s) (b ∷ t) = (a == b) && begins s t

not_zero : (b : ℕ) → not (b == 0) ≡ true → b ≡ 0 → ⊥
not_zero zero h e = true≢false (sym h)
not_zero (suc b) h e = omega arith

pub stands_begins : (bs : List ℕ) (at : ℕ) (z : List ℕ) → no_zero bs ≡ true → stands bs at z ≡ true → BeginsWith (drop at z) bs
stands_begins [] at z some is = (drop at z, refl)
stands_begins (b ∷ bs) at z some is =
    let n = and_parts _ _ some in
    let s = and_parts _ _ is in
    let here : get_or z at 0 ≡ b = eqb-true _ _ s.0 in
    let rest = stands_begins bs (at + 1) z n.1 s.1 in
    go rest here (not_zero b n.0) (cases_lt at (length z))
  where
    go : BeginsWith (drop (at + 1) z) bs → get_or z at 0 ≡ b → (b ≡ 0 → ⊥) → (at < length z) ⊎ (length z ≤ at) → BeginsWith (drop at z) (b ∷ bs)
    go rest here nz (inl lt) = (rest.0, drop_more z at 0 lt ∙ (rw (here, rest.1) refl))
    go rest here nz (inr ge) = absurd (nz (sym here ∙ get_or_past z at 0 ge))

begins_stands : (bs : List ℕ) (at : ℕ) (z rest : List ℕ) → drop at z ≡ bs ++ rest → stands bs at z ≡ true
begins_stands [] at z rest is = refl
begins_stands (b ∷ bs) at z rest is =
    let here : get_or z at 0 ≡ b = ap (λ k. get_or z k 0) (omega arith) ∙ sym (get_or-drop at z 0 0) ∙ ap (λ y. get_or y 0 0) is in
    let more : drop (at + 1) z ≡ bs ++ rest = sym (drop-drop 1 at z) ∙ ap (drop 1) is in
    and_from _ _ (eq-eqb _ _ here) (begins_stands bs (at + 1) z rest more)

longer_begins : (s t z q r : List ℕ) → z ≡ s ++ q → z ≡ t ++ r → length s ≤ length t → begins s t ≡ true
longer_begins [] t z q r first second le = refl
longer_begins (a ∷ s) [] z q r first second le = absurd (omega arith)
longer_begins (a ∷ s) (b ∷ t) z q r first second le =
    let both : a ∷ (s ++ q) ≡ b ∷ (t ++ r) = sym first ∙ second in
    let same : a ≡ b = ap (λ y. get_or y 0 0) both in
    let more : s ++ q ≡ t ++ r = ap (drop 1) both in
    and_from _ _ (eq-eqb _ _ same) (longer_begins s t (s ++ q) q r refl more (omega arith))

-- no sign stands before one that begins with it
abbrev pub longest_first : List Sign → Bool
longest_first [] = true
longest_first (s ∷ ss) = no_zero s.spelling && (list_all (λ t. not (begins s.spelling t.spelling)) ss && longest_first ss)

abbrev is_read : Bool → List ℕ → Sign → Bool
is_read jml z s = (not s.jml || jml) && stands s.spelling 0 z

-- as `MayBeRead` has it, of any table
abbrev MayOf : List Sign → Bool → List ℕ → Sign → Type 0
MayOf ss jml z s = Contains ss s × (IsTrue s.jml → IsTrue jml) × BeginsWith z s.spelling

abbrev LongestOf : List Sign → Bool → List ℕ → Option Sign → Type 0
LongestOf ss jml z None = (t : Sign) → MayOf ss jml z t → ⊥
LongestOf ss jml z (Some s) = MayOf ss jml z s × ((t : Sign) → MayOf ss jml z t → length t.spelling ≤ length s.spelling)

may_be_used : (a b : Bool) → (IsTrue a → IsTrue b) → (not a || b) ≡ true
may_be_used true b h = h refl
may_be_used false b h = refl

used : (a b : Bool) → (not a || b) ≡ true → IsTrue a → IsTrue b
used true b h is = h
used false b h is = absurd (true≢false (sym is))

read_from : (jml : Bool) (z : List ℕ) (s : Sign) → (IsTrue s.jml → IsTrue jml) → BeginsWith z s.spelling → is_read jml z s ≡ true
read_from jml z s may there = and_from _ _ (may_be_used s.jml jml may) (begins_stands s.spelling 0 z there.0 there.1)

pub split : {X : Type 0} (s : X) (ss : List X) (t : X) → Contains (s ∷ ss) t → (s ≡ t) ⊎ Contains ss t
split {X} s ss t c = go c.0 c.1 c.2
  where
    go : (k : ℕ) → k < length (s ∷ ss) → slice_index_or (s ∷ ss) k t ≡ t → (s ≡ t) ⊎ Contains ss t
    go zero lt is = inl is
    go (suc k) lt is = inr (k, omega arith, is)

behind : (s : Sign) (ss : List Sign) (t : Sign) → Contains ss t → Contains (s ∷ ss) t
behind s ss t c = (suc c.0, omega (arith, c.1), c.2)

pub each : {X : Type 0} (p : X → Bool) (ss : List X) → list_all p ss ≡ true → (t : X) → Contains ss t → p t ≡ true
each p [] all t c = absurd (omega (arith, c.1))
each {X} p (s ∷ ss) all t c = go (each p ss (and_parts _ _ all).1 t) (split s ss t c)
  where
    go : (Contains ss t → p t ≡ true) → (s ≡ t) ⊎ Contains ss t → p t ≡ true
    go rest (inl is) = ap p (sym is) ∙ (and_parts _ _ all).0
    go rest (inr later) = rest later

no_longer : (z : List ℕ) (s t : Sign) → BeginsWith z s.spelling → BeginsWith z t.spelling → not (begins s.spelling t.spelling) ≡ true → length t.spelling ≤ length s.spelling
no_longer z s t first second otherwise = go (cases_lt (length s.spelling) (length t.spelling))
  where
    go : (length s.spelling < length t.spelling) ⊎ (length t.spelling ≤ length s.spelling) → length t.spelling ≤ length s.spelling
    go (inr le) = le
    go (inl lt) = absurd (both_ways _ (not-true _ otherwise) (longer_begins s.spelling t.spelling z first.0 second.0 first.1 second.1 (omega arith)))

module _ (jml : Bool) (z : List ℕ) where
  taken : (s : Sign) (ss : List Sign) → longest_first (s ∷ ss) ≡ true → is_read jml z s ≡ true → LongestOf (s ∷ ss) jml z (Some s)
  taken s ss order is =
      let o = and_parts _ _ order in
      let read = and_parts _ _ is in
      let there : BeginsWith z s.spelling = stands_begins s.spelling 0 z o.0 read.1 in
      (((0, omega arith, refl), used s.jml jml read.0, there), λ t may. shorter (and_parts _ _ o.1).0 there t may (split s ss t may.0))
    where
      shorter : list_all (λ t. not (begins s.spelling t.spelling)) ss ≡ true → BeginsWith z s.spelling → (t : Sign) → MayOf (s ∷ ss) jml z t → (s ≡ t) ⊎ Contains ss t → length t.spelling ≤ length s.spelling
      shorter order there t may (inl is) = rw is (omega arith)
      shorter order there t may (inr later) = no_longer z s t there may.2 (each _ ss order t later)

  passed : (s : Sign) (ss : List Sign) → is_read jml z s ≡ false → (found : Option Sign) → LongestOf ss jml z found → LongestOf (s ∷ ss) jml z found
  passed s ss otherwise found rest = go found rest
    where
      later : (t : Sign) → MayOf (s ∷ ss) jml z t → MayOf ss jml z t
      later t may = there (split s ss t may.0)
        where
          there : (s ≡ t) ⊎ Contains ss t → MayOf ss jml z t
          there (inl is) = absurd (both_ways _ (ap (is_read jml z) (sym is) ∙ otherwise) (read_from jml z t may.1 may.2))
          there (inr in_rest) = (in_rest, may.1, may.2)

      go : (found : Option Sign) → LongestOf ss jml z found → LongestOf (s ∷ ss) jml z found
      go None rest = λ t may. rest t (later t may)
      go (Some f) rest = ((behind s ss f rest.0.0, rest.0.1, rest.0.2), λ t may. rest.1 t (later t may))

  first_is_longest : (ss : List Sign) → longest_first ss ≡ true → LongestOf ss jml z (first_sign ss jml z)
  first_is_longest [] order = λ t may. absurd (omega (arith, may.0.1))
  first_is_longest (s ∷ ss) order =
      let o = and_parts _ _ order in
      choose (is_read jml z s) refl (first_is_longest ss (and_parts _ _ o.1).1)
    where
      choose : (b : Bool) → is_read jml z s ≡ b → LongestOf ss jml z (first_sign ss jml z) → LongestOf (s ∷ ss) jml z (if b then Some s else first_sign ss jml z)
      choose true is rest = taken s ss order is
      choose false is rest = passed s ss is (first_sign ss jml z) rest

pub signs_fall : longest_first signs ≡ true
signs_fall = refl

pub longest : (jml : Bool) (z : List ℕ) → IsLongest jml z (longest_sign jml z)
unfolding longest_sign
longest jml z = first_is_longest jml z signs signs_fall
