-- The text of an annotation is made of elements.
use Rattle.std.proofs.Common.{◌≡◌, ℕ, zero, suc, ◌+◌, ◌≤◌, ◌<◌, Bool, true, false, if◌then◌else◌, ◌&&◌, ◌||◌, List, [], ◌∷◌, ◌++◌, length, take, drop, get_or, replicate, inl, inr, refl, sym, ◌∙◌, ap, ap₂, subst, subst₂, arith, length-drop}
use Rattle.std.specs.Prelude.{◌==◌, ◌⊎◌, Ok, codes}
use Rattle.std.specs.List.{prefix_len, flat_map}
use Rattle.std.proofs.lemmas.Bool.{eqb-true, eq-eqb, and_parts, and_from, or_parts, or_cases, both_ways, cases_lt}
use Rattle.std.proofs.lemmas.List.{take-append-drop, drop_more, drop_all, length-take-le, length-replicate}
use Rattle.std.proofs.lemmas.List.Sums.{prefix_len-le-length, prefix_len_stops}
use Rattle.jr_lexer.specs.Token.{Token}
use Rattle.jr_lexer.specs.Lexical.{Text, is_blank, is_at, in_line, begins_line_comment, pieces, jml_piece, is_fresh, annotation}
use Rattle.jr_token_laws.specs.LongestSign.{BeginsWith}
use Rattle.jr_token_laws.specs.Elements.{JmlElement, JmlBlank, JmlComment, Ats, JmlToken, jml_bytes, jml_tokens, IsBlank, BeginsWithAt, JmlStands, is_fresh_behind, AllJmlStand}
use Rattle.jr_token_laws.proofs.Cuts.{choice, same_read, cut}
use Rattle.jr_token_laws.proofs.Prefixes.{first_two, line_has_no_line_feed, line_ends}
use Rattle.jr_token_laws.proofs.Singles.{Single, some_prefix}
use Rattle.jr_token_laws.proofs.Tokens.{of_token}

is_there : (a b k : ℕ) → k < 5 → get_or (32 ∷ 9 ∷ 10 ∷ 13 ∷ 12 ∷ []) k b ≡ a → (b == a) ≡ true → IsBlank b
is_there a b k lt is test = (k, lt, is ∙ sym (eqb-true b a test))

pub blank : (b : ℕ) → is_blank b ≡ true → IsBlank b
blank b is = first (or_cases (b == 32 || b == 9 || b == 10 || b == 13) (b == 12) is)
  where
    fourth : ((b == 32) ≡ true) ⊎ ((b == 9) ≡ true) → IsBlank b
    fourth (inl h) = is_there 32 b 0 (omega arith) refl h
    fourth (inr h) = is_there 9 b 1 (omega arith) refl h

    third : ((b == 32 || b == 9) ≡ true) ⊎ ((b == 10) ≡ true) → IsBlank b
    third (inl h) = fourth (or_cases (b == 32) (b == 9) h)
    third (inr h) = is_there 10 b 2 (omega arith) refl h

    second : ((b == 32 || b == 9 || b == 10) ≡ true) ⊎ ((b == 13) ≡ true) → IsBlank b
    second (inl h) = third (or_cases (b == 32 || b == 9) (b == 10) h)
    second (inr h) = is_there 13 b 3 (omega arith) refl h

    first : ((b == 32 || b == 9 || b == 10 || b == 13) ≡ true) ⊎ ((b == 12) ≡ true) → IsBlank b
    first (inl h) = second (or_cases (b == 32 || b == 9 || b == 10) (b == 13) h)
    first (inr h) = is_there 12 b 4 (omega arith) refl h

-- an element at the front, and what is behind it
record Front (fresh : Bool) (at b : ℕ) (z : Text) (p : List Token × ℕ) : Type 0 where
  element : JmlElement
  some : 1 ≤ p.1
  all : length (jml_bytes element) ≡ p.1
  bytes : b ∷ z ≡ jml_bytes element ++ drop p.1 (b ∷ z)
  tokens : p.0 ≡ jml_tokens element
  next : is_fresh b fresh ≡ is_fresh_behind element fresh
  stands : JmlStands fresh at element (drop p.1 (b ∷ z))

pub not_fresh : (b : ℕ) (fresh : Bool) → is_blank b ≡ false → is_fresh b fresh ≡ false
not_fresh b fresh is =
    let parts = or_parts (b == 32 || b == 9 || b == 10 || b == 13) (b == 12) is in
    let more = or_parts (b == 32 || b == 9 || b == 10) (b == 13) parts.0 in
    let line = (or_parts (b == 32 || b == 9) (b == 10) more.0).1 in
    go fresh line
  where
    go : (f : Bool) → (b == 10) ≡ false → (b == 10 || (f && is_blank b)) ≡ false
    go true line = ap₂ (λ x y. x || y) line is
    go false line = ap (λ x. x || false) line

pub still_fresh : (b : ℕ) (fresh : Bool) → is_blank b ≡ true → is_fresh b fresh ≡ (b == 10 || fresh)
still_fresh b true is = rw is refl
still_fresh b false is = refl

of_blank : (fresh : Bool) (at b : ℕ) (z : Text) → is_blank b ≡ true → Front fresh at b z ([], 1)
of_blank fresh at b z is = record { element = JmlBlank b; some = omega arith; all = refl; bytes = refl; tokens = refl; next = still_fresh b fresh is; stands = blank b is }

-- ---- a run of `@`

ats : (z : Text) → take (prefix_len is_at z) z ≡ replicate (prefix_len is_at z) 64
ats [] = refl
ats (b ∷ z) = go (is_at b) refl (ats z)
  where
    go : (t : Bool) → is_at b ≡ t → take (prefix_len is_at z) z ≡ replicate (prefix_len is_at z) 64 →
        take (if t then 1 + prefix_len is_at z else 0) (b ∷ z) ≡ replicate (if t then 1 + prefix_len is_at z else 0) 64
    go false test rest = refl
    go true test rest =
        let more : 1 + prefix_len is_at z ≡ suc (prefix_len is_at z) = omega arith in
        let at : b ≡ 64 = eqb-true b 64 test in
        rw (more, at, rest) refl

no_more_ats : (z : Text) → BeginsWithAt (drop (prefix_len is_at z) z) → ⊥
no_more_ats z (rest, is) = go (cases_lt (prefix_len is_at z) (length z))
  where
    go : (prefix_len is_at z < length z) ⊎ (length z ≤ prefix_len is_at z) → ⊥
    go (inl lt) =
        let stops : is_at (get_or z (prefix_len is_at z) 0) ≡ false = prefix_len_stops is_at z 0 lt in
        let front : get_or z (prefix_len is_at z) 0 ≡ 64 = ap (λ y. get_or y 0 0) (sym (drop_more z (prefix_len is_at z) 0 lt) ∙ is) in
        both_ways _ stops (eq-eqb _ _ front)
    go (inr ge) = let none : [] ≡ 64 ∷ rest = sym (drop_all (prefix_len is_at z) z ge) ∙ is in absurd (cc)

of_ats : (fresh : Bool) (at b : ℕ) (z : Text) → (b == 64 && fresh) ≡ true → Front fresh at b z ([], prefix_len is_at (b ∷ z))
of_ats fresh at b z is =
    let both = and_parts (b == 64) fresh is in
    let n = prefix_len is_at (b ∷ z) in
    let run : take n (b ∷ z) ≡ replicate n 64 = ats (b ∷ z) in
    let here : b ≡ 64 = eqb-true b 64 both.0 in
    record {
      element = Ats n;
      some = some_prefix is_at b z both.0;
      all = length-replicate n 64;
      bytes = sym (take-append-drop n (b ∷ z)) ∙ ap (λ y. y ++ drop n (b ∷ z)) run;
      tokens = refl;
      next = not_fresh b fresh (ap is_blank here);
      stands = (both.1, some_prefix is_at b z both.0, no_more_ats (b ∷ z));
    }

-- ---- a comment

pub line_length : (z : Text) → prefix_len in_line (47 ∷ 47 ∷ z) ≡ suc (suc (prefix_len in_line z))
line_length z = omega arith

of_comment : (fresh : Bool) (at : ℕ) (z : Text) → Front fresh at 47 (47 ∷ z) ([], suc (suc (prefix_len in_line z)))
of_comment fresh at z =
    let n = prefix_len in_line z in
    record {
      element = JmlComment (take n z);
      some = omega arith;
      all = ap (λ m. suc (suc m)) (length-take-le n z (prefix_len-le-length in_line z));
      bytes = ap (λ y. 47 ∷ 47 ∷ y) (sym (take-append-drop n z));
      tokens = refl;
      next = not_fresh 47 fresh refl;
      stands = (line_has_no_line_feed z, line_ends z);
    }

of_line : (fresh : Bool) (at b : ℕ) (z : Text) → begins_line_comment (b ∷ z) ≡ true → Front fresh at b z ([], prefix_len in_line (b ∷ z))
of_line fresh at b z is =
    let two = first_two 47 47 (b ∷ z) (λ e. absurd (omega arith)) (λ e. absurd (omega arith)) is in
    let one : b ≡ 47 = ap (λ y. get_or y 0 0) two.1 in
    let rest : z ≡ 47 ∷ two.0 = ap (drop 1) two.1 in
    let there : Front fresh at 47 (47 ∷ two.0) ([], prefix_len in_line (47 ∷ 47 ∷ two.0)) = subst (λ n. Front fresh at 47 (47 ∷ two.0) ([], n)) (sym (line_length two.0)) (of_comment fresh at two.0) in
    subst₂ (λ c y. Front fresh at c y ([], prefix_len in_line (c ∷ y))) (sym one) (sym rest) there

-- ---- a token

-- where no comment begins, none does before a token there
pub no_comment : (n : ℕ) (z mark : Text) (test : Text → Bool) → test z ≡ false → ((r : Text) → test (mark ++ r) ≡ true) → BeginsWith (take n z ++ drop n z) mark → ⊥
no_comment n z mark test otherwise always (r, is) = both_ways _ otherwise (ap test (sym (take-append-drop n z) ∙ is) ∙ always r)

of_single : (fresh : Bool) (at b : ℕ) (z : Text) (p : List Token × ℕ) → is_blank b ≡ false → (b == 64 && fresh) ≡ false → begins_line_comment (b ∷ z) ≡ false → Single true at (b ∷ z) p → Front fresh at b z p
of_single fresh at b z p no_blank no_at no_line s = record {
  element = JmlToken s.token (take p.1 (b ∷ z));
  some = s.some;
  all = length-take-le p.1 (b ∷ z) s.within;
  bytes = sym (take-append-drop p.1 (b ∷ z));
  tokens = s.tokens;
  next = not_fresh b fresh no_blank;
  stands = (s.is, λ is_fresh at. both_ways _ no_at (and_from _ _ (begins p.1 s.some at) is_fresh), no_comment p.1 (b ∷ z) (codes "//") begins_line_comment no_line (λ r. refl));
}
  where
    begins : (n : ℕ) → 1 ≤ n → BeginsWithAt (take n (b ∷ z)) → (b == 64) ≡ true
    begins zero some at = absurd (omega arith)
    begins (suc n) some at = eq-eqb b 64 (ap (λ y. get_or y 0 0) at.1)

front : (fresh : Bool) (at b : ℕ) (z : Text) (p : List Token × ℕ) → jml_piece fresh at (b ∷ z) ≡ Ok p → Front fresh at b z p
unfolding jml_piece
front fresh at b z p is =
    choice (is_blank b) _ _ p _ is (λ blank read. subst (Front fresh at b z) (same_read ([], 1) p read) (of_blank fresh at b z blank)) (λ no_blank is.
    choice (b == 64 && fresh) _ _ p _ is (λ run read. subst (Front fresh at b z) (same_read ([], prefix_len is_at (b ∷ z)) p read) (of_ats fresh at b z run)) (λ no_at is.
    choice (begins_line_comment (b ∷ z)) _ _ p _ is (λ line read. subst (Front fresh at b z) (same_read ([], prefix_len in_line (b ∷ z)) p read) (of_line fresh at b z line)) (λ no_line read.
    of_single fresh at b z p no_blank no_at no_line (of_token true at b z p read))))

-- ---- the text

pub record Made (fresh : Bool) (at : ℕ) (z : Text) (ts : List Token) : Type 0 where
  pub elements : List JmlElement
  pub bytes : z ≡ flat_map jml_bytes elements
  pub tokens : ts ≡ flat_map jml_tokens elements
  pub stand : AllJmlStand fresh at elements

join : (fresh : Bool) (at b : ℕ) (z : Text) (p : List Token × ℕ) (more ts : List Token) → Front fresh at b z p → ts ≡ p.0 ++ more → Made (is_fresh b fresh) (at + p.1) (drop p.1 (b ∷ z)) more → Made fresh at (b ∷ z) ts
join fresh at b z p more ts f both m = record {
  elements = f.element ∷ m.elements;
  bytes = f.bytes ∙ ap (λ y. jml_bytes f.element ++ y) m.bytes;
  tokens = both ∙ ap (λ us. us ++ more) f.tokens ∙ ap (λ us. jml_tokens f.element ++ us) m.tokens;
  stand = (subst (JmlStands fresh at f.element) m.bytes f.stands, subst₂ (λ g k. AllJmlStand g (at + k) m.elements) f.next (sym f.all) m.stand);
}

made : (fuel : ℕ) (fresh : Bool) (at : ℕ) (z : Text) (ts : List Token) → length z ≤ fuel → pieces jml_piece is_fresh 0 fresh at z ≡ Ok ts → Made fresh at z ts
made fuel fresh at [] ts le is = record { elements = []; bytes = refl; tokens = sym (same_read [] ts is); stand = tt }
made zero fresh at (b ∷ z) ts le is = absurd (omega arith)
made (suc fuel) fresh at (b ∷ z) ts le is =
    let c = cut jml_piece is_fresh fresh at b z ts is in
    let f = front fresh at b z c.front c.reads in
    let less : length (drop c.front.1 (b ∷ z)) ≤ fuel = omega (arith, length-drop c.front.1 (b ∷ z), f.some) in
    join fresh at b z c.front c.more ts f c.tokens (made fuel (is_fresh b fresh) (at + c.front.1) (drop c.front.1 (b ∷ z)) c.more less (c.behind f.some))

pub annotation_made : (at : ℕ) (z : Text) (ts : List Token) → annotation at z ≡ Ok ts → Made true at z ts
unfolding annotation
annotation_made at z ts is = made (length z) true at z ts (omega arith) is
