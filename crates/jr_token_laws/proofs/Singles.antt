-- What is read as a token at a place is one token, whose bytes stand there.
use Rattle.std.proofs.Common.{◌≡◌, ℕ, zero, suc, ◌+◌, ◌≤◌, ◌<◌, Bool, true, false, if◌then◌else◌, ◌&&◌, nat_lt, List, [], ◌∷◌, length, take, drop, slice_index, Option, Some, None, refl, sym, ◌∙◌, ap, subst, arith, length-append}
use Rattle.std.specs.Prelude.{◌==◌, Ok}
use Rattle.std.specs.List.{prefix_len, list_all}
use Rattle.std.proofs.lemmas.Bool.{eqb-true, eqb-false, ltb-true, and_parts, and_from, or_left}
use Rattle.std.proofs.lemmas.List.{length-take-le, take-append-drop, take_at}
use Rattle.std.proofs.lemmas.List.Sums.{prefix_len-le-length}
use Rattle.jr_base.specs.declared.refusal.Refusal.TheVariants.{BadToken}
use Rattle.jr_lexer.specs.declared.kind.Kind.{Kind}
use Rattle.jr_lexer.specs.declared.number.Number.{Number}
use Rattle.jr_lexer.specs.Numbers.{no_number}
use Rattle.jr_lexer.specs.Signs.{Sign, signs, longest_sign}
use Rattle.jr_lexer.specs.Token.{Token}
use Rattle.jr_lexer.specs.Lexical.{Text, here, one, literal, in_name, in_backslash_word, begins_name, word_kind, word, backslash_kind, backslash_word, sign_of, sign}
use Rattle.jr_token_laws.specs.LongestSign.{IsLongest}
use Rattle.jr_token_laws.specs.Spelling.{is_letter_or_digit, Stops, IsSpelled, AsWord, AsBackslashWord, AsSign}
use Rattle.jr_token_laws.specs.Elements.{IsToken}
use Rattle.jr_token_laws.proofs.Cuts.{choice, same_read, none_read}
use Rattle.jr_token_laws.proofs.FirstSigns.{each, longest}

pub record Single (jml : Bool) (at : ℕ) (z : Text) (p : List Token × ℕ) : Type 0 where
  pub token : Token
  pub some : 1 ≤ p.1
  pub within : p.1 ≤ length z
  pub tokens : p.0 ≡ token ∷ []
  pub is : IsToken jml at token (take p.1 z) (drop p.1 z)

abbrev pub made : Bool → ℕ → Kind → List ℕ → Number → ℕ → Token
made jml at kind text number n = record { kind = kind; text = text; number = number; span = record { start = at; end = at + n }; jml = jml }

single : (jml : Bool) (at : ℕ) (z : Text) (kind : Kind) (text : List ℕ) (number : Number) (n : ℕ) (p : List Token × ℕ) →
    1 ≤ n → n ≤ length z → IsSpelled jml (made jml at kind text number n) (take n z) (drop n z) → one jml at kind text number n ≡ Ok p → Single jml at z p
single jml at z kind text number n p some within spelled is =
    let all : length (take n z) ≡ n = length-take-le n z within in
    let t : Token = made jml at kind text number n in
    let whole : Single jml at z (t ∷ [], n) = record { token = t; some = some; within = within; tokens = refl; is = (omega arith, refl, ap (λ m. at + m) (sym all), refl, spelled) } in
    subst (Single jml at z) (same_read (t ∷ [], n) p is) whole

-- ---- where a run of bytes ends

pub some_prefix : (p : ℕ → Bool) (b : ℕ) (z : Text) → p b ≡ true → 1 ≤ prefix_len p (b ∷ z)
some_prefix p b z is = rw is (omega arith)

pub all_in_prefix : (p : ℕ → Bool) (z : Text) → list_all p (take (prefix_len p z) z) ≡ true
all_in_prefix p [] = refl
all_in_prefix p (b ∷ z) = go (p b) refl (all_in_prefix p z)
  where
    go : (t : Bool) → p b ≡ t → list_all p (take (prefix_len p z) z) ≡ true → list_all p (take (if t then 1 + prefix_len p z else 0) (b ∷ z)) ≡ true
    go false test rest = refl
    go true test rest =
        let more : 1 + prefix_len p z ≡ suc (prefix_len p z) = omega arith in
        rw more (and_from (p b) (list_all p (take (prefix_len p z) z)) test rest)

pub prefix_stops : (p : ℕ → Bool) (z : Text) → Stops p (drop (prefix_len p z) z)
prefix_stops p [] = tt
prefix_stops p (b ∷ z) = go (p b) refl (prefix_stops p z)
  where
    go : (t : Bool) → p b ≡ t → Stops p (drop (prefix_len p z) z) → Stops p (drop (if t then 1 + prefix_len p z else 0) (b ∷ z))
    go false test rest = test
    go true test rest = let more : 1 + prefix_len p z ≡ suc (prefix_len p z) = omega arith in rw more rest

stops_there : (p : ℕ → Bool) (n : ℕ) (z : Text) → p (slice_index z n) ≡ false → Stops p (drop n z)
stops_there p zero [] is = tt
stops_there p zero (b ∷ z) is = is
stops_there p (suc n) [] is = tt
stops_there p (suc n) (b ∷ z) is = stops_there p n z is

begins_so : (p : ℕ → Bool) (n b : ℕ) (z : Text) → 1 ≤ n → p b ≡ true → p (slice_index (take n (b ∷ z)) 0) ≡ true
begins_so p zero b z some is = absurd (omega arith)
begins_so p (suc n) b z some is = is

pub of_literal : (jml : Bool) (at : ℕ) (z : Text) (kind : Kind) (text : List ℕ) (number : Number) (n : ℕ) (p : List Token × ℕ) →
    1 ≤ n → n ≤ length z → (Stops is_letter_or_digit (drop n z) → IsSpelled jml (made jml at kind text number n) (take n z) (drop n z)) → literal jml at z kind text number n ≡ Ok p → Single jml at z p
of_literal jml at z kind text number n p some within spelled is =
    choice (in_name (slice_index z n)) _ _ p _ is (λ test no_token. none_read (BadToken (here at)) p _ no_token)
    (λ test read. single jml at z kind text number n p some within (spelled (stops_there in_name n z test)) read)

-- ---- words

pub of_word : (jml : Bool) (at b : ℕ) (z : Text) (p : List Token × ℕ) → begins_name b ≡ true → word jml at (b ∷ z) ≡ Ok p → Single jml at (b ∷ z) p
unfolding word
of_word jml at b z p begins is =
    let n = prefix_len in_name (b ∷ z) in
    let some : 1 ≤ n = some_prefix in_name b z (or_left _ _ begins) in
    single jml at (b ∷ z) (word_kind jml (take n (b ∷ z))) (take n (b ∷ z)) no_number n p some (prefix_len-le-length in_name (b ∷ z))
    (AsWord (record { begins = begins_so begins_name n b z some begins; letters = all_in_prefix in_name (b ∷ z); stops = prefix_stops in_name (b ∷ z); kind = refl; text = refl; number = refl })) is

pub of_backslash : (jml : Bool) (at b : ℕ) (z : Text) (p : List Token × ℕ) → (b == 92 && jml) ≡ true → backslash_word jml at (b ∷ z) ≡ Ok p → Single jml at (b ∷ z) p
unfolding backslash_word
of_backslash jml at b z p both is =
    let n = prefix_len in_backslash_word z in
    let le = prefix_len-le-length in_backslash_word z in
    let parts = and_parts (b == 92) jml both in
    let more : n + 1 ≡ suc n = omega arith in
    choice (n == 0) _ _ p _ is (λ test no_token. none_read (BadToken (here at)) p _ no_token)
    (λ test read.
    let other : n ≡ 0 → ⊥ = eqb-false n 0 test in
    let all : take (n + 1) (b ∷ z) ≡ 92 ∷ take n z = ap (λ k. take k (b ∷ z)) more ∙ ap (λ c. c ∷ take n z) (eqb-true b 92 parts.0) in
    let behind : drop n z ≡ drop (n + 1) (b ∷ z) = ap (λ k. drop k (b ∷ z)) (sym more) in
    single jml at (b ∷ z) (backslash_kind (take n z)) (take (n + 1) (b ∷ z)) no_number (n + 1) p (omega arith) (omega arith)
    (AsBackslashWord parts.1 (record { letters = take n z; is = all; some = omega (arith, length-take-le n z le); all = all_in_prefix in_backslash_word z; stops = subst (Stops in_backslash_word) behind (prefix_stops in_backslash_word z); kind = refl; text = refl; number = refl })) read)

-- ---- signs

abbrev has_bytes : Sign → Bool
has_bytes s = nat_lt 0 (length s.spelling)

signs_have_bytes : list_all has_bytes signs ≡ true
signs_have_bytes = refl

of_sign_or_none : (jml : Bool) (at : ℕ) (z : Text) (s : Option Sign) (p : List Token × ℕ) → IsLongest jml z s → sign_of jml at z s ≡ Ok p → Single jml at z p
of_sign_or_none jml at z None p found is = none_read (BadToken (here at)) p _ is
of_sign_or_none jml at z (Some s) p found is =
    let n = length s.spelling in
    let some : 0 < n = ltb-true 0 n (each has_bytes signs signs_have_bytes s found.0.0) in
    let all : length z ≡ n + length found.0.2.0 = ap length found.0.2.1 ∙ length-append s.spelling found.0.2.0 in
    let bytes : take n z ≡ s.spelling = ap (take n) found.0.2.1 ∙ take_at s.spelling found.0.2.0 n refl in
    let there = subst (λ y. IsLongest jml y (Some s)) (sym (take-append-drop n z)) found in
    single jml at z s.kind (take n z) no_number n p (omega arith) (omega arith)
    (AsSign (record { sign = s; longest = there; is = bytes; kind = refl; text = refl; number = refl })) is

pub of_sign : (jml : Bool) (at : ℕ) (z : Text) (p : List Token × ℕ) → sign jml at z ≡ Ok p → Single jml at z p
unfolding sign
of_sign jml at z p is = of_sign_or_none jml at z (longest_sign jml z) p (longest jml z) is
