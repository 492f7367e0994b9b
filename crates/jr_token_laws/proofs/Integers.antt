-- What is read as an integer literal is one.
use Rattle.std.proofs.Common.{◌≡◌, ℕ, zero, suc, ◌+◌, ◌≤◌, ◌<◌, Bool, true, false, if◌then◌else◌, nat_lt, List, [], ◌∷◌, ◌++◌, length, take, get_or, slice_index, inl, inr, refl, sym, ◌∙◌, ap, arith}
use Rattle.std.specs.Prelude.{◌==◌, ◌⊎◌, Ok}
use Rattle.std.specs.List.{prefix_len, list_all}
use Rattle.std.specs.Char.{is_ascii_digit}
use Rattle.std.proofs.lemmas.Bool.{eqb-true, eqb-false, ltb-false, and_from, or_cases, cases_lt}
use Rattle.std.proofs.lemmas.List.{get_or_past, append-nil, take_more, length-take-le}
use Rattle.std.proofs.lemmas.List.Sums.{prefix_len-le-length}
use Rattle.jr_base.specs.declared.refusal.Refusal.TheVariants.{BigLiteral}
use Rattle.jr_lexer.specs.declared.kind.Kind.TheVariants as k
use Rattle.jr_lexer.specs.Numbers.{big_literal}
use Rattle.jr_lexer.specs.Token.{Token}
use Rattle.jr_lexer.specs.Lexical.{Text, here, number_of, digits, is_long, is_long_letter, integer_len, integer_number, integer}
use Rattle.jr_token_laws.specs.Spelling.{IsSuffix, AsInteger}
use Rattle.jr_token_laws.proofs.Cuts.{choice, none_read}
use Rattle.jr_token_laws.proofs.Singles.{Single, of_literal, some_prefix, all_in_prefix}

record Digits (b : ℕ) (z : Text) (n : ℕ) : Type 0 where
  some : 1 ≤ n
  within : n ≤ length (b ∷ z)
  decimal : list_all is_ascii_digit (take n (b ∷ z)) ≡ true
  zero_alone : slice_index (take n (b ∷ z)) 0 ≡ 48 → length (take n (b ∷ z)) ≡ 1

first_taken : (n b : ℕ) (z : Text) → 1 ≤ n → slice_index (take n (b ∷ z)) 0 ≡ b
first_taken zero b z some = absurd (omega arith)
first_taken (suc n) b z some = refl

all_digits : (b : ℕ) (z : Text) → is_ascii_digit b ≡ true → Digits b z (digits (b ∷ z))
all_digits b z digit = go (b == 48) refl
  where
    go : (t : Bool) → (b == 48) ≡ t → Digits b z (if t then 1 else prefix_len is_ascii_digit (b ∷ z))
    go true test = record { some = omega arith; within = omega arith; decimal = and_from (is_ascii_digit b) true digit refl; zero_alone = λ is. refl }
    go false test =
        let some : 1 ≤ prefix_len is_ascii_digit (b ∷ z) = some_prefix is_ascii_digit b z digit in
        record {
          some = some;
          within = prefix_len-le-length is_ascii_digit (b ∷ z);
          decimal = all_in_prefix is_ascii_digit (b ∷ z);
          zero_alone = λ is. absurd (eqb-false b 48 test (sym (first_taken (prefix_len is_ascii_digit (b ∷ z)) b z some) ∙ is));
        }

letter_within : (z : Text) (n : ℕ) → is_long_letter (slice_index z n) ≡ true → n < length z
letter_within z n letter = go (cases_lt n (length z))
  where
    go : (n < length z) ⊎ (length z ≤ n) → n < length z
    go (inl lt) = lt
    go (inr ge) = let none : is_long_letter 0 ≡ true = ap is_long_letter (sym (get_or_past z n 0 ge)) ∙ letter in absurd (cc)

-- the letter behind so many digits, or none
record Suffix (z : Text) (n : ℕ) (long : Bool) (len : ℕ) : Type 0 where
  suffix : List ℕ
  is : IsSuffix long suffix
  all : take len z ≡ take n z ++ suffix
  some : n ≤ len
  within : len ≤ length z

suffix_at : (z : Text) (n : ℕ) → n ≤ length z → (long : Bool) → is_long_letter (slice_index z n) ≡ long → Suffix z n long (if long then n + 1 else n)
suffix_at z n le false letter = record { suffix = []; is = refl; all = sym (append-nil (take n z)); some = omega arith; within = le }
suffix_at z n le true letter =
    let lt = letter_within z n letter in
    record { suffix = get_or z n 0 ∷ []; is = which (or_cases (slice_index z n == 76) (slice_index z n == 108) letter); all = take_more z n 0 lt; some = omega arith; within = omega arith }
  where
    which : ((slice_index z n == 76) ≡ true) ⊎ ((slice_index z n == 108) ≡ true) → IsSuffix true (get_or z n 0 ∷ [])
    which (inl h) = inl (ap (λ c. c ∷ []) (eqb-true _ _ h))
    which (inr h) = inr (ap (λ c. c ∷ []) (eqb-true _ _ h))

pub of_integer : (jml : Bool) (at b : ℕ) (z : Text) (p : List Token × ℕ) → is_ascii_digit b ≡ true → integer jml at (b ∷ z) ≡ Ok p → Single jml at (b ∷ z) p
unfolding integer
of_integer jml at b z p digit is =
    let y : Text = b ∷ z in
    let ds = all_digits b z digit in
    let s = suffix_at y (digits y) ds.within (is_long y) refl in
    choice (nat_lt (big_literal (is_long y)) (number_of (take (digits y) y))) _ _ p _ is (λ test no_token. none_read (BigLiteral (here at)) p _ no_token)
    (λ test read.
    of_literal jml at y k.Integer (take (integer_len y) y) (integer_number y) (integer_len y) p (omega (arith, ds.some, s.some)) s.within
    (λ stops. AsInteger (record {
      digits = take (digits y) y;
      suffix = s.suffix;
      is = s.all;
      some = omega (arith, ds.some, length-take-le (digits y) y ds.within);
      decimal = ds.decimal;
      zero_alone = ds.zero_alone;
      suffix_of = s.is;
      value = refl;
      greatest = ltb-false (big_literal (is_long y)) (number_of (take (digits y) y)) test;
      stops = stops;
      kind = refl;
      text = refl;
    })) read)
