-- A token is read where the bytes that write it stand.
use Rattle.std.proofs.Common.{◌≡◌, ℕ, suc, ◌+◌, ◌≤◌, Bool, true, false, if◌then◌else◌, not, ◌&&◌, ◌||◌, nat_lt, List, [], ◌∷◌, ◌++◌, length, take, slice_index, Option, Some, None, inl, inr, refl, sym, ◌∙◌, ap, ap₂, subst, arith, append_assoc, length-append}
use Rattle.std.specs.Prelude.{◌==◌, ◌⊎◌, Ok, Err, IsTrue, Contains, codes, nat_le}
use Rattle.std.specs.List.{prefix_len, list_all}
use Rattle.std.specs.Option.{option_and_then}
use Rattle.std.specs.Char.{is_ascii_digit, is_ascii_alphabetic}
use Rattle.std.specs.Int.{is_in_range}
use Rattle.std.proofs.lemmas.Bool.{eqb-true, eq-eqb, ne_eqb, and_parts, and_from, or_cases, or_parts, and_left, and_right, le-ltb, ltb-true, leb-true, false_from_ne_true, both_ways, not-true, true≢false}
use Rattle.std.proofs.lemmas.List.{take_at, get_or-append-add, append-nil}
use Rattle.jr_base.specs.declared.refusal.Refusal.TheVariants.{BadToken, BigLiteral}
use Rattle.jr_lexer.specs.declared.kind.Kind.{Kind}
use Rattle.jr_lexer.specs.declared.kind.Kind.TheVariants as k
use Rattle.jr_lexer.specs.declared.number.Number.{Number}
use Rattle.jr_lexer.specs.Numbers.{big_literal, no_number}
use Rattle.jr_lexer.specs.Signs.{Sign, signs, longest_sign}
use Rattle.jr_lexer.specs.Token.{Token}
use Rattle.jr_lexer.specs.Lexical.{Text, Piece, Quoted, here, one, literal, number_of, digits, is_long, is_long_letter, integer_len, integer_number, in_name, in_backslash_word, begins_name, is_blank, word_kind, word, backslash_kind, backslash_word, integer, escape, one_more, string_byte, quoted, string_of, string, sign_of, sign, token}
use Rattle.jr_token_laws.specs.LongestSign.{BeginsWith, IsLongest}
use Rattle.jr_token_laws.specs.Spelling.{is_letter_or_digit, Stops, IsWord, IsSuffix, escapes, StandsFor, Nothing, Itself, Escaped, IsSign, IsSpelled, AsWord, AsInteger, AsString, AsBackslashWord, AsSign}
use Rattle.jr_token_laws.specs.Elements.{IsToken}
use Rattle.jr_token_laws.proofs.FirstSigns.{split, each, begins, longest_first, signs_fall, longest}
use Rattle.jr_token_laws.proofs.Singles.{made}
use Rattle.jr_token_laws.proofs.Fronts.{when_true, when_false, whole_prefix, head_stops, head_kept, no_blank}

-- the token is read at the front of a text, which is no blank
pub record Reads (jml : Bool) (at : ℕ) (t : Token) (bytes behind : Text) : Type 0 where
  pub plain : is_blank (slice_index (bytes ++ behind) 0) ≡ false
  pub reads : token jml at (bytes ++ behind) ≡ Ok (t ∷ [], length bytes)

abbrev reads_one : Token → ℕ → Piece
reads_one t n = Ok (t ∷ [], n)

-- it is the token of its fields
one_is : (jml : Bool) (at n : ℕ) (t : Token) (kind : Kind) (text : List ℕ) (number : Number) → t.span.start ≡ at → t.span.end ≡ at + n → t.jml ≡ jml → t.kind ≡ kind → t.text ≡ text → t.number ≡ number → one jml at kind text number n ≡ reads_one t n
one_is jml at n t kind text number start end in_jml is_kind is_text is_number =
    let same : made jml at kind text number n ≡ t = λ i. record { kind = sym is_kind i; text = sym is_text i; number = sym is_number i; span = record { start = sym start i; end = sym end i }; jml = sym in_jml i } in
    ap (λ u. reads_one u n) same

abbrev IsPlaced : Bool → ℕ → Token → ℕ → Type 0
IsPlaced jml at t n = (t.span.start ≡ at) × (t.span.end ≡ at + n) × (t.jml ≡ jml)

-- ---- words

of_word : (jml : Bool) (at : ℕ) (t : Token) (bytes behind : Text) → 1 ≤ length bytes → IsPlaced jml at t (length bytes) → IsWord jml t bytes behind → Reads jml at t bytes behind
unfolding token word
of_word jml at t bytes behind some placed w =
    let z = bytes ++ behind in
    let n = length bytes in
    let begins : begins_name (slice_index z 0) ≡ true = ap begins_name (head_kept bytes behind some) ∙ w.begins in
    let whole : prefix_len in_name z ≡ n = whole_prefix in_name bytes behind w.letters w.stops in
    let taken : take n z ≡ bytes = take_at bytes behind n refl in
    record {
      plain = no_blank begins_name refl (slice_index z 0) begins;
      reads = when_true (begins_name (slice_index z 0)) _ _ begins
          ∙ ap (λ m. one jml at (word_kind jml (take m z)) (take m z) no_number m) whole
          ∙ ap (λ y. one jml at (word_kind jml y) y no_number n) taken
          ∙ one_is jml at n t (word_kind jml bytes) bytes no_number placed.0 placed.1 placed.2 w.kind w.text w.number;
    }

of_backslash : (jml : Bool) (at : ℕ) (t : Token) (letters behind : Text) → IsTrue jml → 1 ≤ length letters → IsPlaced jml at t (length (92 ∷ letters)) → list_all in_backslash_word letters ≡ true → Stops in_backslash_word behind →
    t.kind ≡ backslash_kind letters → t.text ≡ 92 ∷ letters → t.number ≡ no_number → Reads jml at t (92 ∷ letters) behind
unfolding token backslash_word
of_backslash jml at t letters behind may some placed all stops kind text number =
    let z = letters ++ behind in
    let n = length letters in
    let whole : prefix_len in_backslash_word z ≡ n = whole_prefix in_backslash_word letters behind all stops in
    let taken : take n z ≡ letters = take_at letters behind n refl in
    let more : n + 1 ≡ suc n = omega arith in
    record {
      plain = refl;
      reads = when_true jml _ _ may
          ∙ ap (λ m. let p : Piece = if m == 0 then Err (BadToken (here at)) else one jml at (backslash_kind (take m z)) (take (m + 1) (92 ∷ z)) no_number (m + 1) in p) whole
          ∙ when_false (n == 0) _ _ (ne_eqb n 0 (λ e. absurd (omega arith)))
          ∙ ap (λ m. one jml at (backslash_kind (take n z)) (take m (92 ∷ z)) no_number m) more
          ∙ ap (λ y. one jml at (backslash_kind y) (92 ∷ y) no_number (suc n)) taken
          ∙ one_is jml at (suc n) t (backslash_kind letters) (92 ∷ letters) no_number placed.0 placed.1 placed.2 kind text number;
    }

-- ---- literals

literal_is : (jml : Bool) (at : ℕ) (t : Token) (bytes behind : Text) (kind : Kind) (text : List ℕ) (number : Number) → IsPlaced jml at t (length bytes) → Stops is_letter_or_digit behind →
    t.kind ≡ kind → t.text ≡ text → t.number ≡ number → literal jml at (bytes ++ behind) kind text number (length bytes) ≡ reads_one t (length bytes)
literal_is jml at t bytes behind kind text number placed stops is_kind is_text is_number =
    let n = length bytes in
    let place : n ≡ n + 0 = omega arith in
    let next : slice_index (bytes ++ behind) n ≡ slice_index behind 0 = ap (slice_index (bytes ++ behind)) place ∙ get_or-append-add bytes behind 0 0 in
    when_false (in_name (slice_index (bytes ++ behind) n)) _ _ (ap in_name next ∙ head_stops in_name behind refl stops)
    ∙ one_is jml at n t kind text number placed.0 placed.1 placed.2 is_kind is_text is_number

-- ---- strings

itself_read : (b : ℕ) (w : Text) (q : List ℕ × ℕ) (quote line slash : Bool) → quote ≡ false → line ≡ false → slash ≡ false → quoted false w ≡ Some q →
    (if quote then Some ([], 1) else (if line then None else one_more (if slash then [] else b ∷ []) (quoted (slash && true) w))) ≡ Some (b ∷ q.0, q.1 + 1)
itself_read b w q true line slash a c d is = absurd (true≢false a)
itself_read b w q false true slash a c d is = absurd (true≢false c)
itself_read b w q false false true a c d is = absurd (true≢false d)
itself_read b w q false false false a c d is = ap (one_more (b ∷ [])) is

escape_of : (b c : ℕ) → Contains escapes (b, c) → escape b ≡ Some c
escape_of b c is = eqb_some (escape b) c (each (λ e. is_some_of (escape e.0) e.1) escapes refl (b, c) is)
  where
    is_some_of : Option ℕ → ℕ → Bool
    is_some_of None c = false
    is_some_of (Some d) c = d == c

    eqb_some : (o : Option ℕ) (c : ℕ) → is_some_of o c ≡ true → o ≡ Some c
    eqb_some None c is = absurd (true≢false (sym is))
    eqb_some (Some d) c is = ap Some (eqb-true d c is)

quoted_read : (written text behind : Text) → StandsFor written text → quoted false (written ++ (34 ∷ behind)) ≡ Some (text, length written + 1)
quoted_read _ _ behind Nothing = refl
quoted_read _ _ behind (Itself b {written} {text} is rest) =
    let parts = or_parts (b == 34 || b == 10) (b == 92) is in
    let more = or_parts (b == 34) (b == 10) parts.0 in
    let count : (length written + 1) + 1 ≡ suc (length written) + 1 = omega arith in
    itself_read b (written ++ (34 ∷ behind)) (text, length written + 1) (b == 34) (b == 10) (b == 92) more.0 more.1 parts.1 (quoted_read written text behind rest)
    ∙ ap (λ m. let q : Quoted = Some (b ∷ text, m) in q) count
quoted_read _ _ behind (Escaped b c {written} {text} is rest) =
    let w : Text = written ++ (34 ∷ behind) in
    let off : (b == 92 && false) ≡ false = and_right (b == 92) false refl in
    let count : ((length written + 1) + 1) + 1 ≡ suc (suc (length written)) + 1 = omega arith in
    ap (λ e. one_more [] (string_byte true b (quoted e w))) off
    ∙ ap (λ q. one_more [] (string_byte true b q)) (quoted_read written text behind rest)
    ∙ ap (λ o. one_more [] (option_and_then (λ d. one_more (d ∷ []) (Some (text, length written + 1))) o)) (escape_of b c is)
    ∙ ap (λ m. let q : Quoted = Some (c ∷ text, m) in q) count

of_string : (jml : Bool) (at : ℕ) (t : Token) (written behind : Text) → IsPlaced jml at t (length (34 ∷ (written ++ 34 ∷ []))) → StandsFor written t.text → length t.text ≤ 256 → Stops is_letter_or_digit behind →
    t.kind ≡ k.Text → t.number ≡ no_number → Reads jml at t (34 ∷ (written ++ 34 ∷ [])) behind
unfolding token string
of_string jml at t written behind placed text short stops kind number =
    let bytes : Text = 34 ∷ (written ++ 34 ∷ []) in
    let inside : (written ++ 34 ∷ []) ++ behind ≡ written ++ (34 ∷ behind) = append_assoc written (34 ∷ []) behind in
    let q : quoted false ((written ++ 34 ∷ []) ++ behind) ≡ Some (t.text, length written + 1) = ap (quoted false) inside ∙ quoted_read written t.text behind text in
    let count : (length written + 1) + 1 ≡ length bytes = omega (arith, length-append written (34 ∷ [])) in
    record {
      plain = refl;
      reads = ap (string_of jml at (bytes ++ behind)) q
          ∙ when_false (nat_lt 256 (length t.text)) _ _ (le-ltb 256 (length t.text) short)
          ∙ ap (literal jml at (bytes ++ behind) k.Text t.text no_number) count
          ∙ literal_is jml at t bytes behind k.Text t.text no_number placed stops kind refl number;
    }

-- ---- integers

letters_are_above : (b : ℕ) → begins_name b ≡ true → (b ≡ 36) ⊎ (65 ≤ b)
letters_are_above b is = first (or_cases (is_ascii_alphabetic b || b == 95) (b == 36) is)
  where
    third : (is_in_range 65 90 b ≡ true) ⊎ (is_in_range 97 122 b ≡ true) → (b ≡ 36) ⊎ (65 ≤ b)
    third (inl h) = inr (leb-true 65 b (and_parts (nat_le 65 b) (nat_le b 90) h).0)
    third (inr h) = let le = leb-true 97 b (and_parts (nat_le 97 b) (nat_le b 122) h).0 in inr (omega arith)

    second : (is_ascii_alphabetic b ≡ true) ⊎ ((b == 95) ≡ true) → (b ≡ 36) ⊎ (65 ≤ b)
    second (inl h) = third (or_cases (is_in_range 65 90 b) (is_in_range 97 122 b) h)
    second (inr h) = let e = eqb-true b 95 h in inr (omega arith)

    first : ((is_ascii_alphabetic b || b == 95) ≡ true) ⊎ ((b == 36) ≡ true) → (b ≡ 36) ⊎ (65 ≤ b)
    first (inl h) = second (or_cases (is_ascii_alphabetic b) (b == 95) h)
    first (inr h) = inl (eqb-true b 36 h)

digit_is_no_letter : (b : ℕ) → is_ascii_digit b ≡ true → begins_name b ≡ false
digit_is_no_letter b is = false_from_ne_true (begins_name b) (λ letter. apart (letters_are_above b letter))
  where
    bounds : (48 ≤ b) × (b ≤ 57)
    bounds = let both = and_parts (nat_le 48 b) (nat_le b 57) is in (leb-true 48 b both.0, leb-true b 57 both.1)

    apart : (b ≡ 36) ⊎ (65 ≤ b) → ⊥
    apart (inl e) = omega (arith, bounds)
    apart (inr le) = omega (arith, bounds)

digit_stops : (behind : Text) → Stops is_letter_or_digit behind → Stops is_ascii_digit behind
digit_stops [] stops = tt
digit_stops (b ∷ behind) stops = (or_parts (begins_name b) (is_ascii_digit b) stops).1

-- what the suffix says
record Ends (long : Bool) (suffix behind : Text) : Type 0 where
  digits_stop : Stops is_ascii_digit (suffix ++ behind)
  letter : is_long_letter (slice_index (suffix ++ behind) 0) ≡ long

suffix_ends : (long : Bool) (suffix behind : Text) → IsSuffix long suffix → Stops is_letter_or_digit behind → Ends long suffix behind
suffix_ends true suffix behind (inl is) stops = subst (λ s. Ends true s behind) (sym is) (record { digits_stop = refl; letter = refl })
suffix_ends true suffix behind (inr is) stops = subst (λ s. Ends true s behind) (sym is) (record { digits_stop = refl; letter = refl })
suffix_ends false suffix behind is stops = subst (λ s. Ends false s behind) (sym is) (record { digits_stop = digit_stops behind stops; letter = letter behind stops })
  where
    letter : (behind : Text) → Stops is_letter_or_digit behind → is_long_letter (slice_index behind 0) ≡ false
    letter [] stops = refl
    letter (b ∷ behind) stops = false_from_ne_true (is_long_letter b) (λ is. which (or_cases (b == 76) (b == 108) is))
      where
        which : ((b == 76) ≡ true) ⊎ ((b == 108) ≡ true) → ⊥
        which (inl h) = both_ways _ stops (ap in_name (eqb-true b 76 h))
        which (inr h) = both_ways _ stops (ap in_name (eqb-true b 108 h))

module _ (ds suffix behind : Text) (some : 1 ≤ length ds) (decimal : list_all is_ascii_digit ds ≡ true) (zero_alone : slice_index ds 0 ≡ 48 → length ds ≡ 1) (long : Bool) (of : IsSuffix long suffix) (stops : Stops is_letter_or_digit behind) where
  abbrev source : Text
  source = (ds ++ suffix) ++ behind

  digits_are : digits source ≡ length ds
  digits_are = go (slice_index source 0 == 48) refl
    where
      spread : source ≡ ds ++ (suffix ++ behind)
      spread = append_assoc ds suffix behind

      head : slice_index source 0 ≡ slice_index ds 0
      head = ap (λ y. slice_index y 0) spread ∙ head_kept ds (suffix ++ behind) some

      go : (t : Bool) → (slice_index source 0 == 48) ≡ t → (if t then 1 else prefix_len is_ascii_digit source) ≡ length ds
      go true test = sym (zero_alone (sym head ∙ eqb-true _ 48 test))
      go false test = ap (prefix_len is_ascii_digit) spread ∙ whole_prefix is_ascii_digit ds (suffix ++ behind) decimal (suffix_ends long suffix behind of stops).digits_stop

  long_is : is_long source ≡ long
  long_is =
      let place : length ds ≡ length ds + 0 = omega arith in
      ap (λ m. is_long_letter (slice_index source m)) (digits_are ∙ place)
      ∙ ap (λ y. is_long_letter (slice_index y (length ds + 0))) (append_assoc ds suffix behind)
      ∙ ap is_long_letter (get_or-append-add ds (suffix ++ behind) 0 0)
      ∙ (suffix_ends long suffix behind of stops).letter

  len_is : integer_len source ≡ length (ds ++ suffix)
  len_is = ap₂ (λ (b : Bool) (m : ℕ). if b then m + 1 else m) long_is digits_are ∙ go long of
    where
      go : (b : Bool) → IsSuffix b suffix → (if b then length ds + 1 else length ds) ≡ length (ds ++ suffix)
      go true (inl is) = sym (ap (λ s. length (ds ++ s)) is ∙ length-append ds (codes "L"))
      go true (inr is) = sym (ap (λ s. length (ds ++ s)) is ∙ length-append ds (codes "l"))
      go false is = sym (ap (λ s. length (ds ++ s)) is ∙ ap length (append-nil ds))

  value_is : number_of (take (digits source) source) ≡ number_of ds
  value_is = ap (λ m. number_of (take m source)) digits_are ∙ ap number_of (ap (take (length ds)) (append_assoc ds suffix behind) ∙ take_at ds (suffix ++ behind) (length ds) refl)

abbrev read_integer : Bool → ℕ → Text → Number → ℕ → Piece
read_integer jml at z number len = if nat_lt (big_literal number.is_long) number.value then Err (BigLiteral (here at)) else literal jml at z k.Integer (take len z) number len

of_integer : (jml : Bool) (at : ℕ) (t : Token) (ds suffix behind : Text) → IsPlaced jml at t (length (ds ++ suffix)) → 1 ≤ length ds → list_all is_ascii_digit ds ≡ true → (slice_index ds 0 ≡ 48 → length ds ≡ 1) →
    IsSuffix t.number.is_long suffix → t.number.value ≡ number_of ds → t.number.value ≤ big_literal t.number.is_long → Stops is_letter_or_digit behind → t.kind ≡ k.Integer → t.text ≡ ds ++ suffix → Reads jml at t (ds ++ suffix) behind
unfolding token integer
of_integer jml at t ds suffix behind placed some decimal zero_alone suffix_of value greatest stops kind text =
    let bytes = ds ++ suffix in
    let z = bytes ++ behind in
    let head : slice_index z 0 ≡ slice_index ds 0 = ap (λ y. slice_index y 0) (append_assoc ds suffix behind) ∙ head_kept ds (suffix ++ behind) some in
    let digit : is_ascii_digit (slice_index z 0) ≡ true = ap is_ascii_digit head ∙ head_digit ds some decimal in
    let long = long_is ds suffix behind some decimal zero_alone t.number.is_long suffix_of stops in
    let worth = value_is ds suffix behind some decimal zero_alone t.number.is_long suffix_of stops ∙ sym value in
    let number : integer_number z ≡ t.number = λ i. record { value = worth i; is_long = long i } in
    let len = len_is ds suffix behind some decimal zero_alone t.number.is_long suffix_of stops in
    record {
      plain = no_blank is_ascii_digit refl (slice_index z 0) digit;
      reads = when_false (begins_name (slice_index z 0)) _ _ (digit_is_no_letter (slice_index z 0) digit)
          ∙ when_true (is_ascii_digit (slice_index z 0)) _ _ digit
          ∙ ap₂ (read_integer jml at z) number len
          ∙ when_false (nat_lt (big_literal t.number.is_long) t.number.value) _ _ (le-ltb (big_literal t.number.is_long) t.number.value greatest)
          ∙ ap (λ y. literal jml at z k.Integer y t.number (length bytes)) (take_at bytes behind (length bytes) refl)
          ∙ literal_is jml at t bytes behind k.Integer bytes t.number placed stops kind text refl;
    }
  where
    head_digit : (ds : Text) → 1 ≤ length ds → list_all is_ascii_digit ds ≡ true → is_ascii_digit (slice_index ds 0) ≡ true
    head_digit [] some all = absurd (omega arith)
    head_digit (d ∷ ds) some all = (and_parts (is_ascii_digit d) (list_all is_ascii_digit ds) all).0

-- ---- signs

begins_itself : (s : List ℕ) → begins s s ≡ true
begins_itself [] = refl
begins_itself (a ∷ s) = and_from (a == a) (begins s s) (eq-eqb a a refl) (begins_itself s)

-- no two signs have one spelling
same_sign : (ss : List Sign) → longest_first ss ≡ true → (s t : Sign) → Contains ss s → Contains ss t → s.spelling ≡ t.spelling → s ≡ t
same_sign [] order s t one other same = absurd (omega (arith, one.1))
same_sign (x ∷ ss) order s t one other same =
    let o = and_parts _ _ order in
    let p = and_parts _ _ o.1 in
    go p.0 (same_sign ss p.1 s t) (split x ss s one) (split x ss t other)
  where
    apart : list_all (λ y. not (begins x.spelling y.spelling)) ss ≡ true → (y : Sign) → Contains ss y → x.spelling ≡ y.spelling → ⊥
    apart all y later equal = both_ways _ (not-true _ (each (λ y. not (begins x.spelling y.spelling)) ss all y later)) (ap (begins x.spelling) (sym equal) ∙ begins_itself x.spelling)

    go : list_all (λ y. not (begins x.spelling y.spelling)) ss ≡ true → (Contains ss s → Contains ss t → s.spelling ≡ t.spelling → s ≡ t) → (x ≡ s) ⊎ Contains ss s → (x ≡ t) ⊎ Contains ss t → s ≡ t
    go all rest (inl a) (inl b) = sym a ∙ b
    go all rest (inl a) (inr b) = absurd (apart all t b (ap (λ y. y.spelling) a ∙ same))
    go all rest (inr a) (inl b) = absurd (apart all s a (ap (λ y. y.spelling) b ∙ sym same))
    go all rest (inr a) (inr b) = rest a b same

same_front : (z : Text) (s t : Sign) → BeginsWith z s.spelling → BeginsWith z t.spelling → length s.spelling ≡ length t.spelling → s.spelling ≡ t.spelling
same_front z s t one other equal =
    sym (take_at s.spelling one.0 (length t.spelling) equal) ∙ ap (take (length t.spelling)) (sym one.1 ∙ other.1) ∙ take_at t.spelling other.0 (length t.spelling) refl

longest_is : (jml : Bool) (z : Text) (s : Sign) → IsLongest jml z (Some s) → longest_sign jml z ≡ Some s
longest_is jml z s is = go (longest_sign jml z) (longest jml z)
  where
    go : (found : Option Sign) → IsLongest jml z found → found ≡ Some s
    go None none = absurd (none s is.0)
    go (Some f) first =
        let equal : length f.spelling ≡ length s.spelling = omega (arith, first.1 s is.0, is.1 f first.0) in
        ap Some (same_sign signs signs_fall f s first.0.0 is.0.0 (same_front z f s first.0.2 is.0.2 equal))

abbrev sign_head : ℕ → Bool
sign_head b = not (is_blank b) && (not (begins_name b) && (not (is_ascii_digit b) && (not (b == 34) && not (b == 92))))

signs_have_heads : list_all (λ s. nat_lt 0 (length s.spelling) && sign_head (slice_index s.spelling 0)) signs ≡ true
signs_have_heads = refl

of_sign : (jml : Bool) (at : ℕ) (t : Token) (bytes behind : Text) → IsPlaced jml at t (length bytes) → IsSign jml t bytes behind → Reads jml at t bytes behind
unfolding token sign
of_sign jml at t bytes behind placed s =
    let z = bytes ++ behind in
    let n = length bytes in
    let tests = each (λ s. nat_lt 0 (length s.spelling) && sign_head (slice_index s.spelling 0)) signs signs_have_heads s.sign s.longest.0.0 in
    let first = and_parts (nat_lt 0 (length s.sign.spelling)) (sign_head (slice_index s.sign.spelling 0)) tests in
    let some : 1 ≤ n = rw s.is (ltb-true 0 (length s.sign.spelling) first.0) in
    let h = slice_index z 0 in
    let head : h ≡ slice_index s.sign.spelling 0 = head_kept bytes behind some ∙ ap (λ y. slice_index y 0) s.is in
    let plain : sign_head h ≡ true = ap sign_head head ∙ first.1 in
    let blank = and_parts (not (is_blank h)) _ plain in
    let name = and_parts (not (begins_name h)) _ blank.1 in
    let digit = and_parts (not (is_ascii_digit h)) _ name.1 in
    let quote = and_parts (not (h == 34)) _ digit.1 in
    record {
      plain = not-true (is_blank h) blank.0;
      reads = when_false (begins_name h) _ _ (not-true _ name.0)
          ∙ when_false (is_ascii_digit h) _ _ (not-true _ digit.0)
          ∙ when_false (h == 34) _ _ (not-true _ quote.0)
          ∙ when_false (h == 92 && jml) _ _ (and_left (h == 92) jml (not-true _ quote.1))
          ∙ ap (sign_of jml at z) (longest_is jml z s.sign s.longest)
          ∙ ap (λ y. one jml at s.sign.kind (take (length y) z) no_number (length y)) (sym s.is)
          ∙ ap (λ y. one jml at s.sign.kind y no_number n) (take_at bytes behind n refl)
          ∙ one_is jml at n t s.sign.kind bytes no_number placed.0 placed.1 placed.2 s.kind s.text s.number;
    }

pub is_read : (jml : Bool) (at : ℕ) (t : Token) (bytes behind : Text) → IsToken jml at t bytes behind → Reads jml at t bytes behind
is_read jml at t bytes behind is = go is.4
  where
    placed : IsPlaced jml at t (length bytes)
    placed = (is.1, is.2, is.3)

    go : IsSpelled jml t bytes behind → Reads jml at t bytes behind
    go (AsWord w) = of_word jml at t bytes behind is.0 placed w
    go (AsInteger i) =
        subst (λ y. IsPlaced jml at t (length y) → t.text ≡ y → Reads jml at t y behind) (sym i.is)
        (λ there text. of_integer jml at t i.digits i.suffix behind there i.some i.decimal i.zero_alone i.suffix_of i.value i.greatest i.stops i.kind text) placed i.text
    go (AsString s) =
        subst (λ y. IsPlaced jml at t (length y) → Reads jml at t y behind) (sym s.is)
        (λ there. of_string jml at t s.written behind there s.text s.short s.stops s.kind s.number) placed
    go (AsBackslashWord may w) =
        subst (λ y. IsPlaced jml at t (length y) → t.text ≡ y → Reads jml at t y behind) (sym w.is)
        (λ there text. of_backslash jml at t w.letters behind may w.some there w.all w.stops w.kind text w.number) placed w.text
    go (AsSign s) = of_sign jml at t bytes behind placed s
