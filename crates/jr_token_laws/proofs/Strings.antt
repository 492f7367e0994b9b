-- What is read as a string literal is one.
use Rattle.std.proofs.Common.{◌≡◌, ℕ, suc, ◌+◌, ◌≤◌, ◌<◌, Bool, true, false, if◌then◌else◌, ◌&&◌, ◌||◌, nat_lt, List, [], ◌∷◌, ◌++◌, length, take, Option, Some, None, refl, sym, ◌∙◌, ap, ap₂, subst, arith}
use Rattle.std.specs.Prelude.{◌==◌, Ok, IsFalse, Contains, slice_index_or}
use Rattle.std.specs.Option.{option_and_then}
use Rattle.std.proofs.lemmas.Bool.{eqb-true, ltb-false, and_right, or_from}
use Rattle.jr_base.specs.declared.refusal.Refusal.TheVariants.{BadToken, LongText}
use Rattle.jr_lexer.specs.declared.kind.Kind.TheVariants as k
use Rattle.jr_lexer.specs.Numbers.{no_number}
use Rattle.jr_lexer.specs.Token.{Token}
use Rattle.jr_lexer.specs.Lexical.{Text, Quoted, here, escape, one_more, quoted, string_of, string}
use Rattle.jr_token_laws.specs.Spelling.{escapes, StandsFor, Nothing, Itself, Escaped, AsString}
use Rattle.jr_token_laws.proofs.Cuts.{choice, none_read}
use Rattle.jr_token_laws.proofs.Singles.{Single, of_literal}

-- the backslash that was read before
abbrev backslash : Bool → List ℕ
backslash true = 92 ∷ []
backslash false = []

-- what is read up to the closing quote, behind such a backslash or not
record Reads (escaped : Bool) (z : Text) (q : List ℕ × ℕ) : Type 0 where
  written : List ℕ
  is : take q.1 z ≡ written ++ 34 ∷ []
  text : StandsFor (backslash escaped ++ written) q.0
  within : q.1 ≤ length z

abbrev IfReads : Bool → Text → Quoted → Type 0
IfReads escaped z None = Unit {0}
IfReads escaped z (Some q) = Reads escaped z q

one_more_taken : (n b : ℕ) (z rest : Text) → take n z ≡ rest → take (n + 1) (b ∷ z) ≡ b ∷ rest
one_more_taken n b z rest is = let more : n + 1 ≡ suc n = omega arith in rw (more, is) refl

abbrev pair : ℕ → ℕ → ℕ × ℕ
pair x y = (x, y)

some_is : (x y : ℕ) → (let o : Option ℕ = Some x in o) ≡ Some y → x ≡ y
some_is x y is = cc

none_is : (x : ℕ) → (let o : Option ℕ = None in o) ≡ Some x → ⊥
none_is x is = cc

escape_is : (b c : ℕ) → escape b ≡ Some c → Contains escapes (b, c)
escape_is b c is = first (b == 110) refl is
  where
    there : (a d i : ℕ) → i < 4 → slice_index_or escapes i (pair b c) ≡ pair a d → (b == a) ≡ true → (let o : Option ℕ = Some d in o) ≡ Some c → Contains escapes (b, c)
    there a d i within at test same = (i, within, at ∙ ap₂ pair (sym (eqb-true b a test)) (some_is d c same))

    fourth : (t : Bool) → (b == 92) ≡ t → (if t then Some 92 else None) ≡ Some c → Contains escapes (b, c)
    fourth true test same = there 92 92 3 (omega arith) refl test same
    fourth false test same = absurd (none_is c same)

    third : (t : Bool) → (b == 34) ≡ t → (if t then Some 34 else (if b == 92 then Some 92 else None)) ≡ Some c → Contains escapes (b, c)
    third true test same = there 34 34 2 (omega arith) refl test same
    third false test same = fourth (b == 92) refl same

    second : (t : Bool) → (b == 116) ≡ t → (if t then Some 9 else (if b == 34 then Some 34 else (if b == 92 then Some 92 else None))) ≡ Some c → Contains escapes (b, c)
    second true test same = there 116 9 1 (omega arith) refl test same
    second false test same = third (b == 34) refl same

    first : (t : Bool) → (b == 110) ≡ t → (if t then Some 10 else (if b == 116 then Some 9 else (if b == 34 then Some 34 else (if b == 92 then Some 92 else None)))) ≡ Some c → Contains escapes (b, c)
    first true test same = there 110 10 0 (omega arith) refl test same
    first false test same = second (b == 116) refl same

of_escaped : (b : ℕ) (z : Text) (r : Quoted) → IfReads false z r → (f : Option ℕ) → escape b ≡ f → IfReads true (b ∷ z) (option_and_then (λ c. one_more (c ∷ []) r) f)
of_escaped b z r rest None is = tt
of_escaped b z None rest (Some c) is = tt
of_escaped b z (Some q) rest (Some c) is = record {
  written = b ∷ rest.written;
  is = one_more_taken q.1 b z (rest.written ++ 34 ∷ []) rest.is;
  text = Escaped b c (escape_is b c is) rest.text;
  within = omega (arith, rest.within);
}

of_backslash : (b : ℕ) (z : Text) (r : Quoted) → (b == 92) ≡ true → IfReads true z r → IfReads false (b ∷ z) (one_more [] r)
of_backslash b z None is rest = tt
of_backslash b z (Some q) is rest = record {
  written = 92 ∷ rest.written;
  is = one_more_taken q.1 b z (rest.written ++ 34 ∷ []) rest.is ∙ ap (λ c. c ∷ (rest.written ++ 34 ∷ [])) (eqb-true b 92 is);
  text = rest.text;
  within = omega (arith, rest.within);
}

of_itself : (b : ℕ) (z : Text) (r : Quoted) → IsFalse (b == 34 || b == 10 || b == 92) → IfReads false z r → IfReads false (b ∷ z) (one_more (b ∷ []) r)
of_itself b z None is rest = tt
of_itself b z (Some q) is rest = record {
  written = b ∷ rest.written;
  is = one_more_taken q.1 b z (rest.written ++ 34 ∷ []) rest.is;
  text = Itself b is rest.text;
  within = omega (arith, rest.within);
}

of_quote : (b : ℕ) (z : Text) → (b == 34) ≡ true → Reads false (b ∷ z) ([], 1)
of_quote b z is = record { written = []; is = ap (λ c. c ∷ []) (eqb-true b 34 is); text = Nothing; within = omega arith }

of_byte : (b : ℕ) (z : Text) → IfReads true z (quoted true z) → IfReads false z (quoted false z) → (quote line slash : Bool) → (b == 34) ≡ quote → (b == 10) ≡ line → (b == 92) ≡ slash →
    IfReads false (b ∷ z) (if quote then Some ([], 1) else (if line then None else one_more (if slash then [] else b ∷ []) (quoted (slash && true) z)))
of_byte b z behind plain true line slash is_quote is_line is_slash = of_quote b z is_quote
of_byte b z behind plain false true slash is_quote is_line is_slash = tt
of_byte b z behind plain false false true is_quote is_line is_slash = of_backslash b z (quoted true z) is_slash behind
of_byte b z behind plain false false false is_quote is_line is_slash =
    of_itself b z (quoted false z) (or_from (b == 34 || b == 10) (b == 92) (or_from (b == 34) (b == 10) is_quote is_line) is_slash) plain

reads : (escaped : Bool) (z : Text) → IfReads escaped z (quoted escaped z)
reads escaped [] = tt
reads true (b ∷ z) =
    let off : (b == 92 && false) ≡ false = and_right (b == 92) false refl in
    of_escaped b z (quoted (b == 92 && false) z) (subst (λ e. IfReads false z (quoted e z)) (sym off) (reads false z)) (escape b) refl
reads false (b ∷ z) = of_byte b z (reads true z) (reads false z) (b == 34) (b == 10) (b == 92) refl refl refl

of_quoted : (jml : Bool) (at b : ℕ) (z : Text) (q : Quoted) (p : List Token × ℕ) → b ≡ 34 → IfReads false z q → string_of jml at (b ∷ z) q ≡ Ok p → Single jml at (b ∷ z) p
of_quoted jml at b z None p quote r is = none_read (BadToken (here at)) p _ is
of_quoted jml at b z (Some q) p quote r is =
    let all : take (q.1 + 1) (b ∷ z) ≡ 34 ∷ (r.written ++ 34 ∷ []) = one_more_taken q.1 b z (r.written ++ 34 ∷ []) r.is ∙ ap (λ c. c ∷ (r.written ++ 34 ∷ [])) quote in
    choice (nat_lt 256 (length q.0)) _ _ p _ is (λ test no_token. none_read (LongText (here at)) p _ no_token)
    (λ test read.
    of_literal jml at (b ∷ z) k.Text q.0 no_number (q.1 + 1) p (omega arith) (omega (arith, r.within))
    (λ stops. AsString (record { written = r.written; is = all; text = r.text; short = ltb-false 256 (length q.0) test; stops = stops; kind = refl; number = refl })) read)

pub of_string : (jml : Bool) (at b : ℕ) (z : Text) (p : List Token × ℕ) → (b == 34) ≡ true → string jml at (b ∷ z) ≡ Ok p → Single jml at (b ∷ z) p
unfolding string
of_string jml at b z p quote is = of_quoted jml at b z (quoted false z) p (eqb-true b 34 quote) (reads false z) is
