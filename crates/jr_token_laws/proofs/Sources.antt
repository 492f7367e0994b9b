-- A source that has tokens is made of elements.
use Rattle.std.proofs.Common.{◌≡◌, ℕ, zero, suc, ◌+◌, ◌≤◌, Bool, true, false, if◌then◌else◌, List, [], ◌∷◌, ◌++◌, length, take, drop, get_or, replicate, slice_index, Option, Some, None, IfOk, refl, sym, ◌∙◌, ap, subst, arith, length-append, append_assoc, length-drop}
use Rattle.std.specs.Prelude.{◌==◌, Ok, Err, codes}
use Rattle.std.specs.List.{prefix_len, flat_map}
use Rattle.std.specs.Str.{is_utf8}
use Rattle.std.specs.Str.Lossy.{utf8_valid_len}
use Rattle.std.proofs.lemmas.Bool.{eqb-true, eq-eqb, both_ways}
use Rattle.std.proofs.lemmas.List.{take-append-drop, drop_at, length-take-le}
use Rattle.std.proofs.lemmas.List.Sums.{prefix_len-le-length}
use Rattle.jr_base.specs.declared.refusal.Refusal.TheVariants.{OpenComment, BadUtf8}
use Rattle.jr_lexer.specs.Token.{Token}
use Rattle.jr_lexer.specs.Lexical.{Text, Read, here, is_blank, in_line, begins_line_comment, begins_block_comment, pieces, line_comment, before_close, without_last_ats, closed_comment, block_comment, java_piece, java, tokens}
use Rattle.jr_token_laws.specs.Elements.{Element, Blank, LineComment, BlockComment, JavaToken, LineAnnotation, BlockAnnotation, jml_bytes, bytes_of, tokens_of, HasNoLineFeed, HasNoClose, BeginsWithAt, EndsWithAt, Stands, AllStand, HasTokens}
use Rattle.jr_token_laws.proofs.Cuts.{choice, same_read, none_read, of_len_reads, cut}
use Rattle.jr_token_laws.proofs.Prefixes.{first_two, line_has_no_line_feed, line_ends, Closes, closes, Trimmed, trimmed}
use Rattle.jr_token_laws.proofs.Singles.{Single}
use Rattle.jr_token_laws.proofs.Tokens.{of_token}
use Rattle.jr_token_laws.proofs.Annotations.{blank, no_comment, line_length, Made, annotation_made}

-- an element at the front, and what is behind it
record Front (at : ℕ) (z : Text) (p : List Token × ℕ) : Type 0 where
  element : Element
  some : 1 ≤ p.1
  all : length (bytes_of element) ≡ p.1
  bytes : z ≡ bytes_of element ++ drop p.1 z
  tokens : p.0 ≡ tokens_of element
  stands : Stands at element (drop p.1 z)

of_blank : (at b : ℕ) (z : Text) → is_blank b ≡ true → Front at (b ∷ z) ([], 1)
of_blank at b z is = record { element = Blank b; some = omega arith; all = refl; bytes = refl; tokens = refl; stands = blank b is }

of_single : (at : ℕ) (z : Text) (p : List Token × ℕ) → begins_line_comment z ≡ false → begins_block_comment z ≡ false → Single false at z p → Front at z p
of_single at z p no_line no_block s = record {
  element = JavaToken s.token (take p.1 z);
  some = s.some;
  all = length-take-le p.1 z s.within;
  bytes = sym (take-append-drop p.1 z);
  tokens = s.tokens;
  stands = (s.is, no_comment p.1 z (codes "//") begins_line_comment no_line (λ r. refl), no_comment p.1 z (codes "/*") begins_block_comment no_block (λ r. refl));
}

-- ---- from `//` on

begins_so : (z : Text) → (slice_index z 0 == 64) ≡ true → (n : ℕ) → 1 ≤ n → BeginsWithAt (take n z)
begins_so [] is n some = absurd (cc)
begins_so (b ∷ z) is zero some = absurd (omega arith)
begins_so (b ∷ z) is (suc n) some = (take n z, ap (λ c. c ∷ take n z) (eqb-true b 64 is))

begins_otherwise : (z : Text) → (slice_index z 0 == 64) ≡ false → (n : ℕ) → BeginsWithAt (take n z) → ⊥
begins_otherwise z is zero at = absurd (let e : [] ≡ 64 ∷ at.0 = at.1 in cc)
begins_otherwise [] is (suc n) at = absurd (let e : [] ≡ 64 ∷ at.0 = at.1 in cc)
begins_otherwise (b ∷ z) is (suc n) at = both_ways _ is (eq-eqb b 64 (ap (λ y. get_or y 0 0) at.1))

some_line : (z : Text) → (slice_index z 0 == 64) ≡ true → 1 ≤ prefix_len in_line z
some_line [] is = absurd (cc)
some_line (b ∷ z) is = let at : b ≡ 64 = eqb-true b 64 is in rw at (omega arith)

module _ (at : ℕ) (z : Text) where
  of_plain_line : (slice_index z 0 == 64) ≡ false → Front at (47 ∷ 47 ∷ z) ([], suc (suc (prefix_len in_line z)))
  of_plain_line otherwise =
      let n = prefix_len in_line z in
      record {
        element = LineComment (take n z);
        some = omega arith;
        all = ap (λ m. suc (suc m)) (length-take-le n z (prefix_len-le-length in_line z));
        bytes = ap (λ y. 47 ∷ 47 ∷ y) (sym (take-append-drop n z));
        tokens = refl;
        stands = (line_has_no_line_feed z, line_ends z, begins_otherwise z otherwise n);
      }

  of_line_annotation : (ts : List Token) → (slice_index z 0 == 64) ≡ true → Made true (at + 2) (take (prefix_len in_line z) z) ts → Front at (47 ∷ 47 ∷ z) (ts, suc (suc (prefix_len in_line z)))
  of_line_annotation ts is m =
      let n = prefix_len in_line z in
      record {
        element = LineAnnotation m.elements;
        some = omega arith;
        all = ap (λ y. suc (suc (length y))) (sym m.bytes) ∙ ap (λ k. suc (suc k)) (length-take-le n z (prefix_len-le-length in_line z));
        bytes = ap (λ y. 47 ∷ 47 ∷ y) (sym (take-append-drop n z) ∙ ap (λ y. y ++ drop n z) m.bytes);
        tokens = m.tokens;
        stands = (subst HasNoLineFeed m.bytes (line_has_no_line_feed z), line_ends z, subst BeginsWithAt m.bytes (begins_so z is n (some_line z is)), m.stand);
      }

  of_line : (p : List Token × ℕ) → line_comment at (47 ∷ 47 ∷ z) ≡ Ok p → Front at (47 ∷ 47 ∷ z) p
  unfolding line_comment
  of_line p is =
      let whole : prefix_len in_line (47 ∷ 47 ∷ z) ≡ suc (suc (prefix_len in_line z)) = line_length z in
      choice (slice_index z 0 == 64) _ _ p _ (rw whole at is)
      (λ test read.
      let r = of_len_reads _ _ p read in
      subst (Front at (47 ∷ 47 ∷ z)) (sym r.2) (of_line_annotation r.0 test (annotation_made (at + 2) (take (prefix_len in_line z) z) r.0 r.1)))
      (λ test read. subst (Front at (47 ∷ 47 ∷ z)) (same_read _ p read) (of_plain_line test))

-- ---- from `/*` on

closed_length : (text behind : Text) (n : ℕ) → length text ≡ n → length (text ++ (42 ∷ 47 ∷ [])) ≡ n + 2
closed_length text behind n is = length-append text (42 ∷ 47 ∷ []) ∙ ap (λ k. k + 2) is

record Closed (z : Text) (n : ℕ) (text : Text) : Type 0 where
  all : length (47 ∷ 42 ∷ (text ++ codes "*/")) ≡ n + 4
  bytes : 47 ∷ 42 ∷ z ≡ (47 ∷ 42 ∷ (text ++ codes "*/")) ++ drop (n + 4) (47 ∷ 42 ∷ z)

closed : (z : Text) (n : ℕ) → Closes z n → Closed z n (take n z)
closed z n c =
    let text = take n z in
    let whole : z ≡ (text ++ codes "*/") ++ c.behind = c.is ∙ sym (append_assoc text (codes "*/") c.behind) in
    let all : length (text ++ codes "*/") ≡ n + 2 = length-append text (codes "*/") ∙ ap (λ k. k + 2) c.within in
    let rest : drop (n + 2) z ≡ c.behind = ap (drop (n + 2)) whole ∙ drop_at (text ++ codes "*/") c.behind (n + 2) all in
    let more : n + 4 ≡ suc (suc (n + 2)) = omega arith in
    record {
      all = ap (λ k. suc (suc k)) all ∙ sym more;
      bytes = ap (λ y. 47 ∷ 42 ∷ y) (whole ∙ ap (λ y. (text ++ codes "*/") ++ y) (sym rest)) ∙ ap (λ k. 47 ∷ 42 ∷ ((text ++ codes "*/") ++ drop k (47 ∷ 42 ∷ z))) (sym more);
    }

begins_inside : (z : Text) (n : ℕ) → Closes z n → (slice_index z 0 == 64) ≡ true → BeginsWithAt (take n z)
begins_inside z zero c is = absurd (let e : slice_index z 0 ≡ 42 = ap (λ y. get_or y 0 0) c.is in let at : slice_index z 0 ≡ 64 = eqb-true _ _ is in omega arith)
begins_inside z (suc n) c is = begins_so z is (suc n) (omega arith)

module _ (at : ℕ) (z : Text) (n : ℕ) (c : Closes z n) where
  of_plain_block : (slice_index z 0 == 64) ≡ false → Front at (47 ∷ 42 ∷ z) ([], n + 4)
  of_plain_block otherwise =
      let w = closed z n c in
      record { element = BlockComment (take n z); some = omega arith; all = w.all; bytes = w.bytes; tokens = refl; stands = (c.no_sooner, begins_otherwise z otherwise n) }

  of_block_annotation : (ts : List Token) (y : Text) → (slice_index z 0 == 64) ≡ true → Trimmed (take n z) y → Made true (at + 2) y ts → Front at (47 ∷ 42 ∷ z) (ts, n + 4)
  of_block_annotation ts y is t m =
      let text : take n z ≡ flat_map jml_bytes m.elements ++ replicate t.count 64 = t.is ∙ ap (λ x. x ++ replicate t.count 64) m.bytes in
      let w = subst (Closed z n) text (closed z n c) in
      record {
        element = BlockAnnotation m.elements t.count;
        some = omega arith;
        all = w.all;
        bytes = w.bytes;
        tokens = m.tokens;
        stands = (subst HasNoClose text c.no_sooner, subst BeginsWithAt text (begins_inside z n c is), subst (λ x. EndsWithAt x → ⊥) m.bytes t.whole, m.stand);
      }

of_closed : (at : ℕ) (z : Text) (found : Option ℕ) (p : List Token × ℕ) → before_close z ≡ found → closed_comment at (47 ∷ 42 ∷ z) found ≡ Ok p → Front at (47 ∷ 42 ∷ z) p
of_closed at z None p found is = none_read (OpenComment (here at)) p _ is
of_closed at z (Some n) p found is =
    let c = closes z n found in
    choice (slice_index z 0 == 64) _ _ p _ is
    (λ test read.
    let r = of_len_reads _ _ p read in
    let y = without_last_ats (take n z) in
    subst (Front at (47 ∷ 42 ∷ z)) (sym r.2) (of_block_annotation at z n c r.0 y test (trimmed (take n z)) (annotation_made (at + 2) y r.0 r.1)))
    (λ test read. subst (Front at (47 ∷ 42 ∷ z)) (same_read _ p read) (of_plain_block at z n c test))

of_block : (at : ℕ) (z : Text) (p : List Token × ℕ) → block_comment at (47 ∷ 42 ∷ z) ≡ Ok p → Front at (47 ∷ 42 ∷ z) p
unfolding block_comment
of_block at z p is = of_closed at z (before_close z) p refl is

-- ---- the source

not_nul : (n : ℕ) → suc n ≡ 0 → ⊥
not_nul n is = omega arith

front : (at b : ℕ) (z : Text) (p : List Token × ℕ) → java_piece at (b ∷ z) ≡ Ok p → Front at (b ∷ z) p
unfolding java_piece
front at b z p is =
    choice (is_blank b) _ _ p _ is (λ blank read. subst (Front at (b ∷ z)) (same_read ([], 1) p read) (of_blank at b z blank)) (λ no_blank is.
    choice (begins_line_comment (b ∷ z)) _ _ p _ is (λ line read. from_line (first_two 47 47 (b ∷ z) (not_nul 46) (not_nul 46) line) read) (λ no_line is.
    choice (begins_block_comment (b ∷ z)) _ _ p _ is (λ block read. from_block (first_two 47 42 (b ∷ z) (not_nul 46) (not_nul 41) block) read) (λ no_block read.
    of_single at (b ∷ z) p no_line no_block (of_token false at b z p read))))
  where
    from_line : (r : Text) × (b ∷ z ≡ 47 ∷ 47 ∷ r) → line_comment at (b ∷ z) ≡ Ok p → Front at (b ∷ z) p
    from_line two read = subst (λ y. Front at y p) (sym two.1) (of_line at two.0 p (ap (line_comment at) (sym two.1) ∙ read))

    from_block : (r : Text) × (b ∷ z ≡ 47 ∷ 42 ∷ r) → block_comment at (b ∷ z) ≡ Ok p → Front at (b ∷ z) p
    from_block two read = subst (λ y. Front at y p) (sym two.1) (of_block at two.0 p (ap (block_comment at) (sym two.1) ∙ read))

record MadeFrom (at : ℕ) (z : Text) (ts : List Token) : Type 0 where
  elements : List Element
  bytes : z ≡ flat_map bytes_of elements
  tokens : ts ≡ flat_map tokens_of elements
  stand : AllStand at elements

join : (at : ℕ) (z : Text) (p : List Token × ℕ) (more ts : List Token) → Front at z p → ts ≡ p.0 ++ more → MadeFrom (at + p.1) (drop p.1 z) more → MadeFrom at z ts
join at z p more ts f both m = record {
  elements = f.element ∷ m.elements;
  bytes = f.bytes ∙ ap (λ y. bytes_of f.element ++ y) m.bytes;
  tokens = both ∙ ap (λ us. us ++ more) f.tokens ∙ ap (λ us. tokens_of f.element ++ us) m.tokens;
  stand = (subst (Stands at f.element) m.bytes f.stands, subst (λ k. AllStand (at + k) m.elements) (sym f.all) m.stand);
}

made : (fuel at : ℕ) (z : Text) (ts : List Token) → length z ≤ fuel → pieces (λ s. java_piece) (λ b s. s) 0 (tt {0}) at z ≡ Ok ts → MadeFrom at z ts
made fuel at [] ts le is = record { elements = []; bytes = refl; tokens = sym (same_read [] ts is); stand = tt }
made zero at (b ∷ z) ts le is = absurd (omega arith)
made (suc fuel) at (b ∷ z) ts le is =
    let c = cut {S = Unit {0}} (λ s. java_piece) (λ b s. s) (tt {0}) at b z ts is in
    let f = front at b z c.front c.reads in
    let less : length (drop c.front.1 (b ∷ z)) ≤ fuel = omega (arith, length-drop c.front.1 (b ∷ z), f.some) in
    join at (b ∷ z) c.front c.more ts f c.tokens (made fuel (at + c.front.1) (drop c.front.1 (b ∷ z)) c.more less (c.behind f.some))

made_up : (z : Text) (ts : List Token) → MadeFrom 0 z ts → HasTokens z ts
made_up z ts m = record { elements = m.elements; bytes = m.bytes; in_order = m.tokens; stand = m.stand }

pub java_made : (z : Text) (ts : List Token) → java z ≡ Ok ts → HasTokens z ts
unfolding java
java_made z ts is = made_up z ts (made (length z) 0 z ts (omega arith) is)

of_java : (z : Text) (r : Read) → java z ≡ r → IfOk r (λ found. HasTokens z found)
of_java z (Ok ts) is = java_made z ts is
of_java z (Err e) is = tt

pub of_source : (z : Text) → IfOk (tokens z) (λ found. HasTokens z found)
unfolding tokens
of_source z = go (is_utf8 z)
  where
    go : (t : Bool) → IfOk (if t then java z else Err (BadUtf8 (here (utf8_valid_len z)))) (λ found. HasTokens z found)
    go true = of_java z (java z) refl
    go false = tt
