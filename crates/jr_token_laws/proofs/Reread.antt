-- The tokens of elements are read from their bytes.
use Rattle.std.proofs.Common.{◌≡◌, ℕ, zero, suc, ◌+◌, ◌≤◌, Bool, true, false, if◌then◌else◌, ◌&&◌, List, [], ◌∷◌, ◌++◌, length, take, drop, replicate, slice_index, refl, sym, ◌∙◌, ap, arith, append_assoc, length-append}
use Rattle.std.specs.Prelude.{◌==◌, ◌↔◌, Ok, Err, codes, IsTrue, IsUtf8}
use Rattle.std.specs.List.{prefix_len, flat_map}
use Rattle.std.specs.Str.{is_utf8}
use Rattle.std.specs.Str.Lossy.{utf8_valid_len}
use Rattle.std.proofs.lemmas.Str.{IsUtf8-from_is_utf8, is_utf8-from_IsUtf8}
use Rattle.std.proofs.lemmas.Bool.{eqb-true, and_parts, false_from_ne_true}
use Rattle.std.proofs.lemmas.List.{take_at}
use Rattle.jr_base.specs.declared.refusal.Refusal.TheVariants.{BadUtf8}
use Rattle.jr_lexer.specs.Token.{Token}
use Rattle.jr_lexer.specs.Lexical.{Text, Piece, here, is_blank, is_at, in_line, begins_line_comment, begins_block_comment, skip, pieces, of_len, jml_piece, is_fresh, annotation, line_comment, before_close, without_last_ats, closed_comment, block_comment, java_piece, java, tokens}
use Rattle.jr_token_laws.specs.LongestSign.{BeginsWith}
use Rattle.jr_token_laws.specs.Spelling.{Stops}
use Rattle.jr_token_laws.specs.Elements.{JmlElement, JmlBlank, JmlComment, Ats, JmlToken, Element, Blank, LineComment, BlockComment, JavaToken, LineAnnotation, BlockAnnotation, jml_bytes, jml_tokens, bytes_of, tokens_of, EndsLine, HasNoLineFeed, HasNoClose, BeginsWithAt, EndsWithAt, JmlStands, is_fresh_behind, AllJmlStand, Stands, AllStand, HasTokens}
use Rattle.jr_token_laws.proofs.Cuts.{read_on, same_read, none_read}
use Rattle.jr_token_laws.proofs.Annotations.{line_length, not_fresh, still_fresh}
use Rattle.jr_token_laws.proofs.Fronts.{when_true, when_false, whole_prefix, stops_before, unblank, all_in_line, line_stops, line_end_is_no_at, begins_otherwise, begins_so, all_ats, run_is_left_out, no_line_comment, no_block_comment, closes_there}
use Rattle.jr_token_laws.proofs.Respelled.{Reads, is_read}
use Rattle.jr_token_laws.proofs.Sources.{java_made}

-- ---- annotations

record JmlReads (fresh : Bool) (at : ℕ) (e : JmlElement) (behind : Text) : Type 0 where
  some : 1 ≤ length (jml_bytes e)
  reads : jml_piece fresh at (jml_bytes e ++ behind) ≡ Ok (jml_tokens e, length (jml_bytes e))
  next : is_fresh (slice_index (jml_bytes e ++ behind) 0) fresh ≡ is_fresh_behind e fresh

-- what is skipped
abbrev skips : ℕ → Piece
skips n = Ok ([], n)

line_whole : (text behind : Text) → HasNoLineFeed text → EndsLine behind → prefix_len in_line (47 ∷ 47 ∷ (text ++ behind)) ≡ suc (suc (length text))
line_whole text behind one_line ends =
    line_length (text ++ behind) ∙ ap (λ n. suc (suc n)) (whole_prefix in_line text behind (all_in_line text one_line) (line_stops behind ends))

of_ats : (fresh : Bool) (at n : ℕ) (behind : Text) → IsTrue fresh → (BeginsWithAt behind → ⊥) → JmlReads fresh at (Ats (suc n)) behind
unfolding jml_piece
of_ats fresh at n behind is stops =
    let behind_run : Stops is_at behind = stops_before is_at 64 behind (λ b at. eqb-true b 64 at) stops in
    record { some = omega arith; reads = when_true fresh _ _ is ∙ ap skips (whole_prefix is_at (replicate (suc n) 64) behind (all_ats (suc n)) behind_run); next = not_fresh 64 fresh refl }

of_jml_comment : (fresh : Bool) (at : ℕ) (text behind : Text) → HasNoLineFeed text → EndsLine behind → JmlReads fresh at (JmlComment text) behind
unfolding jml_piece
of_jml_comment fresh at text behind one_line ends = record { some = omega arith; reads = ap skips (line_whole text behind one_line ends); next = not_fresh 47 fresh refl }

of_jml_token : (fresh : Bool) (at : ℕ) (t : Token) (bytes behind : Text) → 1 ≤ length bytes → Reads true at t bytes behind → (IsTrue fresh → BeginsWithAt bytes → ⊥) → (BeginsWith (bytes ++ behind) (codes "//") → ⊥) → JmlReads fresh at (JmlToken t bytes) behind
unfolding jml_piece
of_jml_token fresh at t [] behind some r no_at no_comment = absurd (omega arith)
of_jml_token fresh at t (b ∷ bytes) behind some r no_at no_comment =
    let other : (b == 64 && fresh) ≡ false = false_from_ne_true _ (λ is. let both = and_parts (b == 64) fresh is in no_at both.1 (bytes, ap (λ c. c ∷ bytes) (eqb-true b 64 both.0))) in
    record {
      some = some;
      reads = when_false (is_blank b) _ _ r.plain ∙ when_false (b == 64 && fresh) _ _ other ∙ when_false (begins_line_comment (b ∷ (bytes ++ behind))) _ _ (no_line_comment (b ∷ (bytes ++ behind)) no_comment) ∙ r.reads;
      next = not_fresh b fresh r.plain;
    }

of_jml : (fresh : Bool) (at : ℕ) (e : JmlElement) (behind : Text) → JmlStands fresh at e behind → JmlReads fresh at e behind
unfolding jml_piece
of_jml fresh at (JmlBlank b) behind is = record { some = omega arith; reads = when_true (is_blank b) _ _ (unblank b is); next = still_fresh b fresh (unblank b is) }
of_jml fresh at (JmlComment text) behind is = of_jml_comment fresh at text behind is.0 is.1
of_jml fresh at (Ats zero) behind is = absurd (omega (arith, is.1))
of_jml fresh at (Ats (suc n)) behind is = of_ats fresh at n behind is.0 is.2
of_jml fresh at (JmlToken t bytes) behind is = of_jml_token fresh at t bytes behind is.0.0 (is_read true at t bytes behind is.0) is.1 is.2

all_jml_read : (fresh : Bool) (at : ℕ) (es : List JmlElement) → AllJmlStand fresh at es → pieces jml_piece is_fresh 0 fresh at (flat_map jml_bytes es) ≡ Ok (flat_map jml_tokens es)
all_jml_read fresh at [] is = refl
all_jml_read fresh at (e ∷ es) is =
    let r = of_jml fresh at e (flat_map jml_bytes es) is.0 in
    read_on jml_piece is_fresh fresh (is_fresh_behind e fresh) at (jml_bytes e) (flat_map jml_bytes es) (jml_tokens e) (flat_map jml_tokens es) r.some r.reads r.next
    (all_jml_read (is_fresh_behind e fresh) (at + length (jml_bytes e)) es is.1)

annotation_read : (at : ℕ) (es : List JmlElement) → AllJmlStand true at es → annotation at (flat_map jml_bytes es) ≡ Ok (flat_map jml_tokens es)
unfolding annotation
annotation_read at es is = all_jml_read true at es is

-- ---- comments

abbrev line_piece : ℕ → Text → ℕ → Piece
line_piece at y n = if slice_index y 0 == 64 then of_len n (annotation (at + 2) (drop 2 (take n (47 ∷ 47 ∷ y)))) else skip n

of_line : (at : ℕ) (text behind : Text) (p : Piece) → HasNoLineFeed text → EndsLine behind → line_piece at (text ++ behind) (suc (suc (length text))) ≡ p → java_piece at (47 ∷ 47 ∷ (text ++ behind)) ≡ p
unfolding java_piece line_comment
of_line at text behind p one_line ends is = ap (line_piece at (text ++ behind)) (line_whole text behind one_line ends) ∙ is

abbrev block_piece : ℕ → Text → ℕ → Piece
block_piece at y n = if slice_index y 0 == 64 then of_len (n + 4) (annotation (at + 2) (without_last_ats (take n y))) else skip (n + 4)

of_block : (at : ℕ) (text behind : Text) (p : Piece) → HasNoClose text → block_piece at (text ++ (42 ∷ 47 ∷ behind)) (length text) ≡ p → java_piece at (47 ∷ 42 ∷ ((text ++ (42 ∷ 47 ∷ [])) ++ behind)) ≡ p
unfolding java_piece block_comment
of_block at text behind p closes is =
    ap (λ y. closed_comment at (47 ∷ 42 ∷ y) (before_close y)) (append_assoc text (42 ∷ 47 ∷ []) behind)
    ∙ ap (closed_comment at (47 ∷ 42 ∷ (text ++ (42 ∷ 47 ∷ behind)))) (closes_there text behind closes) ∙ is

record JavaReads (at : ℕ) (e : Element) (behind : Text) : Type 0 where
  some : 1 ≤ length (bytes_of e)
  reads : java_piece at (bytes_of e ++ behind) ≡ Ok (tokens_of e, length (bytes_of e))

of_token : (at : ℕ) (t : Token) (bytes behind : Text) → 1 ≤ length bytes → Reads false at t bytes behind → (BeginsWith (bytes ++ behind) (codes "//") → ⊥) → (BeginsWith (bytes ++ behind) (codes "/*") → ⊥) → JavaReads at (JavaToken t bytes) behind
unfolding java_piece
of_token at t bytes behind some r no_line no_block =
    let z = bytes ++ behind in
    record {
      some = some;
      reads = when_false (is_blank (slice_index z 0)) _ _ r.plain ∙ when_false (begins_line_comment z) _ _ (no_line_comment z no_line) ∙ when_false (begins_block_comment z) _ _ (no_block_comment z no_block) ∙ r.reads;
    }

abbrev reads_all : List Token → ℕ → Piece
reads_all ts n = Ok (ts, n)

of_line_annotation : (at : ℕ) (es : List JmlElement) (behind : Text) → HasNoLineFeed (flat_map jml_bytes es) → EndsLine behind → BeginsWithAt (flat_map jml_bytes es) → AllJmlStand true (at + 2) es → JavaReads at (LineAnnotation es) behind
of_line_annotation at es behind one_line ends opens stand =
    let text = flat_map jml_bytes es in
    let n = suc (suc (length text)) in
    record {
      some = omega arith;
      reads = of_line at text behind (reads_all (flat_map jml_tokens es) n) one_line ends
          (when_true (slice_index (text ++ behind) 0 == 64) _ _ (begins_so text behind opens)
          ∙ ap (λ y. of_len n (annotation (at + 2) y)) (take_at text behind (length text) refl)
          ∙ ap (of_len n) (annotation_read (at + 2) es stand));
    }

inside_block : (text behind : Text) → (BeginsWithAt text → ⊥) → (slice_index (text ++ (42 ∷ 47 ∷ behind)) 0 == 64) ≡ false
inside_block text behind otherwise = begins_otherwise text (42 ∷ 47 ∷ behind) otherwise refl

block_length : (text : Text) → length text + 4 ≡ length (47 ∷ 42 ∷ (text ++ (42 ∷ 47 ∷ [])))
block_length text = omega (arith, length-append text (42 ∷ 47 ∷ []))

of_block_annotation : (at : ℕ) (es : List JmlElement) (n : ℕ) (behind : Text) → HasNoClose (flat_map jml_bytes es ++ replicate n 64) → BeginsWithAt (flat_map jml_bytes es ++ replicate n 64) → (EndsWithAt (flat_map jml_bytes es) → ⊥) →
    AllJmlStand true (at + 2) es → JavaReads at (BlockAnnotation es n) behind
of_block_annotation at es n behind closes opens ends stand =
    let text = flat_map jml_bytes es ++ replicate n 64 in
    record {
      some = omega arith;
      reads = of_block at text behind (reads_all (flat_map jml_tokens es) (length (bytes_of (BlockAnnotation es n)))) closes
          (when_true (slice_index (text ++ (42 ∷ 47 ∷ behind)) 0 == 64) _ _ (begins_so text (42 ∷ 47 ∷ behind) opens)
          ∙ ap (λ y. of_len (length text + 4) (annotation (at + 2) (without_last_ats y))) (take_at text (42 ∷ 47 ∷ behind) (length text) refl)
          ∙ ap (λ y. of_len (length text + 4) (annotation (at + 2) y)) (run_is_left_out (flat_map jml_bytes es) n ends)
          ∙ ap (of_len (length text + 4)) (annotation_read (at + 2) es stand)
          ∙ ap (reads_all (flat_map jml_tokens es)) (block_length text));
    }

-- ---- the source

of_java : (at : ℕ) (e : Element) (behind : Text) → Stands at e behind → JavaReads at e behind
unfolding java_piece
of_java at (Blank b) behind is = record { some = omega arith; reads = when_true (is_blank b) _ _ (unblank b is) }
of_java at (LineComment text) behind is = record {
  some = omega arith;
  reads = of_line at text behind (skips (suc (suc (length text)))) is.0 is.1 (when_false (slice_index (text ++ behind) 0 == 64) _ _ (begins_otherwise text behind is.2 (line_end_is_no_at behind is.1)));
}
of_java at (BlockComment text) behind is = record {
  some = omega arith;
  reads = of_block at text behind (skips (length (bytes_of (BlockComment text)))) is.0
      (when_false (slice_index (text ++ (42 ∷ 47 ∷ behind)) 0 == 64) _ _ (inside_block text behind is.1) ∙ ap skips (block_length text));
}
of_java at (JavaToken t bytes) behind is = of_token at t bytes behind is.0.0 (is_read false at t bytes behind is.0) is.1 is.2
of_java at (LineAnnotation es) behind is = of_line_annotation at es behind is.0 is.1 is.2 is.3
of_java at (BlockAnnotation es n) behind is = of_block_annotation at es n behind is.0 is.1 is.2 is.3

all_read : (at : ℕ) (es : List Element) → AllStand at es → pieces (λ s. java_piece) (λ b s. s) 0 (tt {0}) at (flat_map bytes_of es) ≡ Ok (flat_map tokens_of es)
all_read at [] is = refl
all_read at (e ∷ es) is =
    let r = of_java at e (flat_map bytes_of es) is.0 in
    read_on {S = Unit {0}} (λ s. java_piece) (λ b s. s) (tt {0}) (tt {0}) at (bytes_of e) (flat_map bytes_of es) (tokens_of e) (flat_map tokens_of es) r.some r.reads refl
    (all_read (at + length (bytes_of e)) es is.1)

java_reads : (source : Text) (ts : List Token) → HasTokens source ts → java source ≡ Ok ts
unfolding java
java_reads source ts m = ap (λ z. pieces (λ s. java_piece) (λ b s. s) 0 (tt {0}) 0 z) m.bytes ∙ all_read 0 m.elements m.stand ∙ ap Ok (sym m.in_order)

pub one_reading : (source : Text) (one other : List Token) → HasTokens source one → HasTokens source other → one ≡ other
one_reading source one other first second = same_read one other (sym (java_reads source one first) ∙ java_reads source other second)

-- a source has these tokens exactly where it is UTF-8 and made of elements whose tokens they are
pub exact : (source : Text) (ts : List Token) → (tokens source ≡ Ok ts) ↔ (IsUtf8 source × HasTokens source ts)
unfolding tokens
exact source ts = (λ is. there (is_utf8 source) refl is, λ both. when_true (is_utf8 source) _ _ (is_utf8-from_IsUtf8 source both.0) ∙ java_reads source ts both.1)
  where
    there : (t : Bool) → is_utf8 source ≡ t → (if t then java source else Err (BadUtf8 (here (utf8_valid_len source)))) ≡ Ok ts → IsUtf8 source × HasTokens source ts
    there true utf8 is = (IsUtf8-from_is_utf8 source utf8, java_made source ts is)
    there false utf8 is = none_read (BadUtf8 (here (utf8_valid_len source))) ts _ is
