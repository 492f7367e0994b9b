-- Gaps stand between the tokens of elements.
use Rattle.std.proofs.Common.{◌≡◌, ℕ, zero, suc, ◌+◌, ◌-◌, Bool, true, false, List, [], ◌∷◌, ◌++◌, length, take, drop, get_or, replicate, IfOk, refl, sym, ◌∙◌, ap, subst, subst₂, arith, append_assoc, inl, inr, length-append}
use Rattle.std.specs.Prelude.{◌⊎◌, Ok, Err, codes}
use Rattle.std.specs.List.{flat_map}
use Rattle.std.proofs.lemmas.Bool.{true≢false}
use Rattle.std.proofs.lemmas.Grind.{flat_map-append}
use Rattle.std.proofs.lemmas.List.{append-nil, drop_at}
use Rattle.jr_lexer.specs.Token.{Token}
use Rattle.jr_lexer.specs.Lexical.{Read, is_blank, tokens}
use Rattle.jr_token_laws.specs.Elements.{JmlElement, JmlBlank, JmlComment, Ats, JmlToken, Element, Blank, LineComment, BlockComment, JavaToken, LineAnnotation, BlockAnnotation, jml_bytes, jml_tokens, bytes_of, tokens_of, EndsLine, BeginsWithAt, IsToken, JmlStands, is_fresh_behind, AllJmlStand, Stands, AllStand, HasTokens}
use Rattle.jr_token_laws.specs.Spans.{bytes_at}
use Rattle.jr_token_laws.specs.Gaps.{GapPiece, BlankPiece, LinePiece, BlockPiece, LineMark, BlockMark, AtMark, CloseMark, piece_bytes, ClosesThere, IsPiece, ArePieces, IsGap, GapsStand}
use Rattle.jr_token_laws.proofs.Fronts.{unblank}
use Rattle.jr_token_laws.proofs.Spelled.{at_span}
use Rattle.jr_token_laws.proofs.Sources.{of_source}

no_gap : (behind : List ℕ) → IsGap [] behind
no_gap behind = record { pieces = []; is = refl; fit = tt }

one_piece : (p : GapPiece) (behind : List ℕ) → IsPiece p behind → IsGap (piece_bytes p) behind
one_piece p behind is = record { pieces = p ∷ []; is = sym (append-nil (piece_bytes p)); fit = (is, tt) }

both_pieces : (ps qs : List GapPiece) (behind : List ℕ) → ArePieces ps (flat_map piece_bytes qs ++ behind) → ArePieces qs behind → ArePieces (ps ++ qs) behind
both_pieces [] qs behind one other = other
both_pieces (p ∷ ps) qs behind one other =
    let same : flat_map piece_bytes ps ++ (flat_map piece_bytes qs ++ behind) ≡ flat_map piece_bytes (ps ++ qs) ++ behind = sym (append_assoc (flat_map piece_bytes ps) (flat_map piece_bytes qs) behind) ∙ ap (λ y. y ++ behind) (sym (flat_map-append piece_bytes ps qs)) in
    (subst (IsPiece p) same one.0, both_pieces ps qs behind one.1 other)

gaps_joined : (a b behind : List ℕ) → IsGap a (b ++ behind) → IsGap b behind → IsGap (a ++ b) behind
gaps_joined a b behind one other = record {
  pieces = one.pieces ++ other.pieces;
  is = ap (λ x. x ++ b) one.is ∙ ap (λ y. flat_map piece_bytes one.pieces ++ y) other.is ∙ sym (flat_map-append piece_bytes one.pieces other.pieces);
  fit = both_pieces one.pieces other.pieces behind (subst (λ y. ArePieces one.pieces (y ++ behind)) other.is one.fit) other.fit;
}

ats : (n : ℕ) (behind : List ℕ) → IsGap (replicate n 64) behind
ats zero behind = no_gap behind
ats (suc n) behind = gaps_joined (codes "@") (replicate n 64) behind (one_piece AtMark (replicate n 64 ++ behind) tt) (ats n behind)

-- a text from that place of the source on, up to what is behind it: a gap before each token, and one behind the last
record Before (at : ℕ) (text : List ℕ) (t : Token) (rest behind : List ℕ) : Type 0 where
  gap : List ℕ
  bytes : List ℕ
  is : text ≡ gap ++ (bytes ++ rest)
  is_gap : IsGap gap (bytes ++ (rest ++ behind))
  start : t.span.start ≡ at + length gap
  end : t.span.end ≡ t.span.start + length bytes

abbrev Alternate : ℕ → List ℕ → List Token → List ℕ → Type 0
Alternate at text [] behind = IsGap text behind
Alternate at text (t ∷ ts) behind = (rest : List ℕ) × Before at text t rest behind × Alternate t.span.end rest ts behind

alternate_behind : (at : ℕ) (x y : List ℕ) (ts : List Token) (behind : List ℕ) → IsGap x (y ++ behind) → Alternate (at + length x) y ts behind → Alternate at (x ++ y) ts behind
alternate_behind at x y [] behind gap is = gaps_joined x y behind gap is
alternate_behind at x y (t ∷ ts) behind gap is =
    let b = is.1 in
    let rest = b.bytes ++ (is.0 ++ behind) in
    let same : y ++ behind ≡ b.gap ++ rest = ap (λ z. z ++ behind) b.is ∙ append_assoc b.gap (b.bytes ++ is.0) behind ∙ ap (λ z. b.gap ++ z) (append_assoc b.bytes is.0 behind) in
    let front : IsGap (x ++ b.gap) rest = gaps_joined x b.gap rest (subst (IsGap x) same gap) b.is_gap in
    (is.0, record { gap = x ++ b.gap; bytes = b.bytes; is = ap (λ z. x ++ z) b.is ∙ sym (append_assoc x b.gap (b.bytes ++ is.0)); is_gap = front; start = omega (arith, b.start, length-append x b.gap); end = b.end }, is.2)

alternate_joined : (at : ℕ) (x y : List ℕ) (ts us : List Token) (behind : List ℕ) → Alternate at x ts (y ++ behind) → Alternate (at + length x) y us behind → Alternate at (x ++ y) (ts ++ us) behind
alternate_joined at x y [] us behind one other = alternate_behind at x y us behind one other
alternate_joined at x y (t ∷ ts) us behind one other =
    let b = one.1 in
    let all : length x ≡ length b.gap + (length b.bytes + length one.0) = ap length b.is ∙ length-append b.gap (b.bytes ++ one.0) ∙ ap (λ k. length b.gap + k) (length-append b.bytes one.0) in
    let place : at + length x ≡ t.span.end + length one.0 = omega (arith, b.start, b.end) in
    let whole : x ++ y ≡ b.gap ++ (b.bytes ++ (one.0 ++ y)) = ap (λ z. z ++ y) b.is ∙ append_assoc b.gap (b.bytes ++ one.0) y ∙ ap (λ z. b.gap ++ z) (append_assoc b.bytes one.0 y) in
    let gap : IsGap b.gap (b.bytes ++ ((one.0 ++ y) ++ behind)) = subst (λ z. IsGap b.gap (b.bytes ++ z)) (sym (append_assoc one.0 y behind)) b.is_gap in
    (one.0 ++ y, record { gap = b.gap; bytes = b.bytes; is = whole; is_gap = gap; start = b.start; end = b.end }, alternate_joined t.span.end one.0 y ts us behind one.2 (subst (λ k. Alternate k y us behind) place other))

alternate_token : (jml : Bool) (at : ℕ) (t : Token) (bytes after behind : List ℕ) → IsToken jml at t bytes after → Alternate at bytes (t ∷ []) behind
alternate_token jml at t bytes after behind is = ([], record { gap = []; bytes = bytes; is = sym (append-nil bytes); is_gap = no_gap (bytes ++ behind); start = omega (arith, is.1); end = omega (arith, is.1, is.2) }, no_gap behind)

-- what may stand behind a comment that goes up to the end of its line
abbrev Ends : List ℕ → Type 0
Ends behind = EndsLine behind ⊎ ClosesThere behind

ends_so : (after behind : List ℕ) → EndsLine after → Ends behind → Ends (after ++ behind)
ends_so after behind (inl is) ends = subst (λ y. Ends (y ++ behind)) (sym is) ends
ends_so after behind (inr (rest, is)) ends = inl (inr (rest ++ behind, ap (λ y. y ++ behind) is))

of_jml : (fresh : Bool) (at : ℕ) (e : JmlElement) (after behind : List ℕ) → Ends behind → JmlStands fresh at e after → Alternate at (jml_bytes e) (jml_tokens e) (after ++ behind)
of_jml fresh at (JmlBlank b) after behind ends is = one_piece (BlankPiece b) (after ++ behind) is
of_jml fresh at (JmlComment text) after behind ends is = one_piece (LinePiece text) (after ++ behind) (is.0, ends_so after behind is.1 ends)
of_jml fresh at (Ats n) after behind ends is = ats n (after ++ behind)
of_jml fresh at (JmlToken t bytes) after behind ends is = alternate_token true at t bytes after (after ++ behind) is.0

all_jml : (fresh : Bool) (at : ℕ) (es : List JmlElement) (behind : List ℕ) → Ends behind → AllJmlStand fresh at es → Alternate at (flat_map jml_bytes es) (flat_map jml_tokens es) behind
all_jml fresh at [] behind ends is = no_gap behind
all_jml fresh at (e ∷ es) behind ends is =
    alternate_joined at (jml_bytes e) (flat_map jml_bytes es) (jml_tokens e) (flat_map jml_tokens es) behind (of_jml fresh at e (flat_map jml_bytes es) behind ends is.0)
    (all_jml (is_fresh_behind e fresh) (at + length (jml_bytes e)) es behind ends is.1)

-- ---- marks

head_is : (a b : ℕ) (x y : List ℕ) → a ∷ x ≡ b ∷ y → a ≡ b
head_is a b x y is = ap (λ z. get_or z 0 0) is

no_slash : (let slash : ℕ = 47 in slash) ≡ 64 → ⊥
no_slash is = omega arith

no_star : (let star : ℕ = 42 in star) ≡ 64 → ⊥
no_star is = omega arith

-- an annotation's text, before what is skipped at its end, begins with a run of `@`
module _ (at : ℕ) (mark tail behind : List ℕ) (two : length mark ≡ 2) (opens : (y : List ℕ) → IsGap (mark ++ 64 ∷ []) y) (ends : Ends (tail ++ behind)) (skipped : IsGap tail behind) (alone : BeginsWithAt tail → IsGap (mark ++ tail) behind) where
  behind_run : (n : ℕ) (es : List JmlElement) → AllJmlStand false (at + 2 + length {A = ℕ} (replicate (suc n) 64)) es → Alternate at (mark ++ ((replicate (suc n) 64 ++ flat_map jml_bytes es) ++ tail)) (flat_map jml_tokens es) behind
  behind_run n es stand =
      let text = flat_map jml_bytes es in
      let ts = flat_map jml_tokens es in
      let run : List ℕ = replicate (suc n) 64 in
      let rest = text ++ (tail ++ behind) in
      let front : IsGap (mark ++ run) rest = subst (λ z. IsGap z rest) (append_assoc mark (64 ∷ []) (replicate n 64)) (gaps_joined (mark ++ 64 ∷ []) (replicate n 64) rest (opens (replicate n 64 ++ rest)) (ats n rest)) in
      let place : at + 2 + length run ≡ at + length (mark ++ run) = omega (arith, length-append mark run, two) in
      let inside : Alternate (at + length (mark ++ run)) text ts (tail ++ behind) = subst (λ k. Alternate k text ts (tail ++ behind)) place (all_jml false (at + 2 + length run) es (tail ++ behind) ends stand) in
      let most : Alternate at ((mark ++ run) ++ text) ts (tail ++ behind) = alternate_behind at (mark ++ run) text ts (tail ++ behind) front inside in
      let whole : Alternate at (((mark ++ run) ++ text) ++ tail) (ts ++ []) behind = alternate_joined at ((mark ++ run) ++ text) tail ts [] behind most skipped in
      let same : ((mark ++ run) ++ text) ++ tail ≡ mark ++ ((run ++ text) ++ tail) = ap (λ z. z ++ tail) (append_assoc mark run text) ∙ append_assoc mark (run ++ text) tail in
      subst₂ (λ z us. Alternate at z us behind) same (append-nil ts) whole

  opened : (es : List JmlElement) → AllJmlStand true (at + 2) es → BeginsWithAt (flat_map jml_bytes es ++ tail) → Alternate at (mark ++ (flat_map jml_bytes es ++ tail)) (flat_map jml_tokens es) behind
  opened [] stand begins = alone begins
  opened (JmlBlank b ∷ es) stand begins =
      let is : b ≡ 64 = head_is b 64 (flat_map jml_bytes es ++ tail) begins.0 begins.1 in
      absurd (true≢false (sym (unblank b stand.0) ∙ ap is_blank is))
  opened (JmlComment text ∷ es) stand begins =
      absurd (no_slash (head_is 47 64 _ begins.0 begins.1))
  opened (Ats zero ∷ es) stand begins = absurd (omega (arith, stand.0.1))
  opened (Ats (suc n) ∷ es) stand begins = behind_run n es stand.1
  opened (JmlToken t [] ∷ es) stand begins = absurd (omega (arith, stand.0.0.0))
  opened (JmlToken t (b ∷ bytes) ∷ es) stand begins =
      let is : b ≡ 64 = ap (λ z. get_or z 0 0) begins.1 in
      absurd (stand.0.1 refl (bytes, ap (λ c. c ∷ bytes) is))

closing : (n : ℕ) (behind : List ℕ) → IsGap (replicate n 64 ++ codes "*/") behind
closing n behind = gaps_joined (replicate n 64) (codes "*/") behind (ats n (codes "*/" ++ behind)) (one_piece CloseMark behind tt)

only_marks : (n : ℕ) (behind : List ℕ) → BeginsWithAt (replicate n 64 ++ codes "*/") → IsGap (codes "/*" ++ (replicate n 64 ++ codes "*/")) behind
only_marks zero behind begins = absurd (no_star (head_is 42 64 (47 ∷ []) begins.0 begins.1))
only_marks (suc n) behind begins =
    let rest : List ℕ = replicate n 64 ++ codes "*/" in
    gaps_joined (codes "/*@") rest behind (one_piece BlockMark (rest ++ behind) tt) (closing n behind)

-- ---- the source

of_java : (at : ℕ) (e : Element) (behind : List ℕ) → Stands at e behind → Alternate at (bytes_of e) (tokens_of e) behind
of_java at (Blank b) behind is = one_piece (BlankPiece b) behind is
of_java at (LineComment text) behind is = one_piece (LinePiece text) behind (is.0, inl is.1)
of_java at (BlockComment text) behind is = one_piece (BlockPiece text) behind is.0
of_java at (JavaToken t bytes) behind is = alternate_token false at t bytes behind behind is.0
of_java at (LineAnnotation es) behind is =
    let text = flat_map jml_bytes es in
    let same : text ++ [] ≡ text = append-nil text in
    subst (λ y. Alternate at (codes "//" ++ y) (flat_map jml_tokens es) behind) same
    (opened at (codes "//") [] behind refl (λ y. one_piece LineMark y tt) (inl is.1) (no_gap behind) (λ begins. absurd (nothing_begins begins.0 begins.1)) es is.3 (subst BeginsWithAt (sym same) is.2))
  where
    nothing_begins : (rest : List ℕ) → [] ≡ 64 ∷ rest → ⊥
    nothing_begins rest is = cc
of_java at (BlockAnnotation es n) behind is =
    let text = flat_map jml_bytes es in
    let run : List ℕ = replicate n 64 in
    let same : text ++ (run ++ codes "*/") ≡ (text ++ run) ++ codes "*/" = sym (append_assoc text run (codes "*/")) in
    let begins : BeginsWithAt (text ++ (run ++ codes "*/")) = subst BeginsWithAt (sym same) (is.1.0 ++ codes "*/", ap (λ y. y ++ codes "*/") is.1.1) in
    subst (λ y. Alternate at (codes "/*" ++ y) (flat_map jml_tokens es) behind) same
    (opened at (codes "/*") (run ++ codes "*/") behind refl (λ y. one_piece BlockMark y tt) (inr (n, (behind, refl))) (closing n behind) (only_marks n behind) es is.3 begins)

all_java : (at : ℕ) (es : List Element) → AllStand at es → Alternate at (flat_map bytes_of es) (flat_map tokens_of es) []
all_java at [] is = no_gap []
all_java at (e ∷ es) is =
    let rest = flat_map bytes_of es in
    let first : Alternate at (bytes_of e) (tokens_of e) (rest ++ []) = subst (Alternate at (bytes_of e) (tokens_of e)) (sym (append-nil rest)) (of_java at e rest is.0) in
    alternate_joined at (bytes_of e) rest (tokens_of e) (flat_map tokens_of es) [] first (all_java (at + length (bytes_of e)) es is.1)

gaps : (before text : List ℕ) (ts : List Token) (at : ℕ) → at ≡ length before → Alternate at text ts [] → GapsStand (before ++ text) at ts
gaps before text [] at start is = subst (λ y. IsGap y []) (sym (drop_at before text at (sym start))) is
gaps before text (t ∷ ts) at start is =
    let b = is.1 in
    let source = before ++ text in
    let gap : bytes_at source (record { start = at; end = t.span.start }) ≡ b.gap = ap (λ y. take (t.span.start - at) (drop at (before ++ y))) b.is ∙ at_span before b.gap (b.bytes ++ is.0) at t.span.start start b.start in
    let spread : source ≡ (before ++ b.gap) ++ (b.bytes ++ is.0) = ap (λ y. before ++ y) b.is ∙ sym (append_assoc before b.gap (b.bytes ++ is.0)) in
    let place : length (before ++ b.gap) ≡ t.span.start = omega (arith, b.start, length-append before b.gap) in
    let behind : drop t.span.start source ≡ b.bytes ++ is.0 = ap (drop t.span.start) spread ∙ drop_at (before ++ b.gap) (b.bytes ++ is.0) t.span.start place in
    let fits : IsGap b.gap (b.bytes ++ is.0) = subst (λ y. IsGap b.gap (b.bytes ++ y)) (append-nil is.0) b.is_gap in
    let front = (before ++ b.gap) ++ b.bytes in
    let same : front ++ is.0 ≡ source = append_assoc (before ++ b.gap) b.bytes is.0 ∙ sym spread in
    let end : t.span.end ≡ length front = omega (arith, b.start, b.end, length-append (before ++ b.gap) b.bytes, length-append before b.gap) in
    (subst₂ IsGap (sym gap) (sym behind) fits, subst (λ z. GapsStand z t.span.end ts) same (gaps front is.0 ts t.span.end end is.2))

made_up_gaps : (source : List ℕ) (ts : List Token) → HasTokens source ts → GapsStand source 0 ts
made_up_gaps source ts m = subst₂ (λ z us. GapsStand z 0 us) (sym m.bytes) (sym m.in_order) (gaps [] (flat_map bytes_of m.elements) (flat_map tokens_of m.elements) 0 refl (all_java 0 m.elements m.stand))

pub of_source_gaps : (source : List ℕ) → IfOk (tokens source) (λ found. GapsStand source 0 found)
of_source_gaps source = go (tokens source) (of_source source)
  where
    go : (r : Read) → IfOk r (λ found. HasTokens source found) → IfOk r (λ found. GapsStand source 0 found)
    go (Ok ts) m = made_up_gaps source ts m
    go (Err e) m = tt
