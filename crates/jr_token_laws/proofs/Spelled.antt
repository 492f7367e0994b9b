-- The texts of the tokens of elements are the source at their spans.
use Rattle.std.proofs.Common.{◌≡◌, ℕ, zero, suc, ◌+◌, ◌-◌, ◌<◌, Bool, true, false, List, [], ◌∷◌, ◌++◌, length, take, drop, get_or, replicate, IfOk, refl, sym, ◌∙◌, ap, subst, subst₂, arith, append_assoc, length-append}
use Rattle.std.specs.Prelude.{◌≢◌, Ok, Err, codes}
use Rattle.std.specs.List.{flat_map, All}
use Rattle.std.proofs.lemmas.List.{append-nil, take_at, drop_at}
use Rattle.std.proofs.lemmas.List.Elements.{All-append}
use Rattle.jr_lexer.specs.declared.kind.Kind.TheVariants as k
use Rattle.jr_lexer.specs.Token.{Token}
use Rattle.jr_lexer.specs.Lexical.{Read, tokens}
use Rattle.jr_token_laws.specs.Elements.{JmlElement, JmlBlank, JmlComment, Ats, JmlToken, Element, Blank, LineComment, BlockComment, JavaToken, LineAnnotation, BlockAnnotation, jml_bytes, jml_tokens, bytes_of, tokens_of, IsToken, JmlStands, is_fresh_behind, AllJmlStand, Stands, AllStand, HasTokens}
use Rattle.jr_token_laws.specs.Spelling.{IsSpelled, AsWord, AsInteger, AsString, AsBackslashWord, AsSign}
use Rattle.jr_token_laws.specs.Spans.{bytes_at, AreSpelled}
use Rattle.jr_token_laws.proofs.Sources.{of_source}

-- so many bytes behind so many others
pub at_span : (before bytes behind : List ℕ) (from to : ℕ) → from ≡ length before → to ≡ from + length bytes → take (to - from) (drop from (before ++ (bytes ++ behind))) ≡ bytes
at_span before bytes behind from to start end =
    let n : to - from ≡ length bytes = omega arith in
    ap (λ k. take k (drop from (before ++ (bytes ++ behind)))) n
    ∙ ap (take (length bytes)) (drop_at before (bytes ++ behind) from (sym start)) ∙ take_at bytes behind (length bytes) refl

none : (source : List ℕ) → AreSpelled source []
none source k d within = absurd (omega arith)

single : (P : Token → Type 0) (t : Token) → P t → All P (t ∷ [])
single P t is k d within = go k within
  where
    go : (k : ℕ) → k < 1 → P (get_or (t ∷ []) k d)
    go zero within = is
    go (suc k) within = absurd (omega arith)

-- only the text of a string is another than its spelling
text_is : (jml : Bool) (t : Token) (bytes behind : List ℕ) → IsSpelled jml t bytes behind → t.kind ≢ k.Text → t.text ≡ bytes
text_is jml t bytes behind (AsWord w) other = w.text
text_is jml t bytes behind (AsInteger i) other = i.text
text_is jml t bytes behind (AsString s) other = absurd (other s.kind)
text_is jml t bytes behind (AsBackslashWord may w) other = w.text
text_is jml t bytes behind (AsSign s) other = s.text

token_spelled : (jml : Bool) (t : Token) (before bytes after behind : List ℕ) → IsToken jml (length before) t bytes after → AreSpelled (before ++ (bytes ++ behind)) (t ∷ [])
token_spelled jml t before bytes after behind is =
    let there : bytes_at (before ++ (bytes ++ behind)) t.span ≡ bytes = at_span before bytes behind t.span.start t.span.end is.1 (is.2 ∙ ap (λ k. k + length bytes) (sym is.1)) in
    single (λ u. u.kind ≢ k.Text → u.text ≡ bytes_at (before ++ (bytes ++ behind)) u.span) t (λ other. text_is jml t bytes after is.4 other ∙ sym there)

both_spelled : (source : List ℕ) (ts us : List Token) → AreSpelled source ts → AreSpelled source us → AreSpelled source (ts ++ us)
both_spelled source ts us first second = All-append (λ t. t.kind ≢ k.Text → t.text ≡ bytes_at source t.span) ts us first second

-- elements that are spelled with those behind them
spelled_joined : (before bytes more behind : List ℕ) (ts us : List Token) → AreSpelled (before ++ (bytes ++ (more ++ behind))) ts → AreSpelled ((before ++ bytes) ++ (more ++ behind)) us →
    AreSpelled (before ++ ((bytes ++ more) ++ behind)) (ts ++ us)
spelled_joined before bytes more behind ts us first second =
    let one : before ++ (bytes ++ (more ++ behind)) ≡ before ++ ((bytes ++ more) ++ behind) = ap (λ y. before ++ y) (sym (append_assoc bytes more behind)) in
    let two : (before ++ bytes) ++ (more ++ behind) ≡ before ++ ((bytes ++ more) ++ behind) = append_assoc before bytes (more ++ behind) ∙ one in
    both_spelled (before ++ ((bytes ++ more) ++ behind)) ts us (subst (λ y. AreSpelled y ts) one first) (subst (λ y. AreSpelled y us) two second)

jml_spelled : (fresh : Bool) (before : List ℕ) (e : JmlElement) (after behind : List ℕ) → JmlStands fresh (length before) e after → AreSpelled (before ++ (jml_bytes e ++ behind)) (jml_tokens e)
jml_spelled fresh before (JmlBlank b) after behind is = none _
jml_spelled fresh before (JmlComment text) after behind is = none _
jml_spelled fresh before (Ats n) after behind is = none _
jml_spelled fresh before (JmlToken t bytes) after behind is = token_spelled true t before bytes after behind is.0

all_jml_spelled : (fresh : Bool) (before : List ℕ) (es : List JmlElement) (behind : List ℕ) → AllJmlStand fresh (length before) es → AreSpelled (before ++ (flat_map jml_bytes es ++ behind)) (flat_map jml_tokens es)
all_jml_spelled fresh before [] behind is = none _
all_jml_spelled fresh before (e ∷ es) behind is =
    let on : AllJmlStand (is_fresh_behind e fresh) (length (before ++ jml_bytes e)) es = subst (λ k. AllJmlStand (is_fresh_behind e fresh) k es) (sym (length-append before (jml_bytes e))) is.1 in
    spelled_joined before (jml_bytes e) (flat_map jml_bytes es) behind (jml_tokens e) (flat_map jml_tokens es)
    (jml_spelled fresh before e (flat_map jml_bytes es) (flat_map jml_bytes es ++ behind) is.0)
    (all_jml_spelled (is_fresh_behind e fresh) (before ++ jml_bytes e) es behind on)

-- the text of an annotation, behind its mark and before what closes it
inside : (before mark text close behind : List ℕ) (ts : List Token) → AreSpelled ((before ++ mark) ++ (text ++ (close ++ behind))) ts → AreSpelled (before ++ ((mark ++ (text ++ close)) ++ behind)) ts
inside before mark text close behind ts is =
    let one : (before ++ mark) ++ (text ++ (close ++ behind)) ≡ before ++ (mark ++ ((text ++ close) ++ behind)) = append_assoc before mark (text ++ (close ++ behind)) ∙ ap (λ y. before ++ (mark ++ y)) (sym (append_assoc text close behind)) in
    let two : before ++ (mark ++ ((text ++ close) ++ behind)) ≡ before ++ ((mark ++ (text ++ close)) ++ behind) = ap (λ y. before ++ y) (sym (append_assoc mark (text ++ close) behind)) in
    subst (λ y. AreSpelled y ts) (one ∙ two) is

behind_mark : (before mark : List ℕ) (es : List JmlElement) → length mark ≡ 2 → AllJmlStand true (length before + 2) es → AllJmlStand true (length (before ++ mark)) es
behind_mark before mark es two is = subst (λ k. AllJmlStand true k es) (ap (λ k. length before + k) (sym two) ∙ sym (length-append before mark)) is

spelled : (before : List ℕ) (e : Element) (after behind : List ℕ) → Stands (length before) e after → AreSpelled (before ++ (bytes_of e ++ behind)) (tokens_of e)
spelled before (Blank b) after behind is = none _
spelled before (LineComment text) after behind is = none _
spelled before (BlockComment text) after behind is = none _
spelled before (JavaToken t bytes) after behind is = token_spelled false t before bytes after behind is.0
spelled before (LineAnnotation es) after behind is =
    let text = flat_map jml_bytes es in
    let at = all_jml_spelled true (before ++ codes "//") es behind (behind_mark before (codes "//") es refl is.3) in
    let there = inside before (codes "//") text [] behind (flat_map jml_tokens es) at in
    subst (λ y. AreSpelled (before ++ ((codes "//" ++ y) ++ behind)) (flat_map jml_tokens es)) (append-nil text) there
spelled before (BlockAnnotation es n) after behind is =
    let text = flat_map jml_bytes es in
    let close = replicate n 64 ++ codes "*/" in
    let at = all_jml_spelled true (before ++ codes "/*") es (close ++ behind) (behind_mark before (codes "/*") es refl is.3) in
    let there = inside before (codes "/*") text close behind (flat_map jml_tokens es) at in
    subst (λ y. AreSpelled (before ++ ((codes "/*" ++ y) ++ behind)) (flat_map jml_tokens es)) (sym (append_assoc text (replicate n 64) (codes "*/"))) there

all_spelled : (before : List ℕ) (es : List Element) → AllStand (length before) es → AreSpelled (before ++ flat_map bytes_of es) (flat_map tokens_of es)
all_spelled before [] is = none _
all_spelled before (e ∷ es) is =
    let on : AllStand (length (before ++ bytes_of e)) es = subst (λ k. AllStand k es) (sym (length-append before (bytes_of e))) is.1 in
    let first = spelled before e (flat_map bytes_of es) (flat_map bytes_of es) is.0 in
    let second = subst (λ y. AreSpelled y (flat_map tokens_of es)) (append_assoc before (bytes_of e) (flat_map bytes_of es)) (all_spelled (before ++ bytes_of e) es on) in
    both_spelled (before ++ (bytes_of e ++ flat_map bytes_of es)) (tokens_of e) (flat_map tokens_of es) first second

made_up_spelled : (source : List ℕ) (ts : List Token) → HasTokens source ts → AreSpelled source ts
made_up_spelled source ts m = subst₂ AreSpelled (sym m.bytes) (sym m.in_order) (all_spelled [] m.elements m.stand)

pub of_source_spelled : (source : List ℕ) → IfOk (tokens source) (λ found. AreSpelled source found)
of_source_spelled source = go (tokens source) (of_source source)
  where
    go : (r : Read) → IfOk r (λ found. HasTokens source found) → IfOk r (λ found. AreSpelled source found)
    go (Ok ts) m = made_up_spelled source ts m
    go (Err e) m = tt
