-- The spans of the tokens of elements rise.
use Rattle.std.proofs.Common.{◌≡◌, ℕ, ◌+◌, ◌≤◌, Bool, true, false, List, [], ◌∷◌, ◌++◌, length, replicate, IfOk, sym, ap, subst, arith, length-append}
use Rattle.std.specs.Prelude.{Ok, Err, codes}
use Rattle.std.specs.List.{flat_map}
use Rattle.jr_lexer.specs.Token.{Token}
use Rattle.jr_lexer.specs.Lexical.{Read, tokens}
use Rattle.jr_token_laws.specs.Elements.{JmlElement, JmlBlank, JmlComment, Ats, JmlToken, Element, Blank, LineComment, BlockComment, JavaToken, LineAnnotation, BlockAnnotation, jml_bytes, jml_tokens, bytes_of, tokens_of, IsToken, JmlStands, is_fresh_behind, AllJmlStand, Stands, AllStand, HasTokens}
use Rattle.jr_token_laws.specs.Spans.{Rise}
use Rattle.jr_token_laws.proofs.Sources.{of_source}

rise_between : (a b c d : ℕ) (ts : List Token) → a ≤ b → Rise b ts c → c ≤ d → Rise a ts d
rise_between a b c d [] first rise last = omega arith
rise_between a b c d (t ∷ ts) first rise last = (omega (arith, rise.0), rise.1, rise_between t.span.end t.span.end c d ts (omega arith) rise.2 last)

rise_on : (a b c : ℕ) (ts us : List Token) → Rise a ts b → Rise b us c → Rise a (ts ++ us) c
rise_on a b c [] us first second = rise_between a b c c us first second (omega arith)
rise_on a b c (t ∷ ts) us first second = (first.0, first.1, rise_on t.span.end b c ts us first.2 second)

token_rises : (jml : Bool) (at : ℕ) (t : Token) (bytes behind : List ℕ) → IsToken jml at t bytes behind → Rise at (t ∷ []) (at + length bytes)
token_rises jml at t bytes behind is = (omega (arith, is.1), omega (arith, is.0, is.1, is.2), omega (arith, is.2))

-- elements that rise with those behind them
rise_joined : (at : ℕ) (bytes more : List ℕ) (ts us : List Token) → Rise at ts (at + length bytes) → Rise (at + length bytes) us (at + length bytes + length more) → Rise at (ts ++ us) (at + length (bytes ++ more))
rise_joined at bytes more ts us first second =
    let all : at + length bytes + length more ≡ at + length (bytes ++ more) = omega (arith, length-append bytes more) in
    subst (Rise at (ts ++ us)) all (rise_on at (at + length bytes) (at + length bytes + length more) ts us first second)

jml_rises : (fresh : Bool) (at : ℕ) (e : JmlElement) (behind : List ℕ) → JmlStands fresh at e behind → Rise at (jml_tokens e) (at + length (jml_bytes e))
jml_rises fresh at (JmlBlank b) behind is = omega arith
jml_rises fresh at (JmlComment text) behind is = omega arith
jml_rises fresh at (Ats n) behind is = omega arith
jml_rises fresh at (JmlToken t bytes) behind is = token_rises true at t bytes behind is.0

all_jml_rise : (fresh : Bool) (at : ℕ) (es : List JmlElement) → AllJmlStand fresh at es → Rise at (flat_map jml_tokens es) (at + length (flat_map jml_bytes es))
all_jml_rise fresh at [] is = omega arith
all_jml_rise fresh at (e ∷ es) is =
    rise_joined at (jml_bytes e) (flat_map jml_bytes es) (jml_tokens e) (flat_map jml_tokens es) (jml_rises fresh at e (flat_map jml_bytes es) is.0)
    (all_jml_rise (is_fresh_behind e fresh) (at + length (jml_bytes e)) es is.1)

inside_block : (at : ℕ) (text run : List ℕ) → at + 2 + length text ≤ at + length (codes "/*" ++ ((text ++ run) ++ codes "*/"))
inside_block at text run = omega (arith, length-append (text ++ run) (codes "*/"), length-append text run)

rises : (at : ℕ) (e : Element) (behind : List ℕ) → Stands at e behind → Rise at (tokens_of e) (at + length (bytes_of e))
rises at (Blank b) behind is = omega arith
rises at (LineComment text) behind is = omega arith
rises at (BlockComment text) behind is = omega arith
rises at (JavaToken t bytes) behind is = token_rises false at t bytes behind is.0
rises at (LineAnnotation es) behind is =
    let inside = all_jml_rise true (at + 2) es is.3 in
    rise_between at (at + 2) (at + 2 + length (flat_map jml_bytes es)) (at + length (bytes_of (LineAnnotation es))) (flat_map jml_tokens es) (omega arith) inside (omega arith)
rises at (BlockAnnotation es n) behind is =
    let inside = all_jml_rise true (at + 2) es is.3 in
    let text = flat_map jml_bytes es in
    rise_between at (at + 2) (at + 2 + length text) (at + length (bytes_of (BlockAnnotation es n))) (flat_map jml_tokens es) (omega arith) inside (inside_block at text (replicate n 64))

all_rise : (at : ℕ) (es : List Element) → AllStand at es → Rise at (flat_map tokens_of es) (at + length (flat_map bytes_of es))
all_rise at [] is = omega arith
all_rise at (e ∷ es) is =
    rise_joined at (bytes_of e) (flat_map bytes_of es) (tokens_of e) (flat_map tokens_of es) (rises at e (flat_map bytes_of es) is.0)
    (all_rise (at + length (bytes_of e)) es is.1)

made_up_rises : (source : List ℕ) (ts : List Token) → HasTokens source ts → Rise 0 ts (length source)
made_up_rises source ts m =
    let end : 0 + length (flat_map bytes_of m.elements) ≡ length source = omega (arith, ap length m.bytes) in
    subst (λ us. Rise 0 us (length source)) (sym m.in_order) (subst (Rise 0 (flat_map tokens_of m.elements)) end (all_rise 0 m.elements m.stand))

pub of_source_rises : (source : List ℕ) → IfOk (tokens source) (λ found. Rise 0 found (length source))
of_source_rises source = go (tokens source) (of_source source)
  where
    go : (r : Read) → IfOk r (λ found. HasTokens source found) → IfOk r (λ found. Rise 0 found (length source))
    go (Ok ts) m = made_up_rises source ts m
    go (Err e) m = tt
