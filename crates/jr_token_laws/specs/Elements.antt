-- What a source is made of, from its first byte to its last: its input elements (JLS 3.5), which are blanks, comments and
-- tokens, and annotations, which are comments that have elements of their own (JML Reference Manual, "Lexical
-- Conventions").
use Rattle.std.specs.Prelude.{◌≡◌, ◌≤◌, ℕ, ◌+◌, Bool, true, false, ◌||◌, ◌==◌, ◌⊎◌, List, [], ◌∷◌, ◌++◌, length, replicate, codes, IsTrue, Contains}
use Rattle.std.specs.List.{flat_map}
use Rattle.jr_lexer.specs.Token.{Token}
use Rattle.jr_token_laws.specs.LongestSign.{BeginsWith}
use Rattle.jr_token_laws.specs.Spelling.{IsSpelled}

-- An element of an annotation: a blank, `//` and what follows it on its line, so many `@`, or a token and the bytes that
-- write it.
pub data JmlElement : Type 0 where
  JmlBlank : ℕ → JmlElement
  JmlComment : List ℕ → JmlElement
  Ats : ℕ → JmlElement
  JmlToken : Token → List ℕ → JmlElement

-- An element of a source: a blank, `//` and what follows it on its line, `/*` and what follows it up to its `*/`, a token
-- and the bytes that write it, or an annotation. One that `//` opens has the elements that follow on its line, one that
-- `/*` opens has elements and then so many `@` before its `*/`.
pub data Element : Type 0 where
  Blank : ℕ → Element
  LineComment : List ℕ → Element
  BlockComment : List ℕ → Element
  JavaToken : Token → List ℕ → Element
  LineAnnotation : List JmlElement → Element
  BlockAnnotation : List JmlElement → ℕ → Element

-- ---- the bytes of an element

abbrev pub jml_bytes : JmlElement → List ℕ
jml_bytes (JmlBlank b) = b ∷ []
jml_bytes (JmlComment text) = codes "//" ++ text
jml_bytes (Ats n) = replicate n 64
jml_bytes (JmlToken t bytes) = bytes

abbrev pub bytes_of : Element → List ℕ
bytes_of (Blank b) = b ∷ []
bytes_of (LineComment text) = codes "//" ++ text
bytes_of (BlockComment text) = codes "/*" ++ (text ++ codes "*/")
bytes_of (JavaToken t bytes) = bytes
bytes_of (LineAnnotation es) = codes "//" ++ flat_map jml_bytes es
bytes_of (BlockAnnotation es n) = codes "/*" ++ ((flat_map jml_bytes es ++ replicate n 64) ++ codes "*/")

-- ---- the tokens of an element

abbrev pub jml_tokens : JmlElement → List Token
jml_tokens (JmlToken t bytes) = t ∷ []
jml_tokens _ = []

abbrev pub tokens_of : Element → List Token
tokens_of (JavaToken t bytes) = t ∷ []
tokens_of (LineAnnotation es) = flat_map jml_tokens es
tokens_of (BlockAnnotation es n) = flat_map jml_tokens es
tokens_of _ = []

-- ---- where an element may stand

-- space, tab, line feed, carriage return, form feed (JLS 3.6)
abbrev pub IsBlank : ℕ → Type 0
IsBlank b = Contains (32 ∷ 9 ∷ 10 ∷ 13 ∷ 12 ∷ []) b

-- a text that ends with its line: nothing is behind it, or a line feed
abbrev pub EndsLine : List ℕ → Type 0
EndsLine behind = (behind ≡ []) ⊎ BeginsWith behind (10 ∷ [])

abbrev pub HasNoLineFeed : List ℕ → Type 0
HasNoLineFeed text = Contains text 10 → ⊥

-- no `*/` stands in the text
abbrev pub HasNoClose : List ℕ → Type 0
HasNoClose text = (before behind : List ℕ) → text ≡ before ++ (codes "*/" ++ behind) → ⊥

abbrev pub BeginsWithAt : List ℕ → Type 0
BeginsWithAt text = BeginsWith text (codes "@")

abbrev pub EndsWithAt : List ℕ → Type 0
EndsWithAt text = (before : List ℕ) × (text ≡ before ++ codes "@")

-- A token at that place of the source, in an annotation or not, as the bytes write it.
abbrev pub IsToken : Bool → ℕ → Token → List ℕ → List ℕ → Type 0
IsToken jml at t bytes behind =
    (1 ≤ length bytes) × (t.span.start ≡ at) × (t.span.end ≡ at + length bytes) × (t.jml ≡ jml) × IsSpelled jml t bytes behind

-- An element of an annotation may stand there before what follows it in the annotation. `fresh` says that only blanks
-- stand before it on its line: just there `@` are skipped, as many as there are. Where a comment begins, no token does.
abbrev pub JmlStands : Bool → ℕ → JmlElement → List ℕ → Type 0
JmlStands fresh at (JmlBlank b) behind = IsBlank b
JmlStands fresh at (JmlComment text) behind = HasNoLineFeed text × EndsLine behind
JmlStands fresh at (Ats n) behind = IsTrue fresh × (1 ≤ n) × (BeginsWithAt behind → ⊥)
JmlStands fresh at (JmlToken t bytes) behind =
    IsToken true at t bytes behind × (IsTrue fresh → BeginsWithAt bytes → ⊥) × (BeginsWith (bytes ++ behind) (codes "//") → ⊥)

-- whether only blanks stand on the line before what follows the element
abbrev pub is_fresh_behind : JmlElement → Bool → Bool
is_fresh_behind (JmlBlank b) fresh = b == 10 || fresh
is_fresh_behind _ fresh = false

abbrev pub AllJmlStand : Bool → ℕ → List JmlElement → Type 0
AllJmlStand fresh at [] = Unit {0}
AllJmlStand fresh at (e ∷ es) = JmlStands fresh at e (flat_map jml_bytes es) × AllJmlStand (is_fresh_behind e fresh) (at + length (jml_bytes e)) es

-- An element may stand at that place of the source before what follows it. A comment that begins with `@` is an
-- annotation, and where a comment begins, no token does. A `/*` goes up to the first `*/`, and in an annotation the `@`
-- directly before that are skipped, as many as there are.
abbrev pub Stands : ℕ → Element → List ℕ → Type 0
Stands at (Blank b) behind = IsBlank b
Stands at (LineComment text) behind = HasNoLineFeed text × EndsLine behind × (BeginsWithAt text → ⊥)
Stands at (BlockComment text) behind = HasNoClose text × (BeginsWithAt text → ⊥)
Stands at (JavaToken t bytes) behind =
    IsToken false at t bytes behind × (BeginsWith (bytes ++ behind) (codes "//") → ⊥) × (BeginsWith (bytes ++ behind) (codes "/*") → ⊥)
Stands at (LineAnnotation es) behind =
    let text = flat_map jml_bytes es in
    HasNoLineFeed text × EndsLine behind × BeginsWithAt text × AllJmlStand true (at + 2) es
Stands at (BlockAnnotation es n) behind =
    let text = flat_map jml_bytes es in
    HasNoClose (text ++ replicate n 64) × BeginsWithAt (text ++ replicate n 64) × (EndsWithAt text → ⊥) × AllJmlStand true (at + 2) es

-- each element may stand where it stands
abbrev pub AllStand : ℕ → List Element → Type 0
AllStand at [] = Unit {0}
AllStand at (e ∷ es) = Stands at e (flat_map bytes_of es) × AllStand (at + length (bytes_of e)) es

-- The source is made of elements, and of nothing else, and these are the tokens of its elements.
pub record HasTokens (source : List ℕ) (tokens : List Token) : Type 0 where
  pub elements : List Element
  pub bytes : source ≡ flat_map bytes_of elements
  pub in_order : tokens ≡ flat_map tokens_of elements
  pub stand : AllStand 0 elements
