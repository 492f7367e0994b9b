-- What stands between the tokens of a source.
use Rattle.std.specs.Prelude.{◌≡◌, ℕ, ◌⊎◌, List, [], ◌∷◌, ◌++◌, drop, replicate, codes}
use Rattle.std.specs.List.{flat_map}
use Rattle.jr_lexer.specs.Token.{Token}
use Rattle.jr_token_laws.specs.Elements.{IsBlank, EndsLine, HasNoLineFeed, HasNoClose}
use Rattle.jr_token_laws.specs.LongestSign.{BeginsWith}
use Rattle.jr_token_laws.specs.Spans.{bytes_at}

-- A piece of a gap: a blank, `//` and what follows it on its line, `/*` and what follows it up to its `*/`, or a mark of
-- an annotation. Marks are `//@` and `/*@`, which open one, each further `@`, and `*/`, which closes one.
pub data GapPiece : Type 0 where
  BlankPiece : ℕ → GapPiece
  LinePiece : List ℕ → GapPiece
  BlockPiece : List ℕ → GapPiece
  LineMark : GapPiece
  BlockMark : GapPiece
  AtMark : GapPiece
  CloseMark : GapPiece

abbrev pub piece_bytes : GapPiece → List ℕ
piece_bytes (BlankPiece b) = b ∷ []
piece_bytes (LinePiece text) = codes "//" ++ text
piece_bytes (BlockPiece text) = codes "/*" ++ (text ++ codes "*/")
piece_bytes LineMark = codes "//@"
piece_bytes BlockMark = codes "/*@"
piece_bytes AtMark = codes "@"
piece_bytes CloseMark = codes "*/"

-- only `@` stand before a `*/`
abbrev pub ClosesThere : List ℕ → Type 0
ClosesThere text = (n : ℕ) × BeginsWith text (replicate n 64 ++ codes "*/")

-- A piece may stand before what is behind it: a blank is one, a comment from `//` on goes up to the end of its line or to
-- what closes an annotation, and one from `/*` on up to the first `*/`.
abbrev pub IsPiece : GapPiece → List ℕ → Type 0
IsPiece (BlankPiece b) behind = IsBlank b
IsPiece (LinePiece text) behind = HasNoLineFeed text × (EndsLine behind ⊎ ClosesThere behind)
IsPiece (BlockPiece text) behind = HasNoClose text
IsPiece _ behind = Unit {0}

abbrev pub ArePieces : List GapPiece → List ℕ → Type 0
ArePieces [] behind = Unit {0}
ArePieces (p ∷ ps) behind = IsPiece p (flat_map piece_bytes ps ++ behind) × ArePieces ps behind

-- The bytes before what is behind them are blanks, comments and marks, and nothing else.
pub record IsGap (bytes behind : List ℕ) : Type 0 where
  pub pieces : List GapPiece
  pub is : bytes ≡ flat_map piece_bytes pieces
  pub fit : ArePieces pieces behind

-- From that place on a gap stands before each token, and one behind the last.
abbrev pub GapsStand : List ℕ → ℕ → List Token → Type 0
GapsStand source from [] = IsGap (drop from source) []
GapsStand source from (t ∷ ts) =
    IsGap (bytes_at source (record { start = from; end = t.span.start })) (drop t.span.start source) × GapsStand source t.span.end ts
