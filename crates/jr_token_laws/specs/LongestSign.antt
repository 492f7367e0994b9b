-- The longest sign at a place (JLS 3.2: the longest possible translation is used at each step).
use Rattle.std.specs.Prelude.{◌≡◌, ◌≤◌, ℕ, Bool, List, ◌++◌, length, Option, Some, None, IsTrue, Contains}
use Rattle.jr_lexer.specs.Signs.{Sign, signs}

-- these bytes stand at the front of the text
abbrev pub BeginsWith : List ℕ → List ℕ → Type 0
BeginsWith text bytes = (rest : List ℕ) × (text ≡ bytes ++ rest)

-- A sign of the table that stands at the front of the text; an operator of JML only where jml says that the text is that
-- of an annotation.
abbrev pub MayBeRead : Bool → List ℕ → Sign → Type 0
MayBeRead jml text s = Contains signs s × (IsTrue s.jml → IsTrue jml) × BeginsWith text s.spelling

-- it may be read, and no longer one may be; or none may be
abbrev pub IsLongest : Bool → List ℕ → Option Sign → Type 0
IsLongest jml text None = (t : Sign) → MayBeRead jml text t → ⊥
IsLongest jml text (Some s) = MayBeRead jml text s × ((t : Sign) → MayBeRead jml text t → length t.spelling ≤ length s.spelling)
