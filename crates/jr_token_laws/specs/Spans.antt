-- Where the tokens of a source stand in it, and what their texts are.
use Rattle.std.specs.Prelude.{◌≡◌, ◌≢◌, ◌≤◌, ◌<◌, ℕ, ◌-◌, List, [], ◌∷◌, take, drop, All}
use Rattle.jr_base.specs.declared.number.Span.{Span}
use Rattle.jr_lexer.specs.declared.kind.Kind.TheVariants as k
use Rattle.jr_lexer.specs.Token.{Token}

-- the bytes of the source at a span
abbrev pub bytes_at : List ℕ → Span → List ℕ
bytes_at source span = take (span.end - span.start) (drop span.start source)

-- The spans rise within these two places: each token takes some bytes, from behind the one before it on.
abbrev pub Rise : ℕ → List Token → ℕ → Type 0
Rise from [] to = from ≤ to
Rise from (t ∷ ts) to = (from ≤ t.span.start) × (t.span.start < t.span.end) × Rise t.span.end ts to

-- but for string literals, the text of each token is the source at its span
abbrev pub AreSpelled : List ℕ → List Token → Type 0
AreSpelled source ts = All (λ t. t.kind ≢ k.Text → t.text ≡ bytes_at source t.span) ts
