-- One or more, with commas between.
use Rattle.std.specs.Prelude.{◌≡◌, ℕ, ◌+◌, Bool, List, [], ◌∷◌}
use Rattle.jr_lexer.specs.declared.kind.Kind.TheVariants as k
use Rattle.jr_lexer.specs.Token.{Token}
use Rattle.jr_reading.specs.Seen.{seen}

-- One i x j says that x stands from index i up to index j. The commas are of code, or of an annotation where
-- jml is true.
pub data Listed {A : Type 0} (jml : Bool) (ts : List Token) (One : ℕ → A → ℕ → Type 0) : ℕ → List A → ℕ → Type 0 where
  last : {i j : ℕ} {x : A} → One i x j → Listed jml ts One i (x ∷ []) j
  more : {i j m : ℕ} {x : A} {xs : List A} → One i x j → seen jml ts j ≡ k.Comma → Listed jml ts One (j + 1) xs m → Listed jml ts One i (x ∷ xs) m
