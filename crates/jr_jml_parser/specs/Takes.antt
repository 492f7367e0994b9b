-- A token of an annotation that a reader takes. Only contracts of private functions cite these.
use Rattle.std.specs.Prelude.{◌≡◌, ◌≢◌, ℕ, ◌+◌, true, List, Result, Ok, Err}
use Rattle.jr_base.specs.declared.refusal.Fail.{Fail}
use Rattle.jr_base.specs.declared.refusal.Fail.TheVariants.{Refused}
use Rattle.jr_lexer.specs.declared.kind.Kind.{Kind}
use Rattle.jr_lexer.specs.Token.{Token}
use Rattle.jr_reading.specs.Seen.{seen}
use Rattle.jr_reading.specs.Steps.{refusal_at}

-- a token of that kind is seen at the index, and what is given is the index behind it
pub record Taken (kind : Kind) (ts : List Token) (at behind : ℕ) : Type 0 where
  pub is : seen true ts at ≡ kind
  pub next : behind ≡ at + 1

-- Whether a token of that kind is seen at the index; if not, nothing that goes on with one is read.
abbrev pub Takes : Kind → List Token → ℕ → Result ℕ Fail → Type 0
Takes kind ts at (Ok behind) = Taken kind ts at behind
Takes kind ts at (Err f) = (seen true ts at ≢ kind) × (f ≡ Refused (refusal_at ts at))
