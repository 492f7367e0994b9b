-- Indexes of tokens.
use Rattle.std.proofs.Common.{◌≡◌, ℕ, ◌<◌, ◌≤◌, Bool, true, false, List, length, sym, subst}
use Rattle.std.specs.Prelude.{IsTrue}
use denote.Enum.Bare.{same_true}
use Rattle.jr_reading.specs.Steps.{same_kind}
use Rattle.jr_lexer.specs.contracts.kind.Kind.{the_type}
use Rattle.jr_lexer.specs.declared.kind.Kind.{Kind}
use Rattle.jr_lexer.specs.declared.kind.Kind.TheVariants as k
use Rattle.jr_lexer.specs.Token.{Token}
use Rattle.jr_lexer.specs.Reading.{kind_at}
use Rattle.jr_reading.specs.Within.{Within}
use Rattle.jr_reading.proofs.Tokens.{past}

pub within_any : (kind : Kind) (at : ℕ) → at < 1048576 → Within kind at
within_any k.End at below = tt
within_any _ at below = below

pub within_same : (a b : Kind) (at : ℕ) (r : Bool) → r ≡ same_kind a b → Within a at → IsTrue r → Within b at
unfolding same_kind
within_same a b at true e w t = subst (λ (x : Kind). Within x at) (same_true the_type tt a b (sym e)) w
within_same a b at false e w t = absurd cc

pub no_dot_past : (ts : List Token) (at : ℕ) → length ts ≤ at → same_kind (kind_at ts at) k.Dot ≡ false
unfolding same_kind
no_dot_past ts at le = rw (past ts at le)
