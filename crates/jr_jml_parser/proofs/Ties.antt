-- What stands between the field of `monitors_for` and its objects.
use Rattle.std.proofs.Common.{◌≡◌, ℕ, ◌+◌, ◌-◌, ◌≤◌, true, false, List, refl, sym, ap, ◌∙◌, subst, arith}
use Rattle.std.specs.Prelude.{◌≢◌, Result, Ok, Err}
use Rattle.jr_base.specs.declared.refusal.Refusal.{Refusal}
use Rattle.jr_base.specs.declared.refusal.Fail.{Fail}
use Rattle.jr_lexer.specs.declared.kind.Kind.TheVariants as k
use Rattle.jr_lexer.specs.Token.{Token}
use Rattle.jr_reading.specs.Seen.{seen}
use Rattle.jr_expr_parser.specs.BigLiteral.{is_head}
use Rattle.jr_jml_parser.specs.Grammar.{Tie, equal, arrow}
use Rattle.jr_jml_parser.specs.Answers.{Refuses}
use Rattle.jr_reading.specs.Steps.{refusal_at}
use Rattle.jr_jml_parser.specs.Takes.{Takes}
use Rattle.jr_jml_parser.specs.Parts.{Reaches, flat, AnswersPlace}
use Rattle.jr_jml_parser.proofs.Refusals.{refused, refused_at}

tie_other : {ts : List Token} {i m : ℕ} → seen true ts i ≢ k.Equal → seen true ts i ≢ k.Less → Tie ts i m → ⊥
tie_other a b (equal h) = a h
tie_other a b (arrow h g) = b h

pub tie_open : (ts : List Token) (i : ℕ) (r : Refusal) → seen true ts i ≢ k.Equal → seen true ts i ≢ k.Less → r ≡ refusal_at ts i → Refuses (Reaches (Tie ts i)) flat ts i 0 r
tie_open ts i r a b is = refused_at (Reaches (Tie ts i)) flat ts i i 0 r (omega arith) (λ u m t. tie_other a b t) is

tie_less : {ts : List Token} {i m : ℕ} → seen true ts i ≡ k.Less → seen true ts (i + 1) ≢ k.Minus → Tie ts i m → ⊥
tie_less e a (equal h) = let x : k.Less ≡ k.Equal = sym e ∙ h in cc
tie_less e a (arrow h g) = a g

-- `<` is read with the `-` behind it
pub tie_arrow : (ts : List Token) (i : ℕ) (result : Result ℕ Fail) → seen true ts i ≡ k.Less → Takes k.Minus ts (i + 1) result → AnswersPlace (Tie ts i) ts i result
tie_arrow ts i (Ok j) e t = let same : i + 2 ≡ j = omega (arith, t.next) in subst (Tie ts i) same (arrow e t.is)
tie_arrow ts i (Err f) e t = refused (Reaches (Tie ts i)) flat ts i (i + 1) 0 f (omega arith) (λ u m w. tie_less e t.0 w) t.1

pub tie_advances : {ts : List Token} {i m : ℕ} → Tie ts i m → i + 1 ≤ m
tie_advances (equal h) = omega arith
tie_advances (arrow h g) = omega arith

-- neither `=` nor `-` is the head of an `if` or a `while`
pub tie_before : {ts : List Token} {i m : ℕ} → Tie ts i m → is_head (seen true ts (m - 1)) ≡ false
tie_before {ts = ts} (equal {i = i} h) = let same : i + 1 - 1 ≡ i = omega arith in ap is_head (ap (seen true ts) same ∙ h)
tie_before {ts = ts} (arrow {i = i} h g) = let same : i + 2 - 1 ≡ i + 1 = omega arith in ap is_head (ap (seen true ts) same ∙ g)

-- the end of what is read, by its first token
tie_from_equal : {ts : List Token} {i m : ℕ} → seen true ts i ≡ k.Equal → Tie ts i m → m ≡ i + 1
tie_from_equal e (equal h) = refl
tie_from_equal e (arrow h g) = absurd (let x : k.Equal ≡ k.Less = sym e ∙ h in cc)

tie_from_less : {ts : List Token} {i m : ℕ} → seen true ts i ≡ k.Less → Tie ts i m → m ≡ i + 2
tie_from_less e (equal h) = absurd (let x : k.Less ≡ k.Equal = sym e ∙ h in cc)
tie_from_less e (arrow h g) = refl

pub one_tie : {ts : List Token} {i j m : ℕ} → Tie ts i j → Tie ts i m → j ≡ m
one_tie (equal h) t = sym (tie_from_equal h t)
one_tie (arrow h g) t = sym (tie_from_less h t)
