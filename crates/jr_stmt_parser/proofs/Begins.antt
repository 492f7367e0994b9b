-- What tokens tell of the index behind them.
use Rattle.std.proofs.Common.{◌≡◌, ℕ, ◌+◌, ◌-◌, ◌≤◌, ◌<◌, Bool, true, false, List, length, ltb, refl, sym, ap, ◌∙◌, inl, inr, arith}
use borrow.Author.Tests.{ltb-true, ltb-false}
use Rattle.jr_lexer.specs.declared.kind.Kind.{Kind}
use Rattle.jr_lexer.specs.declared.kind.Kind.TheVariants as k
use Rattle.jr_lexer.specs.Token.{Token as TokenOf}
use Rattle.jr_lexer.specs.Reading.{kind_at, jml_at}
use Rattle.jr_reading.specs.Seen.{seen, seen_as}
use Rattle.jr_reading.specs.Steps.{refusal_at}
use Rattle.jr_reading.proofs.Tokens as tokens
use Rattle.jr_reading.proofs.Told.{refused_at}
use Rattle.jr_expr_parser.specs.BigLiteral.{frees}
use Rattle.jr_stmt_parser.specs.Gives.{Found, Blames}
use Rattle.jr_stmt_parser.specs.Pieces.{opens, MayBegin, Fronts, declares, BeginsLocals, Token, Closes}

pub kind_seen : (jml : Bool) (ts : List TokenOf) (i : ℕ) (a : Kind) → seen jml ts i ≡ a → (a ≡ k.End → ⊥) → kind_at ts i ≡ a
kind_seen jml ts i a is h = (tokens.kind_seen jml ts i a is (tokens.not_same a k.End h)).1

-- a token of a kind stands within the list
pub within : (jml : Bool) (ts : List TokenOf) (i : ℕ) (a : Kind) → seen jml ts i ≡ a → (a ≡ k.End → ⊥) → i < length ts
within jml ts i a is h = tokens.taken jml ts i a is (tokens.not_same a k.End h)

no_end : (a : Kind) → opens a ≡ true → a ≡ k.End → ⊥
no_end a o e = let x : false ≡ true = ap opens (sym e) ∙ o in absurd cc

pub begins_behind : (ts : List TokenOf) (a : Kind) (i : ℕ) {j : ℕ} {u : Unit {0}} → opens a ≡ true → Found (Token ts a) i u j → MayBegin ts j
begins_behind ts a i o p = inl (i, p.it.2, ap opens (kind_seen false ts i a p.it.0 (no_end a o)) ∙ o)

pub token_taken : (ts : List TokenOf) (a : Kind) {i j : ℕ} {u : Unit {0}} → Found (Token ts a) i u j → (i < j) × (i < length ts)
token_taken ts a p = let e = p.it.2 in (omega arith, p.it.1)

pub no_truth : false ≡ true → ⊥
no_truth e = cc

pub no_locals_past : (ts : List TokenOf) (i : ℕ) → length ts ≤ i → BeginsLocals ts i → ⊥
no_locals_past ts i le b = let e : seen false ts i ≡ k.End = tokens.unseen false ts i le in no_truth (sym (ap (λ a. declares a (seen false ts (i + 1)) (seen false ts (i + 2))) e) ∙ b)

pub no_colon_past : (ts : List TokenOf) (i : ℕ) → length ts ≤ i → seen false ts (i + 1) ≡ k.Colon → ⊥
no_colon_past ts i le b = let e : seen false ts (i + 1) ≡ k.End = tokens.unseen false ts (i + 1) (omega arith) in let x : k.End ≡ k.Colon = sym e ∙ b in absurd cc

-- ---- what stands in front of an expression

frees_seen : (jml : Bool) (a : Kind) → opens a ≡ true → frees (seen_as false jml a) ≡ true
frees_seen true a o = refl
frees_seen false k.OpenBrace o = refl
frees_seen false k.CloseBrace o = refl
frees_seen false k.Semicolon o = refl
frees_seen false k.CloseParen o = refl
frees_seen false k.Else o = refl
frees_seen false k.Do o = refl
frees_seen false _ o = absurd cc

frees_open : (ts : List TokenOf) (h : ℕ) → opens (kind_at ts h) ≡ true → frees (seen false ts h) ≡ true
unfolding seen
frees_open ts h o = frees_seen (jml_at ts h) (kind_at ts h) o

pub front_of : (ts : List TokenOf) (i : ℕ) → MayBegin ts i → Fronts ts i
front_of ts i (inl (h, e, o)) = let f : h ≡ i - 1 = omega arith in ap (λ h. frees (seen false ts h)) (sym f) ∙ frees_open ts h o
front_of ts i (inr (h, e, l)) = let f : h + 1 ≡ i - 1 = omega arith in ap (λ h. frees (seen false ts h)) (sym f) ∙ ap frees l.colon

pub front_behind : (ts : List TokenOf) (a : Kind) {i j : ℕ} {u : Unit {0}} → frees a ≡ true → Found (Token ts a) i u j → Fronts ts j
front_behind ts a {i = i} {j = j} o p = let e = p.it.2 in let f : i ≡ j - 1 = omega arith in ap (λ h. frees (seen false ts h)) (sym f) ∙ (ap frees p.it.0 ∙ o)

-- ---- why the tokens do not go on

pub blames : (ts : List TokenOf) (i : ℕ) → Blames ts i (refusal_at ts i)
blames ts i = refused_at (Blames ts i) ts i (λ s. tt) (λ j on e. record { at = j; behind = on; span = refl; word = inl (inl e) })

-- where a block goes on
pub open_within : (ts : List TokenOf) (i : ℕ) → (Closes ts i → ⊥) → i < length ts
open_within ts i n = go (ltb i (length ts)) refl
  where
    go : (b : Bool) → ltb i (length ts) ≡ b → i < length ts
    go true e = ltb-true i (length ts) e
    go false e = absurd (n (inr (ltb-false i (length ts) e)))
