-- A text is read piece by piece.
use Rattle.std.proofs.Common.{◌≡◌, ℕ, zero, suc, ◌+◌, ◌-◌, ◌≤◌, ◌<◌, List, [], ◌∷◌, ◌++◌, length, drop, get_or, refl, sym, ◌∙◌, ap, arith, append_assoc}
use Rattle.std.specs.Prelude.{Result, Ok, Err}
use Rattle.std.proofs.lemmas.List.{append-nil}
use Rattle.jr_base.specs.declared.refusal.Refusal.{Refusal}
use Rattle.jr_lexer.specs.Token.{Token}
use Rattle.jr_lexer.specs.Lexical.{Text, Piece, Read, after, go_on, pieces}
use Rattle.jr_lexer.specs.Answers.{Fails}
use Rattle.jr_lexer.specs.Adds.{joined}
use Rattle.jr_base.specs.declared.refusal.Fail.{Fail}
use Rattle.jr_base.specs.declared.refusal.Fail.TheVariants.{Refused, Memory}

after_both : (a b : List Token) (r : Read) → after (a ++ b) r ≡ after a (after b r)
after_both a b (Ok ts) = ap Ok (append_assoc a b ts)
after_both a b (Err e) = refl

drop_one_more : (n b : ℕ) (z : Text) → 1 ≤ n → drop (n - 1) z ≡ drop n (b ∷ z)
drop_one_more zero b z some = absurd (omega arith)
drop_one_more (suc n) b z some = let e : suc n - 1 ≡ n = omega arith in ap (λ k. drop k z) e

abbrev answer_or : {A : Type 0} → ((ℕ × List Token) → A) → A → Result (ℕ × List Token) Refusal → A
answer_or f d (Ok q) = f q
answer_or f d (Err e) = d

module _ {S : Type 0} (piece : S → ℕ → Text → Piece) (next : ℕ → S → S) where
  -- the bytes that are left of a piece are skipped
  skipped : (left : ℕ) (s : S) (at : ℕ) (z : Text) → pieces piece next left s at z ≡ pieces piece next 0 s (at + left) (drop left z)
  skipped zero s at z = let e : at + 0 ≡ at = omega arith in rw e refl
  skipped (suc left) s at [] = refl
  skipped (suc left) s at (b ∷ z) = let e : at + suc left ≡ at + 1 + left = omega arith in rw e (skipped left s (at + 1) z)

  step : (front : List Token) (s : S) (at b : ℕ) (z : Text) (p : Piece) (n : ℕ) (new : List Token) → joined front p ≡ Ok (n, new) → 1 ≤ n → after new (pieces piece next 0 (next b s) (at + n) (drop n (b ∷ z))) ≡ after front (go_on p (λ left. pieces piece next left (next b s) (at + 1) z))
  step front s at b z (Err e) n new is some = absurd (cc)
  step front s at b z (Ok p) n new is some =
      let len : p.1 ≡ n = ap (answer_or (λ q. q.0) 0) is in
      let tokens : front ++ p.0 ≡ new = ap (answer_or (λ q. q.1) []) is in
      let place : at + 1 + (n - 1) ≡ at + n = omega arith in
      let rest : pieces piece next (n - 1) (next b s) (at + 1) z ≡ pieces piece next 0 (next b s) (at + n) (drop n (b ∷ z)) =
      skipped (n - 1) (next b s) (at + 1) z ∙ ap (λ k. pieces piece next 0 (next b s) k (drop (n - 1) z)) place ∙ ap (λ y. pieces piece next 0 (next b s) (at + n) y) (drop_one_more n b z some) in
      rw (← tokens, after_both front p.0, len, rest) refl

  -- a piece that is read, and the text behind it
  pub goes_on : (front : List Token) (s : S) (at : ℕ) (z : Text) (n : ℕ) (new : List Token) → 1 ≤ length z → joined front (piece s at z) ≡ Ok (n, new) → 1 ≤ n → after new (pieces piece next 0 (next (get_or z 0 0) s) (at + n) (drop n z)) ≡ after front (pieces piece next 0 s at z)
  goes_on front s at [] n new more is some = absurd (omega arith)
  goes_on front s at (b ∷ z) n new more is some = step front s at b z (piece s at (b ∷ z)) n new is some

  fails : (front : List Token) (p : Piece) (rest : ℕ → Read) (e : Refusal) → joined front p ≡ Err e → after front (go_on p rest) ≡ Err e
  fails front (Ok p) rest e is = absurd (cc)
  fails front (Err r) rest e is = cc

  -- a piece that is refused
  pub stops : (front : List Token) (s : S) (at : ℕ) (z : Text) (e : Refusal) → 1 ≤ length z → joined front (piece s at z) ≡ Err e → after front (pieces piece next 0 s at z) ≡ Err e
  stops front s at [] e more is = absurd (omega arith)
  stops front s at (b ∷ z) e more is = fails front (piece s at (b ∷ z)) _ e is

  -- the same, or there was no memory
  pub gives_up : (front : List Token) (s : S) (at : ℕ) (z : Text) (whole : Read) (fail : Fail) → 1 ≤ length z → Fails fail (joined front (piece s at z)) → after front (pieces piece next 0 s at z) ≡ whole → Fails fail whole
  gives_up front s at z whole Memory more is kept = tt
  gives_up front s at z whole (Refused e) more is kept = sym kept ∙ stops front s at z e more is

  -- nothing is left
  pub ends : (front : List Token) (s : S) (at : ℕ) (z : Text) → length z < 1 → after front (pieces piece next 0 s at z) ≡ Ok front
  ends front s at [] none = ap Ok (append-nil front)
  ends front s at (b ∷ z) none = absurd (omega arith)
