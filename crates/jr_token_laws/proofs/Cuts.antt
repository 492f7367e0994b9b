-- A text is read piece by piece, and a choice by one of its sides.
use Rattle.std.proofs.Common.{◌≡◌, ℕ, zero, suc, ◌+◌, ◌-◌, ◌≤◌, Bool, true, false, if◌then◌else◌, List, [], ◌∷◌, ◌++◌, length, drop, get_or, refl, sym, ◌∙◌, ap, ap₂, arith}
use Rattle.std.specs.Prelude.{Result, Ok, Err}
use Rattle.std.proofs.lemmas.List.{drop_at}
use Rattle.jr_base.specs.declared.refusal.Refusal.{Refusal}
use Rattle.jr_lexer.specs.Token.{Token}
use Rattle.jr_lexer.specs.Lexical.{Text, Piece, Read, after, go_on, pieces, of_len}

-- what a choice reads is what the side reads that is taken
pub choice : {A : Type 0} (b : Bool) (x y : Result A Refusal) (p : A) (P : Type 0) → (if b then x else y) ≡ Ok p → (b ≡ true → x ≡ Ok p → P) → (b ≡ false → y ≡ Ok p → P) → P
choice true x y p P is first second = first refl is
choice false x y p P is first second = second refl is

abbrev read_or : {A : Type 0} → A → Result A Refusal → A
read_or d (Ok x) = x
read_or d (Err e) = d

pub same_read : {A : Type 0} (x y : A) → (let r : Result A Refusal = Ok x in r) ≡ Ok y → x ≡ y
same_read x y is = ap (read_or x) is

pub none_read : {A : Type 0} (e : Refusal) (x : A) (P : Type 0) → (let r : Result A Refusal = Err e in r) ≡ Ok x → P
none_read e x P is = absurd (cc)

-- the tokens of a text, with how many bytes it has
pub of_len_reads : (n : ℕ) (r : Read) (p : List Token × ℕ) → of_len n r ≡ Ok p → (ts : List Token) × (r ≡ Ok ts) × (p ≡ (ts, n))
of_len_reads n (Ok ts) p is = (ts, refl, sym (same_read (ts, n) p is))
of_len_reads n (Err e) p is = none_read e p _ is

pub drop_one_less : (n b : ℕ) (z : Text) → 1 ≤ n → drop (n - 1) z ≡ drop n (b ∷ z)
drop_one_less zero b z some = absurd (omega arith)
drop_one_less (suc n) b z some = let e : suc n - 1 ≡ n = omega arith in ap (λ k. drop k z) e

module _ {S : Type 0} (piece : S → ℕ → Text → Piece) (next : ℕ → S → S) where
  skipped : (left : ℕ) (s : S) (at : ℕ) (z : Text) → pieces piece next left s at z ≡ pieces piece next 0 s (at + left) (drop left z)
  skipped zero s at z = let e : at + 0 ≡ at = omega arith in rw e refl
  skipped (suc left) s at [] = refl
  skipped (suc left) s at (b ∷ z) = let e : at + suc left ≡ at + 1 + left = omega arith in rw e (skipped left s (at + 1) z)

  behind : (s : S) (at b n : ℕ) (z : Text) → 1 ≤ n → pieces piece next (n - 1) (next b s) (at + 1) z ≡ pieces piece next 0 (next b s) (at + n) (drop n (b ∷ z))
  behind s at b n z some =
      let place : at + 1 + (n - 1) ≡ at + n = omega arith in
      skipped (n - 1) (next b s) (at + 1) z ∙ ap (λ k. pieces piece next 0 (next b s) k (drop (n - 1) z)) place ∙ ap (λ y. pieces piece next 0 (next b s) (at + n) y) (drop_one_less n b z some)

  -- the piece at the front of a text that is read, and what is read behind it
  pub record Cut (s : S) (at b : ℕ) (z : Text) (ts : List Token) : Type 0 where
    pub front : List Token × ℕ
    pub more : List Token
    pub reads : piece s at (b ∷ z) ≡ Ok front
    pub behind : 1 ≤ front.1 → pieces piece next 0 (next b s) (at + front.1) (drop front.1 (b ∷ z)) ≡ Ok more
    pub tokens : ts ≡ front.0 ++ more

  pub cut : (s : S) (at b : ℕ) (z : Text) (ts : List Token) → pieces piece next 0 s at (b ∷ z) ≡ Ok ts → Cut s at b z ts
  cut s at b z ts is = go (piece s at (b ∷ z)) refl is
    where
      ends : (p : List Token × ℕ) → piece s at (b ∷ z) ≡ Ok p → (r : Read) → pieces piece next (p.1 - 1) (next b s) (at + 1) z ≡ r → after p.0 r ≡ Ok ts → Cut s at b z ts
      ends p reads (Ok us) more is = record { front = p; more = us; reads = reads; behind = λ some. sym (behind s at b p.1 z some) ∙ more; tokens = sym (same_read (p.0 ++ us) ts is) }
      ends p reads (Err e) more is = none_read e ts _ is

      go : (p : Piece) → piece s at (b ∷ z) ≡ p → go_on p (λ left. pieces piece next left (next b s) (at + 1) z) ≡ Ok ts → Cut s at b z ts
      go (Ok p) reads is = ends p reads (pieces piece next (p.1 - 1) (next b s) (at + 1) z) refl is
      go (Err e) reads is = none_read e ts _ is

  -- a piece whose bytes stand at the front, and what is read behind it
  pub read_on : (s t : S) (at : ℕ) (bytes rest : Text) (ts us : List Token) → 1 ≤ length bytes → piece s at (bytes ++ rest) ≡ Ok (ts, length bytes) → next (get_or (bytes ++ rest) 0 0) s ≡ t →
      pieces piece next 0 t (at + length bytes) rest ≡ Ok us → pieces piece next 0 s at (bytes ++ rest) ≡ Ok (ts ++ us)
  read_on s t at [] rest ts us some reads state more = absurd (omega arith)
  read_on s t at (b ∷ bytes) rest ts us some reads state more =
      let n = length (b ∷ bytes) in
      let left : drop n (b ∷ (bytes ++ rest)) ≡ rest = drop_at (b ∷ bytes) rest n refl in
      ap (λ p. go_on p (λ left. pieces piece next left (next b s) (at + 1) (bytes ++ rest))) reads
      ∙ ap (after ts) (behind s at b n (bytes ++ rest) (omega arith) ∙ ap₂ (λ u y. pieces piece next 0 u (at + n) y) state left ∙ more)
