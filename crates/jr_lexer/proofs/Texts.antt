-- Texts of tokens that stand among all texts.
use Rattle.std.proofs.Common.{◌≡◌, ℕ, zero, suc, ◌+◌, ◌≤◌, List, [], ◌∷◌, ◌++◌, length, take, drop, Some, None, refl, sym, ◌∙◌, ap, arith, length-drop}
use Rattle.std.specs.Prelude.{slice_get}
use Rattle.std.proofs.lemmas.List.{take-append-le, drop-append-le, append-nil}
use Rattle.std.proofs.Math.Seq.{drop-append_seam, take-append_seam}
use Rattle.jr_lexer.specs.declared.stored.Stored.{Stored}
use Rattle.jr_lexer.specs.Reading.{text_at}
use Rattle.jr_lexer.specs.Token.{Token, token_of, tokens_of, AllWithin}

-- a text goes on standing where more follows
text_kept : (texts more : List ℕ) (from len : ℕ) → from + len ≤ length texts → take len (drop from (texts ++ more)) ≡ take len (drop from texts)
text_kept texts more from len within =
    let start : from ≤ length texts = omega arith in
    let room : len ≤ length (drop from texts) = omega (arith, length-drop from texts) in
    ap (take len) (drop-append-le from texts more start) ∙ take-append-le len (drop from texts) more room

token_kept : (texts more : List ℕ) (w : Stored) → w.start + w.len ≤ length texts → token_of (texts ++ more) w ≡ token_of texts w
token_kept texts more w within = ap (λ (text : List ℕ). let t : Token = record { kind = w.kind; text = text; number = w.number; span = w.span; jml = w.jml } in t) (text_kept texts more w.start w.len within)

-- the new token's text is the last one
new_text : (texts text : List ℕ) (from len : ℕ) → from ≡ length texts → len ≡ length text → take len (drop from (texts ++ text)) ≡ text
new_text texts text from len first all =
    let whole : take (length text) text ≡ text = ap (take (length text)) (sym (append-nil text)) ∙ take-append_seam text [] in
    rw (first, all, drop-append_seam texts text) whole

pub pushed : (texts text : List ℕ) (ws : List Stored) (w : Stored) → AllWithin (length texts) ws → w.start ≡ length texts → w.len ≡ length text → tokens_of (texts ++ text) (ws ++ w ∷ []) ≡ tokens_of texts ws ++ record { kind = w.kind; text = text; number = w.number; span = w.span; jml = w.jml } ∷ []
pushed texts text [] w within first all = ap (λ (t : List ℕ). let l : List Token = record { kind = w.kind; text = t; number = w.number; span = w.span; jml = w.jml } ∷ [] in l) (new_text texts text w.start w.len first all)
pushed texts text (v ∷ ws) w within first all =
    let head : token_of (texts ++ text) v ≡ token_of texts v = token_kept texts text v within.0 in
    let tail = pushed texts text ws w within.1 first all in
    cc

pub within_more : (n m : ℕ) (ws : List Stored) → n ≤ m → AllWithin n ws → AllWithin m ws
within_more n m [] le within = tt
within_more n m (w ∷ ws) le within = (omega (arith, within.0), within_more n m ws le within.1)

pub within_push : (n : ℕ) (ws : List Stored) (w : Stored) → AllWithin n ws → w.start + w.len ≤ n → AllWithin n (ws ++ w ∷ [])
within_push n [] w within fits = (fits, tt)
within_push n (v ∷ ws) w within fits = (within.0, within_push n ws w within.1 fits)

pub within_at : (n : ℕ) (ws : List Stored) (at : ℕ) (w : Stored) → AllWithin n ws → Some w ≡ slice_get ws at → w.start + w.len ≤ n
within_at n [] at w within is = absurd (cc)
within_at n (v ∷ ws) zero w within is = let same : w ≡ v = cc in rw same within.0
within_at n (v ∷ ws) (suc at) w within is = within_at n ws at w within.1 is

pub text_there : (texts : List ℕ) (ws : List Stored) (at : ℕ) (w : Stored) → Some w ≡ slice_get ws at → take w.len (drop w.start texts) ≡ text_at (tokens_of texts ws) at
text_there texts [] at w is = absurd (cc)
text_there texts (v ∷ ws) zero w is = let same : w ≡ v = cc in rw same refl
text_there texts (v ∷ ws) (suc at) w is = text_there texts ws at w is

pub no_text : (texts : List ℕ) (ws : List Stored) (at : ℕ) → None ≡ slice_get ws at → [] ≡ text_at (tokens_of texts ws) at
no_text texts [] at is = refl
no_text texts (v ∷ ws) zero is = absurd (cc)
no_text texts (v ∷ ws) (suc at) is = no_text texts ws at is
