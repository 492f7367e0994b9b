-- Kinds that are kept topmost last, and seen topmost first.
use Rattle.std.proofs.Common.{◌≡◌, ℕ, ◌+◌, ◌-◌, ◌<◌, Decides, List, [], ◌∷◌, ◌++◌, length, take, drop, reverse, refl, sym, ap, ◌∙◌, subst, arith}
use Rattle.std.proofs.lemmas.List.{reverse-reverse, reverse-append, length-reverse, take-append-drop}
use Rattle.std.proofs.Common.{append_assoc}
use denote.Enum.Bare.{sameb, same_true, true_same}
use Rattle.jr_base.specs.contracts.kind.SlotKind.{the_type}
use Rattle.jr_base.specs.declared.kind.SlotKind.{SlotKind}
use Rattle.std.proofs.Common.{length-append, length-drop}
use Rattle.std.proofs.Math.Seq.{drop-append_seam, take-length}
use Rattle.jr_code.specs.Checked.{kinds_pushed, NoneCaught}
use Rattle.jr_code.specs.Verifier.{TakesValues}

pub kinds_decide : (a b : SlotKind) → Decides (sameb the_type a b) (a ≡ b)
kinds_decide a b = (λ e. same_true the_type tt a b e, λ e. true_same the_type a b e)

pub pushed_is : (ks rest : List SlotKind) → kinds_pushed ks rest ≡ reverse ks ++ rest
pushed_is [] rest = refl
pushed_is (k ∷ ks) rest =
    pushed_is ks (k ∷ rest) ∙ sym (append_assoc (reverse ks) (k ∷ []) rest) ∙ ap (λ l. l ++ rest) (sym (reverse-append (k ∷ []) ks))

-- what stands on top is what stands last
pub last_is_top : (items front ks : List SlotKind) → items ≡ front ++ ks → reverse items ≡ kinds_pushed ks (reverse front)
last_is_top items front ks e = ap reverse e ∙ reverse-append front ks ∙ sym (pushed_is ks (reverse front))

pub top_is_last : (items rest ks : List SlotKind) → reverse items ≡ kinds_pushed ks rest → items ≡ reverse rest ++ ks
top_is_last items rest ks e =
    sym (reverse-reverse items) ∙ ap reverse (e ∙ pushed_is ks rest) ∙ reverse-append (reverse ks) rest ∙ ap (λ l. reverse rest ++ l) (reverse-reverse ks)

pub length_pushed : (ks rest : List SlotKind) → length (kinds_pushed ks rest) ≡ length ks + length rest
length_pushed [] rest = omega arith
length_pushed (k ∷ ks) rest = omega (arith, length_pushed ks (k ∷ rest))

pub too_few : (items now : List SlotKind) (n : ℕ) → reverse items ≡ now → length items < n → (other : List SlotKind) → TakesValues n now other → ⊥
too_few items now n e few other t =
    let pushed = length_pushed t.0 other in
    let same : length items ≡ length (kinds_pushed t.0 other) = sym (length-reverse items) ∙ ap length e ∙ ap length t.3 in
    let many = t.1 in
    omega arith

last_part : (front ks : List SlotKind) (m : ℕ) → m ≡ length front → drop m (front ++ ks) ≡ ks
last_part front ks m e = rw e (drop-append_seam front ks)

pub no_values : (items now : List SlotKind) (n m : ℕ) → reverse items ≡ now → m + n ≡ length items → (NoneCaught (drop m items) → ⊥) →
    (other : List SlotKind) → TakesValues n now other → ⊥
no_values items now n m e long none other t =
    let split : items ≡ reverse other ++ t.0 = top_is_last items other t.0 (e ∙ t.3) in
    let size : length items ≡ length (reverse other) + length t.0 = ap length split ∙ length-append (reverse other) t.0 in
    let many = t.1 in
    let front : m ≡ length (reverse other) = omega arith in
    none (subst NoneCaught (sym (ap (drop m) split ∙ last_part (reverse other) t.0 m front)) t.2)

pub values_taken : (items now left : List SlotKind) (n m : ℕ) → reverse items ≡ now → m + n ≡ length items → NoneCaught (drop m items) →
    left ≡ take m items → TakesValues n now (reverse left)
values_taken items now left n m e long values l =
    let size : length (drop m items) ≡ n = simp length-drop (omega arith) in (
      drop m items,
      size,
      values,
      sym e ∙ last_is_top items left (drop m items) (sym (take-append-drop m items) ∙ ap (λ f. f ++ drop m items) (sym l)),
    )

pub rest_whole : (m : ℕ) (items : List SlotKind) → take (length items - m) (drop m items) ≡ drop m items
rest_whole m items = ap (λ n. take n (drop m items)) (sym (length-drop m items)) ∙ take-length (drop m items)
