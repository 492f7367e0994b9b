-- Operands that are kept topmost last, and seen topmost first.
use Rattle.std.proofs.Common.{◌≡◌, ℕ, ◌-◌, List, [], ◌∷◌, ◌++◌, refl, length, take, drop, reverse, sym, ap, ◌∙◌, subst}
use Rattle.jr_base.specs.Content.{Content}
use Rattle.jr_code.specs.Machine.{top, top_content, value_of_content}
use Rattle.std.proofs.lemmas.List.{reverse-reverse, reverse-append, length-reverse, length-drop, take-append-drop, take_at, drop_at}

reverse_split : {A : Type 0} (ys : List A) (n : ℕ) → reverse ys ≡ reverse (drop n ys) ++ reverse (take n ys)
reverse_split ys n = ap reverse (sym (take-append-drop n ys)) ∙ reverse-append (take n ys) (drop n ys)

size : {A : Type 0} (ys : List A) (n : ℕ) → length (reverse (drop n ys)) ≡ length (reverse ys) - n
size ys n = length-reverse (drop n ys) ∙ length-drop n ys ∙ ap (λ k. k - n) (sym (length-reverse ys))

last_of : {A : Type 0} (ys : List A) (n : ℕ) → drop (length (reverse ys) - n) (reverse ys) ≡ reverse (take n ys)
last_of ys n =
    ap (drop (length (reverse ys) - n)) (reverse_split ys n) ∙ drop_at (reverse (drop n ys)) (reverse (take n ys)) (length (reverse ys) - n) (size ys n)

rest_of : {A : Type 0} (ys : List A) (n : ℕ) → reverse (take (length (reverse ys) - n) (reverse ys)) ≡ drop n ys
rest_of ys n =
    ap (λ l. reverse (take (length (reverse ys) - n) l)) (reverse_split ys n)
    ∙ ap reverse (take_at (reverse (drop n ys)) (reverse (take n ys)) (length (reverse ys) - n) (size ys n))
    ∙ reverse-reverse (drop n ys)

-- what stands last is what stands on top
pub last_is_top : {A : Type 0} (xs : List A) (n : ℕ) → drop (length xs - n) xs ≡ reverse (take n (reverse xs))
last_is_top xs n =
    let P : List _ → Type 0 = λ l. drop (length l - n) l ≡ reverse (take n (reverse xs)) in
    subst P (reverse-reverse xs) (last_of (reverse xs) n)

pub rest_is_under : {A : Type 0} (xs : List A) (n : ℕ) → reverse (take (length xs - n) xs) ≡ drop n (reverse xs)
rest_is_under xs n =
    let P : List _ → Type 0 = λ l. reverse (take (length l - n) l) ≡ drop n (reverse xs) in
    subst P (reverse-reverse xs) (rest_of (reverse xs) n)

pub last_as : {A : Type 0} (items slots now : List A) (from n : ℕ) → slots ≡ items → reverse items ≡ now → from ≡ length slots - n →
    drop from slots ≡ reverse (take n now)
last_as items slots now from n e r f =
    ap (λ k. drop k slots) f ∙ ap (λ l. drop (length l - n) l) e ∙ last_is_top items n ∙ ap (λ l. reverse (take n l)) r

pub rest_as : {A : Type 0} (items left now : List A) (from n : ℕ) → left ≡ take from items → reverse items ≡ now → from ≡ length items - n →
    reverse left ≡ drop n now
rest_as items left now from n e r f =
    ap reverse e ∙ ap (λ k. reverse (take k items)) f ∙ rest_is_under items n ∙ ap (drop n) r

pub top_is : (l : List Content) → top l ≡ value_of_content (top_content l)
top_is [] = refl
top_is (c ∷ l) = refl
