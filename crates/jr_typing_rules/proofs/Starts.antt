-- A list that begins with another.
use Rattle.std.proofs.Common.{◌≡◌, ◌≤◌, ℕ, List, [], ◌++◌, length, Some, slice_get, ap, sym, ◌∙◌, append_assoc, append-nil, arith}
use Rattle.std.proofs.lemmas.List.{length-append}
use Rattle.jr_typing_rules.proofs.Known.{get-append}

-- the second list begins with the first
abbrev pub IsStartOf : {A : Type 0} → List A → List A → Type 0
IsStartOf {A = A} xs ys = (more : List A) × (ys ≡ xs ++ more)

pub start-self : {A : Type 0} (xs : List A) → IsStartOf xs xs
start-self xs = ([], sym (append-nil xs))

pub start-then : {A : Type 0} (xs ys zs : List A) → IsStartOf xs ys → IsStartOf ys zs → IsStartOf xs zs
start-then xs ys zs first second = (first.0 ++ second.0, second.1 ∙ ap (λ l. l ++ second.0) first.1 ∙ append_assoc xs first.0 second.0)

-- what is in its place stays there
pub start-get : {A : Type 0} (xs ys : List A) (k : ℕ) (x : A) → IsStartOf xs ys → slice_get xs k ≡ Some x → slice_get ys k ≡ Some x
start-get xs ys k x start found = rw start.1 (get-append xs start.0 k x found)

pub start-length : {A : Type 0} (xs ys : List A) → IsStartOf xs ys → length xs ≤ length ys
start-length xs ys start = rw start.1 (omega (arith, length-append xs start.0))
