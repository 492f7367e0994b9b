-- What a coded instruction is stays so when the tables grow at their ends.
use Rattle.std.proofs.Common.{◌≡◌, ◌≢◌, ℕ, zero, suc, List, [], ◌∷◌, ◌++◌, ◌⊎◌, inl, inr, refl, sym, subst, ⊎_elim}
use Rattle.std.specs.Prelude.{slice_index_or}
use Rattle.jr_code.specs.declared.instr.Instr.{Instr}
use Rattle.jr_code.specs.Instructions.{Instruction, GetElement, PutElement, Make, MakeArray, ThrowNew, PrintAll, Unknown}
use Rattle.jr_code.specs.Coded.{Tables, Grows, Begins, entry, rows, plain}

-- nothing, or the same
abbrev Alike : Instruction → Instruction → Type 0
Alike x y = (x ≡ Unknown) ⊎ (x ≡ y)

abbrev AllAlike : List Instruction → List Instruction → Type 0
AllAlike [] [] = Unit {0}
AllAlike [] (y ∷ ys) = ⊥
AllAlike (x ∷ xs) [] = ⊥
AllAlike (x ∷ xs) (y ∷ ys) = Alike x y × AllAlike xs ys

entry_grows : {A : Type 0} (row : A → Instruction) (xs more : List A) (n : ℕ) → Alike (entry row xs n) (entry row (xs ++ more) n)
entry_grows row [] more n = inl refl
entry_grows row (x ∷ xs) more zero = inr refl
entry_grows row (x ∷ xs) more (suc n) = entry_grows row xs more n

entry_alike : {A : Type 0} (row : A → Instruction) (xs ys : List A) (n : ℕ) → Begins xs ys → Alike (entry row xs n) (entry row ys n)
entry_alike row xs ys n b = subst (λ l. Alike (entry row xs n) (entry row l n)) (sym b.split) (entry_grows row xs b.more n)

at_alike : (xs ys : List Instruction) (n : ℕ) → AllAlike xs ys → Alike (slice_index_or xs n Unknown) (slice_index_or ys n Unknown)
at_alike [] [] n h = inl refl
at_alike [] (y ∷ ys) n h = absurd h
at_alike (x ∷ xs) [] n h = absurd h
at_alike (x ∷ xs) (y ∷ ys) zero h = h.0
at_alike (x ∷ xs) (y ∷ ys) (suc n) h = at_alike xs ys n h.1

same : {x : Instruction} → Alike x x
same = inr refl

rows_alike : (t u : Tables) → Grows t u → (n : ℕ) → AllAlike (Unknown ∷ rows t n) (Unknown ∷ rows u n)
rows_alike t u g n = (same, (same, (same, (same, (same, (entry_alike _ t.classes u.classes n g.classes, (same, (same, (same, (same, (same, (same, (same, (same, (same, (same, (same, (same, (same, (same, (same, (same, (same, (same, (same, (same, (same, (same, (same, (same, (same, (same, (same, (same, (same, (same, (same, (same, (same, (same, (same, (same, (same, (same, (entry_alike _ t.fields u.fields n g.fields, (entry_alike _ t.fields u.fields n g.fields, (entry_alike _ t.fields u.fields n g.fields, (entry_alike _ t.fields u.fields n g.fields, (entry_alike GetElement t.elems u.elems n g.elems, (entry_alike PutElement t.elems u.elems n g.elems, (same, (entry_alike Make t.makes u.makes n g.makes, (entry_alike MakeArray t.elems u.elems n g.elems, (same, (same, (same, (same, (same, (same, (same, (same, (same, (same, (same, (same, (same, (same, (entry_alike _ t.asserts u.asserts n g.asserts, (entry_alike PrintAll t.prints u.prints n g.prints, (entry_alike ThrowNew t.faults u.faults n g.faults, (same, (entry_alike _ t.longs u.longs n g.longs, (same, (same, (same, (same, (same, (same, (same, (same, (same, (same, (same, (same, (same, (same, (same, (same, (same, (same, (same, (same, (same, (same, tt))))))))))))))))))))))))))))))))))))))))))))))))))))))))))))))))))))))))))))))))))))))))))))))

pub grown : (t u : Tables) → Grows t u → (i : Instr) → plain t i ≢ Unknown → plain t i ≡ plain u i
grown t u g i known = ⊎_elim (λ e. absurd (known e)) (λ e. e) (at_alike (Unknown ∷ rows t i.arg) (Unknown ∷ rows u i.arg) i.code (rows_alike t u g i.arg))
