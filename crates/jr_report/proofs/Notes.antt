-- Clauses and notes, put together in source order.
use Rattle.std.proofs.Common.{◌≡◌, ◌+◌, ◌<◌, ◌≤◌, ℕ, cond, true, false, List, [], ◌∷◌, ◌++◌, map, take, drop, length, get_or, Some, slice_get, refl, ap, sym, ◌∙◌, append_assoc, append-nil}
use Rattle.std.proofs.lemmas.Grind.{flat_map-append}
use Rattle.std.proofs.lemmas.List.{drop_all}
use Rattle.std.proofs.lemmas.Option.{slice_get-map, slice_get_read}
use Rattle.std.specs.Option.{option_map}
use Rattle.jr_program.specs.UnitViews.{view_note}
use Rattle.jr_program.specs.declared.parts.TypedNote.{TypedNote}
use Rattle.jr_base.specs.declared.number.Position.{Position}
use Rattle.jr_program.specs.Clauses.{Clause}
use Rattle.jr_program.specs.Programs.{Note}
use Rattle.jr_report.specs.Listing.{is_before, notes_before, notes_behind, clause_line, note_line, in_source_order}
use Rattle.jr_report.specs.Report.{bytes_of_lines}
use Rattle.jr_report.proofs.Pieces.{drop-at, take-at}

-- ---- notes before a place

module _ (place : Position) (notes : List Note) (i : ℕ) (note : Note) (there : slice_get notes i ≡ Some note) where
  pub before-stops : is_before place note ≡ false → notes_before place (drop i notes) ≡ []
  before-stops late = ap (notes_before place) (drop-at notes i note there) ∙ ap (λ b. cond b (note ∷ notes_before place (drop (i + 1) notes)) []) late

  pub behind-stops : is_before place note ≡ false → notes_behind place (drop i notes) ≡ drop i notes
  behind-stops late =
      ap (notes_behind place) (drop-at notes i note there) ∙ ap (λ b. cond b (notes_behind place (drop (i + 1) notes)) (note ∷ drop (i + 1) notes)) late
      ∙ sym (drop-at notes i note there)

  pub before-goes : is_before place note ≡ true → take (i + 1) notes ++ notes_before place (drop (i + 1) notes) ≡ take i notes ++ notes_before place (drop i notes)
  before-goes early =
      ap (λ l. l ++ notes_before place (drop (i + 1) notes)) (take-at notes i note there)
      ∙ append_assoc (take i notes) (note ∷ []) (notes_before place (drop (i + 1) notes))
      ∙ ap (λ l. take i notes ++ l) (sym (ap (notes_before place) (drop-at notes i note there) ∙ ap (λ b. cond b (note ∷ notes_before place (drop (i + 1) notes)) []) early))

  pub behind-goes : is_before place note ≡ true → notes_behind place (drop (i + 1) notes) ≡ notes_behind place (drop i notes)
  behind-goes early = sym (ap (notes_behind place) (drop-at notes i note there) ∙ ap (λ b. cond b (notes_behind place (drop (i + 1) notes)) (note ∷ drop (i + 1) notes)) early)

-- a note that is borrowed, as plain data
pub note-there : (notes : List TypedNote) (i : ℕ) (note : TypedNote) → i < length notes → note ≡ get_or notes i note → slice_get (map view_note notes) i ≡ Some (view_note note)
note-there notes i note below is = slice_get-map view_note notes i ∙ ap (option_map view_note) (slice_get_read notes (length notes) i note refl below is)

-- a line for each note, one after another
pub notes-at : (notes : List TypedNote) (i : ℕ) (note : TypedNote) → i < length notes → note ≡ get_or notes i note →
    bytes_of_lines (map note_line (map view_note (drop i notes))) ≡ (note_line (view_note note) ++ 10 ∷ []) ++ bytes_of_lines (map note_line (map view_note (drop (i + 1) notes)))
notes-at notes i note below is =
    ap (λ ns. bytes_of_lines (map note_line (map view_note ns))) (drop-at notes i note (slice_get_read notes (length notes) i note refl below is))

-- ---- one clause more

-- a clause with the notes before it, and what follows
pub order-at : (n : ℕ) (clauses : List Clause) (i : ℕ) (clause : Clause) (notes before behind : List Note) → slice_get clauses i ≡ Some clause →
    before ≡ notes_before clause.place notes → behind ≡ notes_behind clause.place notes →
    bytes_of_lines (in_source_order n (drop i clauses) notes)
    ≡ bytes_of_lines (map note_line before ++ clause_line n clause ∷ []) ++ bytes_of_lines (in_source_order (n + 1) (drop (i + 1) clauses) behind)
order-at n clauses i clause notes before behind there is_front is_rest =
    let front : List (List ℕ) = map note_line before ++ clause_line n clause ∷ [] in
    let rest : List (List ℕ) = in_source_order (n + 1) (drop (i + 1) clauses) behind in
    ap (λ cs. bytes_of_lines (in_source_order n cs notes)) (drop-at clauses i clause there)
    ∙ ap (λ ns. bytes_of_lines (map note_line ns ++ clause_line n clause ∷ in_source_order (n + 1) (drop (i + 1) clauses) (notes_behind clause.place notes))) (sym is_front)
    ∙ ap (λ ns. bytes_of_lines (map note_line before ++ clause_line n clause ∷ in_source_order (n + 1) (drop (i + 1) clauses) ns)) (sym is_rest)
    ∙ ap bytes_of_lines (sym (append_assoc (map note_line before) (clause_line n clause ∷ []) rest))
    ∙ flat_map-append (λ line. line ++ 10 ∷ []) front rest

-- behind all clauses the notes that are left
pub order-end : (n : ℕ) (clauses : List Clause) (i : ℕ) (notes : List Note) → length clauses ≤ i → bytes_of_lines (in_source_order n (drop i clauses) notes) ≡ bytes_of_lines (map note_line notes)
order-end n clauses i notes past = ap (λ cs. bytes_of_lines (in_source_order n cs notes)) (drop_all i clauses past)

-- the notes, and the clause behind them
pub clause-bytes : (lines : List (List ℕ)) (line : List ℕ) → bytes_of_lines (lines ++ line ∷ []) ≡ bytes_of_lines lines ++ (line ++ 10 ∷ [])
clause-bytes lines line =
    flat_map-append (λ line. line ++ 10 ∷ []) lines (line ∷ []) ∙ ap (λ l. bytes_of_lines lines ++ l) (append-nil (line ++ 10 ∷ []))
