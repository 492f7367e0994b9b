-- What is written of a source that is accepted, without a run.
use Rattle.std.specs.Prelude.{◌==◌, ◌&&◌, ◌||◌, nat_lt, ℕ, ◌+◌, Bool, cond, List, [], ◌∷◌, ◌++◌, length, map, codes, decimal}
use Rattle.jr_base.specs.declared.number.Position.{Position}
use Rattle.jr_program.specs.Clauses.{Clause}
use Rattle.jr_program.specs.Programs.{Program, Note}
use Rattle.jr_report.specs.Report.{clause_kind_text, position_text, bytes_of_lines}

-- how much of each kind there is; constructors are among the methods
abbrev pub check_line : Program → List ℕ
check_line program =
    codes "accepted: classes " ++ decimal (length program.classes)
    ++ codes ", methods " ++ decimal (length program.methods)
    ++ codes ", clauses " ++ decimal (length program.clauses)

-- ---- clauses and notes

-- a clause that is judged, by its number, and where its keyword stands
abbrev pub clause_line : ℕ → Clause → List ℕ
clause_line n clause = codes "clause " ++ decimal n ++ codes ": " ++ clause_kind_text clause.kind ++ codes " at " ++ position_text clause.place

abbrev pub note_end : Position → List ℕ
note_end place = codes " at " ++ position_text place ++ codes " is not judged"

-- a word of JML that is read and not judged
abbrev pub note_line : Note → List ℕ
note_line note = codes "note: " ++ note.word ++ note_end note.place

-- the note stands before that place of the source
abbrev pub is_before : Position → Note → Bool
is_before place note = nat_lt note.place.line place.line || (note.place.line == place.line) && nat_lt note.place.column place.column

-- the notes at the front that stand before that place
abbrev pub notes_before : Position → List Note → List Note
notes_before place [] = []
notes_before place (note ∷ notes) = cond (is_before place note) (note ∷ notes_before place notes) []

-- and those that are left
abbrev pub notes_behind : Position → List Note → List Note
notes_behind place [] = []
notes_behind place (note ∷ notes) = cond (is_before place note) (notes_behind place notes) (note ∷ notes)

-- Clauses and notes stand in source order each; here they are put together in that order. The first clause has
-- number n.
abbrev pub in_source_order : ℕ → List Clause → List Note → List (List ℕ)
in_source_order n [] notes = map note_line notes
in_source_order n (clause ∷ clauses) notes =
    map note_line (notes_before clause.place notes)
    ++ clause_line n clause ∷ in_source_order (n + 1) clauses (notes_behind clause.place notes)

abbrev pub count_line : Program → List ℕ
count_line program = codes "clauses " ++ decimal (length program.clauses) ++ codes ", notes " ++ decimal (length program.notes)

-- the clauses and notes of a program, and how many there are
abbrev pub listing_lines : Program → List (List ℕ)
listing_lines program = in_source_order 1 program.clauses program.notes ++ count_line program ∷ []

abbrev pub listing : Program → List ℕ
listing program = bytes_of_lines (listing_lines program)
