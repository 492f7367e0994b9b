-- Pieces that are written one after another.
use Rattle.std.proofs.Common.{◌≡◌, ◌≤◌, ℕ, ◌+◌, List, [], ◌∷◌, ◌++◌, ap, sym, ◌∙◌, append_assoc, append-nil, refl, Option, Some, subst, slice_get, drop, take, add-one, zero, suc, sum_by, flat_map, length, arith}
use Rattle.std.proofs.lemmas.Grind.{flat_map-append}
use Rattle.std.proofs.lemmas.List.{drop_all}
use Rattle.std.proofs.lemmas.List.Sums.{sum_by-cons}
use Rattle.jr_base.specs.declared.action.PrintPart.{PrintPart}
use Rattle.jr_base.specs.declared.finish.Finish.{Finish}
use Rattle.jr_io.specs.Writes.{WritesPiece}
use Rattle.jr_io.proofs.WriteLaws.{nothing_written, piece_after_whole, cut_piece_of_longer}
use Rattle.jr_io.specs.declared.sink.Piece.{Piece}
use Rattle.jr_io.specs.declared.sink.Piece.TheVariants.{Whole, WriteFault}
use Rattle.jr_program.specs.Programs.{Program}
use Rattle.jr_meaning.specs.Event.{Event}
use Rattle.jr_meaning.specs.History.{steps_in}
use Rattle.jr_report.specs.Adding.{Adds}
use Rattle.jr_report.specs.Report.{Violation, part_text, out_lines, out_lines_of, numbered_lines, violation_line, violation_lines, uncaught_lines, uncaught_lines_of, bytes_of_lines, finish_line, summary_line, summary_text, report}

-- However z is written from w on, all is then written so from first on.
abbrev pub Leads : Option (List ℕ) → Option (List ℕ) → List ℕ → List ℕ → Type 0
Leads first w z all = (after : Option (List ℕ)) (r : Piece) → WritesPiece w after r z → WritesPiece first after r all

pub leads-more : (first w w2 : Option (List ℕ)) (z x y all : List ℕ) → Leads first w z all → z ≡ x ++ y → WritesPiece w w2 Whole x → Leads first w2 y all
leads-more first w w2 z x y all leads e piece after r rest =
    leads after r (subst (WritesPiece w after r) (sym e) (piece_after_whole w w2 after r x y piece rest))

pub leads-fault : (first w w2 : Option (List ℕ)) (z x y all : List ℕ) → Leads first w z all → z ≡ x ++ y → WritesPiece w w2 WriteFault x → WritesPiece first w2 WriteFault all
leads-fault first w w2 z x y all leads e piece =
    leads w2 WriteFault (subst (WritesPiece w w2 WriteFault) (sym e) (cut_piece_of_longer w w2 x y piece))

pub leads-done : (first w : Option (List ℕ)) (z all : List ℕ) → Leads first w z all → z ≡ [] → WritesPiece first w Whole all
leads-done first w z all leads e = leads w Whole (subst (WritesPiece w w Whole) (sym e) (nothing_written w))

-- what is written where nothing was yet
pub leads-start : (first : Option (List ℕ)) (all : List ℕ) → Leads first first all all
leads-start first all after r piece = piece

-- ---- through a line that is written out when it is full

-- all of it, where the line and what follows it is left to write
pub adds-more : (first w w2 : Option (List ℕ)) (line later x y all : List ℕ) → Leads first w (line ++ (x ++ y)) all → Adds w w2 line later Whole x → Leads first w2 (later ++ y) all
adds-more first w w2 line later x y all leads adds =
    leads-more first w w2 (line ++ (x ++ y)) adds.0 (later ++ y) all leads
    (sym (append_assoc line x y) ∙ ap (λ z. z ++ y) (sym adds.2) ∙ append_assoc adds.0 later y) adds.1

pub adds-fault : (first w w2 : Option (List ℕ)) (line later x y all : List ℕ) → Leads first w (line ++ (x ++ y)) all → Adds w w2 line later WriteFault x → WritesPiece first w2 WriteFault all
adds-fault first w w2 line later x y all leads adds =
    leads-fault first w w2 (line ++ (x ++ y)) (line ++ x) y all leads (sym (append_assoc line x y)) adds

-- ---- lists from a place on

-- what is left of a list, from a place where an item stands
pub drop-at : {A : Type 0} (xs : List A) (i : ℕ) (x : A) → slice_get xs i ≡ Some x → drop i xs ≡ x ∷ drop (i + 1) xs
drop-at [] i x e = cc
drop-at (y ∷ xs) zero x e = let same : y ≡ x = cc in ap (λ v. v ∷ xs) same
drop-at (y ∷ xs) (suc i) x e = let rest = drop-at xs i x e in rw add-one (rw add-one at rest)

-- and what stands before the place behind it
pub take-at : {A : Type 0} (xs : List A) (i : ℕ) (x : A) → slice_get xs i ≡ Some x → take (i + 1) xs ≡ take i xs ++ x ∷ []
take-at [] i x e = cc
take-at (y ∷ xs) zero x e = let same : y ≡ x = cc in ap (λ v. v ∷ []) same
take-at (y ∷ xs) (suc i) x e = let rest = take-at xs i x e in rw add-one (ap (λ l. y ∷ l) (rw add-one at rest))

-- the lines of prints, one entry after another
pub out_lines-at : (program : Program) (h : List Event) (i : ℕ) (e : Event) → slice_get h i ≡ Some e →
    bytes_of_lines (out_lines program (drop i h)) ≡ bytes_of_lines (out_lines_of program e) ++ bytes_of_lines (out_lines program (drop (i + 1) h))
out_lines-at program h i e stands =
    ap (λ es. bytes_of_lines (out_lines program es)) (drop-at h i e stands)
    ∙ flat_map-append (λ line. line ++ 10 ∷ []) (out_lines_of program e) (out_lines program (drop (i + 1) h))

-- the lines of uncaught exceptions likewise; k is the number of the next step
pub uncaught_lines-at : (k : ℕ) (h : List Event) (i : ℕ) (e : Event) → slice_get h i ≡ Some e →
    bytes_of_lines (uncaught_lines k (drop i h)) ≡ bytes_of_lines (uncaught_lines_of k e) ++ bytes_of_lines (uncaught_lines (k + steps_in e) (drop (i + 1) h))
uncaught_lines-at k h i e stands =
    ap (λ es. bytes_of_lines (uncaught_lines k es)) (drop-at h i e stands)
    ∙ flat_map-append (λ line. line ++ 10 ∷ []) (uncaught_lines_of k e) (uncaught_lines (k + steps_in e) (drop (i + 1) h))

-- and what entries count for
pub sum_by-at : (f : Event → ℕ) (h : List Event) (i : ℕ) (e : Event) → slice_get h i ≡ Some e →
    sum_by f (drop i h) ≡ f e + sum_by f (drop (i + 1) h)
sum_by-at f h i e stands = ap (sum_by f) (drop-at h i e stands) ∙ sum_by-cons f e (drop (i + 1) h)

-- numbers run on
pub numbered-append : (program : Program) (n : ℕ) (xs ys : List Violation) →
    numbered_lines program n (xs ++ ys) ≡ numbered_lines program n xs ++ numbered_lines program (n + length xs) ys
numbered-append program n [] ys = let none : n ≡ n + 0 = omega arith in ap (λ m. numbered_lines program m ys) none
numbered-append program n (x ∷ xs) ys =
    let next : (n + 1) + length xs ≡ n + length (x ∷ xs) = omega arith in
    ap (λ lines. violation_line program n x ∷ lines) (numbered-append program (n + 1) xs ys ∙ ap (λ m. numbered_lines program (n + 1) xs ++ numbered_lines program m ys) next)

-- and so do the bytes
pub numbered-bytes : (program : Program) (n : ℕ) (xs ys : List Violation) →
    bytes_of_lines (numbered_lines program n (xs ++ ys)) ≡ bytes_of_lines (numbered_lines program n xs) ++ bytes_of_lines (numbered_lines program (n + length xs) ys)
numbered-bytes program n xs ys =
    ap bytes_of_lines (numbered-append program n xs ys)
    ∙ flat_map-append (λ line. line ++ 10 ∷ []) (numbered_lines program n xs) (numbered_lines program (n + length xs) ys)

-- ---- a report

module _ (program : Program) (h : List Event) (finish : Finish) where
  abbrev pub out_bytes : List ℕ
  out_bytes = bytes_of_lines (out_lines program h)

  abbrev pub violation_bytes : List ℕ
  violation_bytes = bytes_of_lines (violation_lines program h)

  abbrev pub uncaught_bytes : List ℕ
  uncaught_bytes = bytes_of_lines (uncaught_lines 0 h)

  abbrev pub finish_bytes : List ℕ
  finish_bytes = finish_line finish ++ 10 ∷ []

  abbrev pub summary_bytes : List ℕ
  summary_bytes = summary_line program h ++ 10 ∷ []

  -- a report's bytes, piece by piece
  pub report-bytes : report program h finish ≡ out_bytes ++ (violation_bytes ++ (uncaught_bytes ++ (finish_bytes ++ summary_bytes)))
  report-bytes =
      let last : List (List ℕ) = finish_line finish ∷ summary_line program h ∷ [] in
      let ended : List ℕ → List ℕ = λ line. line ++ 10 ∷ [] in
      let two : bytes_of_lines last ≡ finish_bytes ++ summary_bytes = ap (λ bytes. finish_bytes ++ bytes) (append-nil summary_bytes) in
      flat_map-append ended (out_lines program h ++ violation_lines program h ++ uncaught_lines 0 h) last
      ∙ ap (λ bytes. bytes ++ bytes_of_lines last)
      (flat_map-append ended (out_lines program h ++ violation_lines program h) (uncaught_lines 0 h)
      ∙ ap (λ bytes. bytes ++ uncaught_bytes) (flat_map-append ended (out_lines program h) (violation_lines program h)))
      ∙ append_assoc (out_bytes ++ violation_bytes) uncaught_bytes (bytes_of_lines last)
      ∙ append_assoc out_bytes violation_bytes (uncaught_bytes ++ bytes_of_lines last)
      ∙ ap (λ bytes. out_bytes ++ (violation_bytes ++ (uncaught_bytes ++ bytes))) two

  abbrev pub LeadsReport : Option (List ℕ) → Option (List ℕ) → List ℕ → Type 0
  LeadsReport first w z = Leads first w z (report program h finish)

  -- what is left to write after each piece
  pub before-out : (a : Option (List ℕ)) → LeadsReport a a (out_bytes ++ (violation_bytes ++ (uncaught_bytes ++ (finish_bytes ++ summary_bytes))))
  before-out a after r piece = subst (WritesPiece a after r) (sym report-bytes) piece

  pub after-out : (a b : Option (List ℕ)) → WritesPiece a b Whole out_bytes →
      LeadsReport a b (violation_bytes ++ (uncaught_bytes ++ (finish_bytes ++ summary_bytes)))
  after-out a b piece = leads-more _ _ _ _ _ _ _ (before-out a) refl piece

  pub after-violations : (a b c : Option (List ℕ)) → WritesPiece a b Whole out_bytes → WritesPiece b c Whole violation_bytes →
      LeadsReport a c (uncaught_bytes ++ (finish_bytes ++ summary_bytes))
  after-violations a b c p q = leads-more _ _ _ _ _ _ _ (after-out a b p) refl q

  pub after-uncaught : (a b c d : Option (List ℕ)) → WritesPiece a b Whole out_bytes → WritesPiece b c Whole violation_bytes →
      WritesPiece c d Whole uncaught_bytes → LeadsReport a d (finish_bytes ++ summary_bytes)
  after-uncaught a b c d p q r = leads-more _ _ _ _ _ _ _ (after-violations a b c p q) refl r

  pub after-finish : (a b c d e : Option (List ℕ)) → WritesPiece a b Whole out_bytes → WritesPiece b c Whole violation_bytes →
      WritesPiece c d Whole uncaught_bytes → WritesPiece d e Whole finish_bytes → LeadsReport a e summary_bytes
  after-finish a b c d e p q r s = leads-more _ _ _ _ _ _ _ (after-uncaught a b c d p q r) refl s

-- a summary of the same counts is the same
pub summary-same : {a b c d e a2 b2 c2 d2 e2 : ℕ} → a ≡ a2 → b ≡ b2 → c ≡ c2 → d ≡ d2 → e ≡ e2 →
    summary_text a b c d e ++ 10 ∷ [] ≡ summary_text a2 b2 c2 d2 e2 ++ 10 ∷ []
summary-same {a = a} {b = b} {c = c} {d = d} {e = e} {a2 = a2} {b2 = b2} {c2 = c2} {d2 = d2} {e2 = e2} p q r s t =
    ap (λ n. summary_text n b c d e ++ 10 ∷ []) p ∙ ap (λ n. summary_text a2 n c d e ++ 10 ∷ []) q
    ∙ ap (λ n. summary_text a2 b2 n d e ++ 10 ∷ []) r ∙ ap (λ n. summary_text a2 b2 c2 n e ++ 10 ∷ []) s
    ∙ ap (λ n. summary_text a2 b2 c2 d2 n ++ 10 ∷ []) t

-- ---- a line that is written out

-- what a full line had, and then the bytes for which it has no room
pub written-out : (a b c : Option (List ℕ)) (line shown later bytes : List ℕ) (r : Piece) → shown ≡ line → later ≡ [] →
    WritesPiece a b Whole shown → WritesPiece b c r bytes → Adds a c line later r bytes
written-out a b c line shown later bytes Whole is none first next = (
  line ++ bytes,
  subst (λ l. WritesPiece a c Whole (l ++ bytes)) is (piece_after_whole a b c Whole shown bytes first next),
  ap (λ l. (line ++ bytes) ++ l) none ∙ append-nil (line ++ bytes),
)
written-out a b c line shown later bytes WriteFault is none first next =
    subst (λ l. WritesPiece a c WriteFault (l ++ bytes)) is (piece_after_whole a b c WriteFault shown bytes first next)

-- a line with bytes added, written to its end
pub line-ended : (a b c : Option (List ℕ)) (line later shown bytes : List ℕ) (r : Piece) → Adds a b line later Whole bytes → shown ≡ later →
    WritesPiece b c r shown → WritesPiece a c r (line ++ bytes)
line-ended a b c line later shown bytes r adds is next =
    subst (WritesPiece a c r) (ap (λ l. adds.0 ++ l) is ∙ adds.2) (piece_after_whole a b c r adds.0 shown adds.1 next)

-- ---- the parts of a print

module _ (program : Program) (parts : List PrintPart) (i : ℕ) (part : PrintPart) (there : slice_get parts i ≡ Some part) where
  parts-at : (line rest : List ℕ) → line ++ (flat_map (part_text program) (drop i parts) ++ rest) ≡ line ++ (part_text program part ++ (flat_map (part_text program) (drop (i + 1) parts) ++ rest))
  parts-at line rest =
      ap (λ ps. line ++ (flat_map (part_text program) ps ++ rest)) (drop-at parts i part there)
      ∙ ap (λ l. line ++ l) (append_assoc (part_text program part) (flat_map (part_text program) (drop (i + 1) parts)) rest)

  pub parts-more : (first w w2 : Option (List ℕ)) (line later rest all : List ℕ) → Leads first w (line ++ (flat_map (part_text program) (drop i parts) ++ rest)) all →
      Adds w w2 line later Whole (part_text program part) → Leads first w2 (later ++ (flat_map (part_text program) (drop (i + 1) parts) ++ rest)) all
  parts-more first w w2 line later rest all leads adds =
      adds-more first w w2 line later (part_text program part) (flat_map (part_text program) (drop (i + 1) parts) ++ rest) all (subst (λ z. Leads first w z all) (parts-at line rest) leads) adds

  pub parts-fault : (first w w2 : Option (List ℕ)) (line later rest all : List ℕ) → Leads first w (line ++ (flat_map (part_text program) (drop i parts) ++ rest)) all →
      Adds w w2 line later WriteFault (part_text program part) → WritesPiece first w2 WriteFault all
  parts-fault first w w2 line later rest all leads adds =
      adds-fault first w w2 line later (part_text program part) (flat_map (part_text program) (drop (i + 1) parts) ++ rest) all (subst (λ z. Leads first w z all) (parts-at line rest) leads) adds

-- at first all parts are left
pub parts-first : (first : Option (List ℕ)) (line x y : List ℕ) → Leads first first (line ++ (x ++ y)) ((line ++ x) ++ y)
parts-first first line x y after r piece = subst (WritesPiece first after r) (sym (append_assoc line x y)) piece

-- where no part is left, the line's end is
pub parts-end : (program : Program) (parts : List PrintPart) (i : ℕ) → length parts ≤ i → (first w after : Option (List ℕ)) (line all : List ℕ) (r : Piece) →
    Leads first w (line ++ (flat_map (part_text program) (drop i parts) ++ 10 ∷ [])) all → WritesPiece w after r (line ++ 10 ∷ []) → WritesPiece first after r all
parts-end program parts i past first w after line all r leads piece =
    leads after r (subst (λ ps. WritesPiece w after r (line ++ (flat_map (part_text program) ps ++ 10 ∷ []))) (sym (drop_all i parts past)) piece)

-- what was added to a line, and what is written behind it
pub goes-on : (a b c : Option (List ℕ)) (line later x z all : List ℕ) (r : Piece) → Adds a b line later Whole x → WritesPiece b c r (later ++ z) → (line ++ x) ++ z ≡ all → WritesPiece a c r all
goes-on a b c line later x z all r adds next is =
    subst (WritesPiece a c r) (sym (append_assoc adds.0 later z) ∙ ap (λ l. l ++ z) adds.2 ∙ is) (piece_after_whole a b c r adds.0 (later ++ z) adds.1 next)

-- a line that begins so, with a word added, and its end behind that
pub note-written : (a b c : Option (List ℕ)) (line later shown begun word tail last : List ℕ) (r : Piece) → line ≡ begun → shown ≡ word → Adds a b line later Whole shown →
    WritesPiece b c r (later ++ tail ++ last) → WritesPiece a c r (begun ++ word ++ tail ++ last)
note-written a b c line later shown begun word tail last r is is_word adds next =
    goes-on a b c line later shown (tail ++ last) (begun ++ word ++ tail ++ last) r adds (subst (WritesPiece b c r) (append_assoc later tail last) next)
    (sym (append_assoc (line ++ shown) tail last) ∙ ap (λ l. l ++ shown ++ tail ++ last) is ∙ ap (λ w. begun ++ w ++ tail ++ last) is_word)

pub note-cut : (a b : Option (List ℕ)) (line later shown begun word tail last : List ℕ) → line ≡ begun → shown ≡ word → Adds a b line later WriteFault shown →
    WritesPiece a b WriteFault (begun ++ word ++ tail ++ last)
note-cut a b line later shown begun word tail last is is_word adds =
    subst (WritesPiece a b WriteFault)
    (sym (append_assoc (line ++ shown) tail last) ∙ ap (λ l. l ++ shown ++ tail ++ last) is ∙ ap (λ w. begun ++ w ++ tail ++ last) is_word)
    (cut_piece_of_longer a b (line ++ shown) (tail ++ last) adds)
