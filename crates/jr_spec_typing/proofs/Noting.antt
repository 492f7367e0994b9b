-- Words that are noted behind others.
use Rattle.std.proofs.Common.{◌≡◌, ℕ, ◌+◌, ◌<◌, ◌≤◌, List, [], ◌∷◌, ◌++◌, length, get_or, drop, map, refl, sym, ap, ◌∙◌, append_assoc, append-nil}
use Rattle.std.specs.List.{flat_map}
use Rattle.std.proofs.lemmas.List.{map-append}
use Rattle.jr_ast.specs.declared.unit.Modifier.{Modifier}
use Rattle.jr_names.proofs.Turns.{cut, uncut}
use Rattle.jr_typing_rules.specs.Notes.{Unjudged, in_modifier}
use Rattle.jr_spec_typing.specs.Noted.{Noted, note_of, and_words}

pub no_word : (w : Noted) → and_words w [] ≡ w
no_word w = ap (λ ns. record { source = w.source; notes = ns }) (append-nil w.notes)

words-append : (w : Noted) (xs ys : List Unjudged) → and_words (and_words w xs) ys ≡ and_words w (xs ++ ys)
words-append w xs ys =
    ap (λ ns. record { source = w.source; notes = ns })
    (append_assoc w.notes (map (note_of w.source) xs) (map (note_of w.source) ys) ∙ ap (λ ns. w.notes ++ ns) (sym (map-append (note_of w.source) xs ys)))

pub words_joined : (w next last : Noted) (xs ys : List Unjudged) → next ≡ and_words w xs → last ≡ and_words next ys → last ≡ and_words w (xs ++ ys)
words_joined w next last xs ys first second = second ∙ ap (λ v. and_words v ys) first ∙ words-append w xs ys

-- ---- the turns of a loop

pub words_next : {A : Type 0} (f : A → List Unjudged) (w next whole : Noted) (all : List A) (x : A) (k : ℕ) → and_words w (flat_map f (drop k all)) ≡ whole → k < length all → x ≡ get_or all k x →
    next ≡ and_words w (f x) → and_words next (flat_map f (drop (k + 1) all)) ≡ whole
words_next f w next whole all x k so_far below found more =
    ap (λ v. and_words v (flat_map f (drop (k + 1) all))) more ∙ words-append w (f x) (flat_map f (drop (k + 1) all))
    ∙ ap (λ y. and_words w (f y ++ flat_map f (drop (k + 1) all))) found
    ∙ sym (ap (λ xs. and_words w (flat_map f xs)) (cut all k x below)) ∙ so_far

-- the same of modifiers
pub modifiers_next : (w next whole : Noted) (all : List Modifier) (x : Modifier) (k : ℕ) → and_words w (flat_map (λ (m : Modifier). in_modifier m.place m.kind) (drop k all)) ≡ whole → k < length all →
    x ≡ get_or all k x → next ≡ and_words w (in_modifier x.place x.kind) → and_words next (flat_map (λ (m : Modifier). in_modifier m.place m.kind) (drop (k + 1) all)) ≡ whole
modifiers_next w next whole all x k so_far below found more = words_next (λ (m : Modifier). in_modifier m.place m.kind) w next whole all x k so_far below found more

pub no_words_left : {A : Type 0} (f : A → List Unjudged) (w whole : Noted) (all : List A) (k : ℕ) → and_words w (flat_map f (drop k all)) ≡ whole → length all ≤ k → w ≡ whole
no_words_left f w whole all k so_far done = sym (no_word w) ∙ sym (ap (λ xs. and_words w (flat_map f xs)) (uncut all k done)) ∙ so_far

pub flat-view : {A B : Type 0} (f : A → List Unjudged) (view : B → A) (xs : List B) → flat_map (λ x. f (view x)) xs ≡ flat_map f (map view xs)
flat-view f view [] = refl
flat-view f view (x ∷ xs) = ap (λ us. f (view x) ++ us) (flat-view f view xs)

pub no_view_left : {A B : Type 0} (f : A → List Unjudged) (view : B → A) (w first : Noted) (all : List B) (k : ℕ) →
    and_words w (flat_map (λ x. f (view x)) (drop k all)) ≡ and_words first (flat_map (λ x. f (view x)) all) → length all ≤ k → w ≡ and_words first (flat_map f (map view all))
no_view_left f view w first all k so_far done = no_words_left (λ x. f (view x)) w _ all k so_far done ∙ ap (λ us. and_words first us) (flat-view f view all)
