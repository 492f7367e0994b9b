-- Clauses that are added to those so far: what is added, and the rest, is the whole.
use Rattle.std.proofs.Common.{◌≡◌, ℕ, Bool, true, false, cond, ◌+◌, ◌<◌, ◌≤◌, List, [], ◌∷◌, ◌++◌, length, get_or, drop, map, Result, Ok, Err, refl, sym, ap, ◌∙◌, append_assoc, append-nil}
use Rattle.std.specs.Prelude.{IsErrAnd}
use Rattle.jr_base.specs.declared.refusal.Fail.{Fail}
use Rattle.jr_base.specs.declared.refusal.Fail.TheVariants.{Refused, Memory}
use Rattle.jr_base.specs.declared.number.Span.{Span}
use Rattle.jr_ast.specs.declared.unit.Modifier.{Modifier}
use Rattle.jr_ast.specs.declared.unit.ModifierKind.{ModifierKind}
use Rattle.jr_program.specs.Clauses.{Clause}
use Rattle.jr_typing_rules.specs.Answers.{Typing, Good, Bad, ◌>>=◌, gather}
use Rattle.jr_typing_rules.specs.Modifiers.{places_of}
use Rattle.jr_names.specs.Answered.{Fails, Moves}
use Rattle.jr_names.proofs.Turns.{cut, uncut}
use Rattle.jr_spec_typing.specs.Clauses.{Written, view_written, with_clauses, and_clause, and_clauses}
use Rattle.jr_spec_typing.specs.declared.written.Written.{Written as WrittenTree}

-- ---- one clause, or none

one-clause : (w : Written) (t : Typing Clause) → and_clause w t ≡ and_clauses w (t >>= λ c. Good (c ∷ []))
one-clause w (Good c) = refl
one-clause w (Bad r) = refl

pub one_clause : (w : Written) (t : Typing Clause) (result : Result (Unit {0}) Fail) (new : WrittenTree) → Moves view_written (and_clause w t) result new →
    Moves view_written (and_clauses w (t >>= λ c. Good (c ∷ []))) result new
one_clause w t (Ok u) new moves = sym (one-clause w t) ∙ moves
one_clause w t (Err (Refused r)) new fails = sym (one-clause w t) ∙ fails
one_clause w t (Err Memory) new fails = tt

pub no_more : (w : Written) → with_clauses w [] ≡ w
no_more w = ap (λ cs. record { source = w.source; clauses = cs }) (append-nil w.clauses)

pub no_clause : (w : Written) → and_clauses w (Good []) ≡ Good w
no_clause w = ap Good (no_more w)

-- ---- the first clauses

pub all_clauses : (source : List ℕ) (t : Typing (List Clause)) (new : Written) → and_clauses (record { source = source; clauses = [] }) t ≡ Good new → t ≡ Good new.clauses
all_clauses source (Good cs) new is = let same : with_clauses (record { source = source; clauses = [] }) cs ≡ new = cc in ap (λ (w : Written). Good w.clauses) same
all_clauses source (Bad r) new is = absurd (cc)

pub clauses_fail : (w : Written) (t : Typing (List Clause)) (e : Fail) → Fails e (and_clauses w t) → Fails e t
clauses_fail w (Good cs) (Refused r) h = absurd (cc)
clauses_fail w (Bad q) (Refused r) h = let same : q ≡ r = cc in ap (λ r. Bad r) same
clauses_fail w t Memory h = tt

-- ---- one after the other

-- those that were added stand before those that are
and-append : (w next : Written) (cs : List Clause) (t : Typing (List Clause)) → Good (with_clauses w cs) ≡ Good next →
    and_clauses w (t >>= λ ds. Good (cs ++ ds)) ≡ and_clauses next t
and-append w next cs (Bad r) is = refl
and-append w next cs (Good ds) is =
    let same : with_clauses w cs ≡ next = cc in
    ap (λ all. Good (record { source = w.source; clauses = all })) (sym (append_assoc w.clauses cs ds)) ∙ ap (λ v. Good (with_clauses v ds)) same

source-same : (w next : Written) (t : Typing (List Clause)) → and_clauses w t ≡ Good next → w.source ≡ next.source
source-same w next (Good cs) is = let same : with_clauses w cs ≡ next = cc in ap (λ (v : Written). v.source) same
source-same w next (Bad r) is = absurd (cc)

-- a failure is handed on
pub moves_out : (t : Typing Written) (f : Fail) (r : Result (Unit {0}) Fail) (new : WrittenTree) → IsErrAnd r (λ e. e ≡ f) → Fails f t → Moves view_written t r new
moves_out t f (Ok u) new h fails = absurd h
moves_out t f (Err e) new h fails = rw h fails

-- ---- the turns of a loop, where what is added may depend on the source

turn : {A B : Type 0} (f : List ℕ → A → Typing (List Clause)) (view : B → A) (w : Written) (all : List B) (x : B) (k : ℕ) (whole : Typing Written) →
    and_clauses w (gather (f w.source) (map view (drop k all))) ≡ whole → k < length all → x ≡ get_or all k x →
    and_clauses w (f w.source (view x) >>= λ cs. gather (f w.source) (map view (drop (k + 1) all)) >>= λ ds. Good (cs ++ ds)) ≡ whole
turn f view w all x k whole so_far below found =
    ap (λ x. and_clauses w (f w.source (view x) >>= λ cs. gather (f w.source) (map view (drop (k + 1) all)) >>= λ ds. Good (cs ++ ds))) found
    ∙ sym (ap (λ xs. and_clauses w (gather (f w.source) (map view xs))) (cut all k x below)) ∙ so_far

pub fails-first : (w : Written) (t : Typing (List Clause)) (rest : List Clause → Typing (List Clause)) (e : Fail) → Fails e (and_clauses w t) → Fails e (and_clauses w (t >>= rest))
fails-first w (Good cs) rest (Refused r) h = absurd (cc)
fails-first w (Bad q) rest (Refused r) h = h
fails-first w t rest Memory h = tt

pub same-fails : {A : Type 0} (s t : Typing A) (e : Fail) → s ≡ t → Fails e s → Fails e t
same-fails s t e same h = rw same at h

pub part_fails : {A B : Type 0} (f : List ℕ → A → Typing (List Clause)) (view : B → A) (w : Written) (all : List B) (x : B) (k : ℕ) (whole : Typing Written) (e : Fail) →
    and_clauses w (gather (f w.source) (map view (drop k all))) ≡ whole → k < length all → x ≡ get_or all k x → Fails e (and_clauses w (f w.source (view x))) → Fails e whole
part_fails f view w all x k whole e so_far below found h =
    same-fails _ whole e (turn f view w all x k whole so_far below found) (fails-first w (f w.source (view x)) _ e h)

pub next-part : (w next : Written) (t : Typing (List Clause)) (rest : List ℕ → Typing (List Clause)) (whole : Typing Written) → and_clauses w t ≡ Good next →
    and_clauses w (t >>= λ cs. rest w.source >>= λ ds. Good (cs ++ ds)) ≡ whole → and_clauses next (rest next.source) ≡ whole
next-part w next (Bad r) rest whole is so_far = absurd (cc)
next-part w next (Good cs) rest whole is so_far =
    let same : w.source ≡ next.source = source-same w next (Good cs) is in
    ap (λ s. and_clauses next (rest s)) (sym same) ∙ sym (and-append w next cs (rest w.source) is) ∙ so_far

pub part_goes_on : {A B : Type 0} (f : List ℕ → A → Typing (List Clause)) (view : B → A) (w next : Written) (all : List B) (x : B) (k : ℕ) (whole : Typing Written) →
    and_clauses w (gather (f w.source) (map view (drop k all))) ≡ whole → k < length all → x ≡ get_or all k x → and_clauses w (f w.source (view x)) ≡ Good next →
    and_clauses next (gather (f next.source) (map view (drop (k + 1) all))) ≡ whole
part_goes_on f view w next all x k whole so_far below found is =
    next-part w next (f w.source (view x)) (λ s. gather (f s) (map view (drop (k + 1) all))) whole is (turn f view w all x k whole so_far below found)

pub no_part_left : {A B : Type 0} (f : List ℕ → A → Typing (List Clause)) (view : B → A) (w : Written) (all : List B) (k : ℕ) (whole : Typing Written) →
    and_clauses w (gather (f w.source) (map view (drop k all))) ≡ whole → length all ≤ k → whole ≡ Good w
no_part_left f view w all k whole so_far done =
    sym so_far ∙ ap (λ xs. and_clauses w (gather (f w.source) (map view xs))) (uncut all k done) ∙ no_clause w

-- ---- a clause for each modifier of a kind

atomic-turn : (is : ModifierKind → Bool) (f : List ℕ → Span → Clause) (w : Written) (all : List Modifier) (d : Modifier) (k : ℕ) (b : Bool) (whole : Written) →
    with_clauses w (map (f w.source) (places_of is (drop k all))) ≡ whole → k < length all → is (get_or all k d).kind ≡ b →
    with_clauses w (map (f w.source) (cond b ((get_or all k d).place ∷ places_of is (drop (k + 1) all)) (places_of is (drop (k + 1) all)))) ≡ whole
atomic-turn is f w all d k b whole so_far below e = rw (sym e) (sym (ap (λ ms. with_clauses w (map (f w.source) (places_of is ms))) (cut all k d below)) ∙ so_far)

pub atomic_added : (is : ModifierKind → Bool) (f : List ℕ → Span → Clause) (w next : Written) (all : List Modifier) (d : Modifier) (k : ℕ) (whole : Written) →
    with_clauses w (map (f w.source) (places_of is (drop k all))) ≡ whole → k < length all → is (get_or all k d).kind ≡ true → next ≡ with_clauses w (f w.source (get_or all k d).place ∷ []) →
    with_clauses next (map (f next.source) (places_of is (drop (k + 1) all))) ≡ whole
atomic_added is f w next all d k whole so_far below e more =
    let rest = map (f w.source) (places_of is (drop (k + 1) all)) in
    ap (λ (v : Written). with_clauses v (map (f v.source) (places_of is (drop (k + 1) all)))) more
    ∙ ap (λ cs. record { source = w.source; clauses = cs }) (append_assoc w.clauses (f w.source (get_or all k d).place ∷ []) rest)
    ∙ atomic-turn is f w all d k true whole so_far below e

pub atomic_passed : (is : ModifierKind → Bool) (f : List ℕ → Span → Clause) (w : Written) (all : List Modifier) (d : Modifier) (k : ℕ) (whole : Written) →
    with_clauses w (map (f w.source) (places_of is (drop k all))) ≡ whole → k < length all → is (get_or all k d).kind ≡ false →
    with_clauses w (map (f w.source) (places_of is (drop (k + 1) all))) ≡ whole
atomic_passed is f w all d k whole so_far below e = atomic-turn is f w all d k false whole so_far below e

pub no_atomic_left : (is : ModifierKind → Bool) (f : List ℕ → Span → Clause) (w : Written) (all : List Modifier) (k : ℕ) (whole : Written) →
    with_clauses w (map (f w.source) (places_of is (drop k all))) ≡ whole → length all ≤ k → w ≡ whole
no_atomic_left is f w all k whole so_far done =
    sym (no_more w) ∙ sym (ap (λ ms. with_clauses w (map (f w.source) (places_of is ms))) (uncut all k done)) ∙ so_far

-- ---- the clauses of a method: those before it, where its modifiers and its formals' may stand, each `atomic`, and its asserts

abbrev pub in_turn : Typing (List Clause) → Typing (Unit {0}) → Typing (Unit {0}) → List Clause → Typing (List Clause) → Typing (List Clause)
in_turn before modifiers formals atomics asserts = before >>= λ cs. modifiers >>= λ u. formals >>= λ v. asserts >>= λ ds. Good (cs ++ atomics ++ ds)

pub before_fails : (w : Written) (before : Typing (List Clause)) (modifiers formals : Typing (Unit {0})) (atomics : List Clause) (asserts : Typing (List Clause)) (e : Fail) →
    Fails e (and_clauses w before) → Fails e (and_clauses w (in_turn before modifiers formals atomics asserts))
before_fails w before modifiers formals atomics asserts e h = fails-first w before _ e h

pub modifiers_fail : (w next : Written) (before : Typing (List Clause)) (modifiers formals : Typing (Unit {0})) (atomics : List Clause) (asserts : Typing (List Clause)) (e : Fail) →
    and_clauses w before ≡ Good next → Fails e modifiers → Fails e (and_clauses w (in_turn before modifiers formals atomics asserts))
modifiers_fail w next before modifiers formals atomics asserts Memory is h = tt
modifiers_fail w next (Bad q) modifiers formals atomics asserts (Refused r) is h = absurd (cc)
modifiers_fail w next (Good cs) modifiers formals atomics asserts (Refused r) is h = rw h refl

pub formals_fail : (w next : Written) (before : Typing (List Clause)) (modifiers formals : Typing (Unit {0})) (atomics : List Clause) (asserts : Typing (List Clause)) (e : Fail) →
    and_clauses w before ≡ Good next → modifiers ≡ Good tt → Fails e formals → Fails e (and_clauses w (in_turn before modifiers formals atomics asserts))
formals_fail w next before modifiers formals atomics asserts Memory is stand h = tt
formals_fail w next (Bad q) modifiers formals atomics asserts (Refused r) is stand h = absurd (cc)
formals_fail w next (Good cs) modifiers formals atomics asserts (Refused r) is stand h = rw (stand, h) refl

all-added : (w next last : Written) (before : Typing (List Clause)) (modifiers formals : Typing (Unit {0})) (atomics : List ℕ → List Clause) (asserts : List ℕ → Typing (List Clause)) →
    and_clauses w before ≡ Good next → modifiers ≡ Good tt → formals ≡ Good tt → last ≡ with_clauses next (atomics next.source) →
    and_clauses w (in_turn before modifiers formals (atomics w.source) (asserts w.source)) ≡ and_clauses last (asserts last.source)
all-added w next last (Bad q) modifiers formals atomics asserts is stand also more = absurd (cc)
all-added w next last (Good cs) modifiers formals atomics asserts is stand also more =
    let same : w.source ≡ next.source = source-same w next (Good cs) is in
    let first : with_clauses w cs ≡ next = cc in
    let both : with_clauses w (cs ++ atomics w.source) ≡ last =
    ap (λ all. record { source = w.source; clauses = all }) (sym (append_assoc w.clauses cs (atomics w.source)))
    ∙ ap (λ v. with_clauses v (atomics w.source)) first ∙ ap (λ s. with_clauses next (atomics s)) same ∙ sym more in
    let after : w.source ≡ last.source = ap (λ (v : Written). v.source) both in
    rw (stand, also) (and-append w last (cs ++ atomics w.source) (asserts w.source) (ap Good both) ∙ ap (λ s. and_clauses last (asserts s)) after)

pub method_added : (w next last : Written) (before : Typing (List Clause)) (modifiers formals : Typing (Unit {0})) (atomics : List ℕ → List Clause) (asserts : List ℕ → Typing (List Clause))
    (result : Result (Unit {0}) Fail) (new : WrittenTree) →
    and_clauses w before ≡ Good next → modifiers ≡ Good tt → formals ≡ Good tt → last ≡ with_clauses next (atomics next.source) → Moves view_written (and_clauses last (asserts last.source)) result new →
    Moves view_written (and_clauses w (in_turn before modifiers formals (atomics w.source) (asserts w.source))) result new
method_added w next last before modifiers formals atomics asserts (Ok u) new is stand also more moves = all-added w next last before modifiers formals atomics asserts is stand also more ∙ moves
method_added w next last before modifiers formals atomics asserts (Err (Refused r)) new is stand also more fails = all-added w next last before modifiers formals atomics asserts is stand also more ∙ fails
method_added w next last before modifiers formals atomics asserts (Err Memory) new is stand also more fails = tt
