-- Each assert of a method is the clause of its number.
use Rattle.std.proofs.Common.{◌≡◌, ℕ, zero, suc, ◌+◌, List, [], ◌∷◌, ◌++◌, length, map, Some, slice_get, refl, ap, ◌∙◌, arith}
use Rattle.std.specs.List.{flat_map}
use Rattle.std.proofs.lemmas.List.{length-append, length-map}
use Rattle.jr_base.specs.declared.number.ClassId.{ClassId}
use Rattle.jr_program.specs.declared.words.ClauseKind.TheVariants as kinds
use Rattle.jr_program.specs.declared.words.Mode.{Mode}
use Rattle.jr_program.specs.ClauseKinds.{StatesFit}
use Rattle.jr_program.specs.Clauses.{Clause, OfMethod}
use Rattle.jr_program.specs.Programs.{Program, numbered}
use Rattle.jr_program.specs.WellFormed.{assert_scope}
use Rattle.jr_ast.specs.Clauses as source
use Rattle.jr_typing_rules.specs.Agreement.{AgreesWith}
use Rattle.jr_typing_rules.specs.Answers.{Typing, Good, Bad, ◌>>=◌, each, all_hold, gather}
use Rattle.jr_typing_rules.specs.Modifiers.{OnClass, OnMethod, OnOther, modifiers_stand, places_of, is_atomic_kind, said_mode, mode_in}
use Rattle.jr_typing_rules.specs.Statements.{Asserted}
use Rattle.jr_typing_rules.specs.Declarations.{MadeMethod, MadeMember, MadeClass, Fields, Method, Clause as OfClause, clauses_before_body, count_judged}
use Rattle.jr_typing_rules.specs.Predicates.{states_boolean}
use Rattle.jr_typing_rules.specs.Specifications.{Setting, stand_in, in_environment, method_clause, atomic, assert, formal_stands, method_clauses, class_clause, member_clauses, class_mode, class_clauses, clauses}
use Rattle.jr_typing_rules.proofs.AssertScopes.{kinds_in, AssertsAre}
use Rattle.jr_typing_rules.proofs.Counting.{clauses_behind, From, From-append, behind-append, members_of}
use Rattle.jr_typing_rules.proofs.Environments.{environment-placed}
use Rattle.jr_typing_rules.proofs.Holding.{Holds, holds-weaker, holds-next, holds-then}
use Rattle.jr_typing_rules.proofs.Known.{get-append}
use Rattle.jr_typing_rules.proofs.PredicateKinds.{StandFits, boolean-states}

-- ---- one assert

-- the clause is that assert of the method
abbrev pub IsClauseOf : Program → MadeMethod → Asserted → Clause → Type 0
IsClauseOf program m a c =
    (c.kind ≡ kinds.Assert) × (c.owner ≡ OfMethod m.number) × StatesFit (assert_scope program m.is_static (kinds_in a.variables)) kinds.Assert c.states

pub assert-stand-fits : (program : Program) (setting : Setting) → AgreesWith setting.names program → (m : MadeMethod) (a : Asserted) →
    StandFits program (kinds_in a.variables) 0 (stand_in setting m.class m.is_static (in_environment 0 a.variables))
assert-stand-fits program setting names m a = record { names = names; placed = environment-placed a.variables; quantifiers = refl }

pub assert-is : (program : Program) (setting : Setting) → AgreesWith setting.names program → (mode : Mode) (m : MadeMethod) (a : Asserted) →
    Holds (IsClauseOf program m a) (assert setting mode m a)
assert-is program setting names mode m a =
    let stand = stand_in setting m.class m.is_static (in_environment 0 a.variables) in
    holds-then (IsClauseOf program m a) _ (states_boolean stand a.condition) _
    (boolean-states program (kinds_in a.variables) stand (assert-stand-fits program setting names m a) a.condition) λ s is. (refl, refl, is)

-- ---- lists in order

get-behind : {A : Type 0} (xs ys : List A) (n i : ℕ) (x : A) → n ≡ length xs + i → slice_get ys i ≡ Some x → slice_get (xs ++ ys) n ≡ Some x
get-behind [] ys n i x at found = let same : n ≡ i = omega (arith, at) in rw same found
get-behind (y ∷ xs) ys zero i x at found = absurd (omega (arith, at))
get-behind (y ∷ xs) ys (suc n) i x at found = get-behind xs ys n i x (omega (arith, at)) found

-- each of the first list has one of the second in its place
abbrev pub Matched : {A B : Type 0} → (A → B → Type 0) → List A → List B → Type 0
Matched {A} {B} P xs ys = (length ys ≡ length xs) × ((i : ℕ) (x : A) → slice_get xs i ≡ Some x → (y : B) × (slice_get ys i ≡ Some y) × P x y)

matched-more : {A B : Type 0} (P : A → B → Type 0) (x : A) (y : B) (xs : List A) (ys : List B) → P x y → Matched P xs ys → Matched P (x ∷ xs) (y ∷ ys)
matched-more {A} {B} P x y xs ys first rest = (omega (arith, rest.0), λ i z found. by i z found)
  where
    by : (i : ℕ) (z : A) → slice_get (x ∷ xs) i ≡ Some z → (w : B) × (slice_get (y ∷ ys) i ≡ Some w) × P z w
    by zero z found = let same : x ≡ z = cc in (y, refl, rw same at first)
    by (suc i) z found = rest.1 i z found

each-matched : {A B : Type 0} (P : A → B → Type 0) (f : A → Typing B) → ((x : A) → Holds (P x) (f x)) → (xs : List A) → Holds (Matched P xs) (each f xs)
each-matched P f one [] = (refl, λ i x found. absurd (cc))
each-matched P f one (x ∷ xs) =
    holds-then (Matched P (x ∷ xs)) (P x) (f x) _ (one x) λ y p.
    holds-then (Matched P (x ∷ xs)) (Matched P xs) (each f xs) _ (each-matched P f one xs) λ ys rest. matched-more P x y xs ys p rest

-- ---- the clauses of a method

one-long : (t : Typing Clause) → Holds (λ (cs : List Clause). length cs ≡ 1) (t >>= λ c. Good (c ∷ []))
one-long (Good c) = refl
one-long (Bad r) = tt

judged : (setting : Setting) (mode : Mode) (m : MadeMethod) (cs : List source.MethodClause) → Holds (λ (all : List Clause). length all ≡ count_judged cs) (gather (method_clause setting mode m) cs)
judged setting mode m [] = refl
judged setting mode m (c ∷ cs) = by c (judged setting mode m cs)
  where
    Rest : Type 0
    Rest = Holds (λ (all : List Clause). length all ≡ count_judged cs) (gather (method_clause setting mode m) cs)

    one_more : (t : Typing Clause) → Rest → Holds (λ (all : List Clause). length all ≡ count_judged cs + 1)
        (t >>= (λ c. Good (c ∷ [])) >>= λ ys. gather (method_clause setting mode m) cs >>= λ zs. Good (ys ++ zs))
    one_more t rest =
        let Q = λ (all : List Clause). length all ≡ count_judged cs + 1 in
        holds-then Q (λ (all : List Clause). length all ≡ 1) (t >>= λ c. Good (c ∷ [])) _ (one-long t) λ ys one.
        holds-then Q (λ (all : List Clause). length all ≡ count_judged cs) (gather (method_clause setting mode m) cs) _ rest λ zs more. omega (arith, one, more, length-append ys zs)

    by : (c : source.MethodClause) → Rest → Holds (λ (all : List Clause). length all ≡ count_judged (c ∷ cs)) (gather (method_clause setting mode m) (c ∷ cs))
    by (source.Requires at e) rest = one_more _ rest
    by (source.Ensures at e) rest = one_more _ rest
    by (source.When at e) rest = one_more _ rest
    by (source.Locks at es) rest = one_more _ rest
    by (source.Assignable at) rest = holds-then (λ (all : List Clause). length all ≡ count_judged cs) (λ (all : List Clause). length all ≡ count_judged cs) (gather (method_clause setting mode m) cs) _ rest λ zs more. more
    by (source.Modifies at) rest = holds-then (λ (all : List Clause). length all ≡ count_judged cs) (λ (all : List Clause). length all ≡ count_judged cs) (gather (method_clause setting mode m) cs) _ rest λ zs more. more

-- those of the list are the clauses from number n on
abbrev pub AreFrom : List Clause → ℕ → List Clause → Type 0
AreFrom all n cs = (k : ℕ) (c : Clause) → slice_get cs k ≡ Some c → slice_get all (n + k) ≡ Some c

-- the asserts of a method are among the clauses, n of which stand before the method
abbrev pub AssertsAt : Program → List Clause → ℕ → MadeMember → Type 0
AssertsAt program all n (Fields ms fs) = Unit {0}
AssertsAt program all n (Method m) =
    (i : ℕ) (a : Asserted) → slice_get m.asserts i ≡ Some a → (c : Clause) × (slice_get all (n + clauses_before_body m.source + i) ≡ Some c) × IsClauseOf program m a c
AssertsAt program all n (OfClause c) = Unit {0}

-- where the list stands, the members' clauses do
abbrev pub StandsFor : Program → List MadeMember → List Clause → Type 0
StandsFor program xs cs = (n : ℕ) (all : List Clause) → AreFrom all n cs → From (AssertsAt program all) n xs × (n + length cs ≡ clauses_behind n xs)

get-same : (all : List Clause) (n k : ℕ) (c : Clause) → n ≡ k → slice_get all n ≡ Some c → slice_get all k ≡ Some c
get-same all n k c same found = rw same at found

of-method : (program : Program) (m : MadeMethod) (before atomics asserts : List Clause) → length before ≡ count_judged m.source.clauses →
    length atomics ≡ length (places_of is_atomic_kind m.source.modifiers) → Matched (IsClauseOf program m) m.asserts asserts →
    StandsFor program (Method m ∷ []) ((before ++ atomics) ++ asserts)
of-method program m before atomics asserts judged_count atomic_count matched n all from =
    let both : length (before ++ atomics) ≡ length before + length atomics = length-append before atomics in (
      (
        λ i a found.
            let own = matched.1 i a found in
            let at = get-behind (before ++ atomics) asserts (clauses_before_body m.source + i) i own.0 (omega (arith, both, judged_count, atomic_count)) own.1 in
            (own.0, get-same all (n + (clauses_before_body m.source + i)) (n + clauses_before_body m.source + i) own.0 (omega arith) (from (clauses_before_body m.source + i) own.0 at), own.2),
        tt,
      ),
      omega (arith, both, judged_count, atomic_count, matched.0, length-append (before ++ atomics) asserts),
    )

method-stands : (program : Program) (setting : Setting) → AgreesWith setting.names program → (mode : Mode) (m : MadeMethod) →
    Holds (StandsFor program (Method m ∷ [])) (method_clauses setting mode m)
method-stands program setting names mode m =
    let Q = StandsFor program (Method m ∷ []) in
    let at = places_of is_atomic_kind m.source.modifiers in
    holds-then Q (λ (all : List Clause). length all ≡ count_judged m.source.clauses) (gather (method_clause setting mode m) m.source.clauses) _ (judged setting mode m m.source.clauses) λ before count.
    holds-next Q (modifiers_stand OnMethod m.source.modifiers) _ λ u ok.
    holds-next Q (all_hold formal_stands m.source.formals) _ λ v oks.
    holds-then Q (Matched (IsClauseOf program m) m.asserts) (each (assert setting mode m) m.asserts) _
    (each-matched (IsClauseOf program m) (assert setting mode m) (assert-is program setting names mode m) m.asserts) λ asserts matched.
    of-method program m before (map (atomic setting mode m) at) asserts count (length-map at (atomic setting mode m)) matched

-- ---- members and classes

of-clause : (program : Program) (c : source.ClassClause) (t : Typing Clause) → Holds (StandsFor program (OfClause c ∷ [])) (t >>= λ c. Good (c ∷ []))
of-clause program c (Good one) = λ n all from. ((tt, tt), refl)
of-clause program c (Bad r) = tt

member-stands : (program : Program) (setting : Setting) → AgreesWith setting.names program → (mode : Mode) (own : ClassId) (x : MadeMember) →
    Holds (StandsFor program (x ∷ [])) (member_clauses setting mode own x)
member-stands program setting names mode own (Fields ms fs) = holds-next (StandsFor program (Fields ms fs ∷ [])) (modifiers_stand OnOther ms) _ λ u ok n all from. ((tt, tt), refl)
member-stands program setting names mode own (Method m) = method-stands program setting names (mode_in mode (said_mode m.source.modifiers)) m
member-stands program setting names mode own (OfClause c) = of-clause program c (class_clause setting mode own c)

stands-append : (program : Program) (xs ys : List MadeMember) (cs ds : List Clause) → StandsFor program xs cs → StandsFor program ys ds → StandsFor program (xs ++ ys) (cs ++ ds)
stands-append program xs ys cs ds first second n all from =
    let one = first n all λ k c found. from k c (get-append cs ds k c found) in
    let two = second (clauses_behind n xs) all λ k c found.
    get-same all (n + (length cs + k)) (clauses_behind n xs + k) c (omega (arith, one.1)) (from (length cs + k) c (get-behind cs ds (length cs + k) k c refl found)) in
    (From-append (AssertsAt program all) n xs ys one.0 two.0, omega (arith, one.1, two.1, length-append cs ds, behind-append n xs ys))

gathered : {A : Type 0} (program : Program) (parts : A → List MadeMember) (f : A → Typing (List Clause)) → ((x : A) → Holds (StandsFor program (parts x)) (f x)) →
    (xs : List A) → Holds (StandsFor program (flat_map parts xs)) (gather f xs)
gathered program parts f one [] = λ n all from. (tt, omega arith)
gathered program parts f one (x ∷ xs) =
    let Q = StandsFor program (parts x ++ flat_map parts xs) in
    holds-then Q (StandsFor program (parts x)) (f x) _ (one x) λ cs first.
    holds-then Q (StandsFor program (flat_map parts xs)) (gather f xs) _ (gathered program parts f one xs) λ ds second.
    stands-append program (parts x) (flat_map parts xs) cs ds first second

singles : {A : Type 0} (xs : List A) → flat_map (λ (x : A). x ∷ []) xs ≡ xs
singles [] = refl
singles (x ∷ xs) = ap (λ rest. x ∷ rest) (singles xs)

class-stands : (program : Program) (setting : Setting) → AgreesWith setting.names program → (k : MadeClass) → Holds (StandsFor program (members_of k)) (class_clauses setting k)
class-stands program setting names k =
    let Q = StandsFor program k.members in
    let all = gathered program (λ (x : MadeMember). x ∷ []) (member_clauses setting (class_mode k) k.number) (member-stands program setting names (class_mode k) k.number) k.members in
    holds-next Q (modifiers_stand OnClass k.source.modifiers) _ λ u ok. rw (singles k.members) at all

all-stand : (program : Program) (setting : Setting) → AgreesWith setting.names program → (ks : List MadeClass) → Holds (StandsFor program (flat_map members_of ks)) (clauses setting ks)
unfolding clauses
all-stand program setting names ks = gathered program members_of (class_clauses setting) (class-stands program setting names) ks

-- each assert is where it is counted
pub asserts-placed : (program : Program) (setting : Setting) → AgreesWith setting.names program → (ks : List MadeClass) →
    Holds (λ all. From (AssertsAt program all) 0 (flat_map members_of ks)) (clauses setting ks)
asserts-placed program setting names ks =
    holds-weaker (StandsFor program (flat_map members_of ks)) (λ all. From (AssertsAt program all) 0 (flat_map members_of ks)) (clauses setting ks) (all-stand program setting names ks)
    λ all stand. (stand 0 all λ k c found. get-same all k (0 + k) c (omega arith) found).0

-- ---- numbers

numbered-at : (cs : List Clause) (k n : ℕ) → k ≡ n + 1 → numbered cs k ≡ slice_get cs n
numbered-at cs zero n e = absurd (omega (arith, e))
numbered-at cs (suc k) n e = let same : k ≡ n = omega (arith, e) in ap (slice_get cs) same

pub asserts-are : (program : Program) (n : ℕ) (m : MadeMethod) → AssertsAt program program.clauses n (Method m) →
    AssertsAre program m.number m.is_static (n + clauses_before_body m.source) m.asserts
asserts-are program n m at i a found =
    let own = at i a found in
    let place = n + clauses_before_body m.source + i in
    (own.0, numbered-at program.clauses (place + 1) place refl ∙ own.1, own.2.0, own.2.1, own.2.2)
