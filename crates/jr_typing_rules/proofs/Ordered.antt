-- The clauses of a program are those that are written, in source order.
use Rattle.std.proofs.Common.{◌≡◌, List, [], ◌∷◌, ◌++◌, map, refl, ap, sym, ◌∙◌}
use Rattle.std.specs.List.{flat_map}
use Rattle.std.proofs.lemmas.List.{map-append}
use Rattle.jr_base.specs.declared.number.Span.{Span}
use Rattle.jr_base.specs.declared.number.Position.{Position}
use Rattle.jr_base.specs.declared.number.ClassId.{ClassId}
use Rattle.jr_program.specs.declared.words.ClauseKind.{ClauseKind}
use Rattle.jr_program.specs.declared.words.Mode.{Mode}
use Rattle.jr_program.specs.Clauses.{Clause, Owner, OfMethod, OfClass, OfField}
use Rattle.jr_ast.specs.Expressions.{Expr}
use Rattle.jr_ast.specs.Clauses as source
use Rattle.jr_typing_rules.specs.Answers.{Typing, Good, Bad, ◌>>=◌, each, all_hold, gather}
use Rattle.jr_typing_rules.specs.Names.{field_in}
use Rattle.jr_typing_rules.specs.Modifiers.{OnClass, OnMethod, OnOther, modifiers_stand, places_of, is_atomic_kind, said_mode, mode_in}
use Rattle.jr_typing_rules.specs.Statements.{Asserted}
use Rattle.jr_typing_rules.specs.Declarations.{MadeMethod, MadeMember, MadeClass, Fields, Method, Clause as OfClause}
use Rattle.jr_typing_rules.specs.Predicates.{Stand, states_boolean, states_reference}
use Rattle.jr_typing_rules.specs.Specifications.{Setting, one_condition, references, method_clause, atomic, assert, formal_stands, method_clauses, class_clause, member_clauses, class_mode, class_clauses, clauses}
use Rattle.jr_typing_rules.specs.Written.{keyword_of, keyword_of_class}
use Rattle.jr_typing_rules.proofs.Holding.{Holds, holds-next, holds-then, holds-found}
use Rattle.jr_typing_rules.proofs.Made.{made_keywords, made_keywords_in}

abbrev pub places : List Clause → List Position
places = map (λ (c : Clause). c.place)

-- the clauses stand there
abbrev pub StandAt : Setting → List Span → List Clause → Type 0
StandAt setting at cs = places cs ≡ map setting.position at

both-stand : (setting : Setting) (xs ys : List Span) (cs ds : List Clause) → StandAt setting xs cs → StandAt setting ys ds → StandAt setting (xs ++ ys) (cs ++ ds)
both-stand setting xs ys cs ds a b =
    map-append (λ (c : Clause). c.place) cs ds ∙ ap (λ l. l ++ places ds) a ∙ ap (λ r. map setting.position xs ++ r) b ∙ sym (map-append setting.position xs ys)

gather-stands : {A : Type 0} (setting : Setting) (keys : A → List Span) (f : A → Typing (List Clause)) → ((x : A) → Holds (StandAt setting (keys x)) (f x)) →
    (xs : List A) → Holds (StandAt setting (flat_map keys xs)) (gather f xs)
gather-stands setting keys f one [] = refl
gather-stands setting keys f one (x ∷ xs) =
    let Q = StandAt setting (keys x ++ flat_map keys xs) in
    holds-then Q (StandAt setting (keys x)) (f x) _ (one x) λ cs a.
    holds-then Q (StandAt setting (flat_map keys xs)) (gather f xs) _ (gather-stands setting keys f one xs) λ ds b.
    both-stand setting (keys x) (flat_map keys xs) cs ds a b

abbrev StandsAt : Setting → Span → Clause → Type 0
StandsAt setting at c = c.place ≡ setting.position at

condition-stands : (setting : Setting) (owner : Owner) (kind : ClauseKind) (mode : Mode) (stand : Stand) (at : Span) (e : Expr) → Holds (StandsAt setting at) (one_condition setting owner kind mode stand at e)
condition-stands setting owner kind mode stand at e = holds-next (StandsAt setting at) (states_boolean stand e) _ λ s ok. refl

references-stand : (setting : Setting) (owner : Owner) (kind : ClauseKind) (mode : Mode) (stand : Stand) (at : Span) (es : List Expr) → Holds (StandsAt setting at) (references setting owner kind mode stand at es)
references-stand setting owner kind mode stand at es = holds-next (StandsAt setting at) (each (states_reference stand) es) _ λ ss ok. refl

alone : (setting : Setting) (at : Span) (t : Typing Clause) → Holds (StandsAt setting at) t → Holds (StandAt setting (at ∷ [])) (t >>= λ c. Good (c ∷ []))
alone setting at (Good c) e = ap (λ p. p ∷ []) e
alone setting at (Bad r) e = tt

method_clause-stands : (setting : Setting) (mode : Mode) (m : MadeMethod) (c : source.MethodClause) → Holds (StandAt setting (keyword_of c)) (method_clause setting mode m c)
method_clause-stands setting mode m (source.Requires at e) = alone setting at _ (condition-stands setting (OfMethod m.number) _ mode _ at e)
method_clause-stands setting mode m (source.Ensures at e) = alone setting at _ (condition-stands setting (OfMethod m.number) _ mode _ at e)
method_clause-stands setting mode m (source.When at e) = alone setting at _ (condition-stands setting (OfMethod m.number) _ mode _ at e)
method_clause-stands setting mode m (source.Locks at es) = alone setting at _ (references-stand setting (OfMethod m.number) _ mode _ at es)
method_clause-stands setting mode m (source.Assignable at) = refl
method_clause-stands setting mode m (source.Modifies at) = refl

atomics-stand : (setting : Setting) (mode : Mode) (m : MadeMethod) (at : List Span) → StandAt setting at (map (atomic setting mode m) at)
atomics-stand setting mode m [] = refl
atomics-stand setting mode m (x ∷ xs) = ap (λ ps. setting.position x ∷ ps) (atomics-stand setting mode m xs)

asserts-stand : (setting : Setting) (mode : Mode) (m : MadeMethod) (all : List Asserted) → Holds (StandAt setting (map (λ (a : Asserted). a.place) all)) (each (assert setting mode m) all)
asserts-stand setting mode m [] = refl
asserts-stand setting mode m (a ∷ rest) =
    let Q = StandAt setting (a.place ∷ map (λ (a : Asserted). a.place) rest) in
    holds-then Q (StandsAt setting a.place) (assert setting mode m a) _ (condition-stands setting (OfMethod m.number) _ mode _ a.place a.condition) λ c e.
    holds-then Q (StandAt setting (map (λ (a : Asserted). a.place) rest)) (each (assert setting mode m) rest) _ (asserts-stand setting mode m rest) λ cs es.
    both-stand setting (a.place ∷ []) (map (λ (a : Asserted). a.place) rest) (c ∷ []) cs (ap (λ p. p ∷ []) e) es

method-stands : (setting : Setting) (mode : Mode) (m : MadeMethod) → Holds (StandAt setting (made_keywords (Method m))) (method_clauses setting mode m)
method-stands setting mode m =
    let Q = StandAt setting (made_keywords (Method m)) in
    let at = places_of is_atomic_kind m.source.modifiers in
    let before = flat_map keyword_of m.source.clauses in
    holds-then Q (StandAt setting before) (gather (method_clause setting mode m) m.source.clauses) _
    (gather-stands setting keyword_of (method_clause setting mode m) (method_clause-stands setting mode m) m.source.clauses) λ cs a.
    holds-next Q (modifiers_stand OnMethod m.source.modifiers) _ λ u ok.
    holds-next Q (all_hold formal_stands m.source.formals) _ λ v oks.
    holds-then Q (StandAt setting (map (λ (a : Asserted). a.place) m.asserts)) (each (assert setting mode m) m.asserts) _ (asserts-stand setting mode m m.asserts) λ ds b.
    both-stand setting (before ++ at) (map (λ (a : Asserted). a.place) m.asserts) (cs ++ map (atomic setting mode m) at) ds
    (both-stand setting before at cs (map (atomic setting mode m) at) a (atomics-stand setting mode m at)) b

class_clause-stands : (setting : Setting) (mode : Mode) (own : ClassId) (c : source.ClassClause) → Holds (StandsAt setting (keyword_of_class c)) (class_clause setting mode own c)
class_clause-stands setting mode own (source.Invariant at static e) = condition-stands setting (OfClass own) _ mode _ at e
class_clause-stands setting mode own (source.Constraint at static e) = condition-stands setting (OfClass own) _ mode _ at e
class_clause-stands setting mode own (source.MonitorsFor at x es) =
    holds-found (StandsAt setting at) (field_in setting.names own x.text) _ _ λ f e. references-stand setting (OfField f.number) _ mode _ at es

member-stands : (setting : Setting) (mode : Mode) (own : ClassId) (m : MadeMember) → Holds (StandAt setting (made_keywords m)) (member_clauses setting mode own m)
member-stands setting mode own (Fields ms fs) = holds-next (StandAt setting []) (modifiers_stand OnOther ms) _ λ u ok. refl
member-stands setting mode own (Method m) = method-stands setting (mode_in mode (said_mode m.source.modifiers)) m
member-stands setting mode own (OfClause c) = alone setting (keyword_of_class c) (class_clause setting mode own c) (class_clause-stands setting mode own c)

class-stands : (setting : Setting) (k : MadeClass) → Holds (StandAt setting (made_keywords_in k)) (class_clauses setting k)
class-stands setting k =
    holds-next (StandAt setting (made_keywords_in k)) (modifiers_stand OnClass k.source.modifiers) _ λ u ok.
    gather-stands setting made_keywords (member_clauses setting (class_mode k) k.number) (member-stands setting (class_mode k) k.number) k.members

pub clauses-stand : (setting : Setting) (ks : List MadeClass) → Holds (StandAt setting (flat_map made_keywords_in ks)) (clauses setting ks)
unfolding clauses
clauses-stand setting ks = gather-stands setting made_keywords_in (class_clauses setting) (class-stands setting) ks
