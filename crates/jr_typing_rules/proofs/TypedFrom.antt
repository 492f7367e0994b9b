-- What each method of a source was made from.
use Rattle.std.proofs.Common.{◌≡◌, ◌==◌, ℕ, ◌+◌, false, List, [], ◌∷◌, ◌++◌, length, refl, ap, sym, ◌∙◌, append-nil, arith, slice_get}
use Rattle.std.specs.List.{flat_map}
use Rattle.jr_base.specs.declared.number.ClassId.{ClassId}
use Rattle.jr_ast.specs.declared.unit.Field.{Field}
use Rattle.jr_ast.specs.declared.unit.FieldDeclarator.{FieldDeclarator}
use Rattle.jr_ast.specs.Units.{Member, Empty, OfField, OfMethod, OfClause}
use Rattle.jr_ast.specs.Units as unit
use Rattle.jr_program.specs.WellFormed.{most_formals}
use Rattle.jr_typing_rules.specs.declared.words.ValueType.{ValueType}
use Rattle.jr_typing_rules.specs.Answers.{Good, one_by_one}
use Rattle.jr_typing_rules.specs.Names.{Names}
use Rattle.jr_typing_rules.specs.Modifiers.{has, is_static_kind, is_volatile_kind}
use Rattle.jr_typing_rules.specs.Resolution.{Resolution, result_type, formal_types}
use Rattle.jr_typing_rules.specs.Statements.{Mades, starts, all_typed, type_of}
use Rattle.jr_typing_rules.specs.Declarations.{Counts, Coded, MadeMethod, MadeMember, MadeClass, Fields, Method, Clause, ClassesMade, FieldsMade, no_counts, initial_constant, right_declaration, ends_if_asked, few_formals, first_state, frame_of, made_method, makes_field, makes_fields, makes_method, makes_member, makes_class, declares_run, code}
use Rattle.jr_typing_rules.proofs.Holding.{Holds, holds-next, holds-then, holds-require, holds-along}
use Rattle.jr_typing_rules.proofs.Made.{flat_map-snoc}
use Rattle.jr_typing_rules.proofs.Counting.{From, From-append, From-weaker, behind-append, clause_count, clauses_behind, members_of}
use Rattle.jr_typing_rules.proofs.Starts.{IsStartOf, start-self, start-then}

-- The method was made so, where n clauses stand before it. The texts of the program begin with those before it and its own.
pub record TypedFrom (r : Resolution) (texts : List (List ℕ)) (n : ℕ) (m : MadeMethod) : Type 0 where
  pub counts : Counts
  pub formals : List ValueType
  pub made : Mades
  pub clauses : counts.clauses ≡ n
  pub few : few_formals (slice_get m.source.formals most_formals) ≡ Good tt
  pub result_typed : result_type r.names m.source.kind ≡ Good m.result
  pub formals_typed : formal_types r.names (r.main.0 == counts.methods) m.source.formals ≡ Good formals
  pub typed : all_typed (frame_of r.names m.class counts m.source m.result) false (starts (first_state m.source formals)) m.source.body ≡ Good made
  pub is : m ≡ made_method m.class counts m.source m.result formals made
  pub texts_begin : IsStartOf (counts.texts ++ made.state.texts) texts

TypedFrom-more : (r : Resolution) (texts all : List (List ℕ)) (n : ℕ) (m : MadeMethod) → IsStartOf texts all → TypedFrom r texts n m → TypedFrom r all n m
TypedFrom-more r texts all n m begins from = record {
  counts = from.counts;
  formals = from.formals;
  made = from.made;
  clauses = from.clauses;
  few = from.few;
  result_typed = from.result_typed;
  formals_typed = from.formals_typed;
  typed = from.typed;
  is = from.is;
  texts_begin = start-then (from.counts.texts ++ from.made.state.texts) texts all from.texts_begin begins;
}

abbrev pub TypedAt : Resolution → List (List ℕ) → ℕ → MadeMember → Type 0
TypedAt r texts n (Fields ms fs) = Unit {0}
TypedAt r texts n (Method m) = TypedFrom r texts n m
TypedAt r texts n (Clause c) = Unit {0}

TypedAt-more : (r : Resolution) (texts all : List (List ℕ)) → IsStartOf texts all → (n : ℕ) (x : MadeMember) → TypedAt r texts n x → TypedAt r all n x
TypedAt-more r texts all begins n (Fields ms fs) from = tt
TypedAt-more r texts all begins n (Method m) from = TypedFrom-more r texts all n m begins from
TypedAt-more r texts all begins n (Clause c) from = tt

-- ---- members

pub record MembersTyped (r : Resolution) (start : Counts) (c : Coded) : Type 0 where
  pub clauses : c.counts.clauses ≡ clauses_behind start.clauses c.members
  pub texts : IsStartOf start.texts c.counts.texts
  pub all : From (TypedAt r c.counts.texts) start.clauses c.members

from-number : (P : ℕ → MadeMember → Type 0) (n k : ℕ) (x : MadeMember) → n ≡ k → P n x → P k x
from-number P n k x same at = rw same at at

-- one more member
member-after : (r : Resolution) (start : Counts) (c after : Coded) (x : MadeMember) → after.members ≡ c.members ++ x ∷ [] → after.counts.clauses ≡ c.counts.clauses + clause_count x →
    IsStartOf c.counts.texts after.counts.texts → TypedAt r after.counts.texts c.counts.clauses x → MembersTyped r start c → MembersTyped r start after
member-after r start c after x e clauses more new typed = record {
  clauses = rw e (clauses ∙ ap (λ n. n + clause_count x) typed.clauses ∙ sym (behind-append start.clauses c.members (x ∷ [])));
  texts = start-then start.texts c.counts.texts after.counts.texts typed.texts more;
  all = rw e (From-append (TypedAt r after.counts.texts) start.clauses c.members (x ∷ [])
      (From-weaker (TypedAt r c.counts.texts) (TypedAt r after.counts.texts) start.clauses c.members (TypedAt-more r c.counts.texts after.counts.texts more) typed.all)
      (from-number (TypedAt r after.counts.texts) c.counts.clauses (clauses_behind start.clauses c.members) x typed.clauses new, tt));
}

abbrev SameCounts : Counts → FieldsMade → Type 0
SameCounts counts s = (s.counts.clauses ≡ counts.clauses) × (s.counts.texts ≡ counts.texts)

fields-count : (names : Names) (own : ClassId) (counts : Counts) (f : Field) → Holds (SameCounts counts) (makes_fields names own counts f)
fields-count names own counts f =
    holds-next (SameCounts counts) (type_of names f.type_name) _ λ t e.
    holds-along (λ (before : List FieldDeclarator) (s : FieldsMade). SameCounts counts s) (makes_field names own (has is_static_kind f.modifiers) (has is_volatile_kind f.modifiers) t)
    (λ before s d same. holds-next (SameCounts counts) (initial_constant names t d.constant) _ λ c e. same)
    [] (record { counts = counts; made = [] }) (refl, refl) f.declarators

method-typed : (r : Resolution) (k : unit.Class) (own : ClassId) (start : Counts) (before : Coded) (m : unit.Method) → MembersTyped r start before →
    Holds (MembersTyped r start) (makes_method r k own before m)
method-typed r k own start before m typed =
    let Q = MembersTyped r start in
    holds-require Q (right_declaration k m m.kind) _ _ λ right.
    holds-require Q (ends_if_asked m m.kind) _ _ λ ends.
    holds-next Q (few_formals (slice_get m.formals most_formals)) _ λ u few.
    holds-next Q (result_type r.names m.kind) _ λ result er.
    holds-next Q (formal_types r.names (r.main.0 == before.counts.methods) m.formals) _ λ formals ef.
    holds-next Q (all_typed (frame_of r.names own before.counts m result) false (starts (first_state m formals)) m.body) _ λ made em.
    member-after r start before _ (Method (made_method own before.counts m result formals made)) refl (omega arith) (made.state.texts, refl)
    (record {
      counts = before.counts;
      formals = formals;
      made = made;
      clauses = refl;
      few = few;
      result_typed = er;
      formals_typed = ef;
      typed = em;
      is = refl;
      texts_begin = start-self (before.counts.texts ++ made.state.texts);
    }) typed

same-begins : (before all : List (List ℕ)) → all ≡ before → IsStartOf before all
same-begins before all e = ([], e ∙ sym (append-nil before))

member-typed : (r : Resolution) (k : unit.Class) (own : ClassId) (start : Counts) (c : Coded) (m : Member) → MembersTyped r start c → Holds (MembersTyped r start) (makes_member r k own c m)
member-typed r k own start c Empty typed = typed
member-typed r k own start c (OfField f) typed =
    holds-then (MembersTyped r start) (SameCounts c.counts) (makes_fields r.names own c.counts f) _ (fields-count r.names own c.counts f)
    λ s same. member-after r start c _ (Fields f.modifiers s.made) refl (omega (arith, same.0)) (same-begins c.counts.texts s.counts.texts same.1) tt typed
member-typed r k own start c (OfMethod m) typed = method-typed r k own start c m typed
member-typed r k own start c (OfClause q) typed = member-after r start c _ (Clause q) refl refl (start-self c.counts.texts) tt typed

-- ---- classes

pub record AllTyped (r : Resolution) (s : ClassesMade) : Type 0 where
  pub clauses : s.counts.clauses ≡ clauses_behind 0 (flat_map members_of s.made)
  pub all : From (TypedAt r s.counts.texts) 0 (flat_map members_of s.made)

class-after : (r : Resolution) (s after : ClassesMade) (x : MadeClass) (c : Coded) → after.made ≡ s.made ++ x ∷ [] → after.counts ≡ c.counts → x.members ≡ c.members →
    MembersTyped r s.counts c → AllTyped r s → AllTyped r after
class-after r s after x c e counts members new typed =
    let before = flat_map members_of s.made in
    let here : clauses_behind 0 before ≡ s.counts.clauses = sym typed.clauses in
    record {
      clauses = rw (e, counts, flat_map-snoc members_of s.made x, members) (new.clauses ∙ ap (λ n. clauses_behind n c.members) typed.clauses ∙ sym (behind-append 0 before c.members));
      all = rw (e, counts, flat_map-snoc members_of s.made x, members)
          (From-append (TypedAt r c.counts.texts) 0 before c.members
          (From-weaker (TypedAt r s.counts.texts) (TypedAt r c.counts.texts) 0 before (TypedAt-more r s.counts.texts c.counts.texts new.texts) typed.all)
          (rw here new.all));
    }

class-typed : (r : Resolution) (s : ClassesMade) (k : unit.Class) → AllTyped r s → Holds (AllTyped r) (makes_class r s k)
class-typed r s k typed =
    let own : ClassId = record { 0 = length s.made } in
    let start : Coded = record { counts = s.counts; members = [] } in
    holds-require (AllTyped r) (declares_run r.names own k) _ _ λ run.
    holds-then (AllTyped r) (MembersTyped r s.counts) (one_by_one (makes_member r k own) start k.members) _
    (holds-along (λ (before : List Member) (c : Coded). MembersTyped r s.counts c) (makes_member r k own) (λ before c m. member-typed r k own s.counts c m) [] start
    (record { clauses = refl; texts = start-self s.counts.texts; all = tt }) k.members)
    λ (c : Coded) new. class-after r s _ _ c refl refl refl new typed

-- what the pass on code makes of a source
pub code-typed : (r : Resolution) (ks : List unit.Class) → Holds (AllTyped r) (code r ks)
unfolding code
code-typed r ks =
    holds-along (λ (before : List unit.Class) (s : ClassesMade). AllTyped r s) (makes_class r) (λ before s k. class-typed r s k) [] (record { counts = no_counts; made = [] })
    (record { clauses = refl; all = tt }) ks
