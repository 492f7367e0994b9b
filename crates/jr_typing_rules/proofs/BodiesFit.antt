-- The body of each method of a source fits its program.
use Rattle.std.proofs.Common.{◌≡◌, ◌==◌, ◌≤◌, ℕ, suc, ◌+◌, Bool, true, false, List, [], ◌∷◌, ◌++◌, length, map, drop, Some, None, slice_get, refl, ap, sym, ◌∙◌, arith}
use Rattle.std.specs.Option.{option_map}
use Rattle.std.proofs.lemmas.List.{length-append}
use Rattle.std.proofs.lemmas.Option.{slice_get-map}
use Rattle.std.proofs.Math.Seq.{drop-append_seam}
use Rattle.jr_base.specs.declared.number.MethodId.{MethodId}
use Rattle.jr_base.specs.declared.kind.SlotKind.{SlotKind}
use Rattle.jr_ast.specs.declared.unit.Formal.{Formal}
use Rattle.jr_program.specs.ClauseKinds.{IsClass}
use Rattle.jr_program.specs.Programs.{Program, Statement}
use Rattle.jr_program.specs.WellFormed.{Fits, scope_of, in_scope, most_in_scope, most_formals}
use Rattle.jr_typing_rules.specs.declared.words.ValueType.{ValueType}
use Rattle.jr_typing_rules.specs.declared.words.VariableKind.{VariableKind}
use Rattle.jr_typing_rules.specs.declared.words.VariableKind.TheVariants as variable
use Rattle.jr_typing_rules.specs.Answers.{Good}
use Rattle.jr_typing_rules.specs.Types.{kind_of}
use Rattle.jr_typing_rules.specs.Names.{Text, Names}
use Rattle.jr_typing_rules.specs.Scopes.{Variable}
use Rattle.jr_typing_rules.specs.Modifiers.{has, is_static_kind}
use Rattle.jr_typing_rules.specs.Statements.{Asserted, chained, starts, all_typed, type_of}
use Rattle.jr_typing_rules.specs.Resolution.{Resolution, and_entry, distinct_formals, formal_types}
use Rattle.jr_typing_rules.specs.Declarations.{MadeMethod, formal_variables, few_formals, first_state, frame_of, clauses_before_body}
use Rattle.jr_typing_rules.specs.Whole.{program_method}
use Rattle.jr_typing_rules.specs.Agreement.{IsTypeIn, AgreesWith}
use Rattle.jr_typing_rules.proofs.Holding.{Holds, holds-good, holds-next, holds-then, Each, Each-weaker}
use Rattle.jr_typing_rules.proofs.Items.{at-number}
use Rattle.jr_typing_rules.proofs.MadeRight.{none-past, few-none}
use Rattle.jr_typing_rules.proofs.TypesNamed.{TypeNames, type-names}
use Rattle.jr_typing_rules.proofs.TypedFrom.{TypedFrom}
use Rattle.jr_typing_rules.proofs.AssertScopes.{and_kind, kinds_in, AssertsAre, AssertsFew}
use Rattle.jr_typing_rules.proofs.Denoted.{AllStand, HeadersFit}
use Rattle.jr_typing_rules.proofs.StatesGrow.{Body, InProgram, place_in, grows-self, Stands, fewer}
use Rattle.jr_typing_rules.proofs.SimpleFits.{MadesFit, chained-fits}
use Rattle.jr_typing_rules.proofs.StatementsFit.{body-fits}
use Rattle.jr_typing_rules.proofs.NamesAgree.{type-in}
use Rattle.jr_typing_rules.proofs.Starts.{IsStartOf, start-get}

-- ---- formals

formals-named : (names : Names) (before : List (Text × Unit {0})) (fs : List Formal) → Holds (Each (TypeNames names.numbers)) (distinct_formals before fs names)
formals-named names before [] = tt
formals-named names before (f ∷ fs) =
    let Q = Each (TypeNames names.numbers) in
    holds-then Q (TypeNames names.numbers) (type_of names f.type_name) _ (type-names names f.type_name) λ t named.
    holds-next Q (and_entry before f.name tt) _ λ after new.
    holds-then Q Q (distinct_formals after fs names) _ (formals-named names after fs) λ ts all. (named, all)

all-named : (names : Names) (is_main : Bool) (fs : List Formal) → Holds (Each (TypeNames names.numbers)) (formal_types names is_main fs)
all-named names true fs = tt
all-named names false fs = formals-named names [] fs

as-many : (place : ℕ) (fs : List Formal) (ts : List ValueType) → length (formal_variables place fs ts) ≡ length fs
as-many place [] ts = refl
as-many place (f ∷ fs) [] = ap suc (as-many (place + 1) fs [])
as-many place (f ∷ fs) (t ∷ ts) = ap suc (as-many (place + 1) fs ts)

-- each formal has its kind at its place
formals-stand : (program : Program) (held : List SlotKind) (place : ℕ) (fs : List Formal) (ts : List ValueType) →
    ((k : ℕ) (t : ValueType) → slice_get ts k ≡ Some t → slice_get held (place + k) ≡ Some (kind_of t)) → Each (IsTypeIn program) ts →
    AllStand program held (formal_variables place fs ts)
formals-stand program held place [] ts at types = tt
formals-stand program held place (f ∷ fs) [] at types = (tt, formals-stand program held (place + 1) fs [] (λ k t none. absurd (cc)) tt)
formals-stand program held place (f ∷ fs) (t ∷ ts) at types = (
  (at-number held place (place + 0) (kind_of t) (omega arith) (at 0 t refl), types.0),
  formals-stand program held (place + 1) fs ts (λ k u found. at-number held (place + 1 + k) (place + suc k) (kind_of u) (omega arith) (at (suc k) u found)) types.1,
)

-- ---- the body that is made

-- what was made of the method's source
abbrev body_of : Program → (r : Resolution) (texts : List (List ℕ)) (n : ℕ) (m : MadeMethod) → TypedFrom r texts n m → Body
body_of program r texts n m from = record {
  program = program;
  method = m.number;
  frame = frame_of r.names m.class from.counts m.source m.result;
  last = from.made.state;
}

same-asserts : (program : Program) (m : MethodId) (static is : Bool) (n k : ℕ) (xs ys : List Asserted) → static ≡ is → n ≡ k → xs ≡ ys → AssertsAre program m static n xs → AssertsAre program m is k ys
same-asserts program m static is n k xs ys alike number same are = rw (sym alike, sym number, sym same) are

in-program : (program : Program) (r : Resolution) (texts : List (List ℕ)) (n : ℕ) (m : MadeMethod) (from : TypedFrom r texts n m) → program.texts ≡ texts → AgreesWith r.names program →
    HeadersFit program → IsClass program m.class → AssertsAre program m.number m.is_static (n + clauses_before_body m.source) m.asserts → InProgram (body_of program r texts n m from)
in-program program r texts n m from same names headers own asserts = record {
  names = names;
  headers = headers;
  own = own;
  asserts = same-asserts program m.number m.is_static (has is_static_kind m.source.modifiers) (n + clauses_before_body m.source) (from.counts.clauses + clauses_before_body m.source)
      m.asserts from.made.state.asserts (ap (λ (m : MadeMethod). m.is_static) from.is) (omega (arith, from.clauses)) (ap (λ (m : MadeMethod). m.asserts) from.is) asserts;
  texts =
      let before = from.counts.texts ++ from.made.state.texts in
      let all : length texts ≡ length (before ++ from.texts_begin.0) = ap length from.texts_begin.1 in
      rw same (omega (arith, all, length-append before from.texts_begin.0, length-append from.counts.texts from.made.state.texts));
}

first-stands : (w : Body) → InProgram w → (m : MadeMethod) (formals : List ValueType) → few_formals (slice_get m.source.formals most_formals) ≡ Good tt → Each (TypeNames w.frame.names.numbers) formals →
    Stands w (first_state m.source formals)
first-stands w there m formals few named = record {
  few =
      let none = holds-good (λ (u : Unit {0}). slice_get m.source.formals most_formals ≡ None) (few_formals (slice_get m.source.formals most_formals)) tt
      (few-none (slice_get m.source.formals most_formals)) few in
      fewer w.frame.is_static (length (formal_variables 0 m.source.formals formals)) 16
      (omega (arith, as-many 0 m.source.formals formals, none-past m.source.formals most_formals none)) (sixteen w.frame.is_static);
  asserted = tt;
  known = λ end.
      formals-stand w.program w.last.kinds 0 m.source.formals formals (λ k t found.
      start-get (map kind_of formals) w.last.kinds (0 + k) (kind_of t) end.kinds
      (at-number (map kind_of formals) (0 + k) k (kind_of t) (omega arith) (slice_get-map kind_of formals k ∙ ap (option_map kind_of) found)))
      (Each-weaker (TypeNames w.frame.names.numbers) (IsTypeIn w.program) formals (type-in w.program w.frame.names.numbers there.names.classes) named);
}
  where
    sixteen : (static : Bool) → in_scope static 16 ≤ most_in_scope
    sixteen true = omega arith
    sixteen false = omega arith

-- what the method's variables are, its formals first
first-and-rest : {A : Type 0} (xs ys : List A) → IsStartOf xs ys → xs ++ drop (length xs) ys ≡ ys
first-and-rest xs ys start = rw start.1 (ap (λ rest. xs ++ rest) (drop-append_seam xs start.0))

-- ---- the asserts of a body

few-kinds : (vs : List Variable) → length (kinds_in vs) ≤ length vs
few-kinds [] = omega arith
few-kinds (v ∷ vs) = by v.kind (few-kinds vs)
  where
    by : (k : VariableKind) → length (kinds_in vs) ≤ length vs → length (and_kind k (kinds_in vs)) ≤ length (v ∷ vs)
    by (variable.Local t place) few = omega (arith, few)
    by (variable.Caught place) few = omega (arith, few)
    by variable.Arguments few = omega (arith, few)

asserts-few : (static is : Bool) (xs ys : List Asserted) → static ≡ is → xs ≡ ys → Each (λ (a : Asserted). in_scope is (length a.variables) ≤ most_in_scope) ys →
    Each (λ (a : Asserted). in_scope static (length (kinds_in a.variables)) ≤ most_in_scope) xs
asserts-few static is xs ys alike same few =
    rw (alike, same)
    (Each-weaker (λ (a : Asserted). in_scope is (length a.variables) ≤ most_in_scope) (λ (a : Asserted). in_scope is (length (kinds_in a.variables)) ≤ most_in_scope) ys
    (λ a below. fewer is (length (kinds_in a.variables)) (length a.variables) (few-kinds a.variables) below) few)

-- ---- a method

pub record BodyRight (program : Program) (m : MadeMethod) : Type 0 where
  pub fits : Fits (scope_of program m.number (program_method m)) m.body
  pub few : AssertsFew m

-- a statement that fits the body's place fits that of its method
in-method : (w : Body) (static : Bool) (held : List SlotKind) (body made : Statement) → static ≡ w.frame.is_static → held ≡ w.last.kinds → body ≡ made → Fits (place_in w false) made →
    Fits (record { program = w.program; method = w.method; is_static = static; kinds = held; result = option_map kind_of w.frame.result; in_loop = false }) body
in-method w static held body made alike same is fits = rw (alike, same, is) fits

formals-first : (formals held first last : List SlotKind) → formals ≡ first → held ≡ last → IsStartOf first last → formals ++ drop (length formals) held ≡ last
formals-first formals held first last same is start = rw (same, is) (first-and-rest first last start)

pub method-right : (program : Program) (r : Resolution) (texts : List (List ℕ)) (n : ℕ) (m : MadeMethod) → TypedFrom r texts n m → program.texts ≡ texts → AgreesWith r.names program →
    HeadersFit program → IsClass program m.class → AssertsAre program m.number m.is_static (n + clauses_before_body m.source) m.asserts → BodyRight program m
method-right program r texts n m from same names headers own asserts =
    let w = body_of program r texts n m from in
    let there = in-program program r texts n m from same names headers own asserts in
    let first = first_state m.source from.formals in
    let types = formal_types r.names (r.main.0 == from.counts.methods) m.source.formals in
    let named = holds-good (Each (TypeNames r.names.numbers)) types from.formals (all-named r.names (r.main.0 == from.counts.methods) m.source.formals) from.formals_typed in
    let fit = holds-good (MadesFit w false first) (all_typed w.frame false (starts first) m.source.body) from.made
    (body-fits w there first (first-stands w there m from.formals from.few named) m.source.body) from.typed in
    let alike : m.is_static ≡ w.frame.is_static = ap (λ (m : MadeMethod). m.is_static) from.is in
    record {
      fits = in-method w m.is_static (m.formal_kinds ++ drop (length m.formal_kinds) m.kinds) m.body (chained from.made.statements) alike
          (formals-first m.formal_kinds m.kinds (map kind_of from.formals) w.last.kinds (ap (λ (m : MadeMethod). m.formal_kinds) from.is) (ap (λ (m : MadeMethod). m.kinds) from.is) fit.0.0.kinds)
          (ap (λ (m : MadeMethod). m.body) from.is) (chained-fits (place_in w false) from.made.statements (fit.1 (grows-self w.last)));
      few = asserts-few m.is_static w.frame.is_static m.asserts w.last.asserts alike (ap (λ (m : MadeMethod). m.asserts) from.is) fit.0.1.asserted;
    }
