-- What a source is made to, pass by pass, and that its parts are its typed program.
use Rattle.std.proofs.Common.{◌≡◌, ◌<◌, ℕ, List, [], ◌∷◌, length, map, Result, Ok, Err, IsErrAnd, refl, sym, ap, ◌∙◌, arith}
use Rattle.std.specs.List.{flat_map}
use Rattle.std.proofs.lemmas.List.{length-map}
use Rattle.jr_base.specs.declared.number.Span.{Span}
use Rattle.jr_base.specs.declared.number.Position.{Position}
use Rattle.jr_base.specs.declared.refusal.Fail.{Fail}
use Rattle.jr_base.specs.declared.refusal.Fail.TheVariants.{Refused, Memory}
use Rattle.jr_program.specs.Clauses.{Clause}
use Rattle.jr_program.specs.ClauseViews.{view_clause}
use Rattle.jr_program.specs.Programs as program
use Rattle.jr_program.specs.UnitViews.{view_class, view_field, view_method, program_of, PartsKeep}
use Rattle.jr_program.specs.WellFormed.{IsNumbered, WellFormed}
use Rattle.jr_program.specs.declared.parts.TypedMethod.{TypedMethod}
use Rattle.jr_program.specs.declared.parts.UnitParts.{UnitParts}
use Rattle.jr_ast.specs.Units as unit
use Rattle.jr_names.specs.Answered.{Fails}
use Rattle.jr_typing_rules.specs.Answers.{Typing, Good, Bad, ◌>>=◌}
use Rattle.jr_typing_rules.specs.Notes.{notes}
use Rattle.jr_typing_rules.specs.Resolution.{Resolution, resolve}
use Rattle.jr_typing_rules.specs.Declarations.{MadeField, MadeMethod, ClassesMade, code}
use Rattle.jr_typing_rules.specs.Specifications.{clauses}
use Rattle.jr_typing_rules.specs.Sites.{sites_fit}
use Rattle.jr_typing_rules.specs.Whole as whole
use Rattle.jr_typing_rules.specs.Whole.{fields_of, methods_of, program_class, program_field, program_method, typing}
use Rattle.jr_typing_rules.proofs.Holding.{holds-good}
use Rattle.jr_typing_rules.proofs.Made.{AllMade, code-made}
use Rattle.jr_spec_typing.specs.Clauses.{setting_of}
use Rattle.jr_safepoints.specs.Assembled.{MethodDone, Assembled, assembled, field_of, view_field_done, view_method_done}
use Rattle.jr_safepoints.specs.Whole.{position, IsMade, MadeOf, MakesParts}
use Rattle.jr_safepoints.proofs.Assembling.{IsDone, IsThere, all-done, fields-same, sites-alike, method_done}
use Rattle.jr_safepoints.proofs.Fielding.{fields-viewed}
use Rattle.jr_safepoints.proofs.Keeping.{field-keeps, method-keeps, methods-there, methods-numbered}

-- ---- a pass that is refused

pub resolve_fails : (source : List ℕ) (ks : List unit.Class) (e : Fail) → Fails e (resolve ks) → Fails e (typing (position source) ks)
unfolding typing
resolve_fails source ks Memory h = tt
resolve_fails source ks (Refused r) h = rw h refl

pub code_fails : (source : List ℕ) (ks : List unit.Class) (r : Resolution) (e : Fail) → resolve ks ≡ Good r → Fails e (code r ks) → Fails e (typing (position source) ks)
unfolding typing
code_fails source ks r Memory er h = tt
code_fails source ks r (Refused q) er h = rw (er, h) refl

pub clauses_fail : (source : List ℕ) (ks : List unit.Class) (r : Resolution) (c : ClassesMade) (e : Fail) → resolve ks ≡ Good r → code r ks ≡ Good c →
    Fails e (clauses (setting_of source r.names) c.made) → Fails e (typing (position source) ks)
unfolding typing
clauses_fail source ks r c Memory er ec h = tt
clauses_fail source ks r c (Refused q) er ec h = rw (er, ec, h) refl

-- a refusal is handed on
pub parts_out : (source : List ℕ) (ks : List unit.Class) (f : Fail) (r : Result UnitParts Fail) → IsErrAnd r (λ e. e ≡ f) → Fails f (typing (position source) ks) → MakesParts source ks r
parts_out source ks f (Ok parts) h fails = absurd h
parts_out source ks f (Err e) h fails = rw h fails

-- ---- the program, where the first three passes go through

abbrev made_program : List ℕ → List unit.Class → Resolution → ClassesMade → List Clause → program.Program
made_program source ks r c all = whole.program_of r c all (notes (position source) ks)

up-to-sites : (source : List ℕ) (ks : List unit.Class) (r : Resolution) (c : ClassesMade) (all : List Clause) → resolve ks ≡ Good r → code r ks ≡ Good c → clauses (setting_of source r.names) c.made ≡ Good all →
    typing (position source) ks ≡ (sites_fit (made_program source ks r c all) c.made >>= λ u. Good (made_program source ks r c all))
unfolding typing
up-to-sites source ks r c all er ec ea = rw (er, ec, ea) refl

all-made : (ks : List unit.Class) (r : Resolution) (c : ClassesMade) → code r ks ≡ Good c → AllMade r ks c
all-made ks r c ec = holds-good (AllMade r ks) (code r ks) c (code-made r ks) ec

sites-as : (source : List ℕ) (ks : List unit.Class) (r : Resolution) (c : ClassesMade) (all : List Clause) → code r ks ≡ Good c →
    sites_fit (made_program source ks r c all) c.made ≡ (assembled r.names all c.made >>= λ a. Good tt)
sites-as source ks r c all ec =
    sites-alike r.names (made_program source ks r c all) c.made (methods-there r c all (notes (position source) ks) ks (all-made ks r c ec))

pub sites_fail : (source : List ℕ) (ks : List unit.Class) (r : Resolution) (c : ClassesMade) (all : List Clause) (e : Fail) → resolve ks ≡ Good r → code r ks ≡ Good c →
    clauses (setting_of source r.names) c.made ≡ Good all → Fails e (assembled r.names all c.made) → Fails e (typing (position source) ks)
sites_fail source ks r c all Memory er ec ea h = tt
sites_fail source ks r c all (Refused q) er ec ea h = up-to-sites source ks r c all er ec ea ∙ ap (λ t. t >>= λ u. Good (made_program source ks r c all)) (sites-as source ks r c all ec ∙ ap (λ t. t >>= λ a. Good tt) h)

-- ---- the parts

abbrev method_of : MethodDone → program.Method
method_of d = d.method

methods-viewed : (ms : List TypedMethod) → map method_of (map view_method_done ms) ≡ map view_method ms
methods-viewed [] = refl
methods-viewed (m ∷ ms) = ap (λ xs. view_method m ∷ xs) (methods-viewed ms)

methods-same : (cs : List Clause) (ms : List MadeMethod) → map method_of (map (method_done cs) ms) ≡ map program_method ms
methods-same cs [] = refl
methods-same cs (m ∷ ms) = ap (λ xs. program_method m ∷ xs) (methods-same cs ms)

-- what the parts are, as they were put together
abbrev assembly_of : UnitParts → Assembled
assembly_of parts = record { classes = map view_class parts.classes; fields = map view_field_done parts.fields; methods = map view_method_done parts.methods }

parts-done : (source : List ℕ) (ks : List unit.Class) (r : Resolution) (c : ClassesMade) (parts : UnitParts) → IsMade source ks r c parts →
    IsDone (map view_clause parts.clauses) (map (program_class r.names) c.made) (flat_map fields_of c.made) (flat_map methods_of c.made) (assembly_of parts)
parts-done source ks r c parts made =
    holds-good (IsDone (map view_clause parts.clauses) (map (program_class r.names) c.made) (flat_map fields_of c.made) (flat_map methods_of c.made))
    (assembled r.names (map view_clause parts.clauses) c.made) (assembly_of parts) (all-done r.names (map view_clause parts.clauses) c.made) made.put

pub is-program : (source : List ℕ) (ks : List unit.Class) (r : Resolution) (c : ClassesMade) (parts : UnitParts) → IsMade source ks r c parts →
    program_of parts ≡ made_program source ks r c (map view_clause parts.clauses)
is-program source ks r c parts made =
    let cs = map view_clause parts.clauses in
    let done = parts-done source ks r c parts made in
    let fields : map view_field parts.fields ≡ map program_field (flat_map fields_of c.made) =
    sym (fields-viewed parts.fields) ∙ ap (map field_of) done.all_fields ∙ fields-same cs [] (flat_map fields_of c.made) in
    let methods : map view_method parts.methods ≡ map program_method (flat_map methods_of c.made) =
    sym (methods-viewed parts.methods) ∙ ap (map method_of) done.all_methods ∙ methods-same cs (flat_map methods_of c.made) in
    rw (done.classes_done, fields, methods, made.noted, made.texts, made.main) refl

pub is-typed : (source : List ℕ) (ks : List unit.Class) (r : Resolution) (c : ClassesMade) (parts : UnitParts) → IsMade source ks r c parts → typing (position source) ks ≡ Good (program_of parts)
is-typed source ks r c parts made =
    let all = map view_clause parts.clauses in
    up-to-sites source ks r c all made.resolved made.coded made.claused
    ∙ ap (λ t. t >>= λ u. Good (made_program source ks r c all)) (sites-as source ks r c all made.coded ∙ ap (λ t. t >>= λ a. Good tt) made.put)
    ∙ ap Good (sym (is-program source ks r c parts made))

pub parts-keep : (source : List ℕ) (ks : List unit.Class) (r : Resolution) (c : ClassesMade) (parts : UnitParts) → IsMade source ks r c parts → PartsKeep parts
parts-keep source ks r c parts made =
    let cs = map view_clause parts.clauses in
    let done = parts-done source ks r c parts made in
    let is = is-program source ks r c parts made in
    let all = all-made ks r c made.coded in
    record {
      fields = field-keeps (program_of parts) (flat_map fields_of c.made) parts.fields (ap (λ (p : program.Program). p.fields) is) all.field_numbers done.all_fields;
      methods = method-keeps (program_of parts) (flat_map methods_of c.made) parts.methods (ap (λ (p : program.Program). p.methods) is)
          (rw is (methods-there r c cs (notes (position source) ks) ks all)) (methods-numbered r c ks all) done.all_methods;
    }

-- ---- the unit

pub is_that : (source : List ℕ) (ks : List unit.Class) (parts : UnitParts) → MadeOf source ks parts → typing (position source) ks ≡ Good (program_of parts)
is_that source ks parts made = is-typed source ks made.0 made.1 parts made.2

pub keeps : (source : List ℕ) (ks : List unit.Class) (parts : UnitParts) → MadeOf source ks parts → PartsKeep parts
keeps source ks parts made = parts-keep source ks made.0 made.1 parts made.2

pub fits : ((position : Span → Position) (classes : List unit.Class) (p : program.Program) → typing position classes ≡ Good p → IsNumbered p → WellFormed p) →
    (source : List ℕ) (ks : List unit.Class) (parts : UnitParts) → MadeOf source ks parts → IsNumbered (program_of parts) → WellFormed (program_of parts)
fits law source ks parts made numbers = law (position source) ks (program_of parts) (is_that source ks parts made) numbers

pub is_numbered : (parts : UnitParts) → length parts.classes < 4294967295 → length parts.fields < 4294967296 → length parts.methods < 4294967296 → length parts.clauses < 4294967295 →
    length parts.texts < 4294967296 → IsNumbered (program_of parts)
is_numbered parts classes fields methods clauses texts = record {
  classes = rw (length-map parts.classes view_class) (omega arith);
  fields = rw (length-map parts.fields view_field) (omega arith);
  methods = rw (length-map parts.methods view_method) (omega arith);
  clauses = rw (length-map parts.clauses view_clause) (omega arith);
  texts = omega arith;
}
