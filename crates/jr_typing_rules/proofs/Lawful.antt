-- What holds of each accepted source.
use Rattle.std.proofs.Common.{◌≡◌, ◌<◌, ◌≤◌, ℕ, ◌+◌, List, [], ◌∷◌, length, map, ap, ◌∙◌, arith, Some}
use Rattle.std.specs.List.{flat_map}
use Rattle.std.proofs.lemmas.List.{length-map}
use Rattle.jr_base.specs.declared.number.Span.{Span}
use Rattle.jr_base.specs.declared.number.Position.{Position}
use Rattle.jr_program.specs.declared.words.Site.{Site}
use Rattle.jr_program.specs.Clauses.{Clause}
use Rattle.jr_base.specs.declared.number.MethodId.{MethodId}
use Rattle.jr_program.specs.Programs.{Program, Note, Method, method_at}
use Rattle.jr_program.specs.Sites.{due_at_site}
use Rattle.jr_program.specs.WellFormed.{MainFits, most_due, EndsAsItMust}
use Rattle.jr_ast.specs.Units as unit
use Rattle.jr_typing_rules.specs.Answers.{Good}
use Rattle.jr_typing_rules.specs.Notes.{notes}
use Rattle.jr_typing_rules.specs.Resolution.{Resolution, resolve}
use Rattle.jr_typing_rules.specs.Declarations.{MadeMethod, ClassesMade, code}
use Rattle.jr_typing_rules.specs.Specifications.{Setting, clauses}
use Rattle.jr_typing_rules.specs.Sites.{sites_fit}
use Rattle.jr_typing_rules.specs.Whole.{fields_of, methods_of, program_method, program_field, program_of, typing}
use Rattle.jr_typing_rules.proofs.Holding.{Holds, holds-good, holds-next, Each, Each-get}
use Rattle.jr_typing_rules.specs.Written.{methods_written_in, declared_in, keywords_in}
use Rattle.jr_typing_rules.proofs.Made.{MadeFrom, AllMade, made_keywords_in, code-made}
use Rattle.jr_typing_rules.proofs.Known.{IsKnown, names-known}
use Rattle.jr_typing_rules.proofs.Mains.{main-fits}
use Rattle.jr_typing_rules.proofs.Owned.{IsOwned, clauses-owned}
use Rattle.jr_typing_rules.proofs.Ordered.{StandAt, clauses-stand}
use Rattle.jr_typing_rules.proofs.Few.{MethodFew, FieldFew, SitesKnown, methods-few, fields-few, method-numbered, field-numbered, few-due}

pub record IsLawful (position : Span → Position) (ks : List unit.Class) (program : Program) : Type 0 where
  pub main : MainFits program
  pub ends : Each (λ (m : Method). EndsAsItMust m.body m.result) program.methods
  pub order : map (λ (c : Clause). c.place) program.clauses ≡ map position (flat_map keywords_in ks)
  pub sites : SitesKnown program

-- each body ends as it must
all-end : (program : Resolution) (n : ℕ) (ms : List MadeMethod) (ts : List unit.Method) → MadeFrom program n ms ts →
    Each (λ (m : Method). EndsAsItMust m.body m.result) (map program_method ms)
all-end program n [] ts made = tt
all-end program n (m ∷ ms) [] made = absurd made
all-end program n (m ∷ ms) (t ∷ ts) made = (made.0.ends, all-end program (n + 1) ms ts made.1)

numbers-below : (program : Resolution) (n count : ℕ) (ms : List MadeMethod) (ts : List unit.Method) → n + length ms ≡ count → MadeFrom program n ms ts → Each (λ (m : MadeMethod). m.number.0 < count) ms
numbers-below program n count [] ts e made = tt
numbers-below program n count (m ∷ ms) [] e made = absurd made
numbers-below program n count (m ∷ ms) (t ∷ ts) e made = (omega (arith, e, made.0.number), numbers-below program (n + 1) count ms ts (omega (arith, e)) made.1)

-- what is made of a source that passes all four
finished : (position : Span → Position) (ks : List unit.Class) (r : Resolution) (c : ClassesMade) (all : List Clause) (ns : List Note) → IsKnown ks r → AllMade r ks c →
    Each (IsOwned (length (flat_map methods_of c.made)) (length (flat_map declared_in ks))) all →
    StandAt (record { position = position; names = r.names }) (flat_map made_keywords_in c.made) all →
    Each (MethodFew (program_of r c all ns)) (flat_map methods_of c.made) → Each (FieldFew (program_of r c all ns)) (flat_map fields_of c.made) →
    IsLawful position ks (program_of r c all ns)
finished position ks r c all ns known made owned stand methods fields =
    let ms = flat_map methods_of c.made in
    let fs = flat_map fields_of c.made in
    let methods_there : length (map program_method ms) ≡ length ms = length-map ms program_method in
    let fields_there : length (map program_field fs) ≡ length fs = length-map fs program_field in
    record {
      main = main-fits ks r c all ns known made;
      ends = all-end r 0 ms (flat_map methods_written_in ks) made.made;
      order = stand ∙ ap (map position) made.keywords;
      sites = record {
        owned = rw (methods_there, fields_there, made.count) owned;
        methods = λ k below. let here : 0 + k ≡ k = omega arith in
            rw here at (method-numbered (program_of r c all ns) r 0 ms (flat_map methods_written_in ks) k made.made methods (rw methods_there at below));
        fields = λ k below. let here : 0 + k ≡ k = omega arith in
            rw here at (field-numbered (program_of r c all ns) 0 fs k made.field_numbers fields (rw fields_there at below));
      };
    }

pub typing-lawful : (position : Span → Position) (ks : List unit.Class) → Holds (IsLawful position ks) (typing position ks)
unfolding typing
typing-lawful position ks =
    holds-next (IsLawful position ks) (resolve ks) _ λ r er.
    holds-next (IsLawful position ks) (code r ks) _ λ c ec.
    holds-next (IsLawful position ks) (clauses (record { position = position; names = r.names }) c.made) _ λ all ea.
    holds-next (IsLawful position ks) (sites_fit (program_of r c all (notes position ks)) c.made) _ λ u es.
    let known = holds-good (IsKnown ks) (resolve ks) r (names-known ks) er in
    let made = holds-good (AllMade r ks) (code r ks) c (code-made r ks) ec in
    let program = program_of r c all (notes position ks) in
    let below = numbers-below r 0 (length (flat_map methods_of c.made)) (flat_map methods_of c.made) (flat_map methods_written_in ks) (omega arith) made.made in
    let setting : Setting = record { position = position; names = r.names } in
    finished position ks r c all (notes position ks) known made
    (holds-good (Each (IsOwned (length (flat_map methods_of c.made)) (length (flat_map declared_in ks)))) (clauses (record { position = position; names = r.names }) c.made) all
    (clauses-owned (length (flat_map methods_of c.made)) (length (flat_map declared_in ks)) (record { position = position; names = r.names }) known.entries c.made below) ea)
    (holds-good (StandAt setting (flat_map made_keywords_in c.made)) (clauses setting c.made) all (clauses-stand setting c.made) ea)
    (holds-good (λ u. Each (MethodFew program) (flat_map methods_of c.made)) (sites_fit program c.made) u (methods-few program c.made) es)
    (holds-good (λ u. Each (FieldFew program) (flat_map fields_of c.made)) (sites_fit program c.made) u (fields-few program c.made) es)

-- ---- the laws

pub main-is-there : (position : Span → Position) (ks : List unit.Class) (program : Program) → typing position ks ≡ Good program → MainFits program
main-is-there position ks program e = (holds-good (IsLawful position ks) (typing position ks) program (typing-lawful position ks) e).main

pub few-are-due : (position : Span → Position) (ks : List unit.Class) (program : Program) → typing position ks ≡ Good program → (site : Site) → length (due_at_site program site) ≤ most_due
few-are-due position ks program e site = few-due program (holds-good (IsLawful position ks) (typing position ks) program (typing-lawful position ks) e).sites site

pub clauses-are-in-order : (position : Span → Position) (ks : List unit.Class) (program : Program) → typing position ks ≡ Good program →
    map (λ (c : Clause). c.place) program.clauses ≡ map position (flat_map keywords_in ks)
clauses-are-in-order position ks program e = (holds-good (IsLawful position ks) (typing position ks) program (typing-lawful position ks) e).order

pub bodies-end : (position : Span → Position) (ks : List unit.Class) (program : Program) → typing position ks ≡ Good program →
    (m : MethodId) (method : Method) → method_at program m ≡ Some method → EndsAsItMust method.body method.result
bodies-end position ks program e m method found =
    Each-get (λ (m : Method). EndsAsItMust m.body m.result) program.methods m.0 method (holds-good (IsLawful position ks) (typing position ks) program (typing-lawful position ks) e).ends found
