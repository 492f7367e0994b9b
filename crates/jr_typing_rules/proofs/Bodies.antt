-- The bodies of an accepted source fit its program.
use Rattle.std.proofs.Common.{◌≡◌, List, length, Some, refl, ap, sym, arith}
use Rattle.std.specs.List.{flat_map}
use Rattle.std.proofs.lemmas.List.{length-map}
use Rattle.jr_base.specs.declared.number.Span.{Span}
use Rattle.jr_base.specs.declared.number.Position.{Position}
use Rattle.jr_base.specs.declared.number.MethodId.{MethodId}
use Rattle.jr_ast.specs.Units as unit
use Rattle.jr_program.specs.Clauses.{Clause}
use Rattle.jr_program.specs.Programs as parts
use Rattle.jr_program.specs.Programs.{Program, Note}
use Rattle.jr_program.specs.WellFormed.{Fits, scope_of}
use Rattle.jr_typing_rules.specs.Answers.{Good}
use Rattle.jr_typing_rules.specs.Notes.{notes}
use Rattle.jr_typing_rules.specs.Resolution.{Resolution, resolve}
use Rattle.jr_typing_rules.specs.Declarations.{MadeMethod, ClassesMade, code}
use Rattle.jr_typing_rules.specs.Specifications.{clauses}
use Rattle.jr_typing_rules.specs.Sites.{sites_fit}
use Rattle.jr_typing_rules.specs.Whole.{methods_of, program_class, program_method, program_of, typing}
use Rattle.jr_typing_rules.specs.Written.{methods_written_in}
use Rattle.jr_typing_rules.proofs.Holding.{holds-good, holds-next, Each, Each-get, Each-weaker, Each-both}
use Rattle.jr_typing_rules.proofs.Made.{AllMade, code-made, number-placed}
use Rattle.jr_typing_rules.proofs.MadeRight.{MethodRight, AllRight, code-right}
use Rattle.jr_typing_rules.proofs.NamesAgree.{made-agrees, program-agrees}
use Rattle.jr_typing_rules.proofs.PartsFit.{from-map, headers-fit-made}
use Rattle.jr_typing_rules.proofs.MethodsTyped.{IsTyped, methods-typed}
use Rattle.jr_typing_rules.proofs.BodiesFit.{BodyRight, method-right}

-- of each method that is made the body fits, and its asserts have few variables
pub bodies-right : (position : Span → Position) (ks : List unit.Class) (r : Resolution) (c : ClassesMade) (all : List Clause) (ns : List Note) → resolve ks ≡ Good r → code r ks ≡ Good c →
    clauses (record { position = position; names = r.names }) c.made ≡ Good all → Each (BodyRight (program_of r c all ns)) (flat_map methods_of c.made)
bodies-right position ks r c all ns er ec ea =
    let program = program_of r c all ns in
    let names = program-agrees ks r c all ns er ec in
    let right = holds-good AllRight (code r ks) c (code-right r ks) ec in
    let headers = headers-fit-made r c all ns (made-agrees ks r c er ec) names right in
    let typed = methods-typed (record { position = position; names = r.names }) ks r c all ns ec ea names in
    Each-weaker (λ (m : MadeMethod). MethodRight (length c.made) m × IsTyped r program m) (BodyRight program) (flat_map methods_of c.made)
    (λ m both. method-right program r program.texts both.1.0 m both.1.1 refl names headers (rw (length-map c.made (program_class r.names)) both.0.class) both.1.2)
    (Each-both (MethodRight (length c.made)) (IsTyped r program) (flat_map methods_of c.made) right.methods typed)

abbrev pub BodiesFit : Program → Type 0
BodiesFit program = (m : MethodId) (method : parts.Method) → parts.method_at program m ≡ Some method → Fits (scope_of program m method) method.body

bodies-fit-made : (ks : List unit.Class) (r : Resolution) (c : ClassesMade) (all : List Clause) (ns : List Note) → AllMade r ks c → Each (BodyRight (program_of r c all ns)) (flat_map methods_of c.made) →
    BodiesFit (program_of r c all ns)
bodies-fit-made ks r c all ns made right m method found =
    let program = program_of r c all ns in
    let ms = flat_map methods_of c.made in
    let own = from-map program_method ms m.0 method found in
    let number : own.0.number.0 ≡ m.0 = omega (arith, number-placed r 0 ms (flat_map methods_written_in ks) m.0 own.0 made.made own.1) in
    let same : own.0.number ≡ m = ap (λ n. record { 0 = n }) number in
    let fits = (Each-get (BodyRight program) ms m.0 own.0 right own.1).fits in
    rw (sym own.2) (rw same at fits)

pub bodies-fit : (position : Span → Position) (ks : List unit.Class) (program : Program) → typing position ks ≡ Good program → BodiesFit program
unfolding typing
bodies-fit position ks program e =
    holds-good BodiesFit (typing position ks) program
    (holds-next BodiesFit (resolve ks) _ λ r er.
    holds-next BodiesFit (code r ks) _ λ c ec.
    holds-next BodiesFit (clauses (record { position = position; names = r.names }) c.made) _ λ all ea.
    holds-next BodiesFit (sites_fit (program_of r c all (notes position ks)) c.made) _ λ u fit.
    bodies-fit-made ks r c all (notes position ks) (holds-good (AllMade r ks) (code r ks) c (code-made r ks) ec)
    (bodies-right position ks r c all (notes position ks) er ec ea)) e
