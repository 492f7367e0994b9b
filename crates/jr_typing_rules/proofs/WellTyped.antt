-- An accepted source is a well-formed program, where its numbers have 32 bits.
use Rattle.std.proofs.Common.{◌≡◌, List, Some, refl}
use Rattle.std.specs.List.{flat_map}
use Rattle.jr_base.specs.declared.number.Span.{Span}
use Rattle.jr_base.specs.declared.number.Position.{Position}
use Rattle.jr_base.specs.declared.number.MethodId.{MethodId}
use Rattle.jr_ast.specs.Units as unit
use Rattle.jr_program.specs.Programs.{Program, Method, method_at}
use Rattle.jr_program.specs.WellFormed.{IsNumbered, MethodFits, WellFormed}
use Rattle.jr_typing_rules.specs.Answers.{Good}
use Rattle.jr_typing_rules.specs.Notes.{notes}
use Rattle.jr_typing_rules.specs.Resolution.{resolve}
use Rattle.jr_typing_rules.specs.Declarations.{code}
use Rattle.jr_typing_rules.specs.Specifications.{Setting, clauses}
use Rattle.jr_typing_rules.specs.Sites.{sites_fit}
use Rattle.jr_typing_rules.specs.Whole.{methods_of, program_of, typing}
use Rattle.jr_typing_rules.proofs.Holding.{holds-good, holds-next, Each-weaker}
use Rattle.jr_typing_rules.proofs.Made.{AllMade, code-made}
use Rattle.jr_typing_rules.proofs.NamesAgree.{made-agrees, program-agrees}
use Rattle.jr_typing_rules.proofs.Lawful.{main-is-there, few-are-due, bodies-end}
use Rattle.jr_typing_rules.proofs.PartsFit.{fields-fit, headers-fit, classes-fit}
use Rattle.jr_typing_rules.proofs.ClausesWhole.{ClausesFit, clauses-fit-made}
use Rattle.jr_typing_rules.proofs.BodiesFit.{BodyRight}
use Rattle.jr_typing_rules.proofs.Bodies.{bodies-right, bodies-fit}
use Rattle.jr_typing_rules.proofs.AssertScopes.{AssertsFew}

pub clauses-fit : (position : Span → Position) (ks : List unit.Class) (program : Program) → typing position ks ≡ Good program → ClausesFit program
unfolding typing
clauses-fit position ks program e =
    holds-good ClausesFit (typing position ks) program
    (holds-next ClausesFit (resolve ks) _ λ r er.
    holds-next ClausesFit (code r ks) _ λ c ec.
    let setting : Setting = record { position = position; names = r.names } in
    holds-next ClausesFit (clauses setting c.made) _ λ all ea.
    holds-next ClausesFit (sites_fit (program_of r c all (notes position ks)) c.made) _ λ u fit.
    let ns = notes position ks in
    clauses-fit-made setting ks r c all ns refl (holds-good (AllMade r ks) (code r ks) c (code-made r ks) ec) (made-agrees ks r c er ec) ec ea (program-agrees ks r c all ns er ec)
    (Each-weaker (BodyRight (program_of r c all ns)) AssertsFew (flat_map methods_of c.made) (λ m right. right.few) (bodies-right position ks r c all ns er ec ea))) e

-- ---- the whole

methods-fit : (position : Span → Position) (ks : List unit.Class) (program : Program) → typing position ks ≡ Good program →
    (m : MethodId) (method : Method) → method_at program m ≡ Some method → MethodFits program m method
methods-fit position ks program e m method found =
    let header = headers-fit position ks program e m method found in
    record {
      class = header.class;
      formals = header.formals;
      few_formals = header.few_formals;
      result = header.result;
      constructs = header.constructs;
      body = bodies-fit position ks program e m method found;
      ends = bodies-end position ks program e m method found;
    }

pub typed-well : (position : Span → Position) (ks : List unit.Class) (program : Program) → typing position ks ≡ Good program → IsNumbered program → WellFormed program
typed-well position ks program e numbers = record {
  numbers = numbers;
  main = main-is-there position ks program e;
  classes = classes-fit position ks program e;
  fields = fields-fit position ks program e;
  methods = methods-fit position ks program e;
  clauses = clauses-fit position ks program e;
  few_due = few-are-due position ks program e;
}
