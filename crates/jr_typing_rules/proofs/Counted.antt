-- A program has as many classes, fields, methods and clauses as its source writes.
use Rattle.std.proofs.Common.{◌≡◌, ℕ, ◌+◌, List, [], ◌∷◌, length, map, refl, ap, sym, ◌∙◌, arith}
use Rattle.std.specs.List.{flat_map}
use Rattle.std.proofs.lemmas.List.{length-map}
use Rattle.jr_base.specs.declared.number.Span.{Span}
use Rattle.jr_base.specs.declared.number.Position.{Position}
use Rattle.jr_ast.specs.Units as unit
use Rattle.jr_program.specs.Clauses.{Clause}
use Rattle.jr_program.specs.Programs.{Program, Note}
use Rattle.jr_typing_rules.specs.Answers.{Good}
use Rattle.jr_typing_rules.specs.Notes.{notes}
use Rattle.jr_typing_rules.specs.Resolution.{Resolution, resolve}
use Rattle.jr_typing_rules.specs.Declarations.{MadeMethod, ClassesMade, code}
use Rattle.jr_typing_rules.specs.Whole.{fields_of, methods_of, program_class, program_field, program_method, program_of, typing}
use Rattle.jr_typing_rules.specs.Written.{declared_in, methods_written_in, keywords_in}
use Rattle.jr_typing_rules.specs.Counts.{IsCounted}
use Rattle.jr_typing_rules.proofs.Holding.{holds-good}
use Rattle.jr_typing_rules.proofs.Made.{MadeFrom, AllMade, code-made}
use Rattle.jr_typing_rules.proofs.Lawful.{clauses-are-in-order}
use Rattle.jr_typing_rules.proofs.NamesAgree.{AreNumbered, PassesAgree, classes-numbered, typing-made, made-agrees}

as-many-methods : (r : Resolution) (n : ℕ) (ms : List MadeMethod) (ts : List unit.Method) → MadeFrom r n ms ts → length ms ≡ length ts
as-many-methods r n [] [] made = refl
as-many-methods r n [] (t ∷ ts) made = absurd made
as-many-methods r n (m ∷ ms) [] made = absurd made
as-many-methods r n (m ∷ ms) (t ∷ ts) made = omega (arith, as-many-methods r (n + 1) ms ts made.1)

-- all but clauses, which follow from their order
record MembersCounted (ks : List unit.Class) (program : Program) : Type 0 where
  pub classes : length program.classes ≡ length ks
  pub fields : length program.fields ≡ length (flat_map declared_in ks)
  pub methods : length program.methods ≡ length (flat_map methods_written_in ks)

members-counted : (ks : List unit.Class) (r : Resolution) (c : ClassesMade) (all : List Clause) (ns : List Note) → AreNumbered ks r → PassesAgree r c → AllMade r ks c →
    MembersCounted ks (program_of r c all ns)
members-counted ks r c all ns numbered_classes (s, classes, main, agree) made = record {
  classes = length-map c.made (program_class r.names) ∙ sym agree.count ∙ ap length classes ∙ numbered_classes.1;
  fields = length-map (flat_map fields_of c.made) program_field ∙ made.count;
  methods = length-map (flat_map methods_of c.made) program_method ∙ as-many-methods r 0 (flat_map methods_of c.made) (flat_map methods_written_in ks) made.made;
}

clauses-counted : (position : Span → Position) (ks : List unit.Class) (cs : List Clause) → map (λ (c : Clause). c.place) cs ≡ map position (flat_map keywords_in ks) →
    length cs ≡ length (flat_map keywords_in ks)
clauses-counted position ks cs order =
    sym (length-map cs (λ (c : Clause). c.place)) ∙ ap length order ∙ length-map (flat_map keywords_in ks) position

pub counted : (position : Span → Position) (ks : List unit.Class) (program : Program) → typing position ks ≡ Good program → IsCounted ks program
counted position ks program e =
    let members = holds-good (MembersCounted ks) (typing position ks) program
    (typing-made position ks (MembersCounted ks) λ r c all er ec.
    members-counted ks r c all (notes position ks) (holds-good (AreNumbered ks) (resolve ks) r (classes-numbered ks) er) (made-agrees ks r c er ec)
    (holds-good (AllMade r ks) (code r ks) c (code-made r ks) ec)) e in
    record {
      classes = members.classes;
      fields = members.fields;
      methods = members.methods;
      clauses = clauses-counted position ks program.clauses (clauses-are-in-order position ks program e);
    }
