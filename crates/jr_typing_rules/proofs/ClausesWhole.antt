-- Each clause of an accepted source fits where its owner stands.
use Rattle.std.proofs.Common.{◌≡◌, ℕ, zero, suc, List, Some, slice_get, ap, ◌∙◌, arith}
use Rattle.std.specs.List.{flat_map}
use Rattle.std.specs.Option.{option_map}
use Rattle.std.proofs.lemmas.List.{length-map}
use Rattle.std.proofs.lemmas.Option.{slice_get-map, slice_get_within}
use Rattle.jr_base.specs.declared.number.ClauseId.{ClauseId}
use Rattle.jr_program.specs.ClauseKinds.{IsClass}
use Rattle.jr_program.specs.Clauses.{Clause}
use Rattle.jr_program.specs.Programs.{Program, Note, numbered, clause_at, method_at}
use Rattle.jr_program.specs.WellFormed.{FitsOwner}
use Rattle.jr_ast.specs.Units as unit
use Rattle.jr_typing_rules.specs.Agreement.{AgreesWith}
use Rattle.jr_typing_rules.specs.Answers.{Good}
use Rattle.jr_typing_rules.specs.Resolution.{Resolution}
use Rattle.jr_typing_rules.specs.Declarations.{MadeMethod, MadeClass, ClassesMade, code}
use Rattle.jr_typing_rules.specs.Specifications.{Setting, clauses}
use Rattle.jr_typing_rules.specs.Whole.{methods_of, program_class, program_method, program_of}
use Rattle.jr_typing_rules.specs.Written.{methods_written_in}
use Rattle.jr_typing_rules.proofs.AssertScopes.{AssertsFew}
use Rattle.jr_typing_rules.proofs.ClausesFit.{IsFitIn, MethodKnown, all-fit}
use Rattle.jr_typing_rules.proofs.Environments.{formals-placed}
use Rattle.jr_typing_rules.proofs.Holding.{Each, Each-flat_map, Each-get, holds-good, Each-placed, Each-both}
use Rattle.jr_typing_rules.proofs.Items.{at-number}
use Rattle.jr_typing_rules.proofs.Made.{AllMade, number-placed}
use Rattle.jr_typing_rules.proofs.MethodsTyped.{IsTyped, methods-typed}
use Rattle.jr_typing_rules.proofs.NamedKinds.{ArePlaced}
use Rattle.jr_typing_rules.proofs.NamesAgree.{PassesAgree}
use Rattle.jr_typing_rules.proofs.TypedFrom.{TypedFrom}

method-here : (r : Resolution) (c : ClassesMade) (all : List Clause) (ns : List Note) (ks : List unit.Class) (k : ℕ) (m : MadeMethod) → AllMade r ks c →
    slice_get (flat_map methods_of c.made) k ≡ Some m → method_at (program_of r c all ns) m.number ≡ Some (program_method m)
method-here r c all ns ks k m made found =
    let ms = flat_map methods_of c.made in
    let number : m.number.0 ≡ k = omega (arith, number-placed r 0 ms (flat_map methods_written_in ks) k m made.made found) in
    slice_get-map program_method ms m.number.0 ∙ ap (option_map program_method) (at-number ms m.number.0 k m number found)

formals-have : (r : Resolution) (texts : List (List ℕ)) (n : ℕ) (m : MadeMethod) → TypedFrom r texts n m → ArePlaced m.formal_kinds m.formals
formals-have r texts n m from = rw from.is (formals-placed m.source.formals from.formals)

methods-known : (setting : Setting) (ks : List unit.Class) (r : Resolution) (c : ClassesMade) (all : List Clause) (ns : List Note) → AllMade r ks c → code r ks ≡ Good c →
    clauses setting c.made ≡ Good all → AgreesWith setting.names (program_of r c all ns) → Each AssertsFew (flat_map methods_of c.made) →
    Each (MethodKnown (program_of r c all ns)) (flat_map methods_of c.made)
methods-known setting ks r c all ns made ec ea names few =
    let program = program_of r c all ns in
    let ms = flat_map methods_of c.made in
    let typed = methods-typed setting ks r c all ns ec ea names in
    Each-placed (MethodKnown program) ms λ k m found.
    record {
      there = method-here r c all ns ks k m made found;
      formals = let from = Each-get (IsTyped r program) ms k m typed found in formals-have r program.texts from.0 m from.1;
      few = Each-get AssertsFew ms k m few found;
    }

-- what holds of each clause holds by its number
found-numbered : (program : Program) (cs : List Clause) (n : ℕ) (clause : Clause) → Each (IsFitIn program) cs → numbered cs n ≡ Some clause → IsFitIn program clause
found-numbered program cs zero clause all found = absurd (cc)
found-numbered program cs (suc n) clause all found = Each-get (IsFitIn program) cs n clause all found

abbrev pub ClausesFit : Program → Type 0
ClausesFit program = (c : ClauseId) (clause : Clause) → clause_at program c ≡ Some clause → FitsOwner program clause clause.owner

pub clauses-fit-made : (setting : Setting) (ks : List unit.Class) (r : Resolution) (c : ClassesMade) (all : List Clause) (ns : List Note) → setting.names ≡ r.names → AllMade r ks c →
    PassesAgree r c → code r ks ≡ Good c → clauses setting c.made ≡ Good all → AgreesWith r.names (program_of r c all ns) → Each AssertsFew (flat_map methods_of c.made) →
    ClausesFit (program_of r c all ns)
clauses-fit-made setting ks r c all ns same made (s, classes, main, agree) ec ea names few n clause found =
    let program = program_of r c all ns in
    let here : AgreesWith setting.names program = rw same names in
    let known = methods-known setting ks r c all ns made ec ea here few in
    let classes_known = Each-both (λ (k : MadeClass). IsClass program k.number) (λ (k : MadeClass). Each (MethodKnown program) (methods_of k)) c.made
    (Each-placed (λ (k : MadeClass). IsClass program k.number) c.made λ k m at.
    rw (length-map c.made (program_class r.names)) (omega (arith, agree.numbers k m at, slice_get_within c.made k m at)))
    (Each-flat_map (MethodKnown program) methods_of c.made known) in
    found-numbered program all n.0 clause (holds-good (Each (IsFitIn program)) (clauses setting c.made) all (all-fit program setting here c.made classes_known) ea) found
