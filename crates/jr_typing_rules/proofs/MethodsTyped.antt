-- Each method of an accepted source, with what it was made from and the clauses that its asserts are.
use Rattle.std.proofs.Common.{◌≡◌, ℕ, ◌+◌, List}
use Rattle.std.specs.List.{flat_map}
use Rattle.jr_program.specs.Clauses.{Clause}
use Rattle.jr_program.specs.Programs.{Program, Note}
use Rattle.jr_ast.specs.Units as unit
use Rattle.jr_typing_rules.specs.Agreement.{AgreesWith}
use Rattle.jr_typing_rules.specs.Answers.{Good}
use Rattle.jr_typing_rules.specs.Resolution.{Resolution}
use Rattle.jr_typing_rules.specs.Declarations.{MadeMethod, ClassesMade, clauses_before_body, code}
use Rattle.jr_typing_rules.specs.Specifications.{Setting, clauses}
use Rattle.jr_typing_rules.specs.Whole.{methods_of, program_of}
use Rattle.jr_typing_rules.proofs.AssertClauses.{AssertsAt, asserts-placed, asserts-are}
use Rattle.jr_typing_rules.proofs.AssertScopes.{AssertsAre}
use Rattle.jr_typing_rules.proofs.Counting.{From, From-both, members_of, methods-of-all}
use Rattle.jr_typing_rules.proofs.Holding.{Each, holds-good}
use Rattle.jr_typing_rules.proofs.TypedFrom.{TypedFrom, TypedAt, AllTyped, code-typed}

-- the method was made so, and its asserts are clauses of the program
abbrev pub IsTyped : Resolution → Program → MadeMethod → Type 0
IsTyped r program m =
    (n : ℕ) × TypedFrom r program.texts n m × AssertsAre program m.number m.is_static (n + clauses_before_body m.source) m.asserts

pub methods-typed : (setting : Setting) (ks : List unit.Class) (r : Resolution) (c : ClassesMade) (all : List Clause) (ns : List Note) → code r ks ≡ Good c →
    clauses setting c.made ≡ Good all → AgreesWith setting.names (program_of r c all ns) → Each (IsTyped r (program_of r c all ns)) (flat_map methods_of c.made)
methods-typed setting ks r c all ns ec ea names =
    let program = program_of r c all ns in
    let xs = flat_map members_of c.made in
    let typed = holds-good (AllTyped r) (code r ks) c (code-typed r ks) ec in
    let placed = holds-good (λ all. From (AssertsAt program all) 0 xs) (clauses setting c.made) all (asserts-placed program setting names c.made) ea in
    methods-of-all (λ n x. TypedAt r c.counts.texts n x × AssertsAt program all n x) (IsTyped r program)
    (λ n m both. (n, both.0, asserts-are program n m both.1)) 0 c.made
    (From-both (TypedAt r c.counts.texts) (AssertsAt program all) 0 xs typed.all placed)
