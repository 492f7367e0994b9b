-- Each accepted source has its main, and one method of each that is written.
use Rattle.std.proofs.Common.{◌≡◌, ◌==◌, ◌&&◌, ℕ, ◌+◌, zero, suc, true, false, List, [], ◌∷◌, map, Some, None, slice_get, refl, ap, sym, ◌∙◌, arith}
use Rattle.std.specs.List.{flat_map}
use Rattle.std.specs.Option.{option_map}
use Rattle.std.proofs.lemmas.Bool.{eq-eqb}
use Rattle.std.proofs.lemmas.Option.{slice_get-map}
use Rattle.jr_ast.specs.declared.unit.MethodKind.{MethodKind}
use Rattle.jr_ast.specs.declared.unit.MethodKind.TheVariants as kinds
use Rattle.jr_ast.specs.Units as unit
use Rattle.jr_program.specs.Clauses.{Clause}
use Rattle.jr_program.specs.Programs.{Note}
use Rattle.jr_program.specs.WellFormed.{MainFits}
use Rattle.jr_typing_rules.specs.Answers.{Good}
use Rattle.jr_typing_rules.specs.Types.{kind_of}
use Rattle.std.specs.Prelude.{codes}
use Rattle.std.specs.Str.{bytes_eq}
use Rattle.jr_typing_rules.specs.Modifiers.{has, is_static_kind}
use Rattle.jr_typing_rules.specs.Resolution.{Resolution, is_void, takes_strings, looks_like_main}
use Rattle.jr_typing_rules.specs.Declarations.{MadeMethod, ClassesMade, is_constructor}
use Rattle.jr_typing_rules.specs.Whole.{methods_of, program_method, program_of}
use Rattle.jr_typing_rules.specs.Written.{methods_written_in}
use Rattle.jr_typing_rules.proofs.Holding.{same-good}
use Rattle.jr_typing_rules.proofs.Made.{IsMade, MadeFrom, AllMade}
use Rattle.jr_typing_rules.proofs.Known.{IsKnown, both}

-- of each that is written one is made, in the same place
MadeFrom-get : (program : Resolution) (n : ℕ) (ms : List MadeMethod) (ts : List unit.Method) (k : ℕ) (t : unit.Method) → MadeFrom program n ms ts → slice_get ts k ≡ Some t →
    (m : MadeMethod) × (slice_get ms k ≡ Some m) × IsMade program (n + k) m t
MadeFrom-get program n [] [] k t made e = absurd (cc)
MadeFrom-get program n [] (u ∷ ts) k t made e = absurd made
MadeFrom-get program n (m ∷ ms) [] k t made e = absurd made
MadeFrom-get program n (m ∷ ms) (u ∷ ts) zero t made e =
    let same : u ≡ t = cc in let here : n + 0 ≡ n = omega arith in (m, refl, rw (here, sym same) made.0)
MadeFrom-get program n (m ∷ ms) (u ∷ ts) (suc k) t made e =
    let rest = MadeFrom-get program (n + 1) ms ts k t made.1 e in
    let here : n + suc k ≡ n + 1 + k = omega arith in (rest.0, rest.1, rw here rest.2)

void : (kind : MethodKind) → is_void kind ≡ true → kind ≡ kinds.Void
void kinds.Void e = refl
void kinds.Constructor e = absurd (cc)
void (kinds.Valued t) e = absurd (cc)

-- what looks like main has no result, and is static
main-looks : (t : unit.Method) → looks_like_main t ≡ true → (is_void t.kind ≡ true) × (has is_static_kind t.modifiers ≡ true)
unfolding looks_like_main
main-looks t e =
    let halves = both (bytes_eq t.name.text (codes "main") && is_void t.kind) (has is_static_kind t.modifiers && takes_strings t.formals) e in
    ((both (bytes_eq t.name.text (codes "main")) (is_void t.kind) halves.0).1, (both (has is_static_kind t.modifiers) (takes_strings t.formals) halves.1).0)

-- the method that main's is
main-made : (program : Resolution) (m : MadeMethod) (t : unit.Method) → IsMade program program.main.0 m t → looks_like_main t ≡ true →
    (m.is_static ≡ true) × (m.is_constructor ≡ false) × (m.formal_kinds ≡ []) × (m.result ≡ None)
main-made program m t made looks =
    let facts = main-looks t looks in
    let kind : t.kind ≡ kinds.Void = void t.kind facts.0 in
    let result : Good None ≡ Good m.result = rw kind at made.result in
    let here : (program.main.0 == program.main.0) ≡ true = eq-eqb program.main.0 program.main.0 refl in
    let formals : Good [] ≡ Good made.formals.0 = rw here at made.formals.1 in
    let none : [] ≡ made.formals.0 = same-good [] made.formals.0 formals in
    (made.static ∙ facts.1, made.constructor ∙ ap is_constructor kind, made.formals.2 ∙ ap (map kind_of) (sym none), sym (same-good None m.result result))

pub main-fits : (ks : List unit.Class) (resolved : Resolution) (coded : ClassesMade) (all : List Clause) (notes : List Note) →
    IsKnown ks resolved → AllMade resolved ks coded → MainFits (program_of resolved coded all notes)
main-fits ks resolved coded all notes known made =
    let written = known.main in
    let found = MadeFrom-get resolved 0 (flat_map methods_of coded.made) (flat_map methods_written_in ks) resolved.main.0 written.0 made.made written.1 in
    let number : 0 + resolved.main.0 ≡ resolved.main.0 = omega arith in
    let main = main-made resolved found.0 written.0 (rw number at found.2) written.2 in (
      program_method found.0,
      slice_get-map program_method (flat_map methods_of coded.made) resolved.main.0 ∙ ap (option_map program_method) found.1,
      main.0,
      main.1,
      main.2,
      ap (option_map kind_of) main.3,
    )
