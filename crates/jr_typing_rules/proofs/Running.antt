-- What `run` of a class is that a thread runs.
use Rattle.std.proofs.Common.{◌≡◌, Bool, true, false, not, ◌&&◌, ◌||◌, List, [], ◌∷◌, Option, None, codes, refl, sym, ◌∙◌}
use Rattle.std.specs.Str.{bytes_eq}
use Rattle.jr_ast.specs.declared.unit.Formal.{Formal}
use Rattle.jr_ast.specs.declared.unit.MethodKind.{MethodKind}
use Rattle.jr_ast.specs.declared.unit.MethodKind.TheVariants as kinds
use Rattle.jr_ast.specs.Units as unit
use Rattle.jr_typing_rules.specs.declared.words.ValueType.{ValueType}
use Rattle.jr_typing_rules.specs.declared.words.MethodEntry.{MethodEntry}
use Rattle.jr_typing_rules.specs.Answers.{Good}
use Rattle.jr_typing_rules.specs.Modifiers.{has, is_static_kind}
use Rattle.jr_typing_rules.specs.Names.{Text, Names}
use Rattle.jr_typing_rules.specs.Resolution.{Known, is_void, result_type, formal_types, entry}
use Rattle.jr_typing_rules.specs.Declarations.{is_constructor, is_empty, is_right_run, is_run, right_declaration}
use Rattle.jr_typing_rules.proofs.Holding.{same-good}
use Rattle.jr_typing_rules.proofs.Known.{both}

-- a class whose `run` a thread may run
abbrev pub starts_thread : unit.Class → Bool
starts_thread k = k.extends_thread || k.implements_runnable

-- there it is an instance method without formals and result
abbrev pub RunRight : unit.Class → Text → MethodEntry → Type 0
RunRight k x e = (bytes_eq x (codes "run") && starts_thread k) ≡ true → (e.is_static ≡ false) × (e.formals ≡ []) × (e.result ≡ None)

implied : (a b : Bool) → (not a || b) ≡ true → a ≡ true → b ≡ true
implied true b e is = e
implied false b e is = absurd (cc)

pub not-true-false : (a : Bool) → not a ≡ true → a ≡ false
not-true-false false e = refl
not-true-false true e = absurd (cc)

right-run : (k : unit.Class) (m : unit.Method) (kind : MethodKind) → is_constructor kind ≡ false → right_declaration k m kind ≡ true → is_run k m ≡ true → is_right_run m ≡ true
right-run k m kinds.Constructor method right is = absurd (cc)
right-run k m kinds.Void method right is = implied (is_run k m) (is_right_run m) right is
right-run k m (kinds.Valued t) method right is = implied (is_run k m) (is_right_run m) right is

void-result : (names : Names) (kind : MethodKind) → is_void kind ≡ true → result_type names kind ≡ Good None
void-result names kinds.Void e = refl
void-result names kinds.Constructor e = absurd (cc)
void-result names (kinds.Valued t) e = absurd (cc)

no-formals : (names : Names) (is_main : Bool) (fs : List Formal) → is_empty fs ≡ true → formal_types names is_main fs ≡ Good []
no-formals names true [] e = refl
no-formals names false [] e = refl
no-formals names is_main (f ∷ fs) e = absurd (cc)

pub entry-runs : (names : Names) (k : unit.Class) (s : Known) (m : unit.Method) (is : Bool) (result : Option ValueType) (formals : List ValueType) →
    is_constructor m.kind ≡ false → right_declaration k m m.kind ≡ true → result_type names m.kind ≡ Good result → formal_types names is m.formals ≡ Good formals →
    RunRight k m.name.text (entry s m is result formals)
entry-runs names k s m is result formals method right r f named =
    let run = both (is_void m.kind) (is_empty m.formals && not (has is_static_kind m.modifiers)) (right-run k m m.kind method right named) in
    let rest = both (is_empty m.formals) (not (has is_static_kind m.modifiers)) run.1 in (
      not-true-false (has is_static_kind m.modifiers) rest.1,
      same-good formals [] (sym f ∙ no-formals names is m.formals rest.0),
      same-good result None (sym r ∙ void-result names m.kind run.0),
    )
