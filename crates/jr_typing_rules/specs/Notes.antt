-- The words of JML that are read and not judged, in source order: `assignable` and `modifies`, and the modifiers `pure`,
-- `nullable`, `non_null`, `spec_public` and `spec_protected` (JML Reference Manual, "Assignable Clauses", "Modifiers").
use Rattle.std.specs.Prelude.{ℕ, List, [], ◌∷◌, ◌++◌, map, codes}
use Rattle.std.specs.List.{flat_map}
use Rattle.jr_base.specs.declared.number.Span.{Span}
use Rattle.jr_base.specs.declared.number.Position.{Position}
use Rattle.jr_ast.specs.declared.unit.Formal.{Formal}
use Rattle.jr_ast.specs.declared.unit.Modifier.{Modifier}
use Rattle.jr_ast.specs.declared.unit.ModifierKind.{ModifierKind}
use Rattle.jr_ast.specs.declared.unit.ModifierKind.TheVariants as modifiers
use Rattle.jr_ast.specs.Clauses.{MethodClause, Assignable, Modifies}
use Rattle.jr_ast.specs.Units.{Class, Member, Empty, OfField, OfMethod, OfClause, Method}
use Rattle.jr_program.specs.Programs.{Note}

-- a word that is not judged, and where it stands
pub record Unjudged : Type 0 where
  pub word : List ℕ
  pub place : Span

abbrev pub unjudged : List ℕ → Span → List Unjudged
unjudged word at = record { word = word; place = at } ∷ []

abbrev pub in_modifier : Span → ModifierKind → List Unjudged
in_modifier at modifiers.Pure = unjudged (codes "pure") at
in_modifier at modifiers.Nullable = unjudged (codes "nullable") at
in_modifier at modifiers.NonNull = unjudged (codes "non_null") at
in_modifier at modifiers.SpecPublic = unjudged (codes "spec_public") at
in_modifier at modifiers.SpecProtected = unjudged (codes "spec_protected") at
in_modifier at _ = []

abbrev pub in_modifiers : List Modifier → List Unjudged
in_modifiers ms = flat_map (λ (m : Modifier). in_modifier m.place m.kind) ms

abbrev pub in_clause : MethodClause → List Unjudged
in_clause (Assignable at) = unjudged (codes "assignable") at
in_clause (Modifies at) = unjudged (codes "modifies") at
in_clause _ = []

abbrev pub in_formal : Formal → List Unjudged
in_formal f = in_modifiers f.modifiers

-- clauses stand before modifiers, and these before formals
abbrev pub in_method : Method → List Unjudged
in_method m = flat_map in_clause m.clauses ++ in_modifiers m.modifiers ++ flat_map in_formal m.formals

abbrev pub in_member : Member → List Unjudged
in_member Empty = []
in_member (OfField f) = in_modifiers f.modifiers
in_member (OfMethod m) = in_method m
in_member (OfClause c) = []

abbrev pub in_class : Class → List Unjudged
in_class k = in_modifiers k.modifiers ++ flat_map in_member k.members

-- the notes of a program, where `position` says where a span begins as people count it
abbrev pub notes : (Span → Position) → List Class → List Note
notes position ks = map (λ (n : Unjudged). record { word = n.word; place = position n.place }) (flat_map in_class ks)
