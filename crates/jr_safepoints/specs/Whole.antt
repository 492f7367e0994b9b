-- The parts of a typed program, as the passes over its source make them.
use Rattle.std.specs.Prelude.{◌≡◌, ℕ, List, map, Result, Ok, Err}
use Rattle.jr_base.specs.declared.number.Span.{Span}
use Rattle.jr_base.specs.declared.number.Position.{Position}
use Rattle.jr_base.specs.Positions.{position_in}
use Rattle.jr_base.specs.declared.refusal.Fail.{Fail}
use Rattle.jr_ast.specs.Units.{Class}
use Rattle.jr_names.specs.Answered.{Fails}
use Rattle.jr_program.specs.ClauseViews.{view_clause}
use Rattle.jr_program.specs.UnitViews.{view_class, view_note}
use Rattle.jr_program.specs.declared.parts.UnitParts.{UnitParts}
use Rattle.jr_typing_rules.specs.Answers.{Good}
use Rattle.jr_typing_rules.specs.Notes.{notes}
use Rattle.jr_typing_rules.specs.Resolution.{Resolution, resolve}
use Rattle.jr_typing_rules.specs.Declarations.{ClassesMade, code}
use Rattle.jr_typing_rules.specs.Specifications.{clauses}
use Rattle.jr_typing_rules.specs.Whole.{typing}
use Rattle.jr_spec_typing.specs.Clauses.{setting_of}
use Rattle.jr_safepoints.specs.Assembled.{assembled, view_field_done, view_method_done}

-- where a span begins, as people count it
abbrev pub position : List ℕ → Span → Position
position source at = position_in source at.start

-- the parts are what the passes make of the source, by those names and that code
pub record IsMade (source : List ℕ) (ks : List Class) (r : Resolution) (c : ClassesMade) (parts : UnitParts) : Type 0 where
  pub resolved : resolve ks ≡ Good r
  pub coded : code r ks ≡ Good c
  pub claused : clauses (setting_of source r.names) c.made ≡ Good (map view_clause parts.clauses)
  pub noted : map view_note parts.notes ≡ notes (position source) ks
  pub texts : parts.texts ≡ c.counts.texts
  pub main : parts.main ≡ r.main
  pub put : assembled r.names (map view_clause parts.clauses) c.made ≡
      Good (record { classes = map view_class parts.classes; fields = map view_field_done parts.fields; methods = map view_method_done parts.methods })

abbrev pub MadeOf : List ℕ → List Class → UnitParts → Type 0
MadeOf source ks parts = (r : Resolution) × (c : ClassesMade) × IsMade source ks r c parts

-- the parts, or the refusal that the rules come to
abbrev pub MakesParts : List ℕ → List Class → Result UnitParts Fail → Type 0
MakesParts source ks (Ok parts) = MadeOf source ks parts
MakesParts source ks (Err e) = Fails e (typing (position source) ks)
