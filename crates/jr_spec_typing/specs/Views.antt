-- The code's own types as the plain data of the rules.
use Rattle.std.specs.Prelude.{List, [], ◌∷◌, map}
use Rattle.jr_program.specs.Clauses.{Spec}
use Rattle.jr_program.specs.ClauseViews.{onto, view_expr, view_suffix}
use Rattle.jr_typing.specs.Views.{view_scope}
use Rattle.jr_typing_rules.specs.Names.{Text}
use Rattle.jr_typing_rules.specs.Predicates.{Stand, Stated, Term, TheClass, TheLibrary, TheSystem, TheOut, TheValue}
use Rattle.jr_spec_typing.specs.declared.chain.Chain.{Chain}
use Rattle.jr_spec_typing.specs.declared.stand.Quantified.{Quantified}
use Rattle.jr_spec_typing.specs.declared.stand.Quantified.TheVariants as quantified
use Rattle.jr_spec_typing.specs.declared.stand.Stand.{Stand as StandTree}
use Rattle.jr_spec_typing.specs.declared.term.Held.{Held}
use Rattle.jr_spec_typing.specs.declared.term.Stated.{Stated as StatedTree}
use Rattle.jr_spec_typing.specs.declared.term.Term.{Term as TermTree}
use Rattle.jr_spec_typing.specs.declared.term.Term.TheVariants as term

-- from the innermost one
abbrev pub view_quantified : Quantified → List Text
view_quantified quantified.Nothing = []
view_quantified (quantified.One x) = x.now ∷ []
view_quantified (quantified.Two outer inner) = inner.now ∷ outer.now ∷ []

abbrev pub view_stand : StandTree → Stand
view_stand s = record { scope = view_scope s.scope; result = s.result; looks_back = s.looks_back; is_in_old = s.is_in_old; quantified = view_quantified s.quantified }

-- a primary with what follows it
abbrev pub view_chain : Chain → Spec
view_chain c = onto (view_expr c.primary) (map view_suffix c.suffixes)

abbrev pub view_term : TermTree → Term
view_term (term.Class c) = TheClass c
view_term (term.Library l) = TheLibrary l
view_term (term.System at) = TheSystem at
view_term (term.Out at) = TheOut at
view_term (term.Value t c) = TheValue t (view_chain c)

abbrev pub view_held : Held → Stated
view_held h = record { of = h.of; node = view_chain h.chain }

abbrev pub view_stated : StatedTree → Stated
view_stated v = record { of = v.of; node = view_expr v.node }
