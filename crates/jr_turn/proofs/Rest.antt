-- What a pass keeps between two calls.
use Rattle.std.proofs.Common.{◌≡◌, ℕ, List, [], ◌∷◌, ◌++◌, true, true≢false, Option, Some, refl, sym, ap, ◌∙◌, subst}
use Rattle.std.specs.Prelude.{is_some}
use Rattle.atomic_table.specs.Table.{Me}
use Rattle.jr_turn.specs.declared.view.View.{View}
use Rattle.jr_turn.specs.Views.{with_entry, holding}
use Rattle.jr_turn.specs.Passes.{AtRest, last_of}

last_push : {E : Type 0} (xs : List E) (e : E) → last_of (xs ++ e ∷ []) ≡ Some e
last_push [] e = refl
last_push (x ∷ []) e = refl
last_push (x ∷ y ∷ xs) e = last_push (y ∷ xs) e

pub last_is : {E : Type 0} (l xs : List E) (e : E) → l ≡ xs ++ e ∷ [] → last_of l ≡ Some e
last_is l xs e is = ap last_of is ∙ last_push xs e

module _ {V O E T : Type 0} where
  pub counted_rest : (m m' : Me (Option V) (View O E T)) (e : E) (guest : E → Option ℕ) → holding m.0 ≡ true → AtRest m → m' ≡ (with_entry guest m.0 e, m.1) → AtRest m'
  counted_rest m m' e guest holds r is = subst AtRest (sym is) record {
    live = r.live;
    given = r.given;
    away = λ none. absurd (true≢false (sym holds ∙ ap is_some none));
    held = r.held;
  }
