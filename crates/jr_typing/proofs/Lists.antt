-- Lists, seen item by item.
use Rattle.std.proofs.Common.{◌≡◌, List, [], ◌∷◌, ◌++◌, length, map, refl, ap}
use Rattle.std.proofs.lemmas.List.{length-map}
use Rattle.jr_program.specs.declared.stmt.TypedStmt.{TypedStmt}
use Rattle.jr_program.specs.StatementViews as block
use Rattle.jr_program.specs.StatementViews.{view_stmt}
use Rattle.jr_typing_rules.specs.Statements.{chained}

pub map_append : {A B : Type 0} (f : A → B) (xs : List A) (x : A) → map f (xs ++ x ∷ []) ≡ map f xs ++ f x ∷ []
map_append f [] x = refl
map_append f (y ∷ xs) x = ap (λ ys. f y ∷ ys) (map_append f xs x)

pub as_many : {A B : Type 0} (f : A → B) (xs : List A) → length (map f xs) ≡ length xs
as_many f xs = length-map xs f

-- statements, one after the other

pub one_chained : (ss : List TypedStmt) (s : TypedStmt) → ss ≡ [] → chained (map view_stmt (ss ++ s ∷ [])) ≡ view_stmt s
one_chained [] s none = refl
one_chained (x ∷ ss) s none = absurd (cc)

pub several_chained : (ss : List TypedStmt) (s : TypedStmt) → ¬ (ss ≡ []) → chained (map view_stmt (ss ++ s ∷ [])) ≡ block.chained (map view_stmt (ss ++ s ∷ []))
several_chained [] s some = absurd (some refl)
several_chained (x ∷ []) s some = refl
several_chained (x ∷ y ∷ ss) s some = refl
