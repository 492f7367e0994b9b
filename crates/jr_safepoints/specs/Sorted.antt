-- The clauses of a program by what they belong to.
use Rattle.std.specs.Prelude.{◌≡◌, ◌&&◌, ◌||◌, ◌==◌, ℕ, Bool, false, cond, List, [], ◌∷◌, ◌++◌, Option, slice_index_or}
use Rattle.std.specs.Option.{option_map_or}
use Rattle.jr_base.specs.declared.number.ClauseId.{ClauseId}
use Rattle.jr_program.specs.Clauses.{Clause, OfMethod, OfClass, OfField}
use Rattle.jr_program.specs.Sites.{same_kind, same_owner, chosen_from}
use Rattle.jr_safepoints.specs.declared.sorted.Wanted.{Wanted}
use Rattle.jr_safepoints.specs.declared.sorted.Wanted.TheVariants as wanted

-- the clause is wanted, and belongs to the method, the field or the class of that number
abbrev pub is_wanted : Wanted → ℕ → Clause → Bool
is_wanted (wanted.OfMethod kind) n c = same_owner c.owner (OfMethod (record { 0 = n })) && same_kind c.kind kind
is_wanted (wanted.OfField kind) n c = same_owner c.owner (OfField (record { 0 = n })) && same_kind c.kind kind
is_wanted (wanted.OfClass kind with_objects) n c = (same_owner c.owner (OfClass (record { 0 = n })) && same_kind c.kind kind) && (c.is_static || with_objects)

-- for each owner, the numbers of the clauses that are wanted of it: none past the last list
abbrev pub AreSorted : Wanted → List Clause → List (List ClauseId) → Type 0
AreSorted wanted clauses lists = (n : ℕ) → slice_index_or lists n [] ≡ chosen_from (is_wanted wanted n) 1 clauses

-- one list ends with the clause, if it has an owner, and all others stay
abbrev pub Notes : Option ℕ → ClauseId → (old new : List (List ClauseId)) → Type 0
Notes owner clause old new = (n : ℕ) → slice_index_or new n [] ≡ slice_index_or old n [] ++ cond (option_map_or (λ k. k == n) owner false) (clause ∷ []) []
