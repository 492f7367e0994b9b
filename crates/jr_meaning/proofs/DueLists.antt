-- The clauses due at each site of a program that has every kind of clause.
use Rattle.std.proofs.Common.{◌≡◌, ℕ, [], ◌∷◌, map, refl}
use Rattle.jr_base.specs.declared.number.ClauseId.{ClauseId}
use Rattle.jr_program.specs.declared.words.Site.TheVariants.{Entry, Commit, Return, Access}
use Rattle.jr_program.specs.Sites.{due_at_site}
use Rattle.jr_meaning.proofs.Runs.EveryClause.{program}

abbrev clause : ℕ → ClauseId
clause n = record { 0 = n }

call_0 : due_at_site program (Entry (record { 0 = 0 })) ≡ map clause (3 ∷ [])
call_0 = refl

return_0 : due_at_site program (Return (record { 0 = 0 })) ≡ map clause (2 ∷ 3 ∷ [])
return_0 = refl

call_1 : due_at_site program (Entry (record { 0 = 1 })) ≡ map clause (5 ∷ 2 ∷ 3 ∷ [])
call_1 = refl

return_1 : due_at_site program (Return (record { 0 = 1 })) ≡ map clause (6 ∷ 7 ∷ 8 ∷ 2 ∷ 3 ∷ 4 ∷ [])
return_1 = refl

call_2 : due_at_site program (Entry (record { 0 = 2 })) ≡ []
call_2 = refl

return_2 : due_at_site program (Return (record { 0 = 2 })) ≡ []
return_2 = refl

call_3 : due_at_site program (Entry (record { 0 = 3 })) ≡ map clause (2 ∷ 3 ∷ [])
call_3 = refl

commit_3 : due_at_site program (Commit (record { 0 = 3 })) ≡ map clause (10 ∷ [])
commit_3 = refl

return_3 : due_at_site program (Return (record { 0 = 3 })) ≡ map clause (11 ∷ 2 ∷ 3 ∷ 4 ∷ [])
return_3 = refl

call_4 : due_at_site program (Entry (record { 0 = 4 })) ≡ map clause (3 ∷ [])
call_4 = refl

return_4 : due_at_site program (Return (record { 0 = 4 })) ≡ map clause (3 ∷ [])
return_4 = refl

access_0 : due_at_site program (Access (record { 0 = 0 })) ≡ map clause (1 ∷ [])
access_0 = refl
