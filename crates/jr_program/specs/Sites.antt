-- At which places of a program clauses are due, and which: the rule of this language. The kinds of clauses are
-- those of the JML Reference Manual ("Method Specification Clauses", "Type Specifications") and of Rodríguez,
-- Dwyer, Flanagan, Hatcliff, Leavens and Robby (ECOOP 2005).
use Rattle.std.specs.Prelude.{◌&&◌, ◌||◌, ◌==◌, ◌+◌, ℕ, Bool, true, false, not, cond, List, [], ◌∷◌, ◌++◌}
use Rattle.std.specs.Option.{option_map_or}
use Rattle.jr_base.specs.declared.number.ClassId.{ClassId}
use Rattle.jr_base.specs.declared.number.MethodId.{MethodId}
use Rattle.jr_base.specs.declared.number.ClauseId.{ClauseId}
use Rattle.jr_program.specs.declared.words.ClauseKind.{ClauseKind}
use Rattle.jr_program.specs.declared.words.ClauseKind.TheVariants.{Requires, Ensures, When, Locks, MonitorsFor, Invariant, Constraint, Assert as AssertKind, Atomic}
use Rattle.jr_program.specs.declared.words.Site.{Site}
use Rattle.jr_program.specs.declared.words.Site.TheVariants as sites
use Rattle.jr_program.specs.Clauses.{Clause, Owner, OfMethod, OfClass, OfField}
use Rattle.jr_program.specs.Programs.{Program, Method, method_at}
use Rattle.jr_program.specs.Programs.{Statement, Skip, Then, Declare, Do, If, Loop, DoLoop, Break, Continue, Return, ReturnValue, Throw, ThrowCaught, Try, Synchronized, Commit, Println, Assert, Catches, no_catch, or_catch}

-- ---- the clauses of a kind that belong to a method, a class or a field

abbrev pub same_kind : ClauseKind → ClauseKind → Bool
same_kind Requires Requires = true
same_kind Ensures Ensures = true
same_kind When When = true
same_kind Locks Locks = true
same_kind MonitorsFor MonitorsFor = true
same_kind Invariant Invariant = true
same_kind Constraint Constraint = true
same_kind AssertKind AssertKind = true
same_kind Atomic Atomic = true
same_kind _ _ = false

abbrev pub same_owner : Owner → Owner → Bool
same_owner (OfMethod a) (OfMethod b) = a.0 == b.0
same_owner (OfClass a) (OfClass b) = a.0 == b.0
same_owner (OfField a) (OfField b) = a.0 == b.0
same_owner _ _ = false

-- the numbers of the clauses that are chosen, of those from number n on
abbrev pub chosen_from : (Clause → Bool) → ℕ → List Clause → List ClauseId
chosen_from chosen n [] = []
chosen_from chosen n (c ∷ cs) = cond (chosen c) (record { 0 = n } ∷ chosen_from chosen (n + 1) cs) (chosen_from chosen (n + 1) cs)

-- in source order
abbrev pub chosen_of : Program → (Clause → Bool) → List ClauseId
chosen_of program chosen = chosen_from chosen 1 program.clauses

abbrev pub clauses_of : Program → Owner → ClauseKind → List ClauseId
clauses_of program owner kind = chosen_of program (λ (c : Clause). same_owner c.owner owner && same_kind c.kind kind)

-- those of a class: the static ones, and the others where they have an object to speak of
abbrev pub class_clauses : Program → ClassId → ClauseKind → Bool → List ClauseId
class_clauses program class kind has_object =
    chosen_of program (λ (c : Clause). (same_owner c.owner (OfClass class) && same_kind c.kind kind) && (c.is_static || has_object))

-- ---- a method's label `commit`

abbrev mutual
  pub has_commit : Statement → Bool
  has_commit (Commit s) = true
  has_commit (Then a b) = has_commit a || has_commit b
  has_commit (If e a b) = has_commit a || has_commit b
  has_commit (Loop e us b) = has_commit b
  has_commit (DoLoop b e) = has_commit b
  has_commit (Try b cs) = has_commit b || some_has_commit cs
  has_commit (Synchronized e b) = has_commit b
  has_commit Skip = false
  has_commit (Declare number e) = false
  has_commit (Do e) = false
  has_commit Break = false
  has_commit Continue = false
  has_commit Return = false
  has_commit (ReturnValue e) = false
  has_commit (Throw fault) = false
  has_commit (ThrowCaught number) = false
  has_commit (Println parts) = false
  has_commit (Assert clause scope) = false

  pub some_has_commit : Catches → Bool
  some_has_commit no_catch = false
  some_has_commit (or_catch fault number h rest) = has_commit h || some_has_commit rest

-- ---- the rule

-- neither static nor a constructor
abbrev pub is_instance : Method → Bool
is_instance method = not method.is_static && not method.is_constructor

-- Call: `requires`; and but for a helper the invariants of its class, the instance ones where an object stands already
abbrev pub due_at_call : Program → MethodId → Method → List ClauseId
due_at_call program m method =
    clauses_of program (OfMethod m) Requires ++ cond method.is_helper [] (class_clauses program method.class Invariant (is_instance method))

-- normal Leave: `when` where no label `commit` stands in the method; `ensures`; but for a helper the invariants, the
-- instance ones too where the method isn't static, since a constructor has to establish them, and the constraints, the
-- instance ones for an instance method alone; and `atomic`
abbrev pub due_at_leave : Program → MethodId → Method → List ClauseId
due_at_leave program m method =
    cond (has_commit method.body) [] (clauses_of program (OfMethod m) When)
    ++ clauses_of program (OfMethod m) Ensures
    ++ cond method.is_helper [] (class_clauses program method.class Invariant (not method.is_static) ++ class_clauses program method.class Constraint (is_instance method))
    ++ clauses_of program (OfMethod m) Atomic

-- the clauses due at a place of the program, in order
abbrev pub due_at_site : Program → Site → List ClauseId
due_at_site program (sites.Entry m) = option_map_or (due_at_call program m) (method_at program m) []
due_at_site program (sites.Commit m) = clauses_of program (OfMethod m) When
due_at_site program (sites.Return m) = option_map_or (due_at_leave program m) (method_at program m) []
due_at_site program (sites.Access f) = clauses_of program (OfField f) MonitorsFor
due_at_site program (sites.Edge m) = clauses_of program (OfMethod m) Locks
due_at_site program (sites.Assert c) = c ∷ []
