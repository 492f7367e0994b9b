-- The turns of loops that make one thing more each: what is made, and the rest, is the whole.
use Rattle.std.proofs.Common.{◌≡◌, ℕ, ◌+◌, ◌<◌, ◌≤◌, nat_le, Bool, true, false, List, [], ◌∷◌, ◌++◌, length, get_or, drop, map, refl, sym, ap, ◌∙◌, append_assoc, arith}
use Rattle.std.proofs.lemmas.List.{append-nil}
use Rattle.jr_base.specs.declared.refusal.Fail.{Fail}
use Rattle.jr_base.specs.declared.refusal.Fail.TheVariants.{Refused, Memory}
use Rattle.jr_base.specs.declared.number.Span.{Span}
use Rattle.jr_base.specs.declared.refusal.Refusal.TheVariants.{Mismatch}
use Rattle.jr_base.specs.declared.finish.Fault.{Fault}
use Rattle.jr_ast.specs.declared.expr.Expr.{Expr as ExprTree}
use Rattle.jr_ast.specs.declared.stmt.Stmt.{Stmt as StmtTree}
use Rattle.jr_ast.specs.declared.stmt.Catch.{Catch as CatchTree}
use Rattle.jr_ast.specs.declared.stmt.Part.{Part as PartTree}
use Rattle.jr_ast.specs.declared.stmt.LocalDeclarator.{LocalDeclarator}
use Rattle.jr_ast.specs.Expressions.{Expr, view_expr}
use Rattle.jr_ast.specs.Statements as source
use Rattle.jr_ast.specs.Statements.{stmts, view_catch, view_declarator, view_part, view_stmt}
use Rattle.jr_program.specs.Programs as program
use Rattle.jr_program.specs.StatementViews.{Catch, catches}
use Rattle.jr_typing_rules.specs.declared.words.ValueType.{ValueType}
use Rattle.jr_program.specs.WellFormed.{most_parts}
use Rattle.jr_typing_rules.specs.Answers.{Typing, Good, Bad, ◌>>=◌, require, each}
use Rattle.jr_typing_rules.specs.Scopes.{Scope}
use Rattle.jr_typing_rules.specs.Statements.{Frame, State, Made, Mades, Caught, makes, printed, effect, initial_value, scope_in, and_local, shown, declares_all, prints, fault_of, and_caught, starts, ends_block, typed, all_typed, all_caught}
use Rattle.jr_names.specs.Answered.{Fails}
use Rattle.jr_names.proofs.Turns.{cut, uncut}
use Rattle.jr_typing.proofs.Lists.{as_many}
use Rattle.jr_typing.specs.StatementViews.{PartPrinted, PartsPrinted, CaughtOne, declares_one, part_printed, parts_printed, caught_one}

-- ---- in general

-- of the first, and what stands before it, the rest begins
abbrev Follows : {A S M T : Type 0} → (S → List A → Typing T) → (S → A → Typing M) → (S → M → S) → Type 0
Follows {A} {S} seq step behind = (s : S) (x : A) (xs : List A) → seq s (x ∷ xs) ≡ (step s x >>= λ m. seq (behind s m) xs)

next : {A B S M T : Type 0} (seq : S → List A → Typing T) (step : S → A → Typing M) (behind : S → M → S) → Follows seq step behind
    → (view : B → A) (s : S) (all : List B) (d : B) (k : ℕ) → k < length all
    → seq s (map view (drop k all)) ≡ (step s (view (get_or all k d)) >>= λ m. seq (behind s m) (map view (drop (k + 1) all)))
next seq step behind law view s all d k below =
    ap (λ xs. seq s (map view xs)) (cut all k d below) ∙ law s (view (get_or all k d)) (map view (drop (k + 1) all))

turn_fails : {A B S M T : Type 0} (seq : S → List A → Typing T) (step : S → A → Typing M) (behind : S → M → S) → Follows seq step behind
    → (view : B → A) (s : S) (all : List B) (d : B) (k : ℕ) (whole : Typing T) (e : Fail)
    → seq s (map view (drop k all)) ≡ whole → k < length all → Fails e (step s (view (get_or all k d))) → Fails e whole
turn_fails seq step behind law view s all d k whole Memory so_far below h = tt
turn_fails seq step behind law view s all d k whole (Refused r) so_far below h =
    sym so_far ∙ next seq step behind law view s all d k below ∙ ap (λ is. is >>= λ m. seq (behind s m) (map view (drop (k + 1) all))) h

turn_goes_on : {A B S M T : Type 0} (seq : S → List A → Typing T) (step : S → A → Typing M) (behind : S → M → S) → Follows seq step behind
    → (view : B → A) (s : S) (all : List B) (d : B) (k : ℕ) (whole : Typing T) (m : M)
    → seq s (map view (drop k all)) ≡ whole → k < length all → step s (view (get_or all k d)) ≡ Good m
    → seq (behind s m) (map view (drop (k + 1) all)) ≡ whole
turn_goes_on seq step behind law view s all d k whole m so_far below is =
    sym (next seq step behind law view s all d k below ∙ ap (λ is. is >>= λ m. seq (behind s m) (map view (drop (k + 1) all))) is) ∙ so_far

no_turn_left : {A B S T : Type 0} (seq : S → List A → Typing T) (view : B → A) (s : S) (all : List B) (k : ℕ) (whole : Typing T)
    → seq s (map view (drop k all)) ≡ whole → length all ≤ k → whole ≡ seq s []
no_turn_left seq view s all k whole so_far done = sym so_far ∙ ap (λ xs. seq s (map view xs)) (uncut all k done)

-- ---- expressions that are done

abbrev pub effects_behind : Scope → List program.Effect → List Expr → Typing (List program.Effect)
effects_behind scope before es = each (effect scope) es >>= λ done. Good (before ++ done)

effects_follow : (before : List program.Effect) (x : Typing program.Effect) (xs : Typing (List program.Effect))
    → ((x >>= λ y. xs >>= λ ys. Good (y ∷ ys)) >>= λ done. Good (before ++ done)) ≡ (x >>= λ y. xs >>= λ done. Good ((before ++ y ∷ []) ++ done))
effects_follow before (Good y) (Good ys) = ap (λ es. Good es) (sym (append_assoc before (y ∷ []) ys))
effects_follow before (Good y) (Bad r) = refl
effects_follow before (Bad r) xs = refl

effect_law : (scope : Scope) → Follows (effects_behind scope) (λ before e. effect scope e) (λ before e. before ++ e ∷ [])
effect_law scope before e es = effects_follow before (effect scope e) (each (effect scope) es)

nothing_before : (x : Typing (List program.Effect)) → (x >>= λ done. Good ([] ++ done)) ≡ x
nothing_before (Good es) = refl
nothing_before (Bad r) = refl

pub effects_begin : (scope : Scope) (all : List ExprTree) → effects_behind scope [] (map view_expr all) ≡ each (effect scope) (map view_expr all)
effects_begin scope all = nothing_before (each (effect scope) (map view_expr all))

pub effect_fails : (scope : Scope) (before : List program.Effect) (all : List ExprTree) (d : ExprTree) (k : ℕ) (whole : Typing (List program.Effect)) (e : Fail)
    → effects_behind scope before (map view_expr (drop k all)) ≡ whole → k < length all → Fails e (effect scope (view_expr (get_or all k d))) → Fails e whole
effect_fails scope before all d k whole e = turn_fails (effects_behind scope) (λ before e. effect scope e) (λ before e. before ++ e ∷ []) (effect_law scope) view_expr before all d k whole e

pub effect_goes_on : (scope : Scope) (before : List program.Effect) (all : List ExprTree) (d : ExprTree) (k : ℕ) (whole : Typing (List program.Effect)) (m : program.Effect)
    → effects_behind scope before (map view_expr (drop k all)) ≡ whole → k < length all → effect scope (view_expr (get_or all k d)) ≡ Good m
    → effects_behind scope (before ++ m ∷ []) (map view_expr (drop (k + 1) all)) ≡ whole
effect_goes_on scope before all d k whole m = turn_goes_on (effects_behind scope) (λ before e. effect scope e) (λ before e. before ++ e ∷ []) (effect_law scope) view_expr before all d k whole m

pub no_effect_left : (scope : Scope) (before : List program.Effect) (all : List ExprTree) (k : ℕ) (whole : Typing (List program.Effect))
    → effects_behind scope before (map view_expr (drop k all)) ≡ whole → length all ≤ k → whole ≡ Good before
no_effect_left scope before all k whole so_far done =
    no_turn_left (effects_behind scope) view_expr before all k whole so_far done ∙ ap (λ es. Good es) (append-nil before)

-- ---- declared variables

bind_two : {A B C D : Type 0} (x : Typing A) (y : Typing B) (f : A → B → C) (g : C → Typing D)
    → ((x >>= λ a. y >>= λ b. Good (f a b)) >>= g) ≡ (x >>= λ a. y >>= λ b. g (f a b))
bind_two (Good a) (Good b) f g = refl
bind_two (Good a) (Bad r) f g = refl
bind_two (Bad r) y f g = refl

abbrev pub with_made : Mades → Made → Mades
with_made before made = record { state = made.state; statements = before.statements ++ made.statement ∷ [] }

variable_law : (frame : Frame) (t : ValueType) → Follows (declares_all frame t) (λ before d. declares_one frame t before.state d) with_made
variable_law frame t before d ds =
    bind_two (initial_value (scope_in frame before.state) t d.initial) (and_local frame before.state d.name t) (λ e s. record { state = s; statements = before.statements ++ program.Declare (length before.state.kinds) e ∷ [] }) (λ m. declares_all frame t m ds)
    ∙ sym (bind_two (initial_value (scope_in frame before.state) t d.initial) (and_local frame before.state d.name t) (λ e s. record { state = s; statement = program.Declare (length before.state.kinds) e }) (λ m. declares_all frame t (with_made before m) ds))

pub variable_fails : (frame : Frame) (t : ValueType) (before : Mades) (all : List LocalDeclarator) (d : LocalDeclarator) (k : ℕ) (whole : Typing Mades) (e : Fail)
    → declares_all frame t before (map view_declarator (drop k all)) ≡ whole → k < length all → Fails e (declares_one frame t before.state (view_declarator (get_or all k d))) → Fails e whole
variable_fails frame t before all d k whole e = turn_fails (declares_all frame t) (λ before d. declares_one frame t before.state d) with_made (variable_law frame t) view_declarator before all d k whole e

pub variable_goes_on : (frame : Frame) (t : ValueType) (before : Mades) (all : List LocalDeclarator) (d : LocalDeclarator) (k : ℕ) (whole : Typing Mades) (m : Made)
    → declares_all frame t before (map view_declarator (drop k all)) ≡ whole → k < length all → declares_one frame t before.state (view_declarator (get_or all k d)) ≡ Good m
    → declares_all frame t (with_made before m) (map view_declarator (drop (k + 1) all)) ≡ whole
variable_goes_on frame t before all d k whole m = turn_goes_on (declares_all frame t) (λ before d. declares_one frame t before.state d) with_made (variable_law frame t) view_declarator before all d k whole m

pub no_variable_left : (frame : Frame) (t : ValueType) (before : Mades) (all : List LocalDeclarator) (k : ℕ) (whole : Typing Mades)
    → declares_all frame t before (map view_declarator (drop k all)) ≡ whole → length all ≤ k → whole ≡ Good before
no_variable_left frame t before all k whole = no_turn_left (declares_all frame t) view_declarator before all k whole

-- ---- what is printed

bind_one : {A C D : Type 0} (x : Typing A) (f : A → C) (g : C → Typing D) → ((x >>= λ a. Good (f a)) >>= g) ≡ (x >>= λ a. g (f a))
bind_one (Good a) f g = refl
bind_one (Bad r) f g = refl

bind_assoc : {A B C : Type 0} (x : Typing A) (f : A → Typing B) (g : B → Typing C) → ((x >>= f) >>= g) ≡ (x >>= λ a. f a >>= g)
bind_assoc (Good a) f g = refl
bind_assoc (Bad r) f g = refl

abbrev pub with_part : PartsPrinted → PartPrinted → PartsPrinted
with_part before one = record { state = one.state; parts = before.parts ++ one.part ∷ [] }

part_law : (frame : Frame) → Follows (parts_printed frame) (λ before p. part_printed frame before.state p) with_part
part_law frame before (source.Text bytes) ps = refl
part_law frame before (source.Value e) ps =
    bind_assoc (shown (scope_in frame before.state) e) (λ p. prints frame (scope_in frame before.state) (record { texts = before.state.texts; parts = before.parts ++ p ∷ [] }) ps) (λ p. Good (record { state = record before.state { texts = p.texts }; parts = p.parts }))
    ∙ sym (bind_one (shown (scope_in frame before.state) e) (λ p. record { state = before.state; part = p }) (λ one. parts_printed frame (with_part before one) ps))

pub part_fails : (frame : Frame) (before : PartsPrinted) (all : List PartTree) (d : PartTree) (k : ℕ) (whole : Typing PartsPrinted) (e : Fail)
    → parts_printed frame before (map view_part (drop k all)) ≡ whole → k < length all → Fails e (part_printed frame before.state (view_part (get_or all k d))) → Fails e whole
part_fails frame before all d k whole e = turn_fails (parts_printed frame) (λ before p. part_printed frame before.state p) with_part (part_law frame) view_part before all d k whole e

pub part_goes_on : (frame : Frame) (before : PartsPrinted) (all : List PartTree) (d : PartTree) (k : ℕ) (whole : Typing PartsPrinted) (m : PartPrinted)
    → parts_printed frame before (map view_part (drop k all)) ≡ whole → k < length all → part_printed frame before.state (view_part (get_or all k d)) ≡ Good m
    → parts_printed frame (with_part before m) (map view_part (drop (k + 1) all)) ≡ whole
part_goes_on frame before all d k whole m = turn_goes_on (parts_printed frame) (λ before p. part_printed frame before.state p) with_part (part_law frame) view_part before all d k whole m

pub no_part_left : (frame : Frame) (before : PartsPrinted) (all : List PartTree) (k : ℕ) (whole : Typing PartsPrinted)
    → parts_printed frame before (map view_part (drop k all)) ≡ whole → length all ≤ k → whole ≡ Good before
no_part_left frame before all k whole = no_turn_left (parts_printed frame) view_part before all k whole

-- a print, by its parts
by_parts : (frame : Frame) (state : State) (at : Span) (ps : List source.Part)
    → printed frame state at ps ≡ (require (nat_le (length ps) most_parts) (Mismatch at) >>= λ u. parts_printed frame (record { state = state; parts = [] }) ps >>= λ q. makes q.state (program.Println q.parts))
by_parts frame state at ps =
    ap (λ is. require (nat_le (length ps) most_parts) (Mismatch at) >>= λ u. is)
    (sym (bind_one (prints frame (scope_in frame state) (record { texts = state.texts; parts = [] }) ps) (λ p. record { state = record state { texts = p.texts }; parts = p.parts }) (λ q. makes q.state (program.Println q.parts))))

few : (all : List PartTree) → length all ≤ 8 → nat_le (length (map view_part all)) most_parts ≡ true
few all h = rw as_many grind arith

pub too_many_parts : (frame : Frame) (state : State) (at : Span) (all : List PartTree) → 8 < length all → printed frame state at (map view_part all) ≡ Bad (Mismatch at)
too_many_parts frame state at all h =
    let many : nat_le (length (map view_part all)) most_parts ≡ false = rw as_many grind arith in
    ap (λ b. require b (Mismatch at) >>= λ u. prints frame (scope_in frame state) (record { texts = state.texts; parts = [] }) (map view_part all) >>= λ p. makes (record state { texts = p.texts }) (program.Println p.parts)) many

pub parts_fail : (frame : Frame) (state : State) (at : Span) (all : List PartTree) (e : Fail) → length all ≤ 8 → Fails e (parts_printed frame (record { state = state; parts = [] }) (map view_part all)) → Fails e (printed frame state at (map view_part all))
parts_fail frame state at all Memory h is = tt
parts_fail frame state at all (Refused r) h is =
    by_parts frame state at (map view_part all)
    ∙ ap (λ b. require b (Mismatch at) >>= λ u. parts_printed frame (record { state = state; parts = [] }) (map view_part all) >>= λ q. makes q.state (program.Println q.parts)) (few all h)
    ∙ ap (λ is. is >>= λ q. makes q.state (program.Println q.parts)) is

pub parts_print : (frame : Frame) (state new : State) (at : Span) (all : List PartTree) (parts : List program.Part) → length all ≤ 8
    → parts_printed frame (record { state = state; parts = [] }) (map view_part all) ≡ Good (record { state = new; parts = parts })
    → printed frame state at (map view_part all) ≡ Good (record { state = new; statement = program.Println parts })
parts_print frame state new at all parts h is =
    by_parts frame state at (map view_part all)
    ∙ ap (λ b. require b (Mismatch at) >>= λ u. parts_printed frame (record { state = state; parts = [] }) (map view_part all) >>= λ q. makes q.state (program.Println q.parts)) (few all h)
    ∙ ap (λ is. is >>= λ q. makes q.state (program.Println q.parts)) is

-- ---- statements

abbrev pub all_behind : Frame → Bool → Mades → List source.Stmt → Typing Mades
all_behind frame in_loop before ss = all_typed frame in_loop before (stmts ss)

statement_law : (frame : Frame) (in_loop : Bool) → Follows (all_behind frame in_loop) (λ before s. typed frame in_loop before.state s) with_made
statement_law frame in_loop before s ss = refl

pub statement_fails : (frame : Frame) (in_loop : Bool) (before : Mades) (all : List StmtTree) (d : StmtTree) (k : ℕ) (whole : Typing Mades) (e : Fail)
    → all_typed frame in_loop before (stmts (map view_stmt (drop k all))) ≡ whole → k < length all → Fails e (typed frame in_loop before.state (view_stmt (get_or all k d))) → Fails e whole
statement_fails frame in_loop before all d k whole e = turn_fails (all_behind frame in_loop) (λ before s. typed frame in_loop before.state s) with_made (statement_law frame in_loop) view_stmt before all d k whole e

pub statement_goes_on : (frame : Frame) (in_loop : Bool) (before : Mades) (all : List StmtTree) (d : StmtTree) (k : ℕ) (whole : Typing Mades) (m : Made)
    → all_typed frame in_loop before (stmts (map view_stmt (drop k all))) ≡ whole → k < length all → typed frame in_loop before.state (view_stmt (get_or all k d)) ≡ Good m
    → all_typed frame in_loop (with_made before m) (stmts (map view_stmt (drop (k + 1) all))) ≡ whole
statement_goes_on frame in_loop before all d k whole m = turn_goes_on (all_behind frame in_loop) (λ before s. typed frame in_loop before.state s) with_made (statement_law frame in_loop) view_stmt before all d k whole m

pub no_statement_left : (frame : Frame) (in_loop : Bool) (before : Mades) (all : List StmtTree) (k : ℕ) (whole : Typing Mades)
    → all_typed frame in_loop before (stmts (map view_stmt (drop k all))) ≡ whole → length all ≤ k → whole ≡ Good before
no_statement_left frame in_loop before all k whole = no_turn_left (all_behind frame in_loop) view_stmt before all k whole

-- ---- catches

-- catches that were made, and the state behind them
pub record Catching : Type 0 where
  pub state : State
  pub made : List Catch

abbrev pub with_catch : Catching → CaughtOne → Catching
with_catch before one = record { state = one.state; made = before.made ++ one.catch ∷ [] }

abbrev pub before_catches : List Catch → program.Catches → program.Catches
before_catches [] rest = rest
before_catches (c ∷ cs) rest = program.or_catch c.fault c.number c.handler (before_catches cs rest)

last_before : (cs : List Catch) (c : Catch) (rest : program.Catches) → before_catches cs (program.or_catch c.fault c.number c.handler rest) ≡ before_catches (cs ++ c ∷ []) rest
last_before [] c rest = refl
last_before (x ∷ cs) c rest = ap (λ rest. program.or_catch x.fault x.number x.handler rest) (last_before cs c rest)

before_none : (cs : List Catch) → before_catches cs program.no_catch ≡ catches cs
before_none [] = refl
before_none (c ∷ cs) = ap (λ rest. program.or_catch c.fault c.number c.handler rest) (before_none cs)

abbrev pub caught_behind : Frame → Bool → Catching → List source.Catch → Typing Caught
caught_behind frame in_loop before cs =
    all_caught frame in_loop before.state (source.catches cs) >>= λ rest. Good (record { state = rest.state; catches = before_catches before.made rest.catches })

-- a catch before the rest, the rest behind those made, and a catch by itself
abbrev before_rest : Fault → ℕ → Made → Caught → Caught
before_rest f n b r = record { state = r.state; catches = program.or_catch f n b.statement r.catches }

abbrev behind_made : List Catch → Caught → Caught
behind_made made r = record { state = r.state; catches = before_catches made r.catches }

abbrev catch_of : Fault → ℕ → Made → Catch
catch_of f n b = record { fault = f; number = n; handler = b.statement }

abbrev one_of : Fault → ℕ → Made → CaughtOne
one_of f n b = record { state = b.state; catch = catch_of f n b }

catch_then_rest : (made : List Catch) (f : Fault) (n : ℕ) (b : Made) (rest : Typing Caught)
    → ((rest >>= λ r. Good (before_rest f n b r)) >>= λ r. Good (behind_made made r)) ≡ (rest >>= λ r. Good (behind_made (made ++ catch_of f n b ∷ []) r))
catch_then_rest made f n b (Good r) =
    ap (λ (cs : program.Catches). Good (behind_made [] (record { state = r.state; catches = cs }))) (last_before made (catch_of f n b) r.catches)
catch_then_rest made f n b (Bad r) = refl

catch_follows_body : (made : List Catch) (f : Fault) (n : ℕ) (body : Typing Made) (rest : State → Typing Caught)
    → ((body >>= λ b. rest b.state >>= λ r. Good (before_rest f n b r)) >>= λ r. Good (behind_made made r))
    ≡ ((body >>= λ b. Good (one_of f n b)) >>= λ m. rest m.state >>= λ r. Good (behind_made (made ++ m.catch ∷ []) r))
catch_follows_body made f n (Good b) rest = catch_then_rest made f n b (rest b.state)
catch_follows_body made f n (Bad r) rest = refl

catch_follows_variable : (made : List Catch) (f : Fault) (n : ℕ) (inner : Typing State) (body : State → Typing Made) (rest : State → Typing Caught)
    → ((inner >>= λ i. body i >>= λ b. rest b.state >>= λ r. Good (before_rest f n b r)) >>= λ r. Good (behind_made made r))
    ≡ ((inner >>= λ i. body i >>= λ b. Good (one_of f n b)) >>= λ m. rest m.state >>= λ r. Good (behind_made (made ++ m.catch ∷ []) r))
catch_follows_variable made f n (Good i) body rest = catch_follows_body made f n (body i) rest
catch_follows_variable made f n (Bad r) body rest = refl

catch_follows : (made : List Catch) (fault : Typing Fault) (n : ℕ) (inner : Typing State) (body : State → Typing Made) (rest : State → Typing Caught)
    → ((fault >>= λ f. inner >>= λ i. body i >>= λ b. rest b.state >>= λ r. Good (before_rest f n b r)) >>= λ r. Good (behind_made made r))
    ≡ ((fault >>= λ f. inner >>= λ i. body i >>= λ b. Good (one_of f n b)) >>= λ m. rest m.state >>= λ r. Good (behind_made (made ++ m.catch ∷ []) r))
catch_follows made (Good f) n inner body rest = catch_follows_variable made f n inner body rest
catch_follows made (Bad r) n inner body rest = refl

catch_law : (frame : Frame) (in_loop : Bool) → Follows (caught_behind frame in_loop) (λ before c. caught_one frame in_loop before.state c) with_catch
catch_law frame in_loop before c cs =
    catch_follows before.made (fault_of c.class) (length before.state.kinds) (and_caught frame before.state c.variable)
    (λ i. all_typed frame in_loop (starts i) c.body >>= ends_block before.state) (λ state. all_caught frame in_loop state (source.catches cs))

rest_alone : (x : Typing Caught) → (x >>= λ r. Good (behind_made [] r)) ≡ x
rest_alone (Good r) = refl
rest_alone (Bad r) = refl

pub catches_begin : (frame : Frame) (in_loop : Bool) (state : State) (all : List CatchTree)
    → caught_behind frame in_loop (record { state = state; made = [] }) (map view_catch all) ≡ all_caught frame in_loop state (source.catches (map view_catch all))
catches_begin frame in_loop state all = rest_alone (all_caught frame in_loop state (source.catches (map view_catch all)))

pub catch_fails : (frame : Frame) (in_loop : Bool) (state : State) (made : List Catch) (all : List CatchTree) (d : CatchTree) (k : ℕ) (whole : Typing Caught) (e : Fail)
    → caught_behind frame in_loop (record { state = state; made = made }) (map view_catch (drop k all)) ≡ whole → k < length all → Fails e (caught_one frame in_loop state (view_catch (get_or all k d))) → Fails e whole
catch_fails frame in_loop state made all d k whole e =
    turn_fails (caught_behind frame in_loop) (λ before c. caught_one frame in_loop before.state c) with_catch (catch_law frame in_loop) view_catch (record { state = state; made = made }) all d k whole e

pub catch_goes_on : (frame : Frame) (in_loop : Bool) (state after : State) (made : List Catch) (c : Catch) (all : List CatchTree) (d : CatchTree) (k : ℕ) (whole : Typing Caught)
    → caught_behind frame in_loop (record { state = state; made = made }) (map view_catch (drop k all)) ≡ whole → k < length all
    → caught_one frame in_loop state (view_catch (get_or all k d)) ≡ Good (record { state = after; catch = c })
    → caught_behind frame in_loop (record { state = after; made = made ++ c ∷ [] }) (map view_catch (drop (k + 1) all)) ≡ whole
catch_goes_on frame in_loop state after made c all d k whole =
    turn_goes_on (caught_behind frame in_loop) (λ before c. caught_one frame in_loop before.state c) with_catch (catch_law frame in_loop) view_catch (record { state = state; made = made }) all d k whole (record { state = after; catch = c })

pub no_catch_left : (frame : Frame) (in_loop : Bool) (state : State) (made : List Catch) (all : List CatchTree) (k : ℕ) (whole : Typing Caught)
    → caught_behind frame in_loop (record { state = state; made = made }) (map view_catch (drop k all)) ≡ whole → length all ≤ k → whole ≡ Good (record { state = state; catches = catches made })
no_catch_left frame in_loop state made all k whole so_far done =
    no_turn_left (caught_behind frame in_loop) view_catch (record { state = state; made = made }) all k whole so_far done
    ∙ ap (λ cs. Good (record { state = state; catches = cs })) (before_none made)
