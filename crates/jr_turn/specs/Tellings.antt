-- What each atomic step tells the pass that makes it, of its view before and after.
use Rattle.std.specs.Prelude.{◌≡◌, ℕ, ◌%◌, ◌^◌, ◌≤◌, ◌<◌, ◌==◌, List, [], ◌∷◌, length, Option, Some, MatchBool, Contains, All, Any}
use Rattle.std.specs.Option.{ForSome}
use Rattle.atomic_table.specs.Table.{Me, Step}
use Rattle.jr_turn.specs.declared.annal.Face.{Face}
use Rattle.jr_turn.specs.declared.view.View.{View}
use Rattle.jr_turn.specs.Views.{IsPrefix, IsReplaced, as_list, steps, with_drawn, with_taken, with_entry, with_given, with_served, with_known, StandsIn}

-- Of the value x that a pass with the view v takes
pub record IsFound {V O E T : Type 0} (opening : V → O) (entries : V → List E) (in_hand : V → List T) (guest : E → Option ℕ) (v : View O E T) (x : V) : Type 0 where
  pub same_opening : v.opening ≡ Some (opening x)
  pub more : IsPrefix v.seen (entries x)
  pub own_steps : v.mine ≡ steps guest v.number (entries x)
  pub own_ticket : ForSome v.ticket (Contains (in_hand x))

-- Of the value x that a pass with the view v gives back, to go on with this ticket in hand
pub record Fits {V O E T : Type 0} (opening : V → O) (entries : V → List E) (in_hand : V → List T) (v : View O E T) (ticket : Option T) (x : V) : Type 0 where
  pub same_opening : v.opening ≡ Some (opening x)
  pub same_list : entries x ≡ v.seen
  pub tickets : (out : List T) → v.out ≡ Some out → IsReplaced v.ticket ticket out (in_hand x)

-- Of the value x at the end, beside the view v of the first pass
pub record IsLast {V O E T : Type 0} (opening : V → O) (entries : V → List E) (in_hand : V → List T) (guest : E → Option ℕ) (v : View O E T) (x : V) : Type 0 where
  pub same_opening : v.opening ≡ Some (opening x)
  pub more : IsPrefix v.seen (entries x)
  pub own_steps : v.mine ≡ steps guest v.number (entries x)
  pub past : All (StandsIn guest (entries x)) v.past
  pub none_missing : (n : ℕ) → 1 < n → n ≤ v.made → Any (λ p. p.number ≡ n) v.past
  pub own_ticket : in_hand x ≡ as_list v.ticket

-- a number was drawn, of which the word is n
abbrev pub drew : {V O E T : Type 0} → Step (Option V) → Me (Option V) (View O E T) → ℕ → Me (Option V) (View O E T) → Type 0
drew st m n m' = (d : ℕ) × (d % 2 ^ 64 ≡ n) × (m' ≡ (with_drawn m.0 (Some d), m.1))

-- where the number served is its own, the pass has the slot. Else nothing changed
abbrev pub took : {V O E T : Type 0} → (V → O) → (V → List E) → (V → List T) → (V → Face) → (E → Option ℕ) → Step (Option V) → Me (Option V) (View O E T) → ℕ → Me (Option V) (View O E T) → Type 0
took {V} opening entries in_hand face guest st m n m' =
    (d : ℕ) → m.0.drawn ≡ Some d
    → MatchBool (n == d % 2 ^ 64)
    ((x : V) × IsFound opening entries in_hand guest m.0 x × (m' ≡ (with_taken m.0 (entries x) (face x) (in_hand x), (0, Some x) ∷ m.1)))
    (m' ≡ m)

-- the entry was counted
abbrev pub counted : {V O E T : Type 0} → (E → Option ℕ) → Option E → Step (Option V) → Me (Option V) (View O E T) → ℕ → Me (Option V) (View O E T) → Type 0
counted {V} {O} {E} guest entry st m n m' = (e : E) → entry ≡ Some e → m' ≡ (with_entry guest m.0 e, m.1)

-- the slot was given back
abbrev pub gave : {V O E T : Type 0} → Option T → Step (Option V) → Me (Option V) (View O E T) → ℕ → Me (Option V) (View O E T) → Type 0
gave ticket st m n m' = m' ≡ (with_given m.0 ticket, [])

-- the next is served
abbrev pub served_next : {V O E T : Type 0} → Step (Option V) → Me (Option V) (View O E T) → ℕ → Me (Option V) (View O E T) → Type 0
served_next st m n m' = m' ≡ (with_served m.0, m.1)

-- the count is n, which covers what the pass has seen and has known
abbrev pub knew : {V O E T : Type 0} → Step (Option V) → Me (Option V) (View O E T) → ℕ → Me (Option V) (View O E T) → Type 0
knew st m n m' = (m' ≡ (with_known m.0 n, m.1)) × (length m.0.seen ≤ n) × (m.0.known ≤ n)
