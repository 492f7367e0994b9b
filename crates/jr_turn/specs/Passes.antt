-- What contracts see of a turn and of a pass.
use Rattle.std.specs.Prelude.{◌≡◌, ℕ, List, [], ◌∷◌, false, Option, Some, None}
use Rattle.std.specs.Borrow.{Bor}
use Rattle.atomic_table.specs.Table.{Me}
use Rattle.atomic_table.specs.Seated.{TableId}
use Rattle.atomic_table.specs.declared.shared.Seat.{Seat}
use Rattle.jr_turn.specs.declared.view.View.{View}
use Rattle.jr_turn.specs.Views.{with_drawn}

-- the name of a turn, which no other has
abbrev pub TurnId : Type 0
TurnId = TableId

-- a turn: its name, and for how many passes it was made
pub record Identity : Type 0 where
  pub turn : TurnId
  pub seats : ℕ

-- a pass: whose it is, and what it knows
pub record Standing (O E T : Type 0) : Type 0 where
  pub turn : TurnId
  pub view : View O E T

module _ {V O E T : Type 0} where
  -- Between two calls a pass isn't spent, and has the mark at no time. One that doesn't hold the
  -- turn has no number drawn, no entry in flight and no slot
  pub record AtRest (m : Me (Option V) (View O E T)) : Type 0 where
    pub live : m.0.spent ≡ false
    pub given : m.0.given ≡ false
    pub away : m.0.out ≡ None → (m.0.drawn ≡ None) × (m.0.flight ≡ None) × (m.1 ≡ [])
    pub held : (out : List T) → m.0.out ≡ Some out → m.1 ≡ (0, None) ∷ []

-- what a pass knows between two calls: the number that it drew is not shown
abbrev pub knows : {V O E T : Type 0} → Seat (Option V) (View O E T) → View O E T
knows s = with_drawn s.me.0 None

-- the ticket of a pass that had `own` in hand, after it named another, or none
abbrev pub kept_ticket : {T : Type 0} → Option T → Option (Option (Bor T)) → Option T
kept_ticket own None = own
kept_ticket own (Some None) = None
kept_ticket own (Some (Some t)) = Some t.now

-- the last entry
abbrev pub last_of : {E : Type 0} → List E → Option E
last_of [] = None
last_of (x ∷ []) = Some x
last_of (x ∷ y ∷ ys) = last_of (y ∷ ys)
