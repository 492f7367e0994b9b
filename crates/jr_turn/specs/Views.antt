-- What a pass knows, its view, and the view after each step.
use Rattle.std.specs.Prelude.{◌≡◌, ℕ, ◌+◌, ◌==◌, List, [], ◌∷◌, ◌++◌, length, Bool, true, false, Option, Some, None, is_some, if◌then◌else◌, nat_le, filter, unwrap_or, IsPermutation}
use Rattle.jr_turn.specs.declared.annal.Face.{Face}
use Rattle.jr_turn.specs.declared.view.Past.{Past}
use Rattle.jr_turn.specs.declared.view.View.{View}

-- xs is the beginning of ys
abbrev pub IsPrefix : {E : Type 0} → List E → List E → Type 0
IsPrefix {E} xs ys = (rest : List E) × (ys ≡ xs ++ rest)

-- whether an entry that names this guest, or none, is a step of the guest n
abbrev pub is_step_of : ℕ → Option ℕ → Bool
is_step_of n None = false
is_step_of n (Some m) = m == n

-- the steps of the guest n among the entries, in their order. Guest says whose step an entry is
abbrev pub steps : {E : Type 0} → (E → Option ℕ) → ℕ → List E → List E
steps guest n es = filter (λ e. is_step_of n (guest e)) es

-- the list of what is there
abbrev pub as_list : {T : Type 0} → Option T → List T
as_list None = []
as_list (Some t) = t ∷ []

-- the longer list, the first where both are as long
abbrev pub longer : {E : Type 0} → List E → List E → List E
longer xs ys = if nat_le (length ys) (length xs) then xs else ys

-- the open tickets of a value: those in the hand of a pass, and those that wait in the value
abbrev pub open_tickets : {V T : Type 0} → (V → List T) → (V → List T) → V → List T
open_tickets in_hand waiting x = in_hand x ++ waiting x

-- Of a joined pass: these entries begin with what it had seen, and its steps are those of its number
-- among them, in their order
pub record StandsIn {E : Type 0} (guest : E → Option ℕ) (entries : List E) (p : Past E) : Type 0 where
  pub seen : IsPrefix p.seen entries
  pub mine : p.mine ≡ steps guest p.number entries

-- after has the tickets of before, but `own` replaced by `now`
abbrev pub IsReplaced : {T : Type 0} → Option T → Option T → List T → List T → Type 0
IsReplaced own now before after = IsPermutation (as_list own ++ after) (as_list now ++ before)

module _ {O E T : Type 0} where
  -- a pass that has seen these entries, and done nothing yet
  abbrev pub newcomer : ℕ → Option O → List E → View O E T
  newcomer n opening seen = record {
    number = n;
    made = 1;
    joined = 0;
    past = [];
    opening = opening;
    seen = seen;
    known = 0;
    mine = [];
    takes = 0;
    loads = 0;
    found = None;
    ticket = None;
    drawn = None;
    flight = None;
    out = None;
    given = false;
    spent = false;
  }

  -- a pass that was joined into the first
  abbrev pub gone : View O E T
  gone = record {
    number = 0;
    made = 0;
    joined = 0;
    past = [];
    opening = None;
    seen = [];
    known = 0;
    mine = [];
    takes = 0;
    loads = 0;
    found = None;
    ticket = None;
    drawn = None;
    flight = None;
    out = None;
    given = false;
    spent = true;
  }

  -- it drew a number
  abbrev pub with_drawn : View O E T → Option ℕ → View O E T
  with_drawn v d = record v { drawn = d }

  -- it took the turn, and found a value with these entries, this face and these tickets in hand
  abbrev pub with_taken : View O E T → List E → Face → List T → View O E T
  with_taken v seen face out = record v { seen = seen; takes = v.takes + 1; found = Some face; out = Some out }

  -- it counted an entry
  abbrev pub with_entry : (E → Option ℕ) → View O E T → E → View O E T
  with_entry guest v e = record v { flight = Some e; seen = v.seen ++ e ∷ []; mine = v.mine ++ steps guest v.number (e ∷ []) }

  -- it gave the slot back, and has this ticket in hand
  abbrev pub with_given : View O E T → Option T → View O E T
  with_given v ticket = record v { flight = None; out = None; ticket = ticket; given = true }

  -- it served the next
  abbrev pub with_served : View O E T → View O E T
  with_served v = record v { drawn = None; given = false }

  -- it gave the turn back: the two steps before together
  abbrev pub with_back : View O E T → Option T → View O E T
  with_back v ticket = record v { flight = None; out = None; ticket = ticket; given = false; drawn = None }

  -- the first pass, from which one was split off
  abbrev pub with_made : View O E T → View O E T
  with_made v = record v { made = v.made + 1 }

  -- the pass that was split off
  abbrev pub split_off : View O E T → View O E T
  split_off v = newcomer (v.made + 1) v.opening v.seen

  -- what is kept of a pass that was joined
  abbrev pub past_of : View O E T → Past E
  past_of u = record { number = u.number; seen = u.seen; mine = u.mine }

  -- the first pass, into which u was joined
  abbrev pub with_joined : View O E T → View O E T → View O E T
  with_joined v u = record v { joined = v.joined + 1; past = v.past ++ past_of u ∷ []; seen = longer v.seen u.seen }

  -- it loaded the count
  abbrev pub with_known : View O E T → ℕ → View O E T
  with_known v n = record v { known = n; loads = v.loads + 1 }

  -- whether it holds the turn: its list of the tickets that are out may be empty
  abbrev pub holding : View O E T → Bool
  holding v = is_some v.out

  -- the tickets that were in hand when it took the turn
  abbrev pub out_tickets : View O E T → List T
  out_tickets v = unwrap_or v.out []
