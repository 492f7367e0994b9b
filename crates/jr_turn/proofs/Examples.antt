-- Worked examples of the definitions: entries are pairs of the guest that made them, if they are steps, and a number.
use Rattle.std.proofs.Common.{◌≡◌, ℕ, ◌+◌, ◌^◌, List, [], ◌∷◌, true, false, Option, Some, None, refl}
use Rattle.jr_turn.specs.declared.annal.Face.{Face}
use Rattle.jr_turn.specs.declared.view.View.{View}
use Rattle.jr_turn.specs.Views.{steps, longer, newcomer, with_taken, with_entry, with_back, with_made, with_joined, split_off, holding}
use Rattle.jr_turn.specs.Points.{words_of, tickets}

abbrev Entry : Type 0
Entry = Option ℕ × ℕ

abbrev guest : Entry → Option ℕ
guest e = e.0

abbrev idle : Face
idle = record { finish = None; pending = 0; waiting = 0 }

abbrev journal : List Entry
journal = (Some 1, 10) ∷ (Some 2, 11) ∷ (None, 12) ∷ (Some 2, 13) ∷ []

abbrev first : View ℕ Entry ℕ
first = newcomer 1 (Some 5) []

-- pass 2 takes the turn, counts a step, and goes on with ticket 9
abbrev second : View ℕ Entry ℕ
second = with_back (with_entry guest (with_taken (split_off first) journal idle []) (Some 2, 14)) (Some 9)

steps_of_two : steps guest 2 journal ≡ (Some 2, 11) ∷ (Some 2, 13) ∷ []
steps_of_two = refl

next_numbers : ((split_off first).number ∷ (split_off (with_made first)).number ∷ []) ≡ 2 ∷ 3 ∷ []
next_numbers = refl

holds_between : (holding (with_taken first journal idle []) ≡ true) × (holding second ≡ false)
holds_between = (refl, refl)

what_two_saw : second.seen ≡ (Some 1, 10) ∷ (Some 2, 11) ∷ (None, 12) ∷ (Some 2, 13) ∷ (Some 2, 14) ∷ []
what_two_saw = refl

a_step_is_mine : second.mine ≡ (Some 2, 14) ∷ []
a_step_is_mine = refl

a_verdict_is_nobodys : (with_entry guest first (None, 12)).mine ≡ []
a_verdict_is_nobodys = refl

longer_is_kept : ((with_joined first second).seen ≡ second.seen) × ((with_joined second first).seen ≡ second.seen)
longer_is_kept = (refl, refl)

the_joined_are_kept : (with_joined first second).past ≡ record { number = 2; seen = second.seen; mine = second.mine } ∷ []
the_joined_are_kept = refl

the_first_where_as_long : longer {E = ℕ} (1 ∷ []) (2 ∷ []) ≡ 1 ∷ []
the_first_where_as_long = refl

numbers_wrap : words_of (2 ^ 64 + 1) (2 ^ 64) 5 ≡ 1 ∷ 0 ∷ 5 ∷ []
numbers_wrap = refl

tickets_in_hand : tickets (first ∷ second ∷ []) ≡ 9 ∷ []
tickets_in_hand = refl
