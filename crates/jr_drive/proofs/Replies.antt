-- What the machine replies, by what a heap shows.
use Rattle.std.proofs.Common.{◌≡◌, ℕ, Option, Some, None, refl}
use Rattle.std.specs.Prelude.{pos}
use Rattle.jr_base.specs.declared.action.Reply.TheVariants as replies
use Rattle.jr_base.specs.declared.value.Value.{Value}
use Rattle.jr_base.specs.declared.value.Value.TheVariants.{Int}
use Rattle.jr_base.specs.declared.value.Seen.TheVariants as seen
use Rattle.jr_meaning.specs.Machine.{get_reply, put_reply, len_reply}
use Rattle.jr_meaning.specs.Heap.{value_seen, length_seen}

-- a cell that is there
pub got : (o : Option Value) (value : Value) → seen.Value value ≡ value_seen o → replies.Value value ≡ get_reply o
got None value shown = cc
got (Some other) value shown = cc

pub got-none : (o : Option Value) → seen.Absent ≡ value_seen o → replies.Range ≡ get_reply o
got-none None shown = refl
got-none (Some other) shown = cc

pub put-there : (o : Option Value) (value : Value) → seen.Value value ≡ value_seen o → replies.Unit ≡ put_reply o
put-there None value shown = cc
put-there (Some other) value shown = refl

pub put-none : (o : Option Value) → seen.Absent ≡ value_seen o → replies.Range ≡ put_reply o
put-none None shown = refl
put-none (Some other) shown = cc

-- a length
pub counted : (o : Option ℕ) (value : Value) → seen.Value value ≡ length_seen o → replies.Value value ≡ len_reply o
counted None value shown = cc
counted (Some n) value shown = cc

pub uncounted : (o : Option ℕ) → seen.Absent ≡ length_seen o → replies.Value (Int (pos 0)) ≡ len_reply o
uncounted None shown = refl
uncounted (Some n) shown = cc
