-- How many clauses are due at a place of the program: at most 16. Which are due is told by the finished program.
use Rattle.std.specs.Prelude.{nat_le, Bool, ◌&&◌, List, length}
use Rattle.jr_base.specs.declared.number.MethodId.{MethodId}
use Rattle.jr_base.specs.declared.refusal.Refusal.TheVariants.{TooManyClauses}
use Rattle.jr_program.specs.declared.words.Site.{Site}
use Rattle.jr_program.specs.declared.words.Site.TheVariants as sites
use Rattle.jr_program.specs.Programs.{Program}
use Rattle.jr_program.specs.Sites.{due_at_site}
use Rattle.jr_program.specs.WellFormed.{most_due}
use Rattle.jr_typing_rules.specs.Answers.{Typing, Good, require, all_hold}
use Rattle.jr_typing_rules.specs.Declarations.{MadeField, MadeMethod, MadeMember, Fields, Method, Clause, MadeClass}

abbrev pub few_are_due : Program → Site → Bool
few_are_due program site = nat_le (length (due_at_site program site)) most_due

-- at a call of the method, at its label `commit`, where it returns, and where a `synchronized` statement of its enters
-- a monitor
abbrev pub few_are_due_in : Program → MethodId → Bool
few_are_due_in program m =
    (few_are_due program (sites.Entry m) && few_are_due program (sites.Commit m)) &&
    (few_are_due program (sites.Return m) && few_are_due program (sites.Edge m))

abbrev pub method_fits : Program → MadeMethod → Typing (Unit {0})
method_fits program m = require (few_are_due_in program m.number) (TooManyClauses m.source.name.place)

-- at a read or write of the field
abbrev pub field_fits : Program → MadeField → Typing (Unit {0})
field_fits program f = require (few_are_due program (sites.Access f.number)) (TooManyClauses f.name.place)

abbrev pub member_fits : Program → MadeMember → Typing (Unit {0})
member_fits program (Fields ms fs) = all_hold (field_fits program) fs
member_fits program (Method m) = method_fits program m
member_fits program (Clause c) = Good tt

abbrev pub class_fits : Program → MadeClass → Typing (Unit {0})
class_fits program k = all_hold (member_fits program) k.members

unfoldable pub sites_fit : Program → List MadeClass → Typing (Unit {0})
sites_fit program ks = all_hold (class_fits program) ks
