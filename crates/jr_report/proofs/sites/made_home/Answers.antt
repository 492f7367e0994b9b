use Rattle.std.proofs.Common.{rules, ◌≡◌, ◌≤◌, None, ap, sym, subst, ◌∙◌}
use Rattle.jr_journal.specs.Entries.{make_place_of}
use Rattle.jr_report.specs.Sites.{field_of_home}
use Rattle.jr_report.proofs.Made.{not-made, was-made, none-some, same-some}
use Rattle.jr_report.proofs.sites.made_home.Goals as goal

pub returns-in_err-place : goal.returns-in_err-place
returns-in_err-place c program legal slot =
    let gone : c.from_residual.result ≡ None = search rules in
    let found : make_place_of c.args.journal.now.entries c.args.n ≡ None = sym c.make_place_of.ensures ∙ c.in_err-place.was in
    ap (field_of_home program slot) gone
    ∙ not-made program legal.0 c.args.journal.now.entries legal.1 c.args.pass.now.at c.requires.within c.args.n slot (λ place e. absurd (none-some (sym found ∙ e)))

pub returns-then-place-pass : goal.returns-then-place-pass
returns-then-place-pass c program legal slot =
    let found = sym c.make_place_of.ensures ∙ c.in_ok-place.was in
    not-made program legal.0 c.args.journal.now.entries legal.1 c.args.pass.now.at c.requires.within c.args.n slot
    (λ place e. subst (λ p. c.args.pass.now.at ≤ p) (same-some (sym found ∙ e)) c.if-place-pass.true)

pub returns : goal.returns
returns c program legal slot =
    ap (field_of_home program slot) c.class_made.ensures
    ∙ was-made program legal.0 c.args.journal.now.entries legal.1 c.args.pass.now.at c.requires.within c.args.n slot _ _
    (sym c.make_place_of.ensures ∙ c.in_ok-place.was) c.if-place-pass.false c.entry.ensures
