use Rattle.std.proofs.Common.{◌≡◌, ◌-◌, ◌++◌, length, take, reverse, ap, sym, ◌∙◌, true}
use Rattle.std.proofs.lemmas.Slice.Eq.{ends_is}
use Rattle.jr_code.proofs.Stacks.{kinds_decide, last_is_top, top_is_last}
use Rattle.jr_code.proofs.kinds.Kinds.take.Goals as goal

pub returns-then-not-ends_with : goal.returns-then-not-ends_with
returns-then-not-ends_with c = λ other e.
    let items = c.as_slice.result.now in
    let last : items ≡ reverse other ++ c.args.kinds.now =
    top_is_last items other c.args.kinds.now (ap reverse c.as_slice.ensures.value ∙ c.self.view_is ∙ e) in
    let found : c.ends_with.result ≡ true = (ends_is kinds_decide items c.args.kinds.now c.ends_with.result c.ends_with.ensures.value).1 (reverse other) last in
    let h = c.if-not-ends_with.true in
    absurd (cc)

pub returns : goal.returns
returns c =
    let items = c.as_slice.result.now in
    let ks = c.args.kinds.now in
    let last : items ≡ take (length items - length ks) items ++ ks =
    (ends_is kinds_decide items ks c.ends_with.result c.ends_with.ensures.value).0 c.if-not-ends_with.false in
    let same : c.self.inside.kinds.items ≡ items = sym c.as_slice.ensures.value in
    let size : c.len.result ≡ length items = c.len.ensures ∙ sym c.as_slice.ensures.len in
    let left : c.truncate.new.self.items ≡ take (length items - length ks) items =
    c.truncate.ensures.items ∙ ap (λ n. take (n - length ks) c.self.inside.kinds.items) size ∙ ap (take (length items - length ks)) same in
    sym c.self.view_is ∙ ap reverse same ∙ last_is_top items c.truncate.new.self.items ks (last ∙ ap (λ f. f ++ ks) (sym left))
