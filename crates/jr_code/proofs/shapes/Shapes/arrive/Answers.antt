use Rattle.std.proofs.Common.{◌≡◌, ◌+◌, ◌-◌, ◌++◌, length, take, drop, ap, ◌∙◌, refl, arith, rules, length-append}
use Rattle.jr_code.proofs.Stacks.{rest_whole}
use Rattle.jr_code.proofs.Places.{read_at, others_at, arrived, stays_within, shared_whole, shared_length}
use Rattle.jr_code.proofs.shapes.Shapes.arrive.Goals as goal

pub returns-then-are : goal.returns-then-are
returns-then-are c =
    let span = c.in-Some.span in
    let part = c.part.ensures ∙ ap (λ l. take span.count (drop span.first l)) c.as_slice.ensures.value in (
      read_at c.self.inside.kinds.items c.self.inside.places.items c.args.self.now c.self.view_is c.args.at c.index.result.now span c.part.result.now c.args.kinds.now
          c.requires c.index.ensures c.in-Some.is part (c.if-are.ensures.0 refl),
      refl,
    )

pub returns-in-Some : goal.returns-in-Some
returns-in-Some c =
    let span = c.in-Some.span in
    let part = c.part.ensures ∙ ap (λ l. take span.count (drop span.first l)) c.as_slice.ensures.value in
    others_at c.self.inside.kinds.items c.self.inside.places.items c.args.self.now c.self.view_is c.args.at c.index.result.now span c.part.result.now c.args.kinds.now
    c.requires c.index.ensures c.in-Some.is part (λ e. let h = c.if-are.ensures.1 e in search rules)

pub invariant_of-self-2 : goal.invariant_of-self-2
invariant_of-self-2 c =
    let new = c.as_slice-more.result.now in
    let s = rw c.as_slice-2.ensures.value at c.shared-known.ensures in
    let length_of_front = shared_length c.self.inside.kinds.items new c.shared-known.result s in
    let grown : c.extend_from_slice.new.self.items ≡ c.self.inside.kinds.items ++ drop c.shared-known.result new =
    c.in_ok-extend_from_slice.ensures.items ∙ ap (λ l. c.self.inside.kinds.items ++ l) (rest_whole c.shared-known.result new) in
    let whole : c.extend_from_slice.new.self.items ≡ s.front ++ new =
    grown ∙ shared_whole c.self.inside.kinds.items new c.shared-known.result s in
    let size : length c.extend_from_slice.new.self.items ≡ length s.front + length new = ap length whole ∙ length-append s.front new in
    let first : c.len.result ≡ length c.self.inside.kinds.items = omega (arith, c.self.inside.kinds.ok.0) in
    stays_within c.self.inside.kinds.items (drop c.shared-known.result new) c.extend_from_slice.new.self.items c.self.inside.places.items c.args.at
    (record { first = c.len.result - c.shared-known.result; count = length new }) c.self.invariant grown (omega arith)

pub returns : goal.returns
returns c =
    let new = c.as_slice-more.result.now in
    let s = rw c.as_slice-2.ensures.value at c.shared-known.ensures in
    let length_of_front = shared_length c.self.inside.kinds.items new c.shared-known.result s in
    let grown : c.extend_from_slice.new.self.items ≡ c.self.inside.kinds.items ++ drop c.shared-known.result new =
    c.in_ok-extend_from_slice.ensures.items ∙ ap (λ l. c.self.inside.kinds.items ++ l) (rest_whole c.shared-known.result new) in
    let whole : c.extend_from_slice.new.self.items ≡ s.front ++ new =
    grown ∙ shared_whole c.self.inside.kinds.items new c.shared-known.result s in
    let first : c.len.result - c.shared-known.result ≡ length s.front = omega (arith, c.self.inside.kinds.ok.0) in
    arrived c.self.inside.kinds.items c.self.inside.places.items c.args.self.now c.self.view_is (drop c.shared-known.result new) c.extend_from_slice.new.self.items s.front new
    c.args.kinds.now c.args.at c.index.result.now (record { first = c.len.result - c.shared-known.result; count = length new }) c.self.invariant c.requires c.index.ensures
    c.in_default.is grown whole first refl c.as_slice-more.ensures
