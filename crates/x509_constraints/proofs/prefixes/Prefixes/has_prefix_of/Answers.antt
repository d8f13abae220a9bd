use Rattle.std.proofs.Common.{◌≡◌, ◌+◌, ◌-◌, ◌/◌, ℕ, List, get_or, sym, ◌∙◌, subst, arith}
use Rattle.x509_constraints.specs.Prefixes.{AreApart}
use Rattle.x509_constraints.proofs.Search.{leftwards, ltb_not, none_left, one_left, rightwards}
use Rattle.x509_constraints.proofs.prefixes.Prefixes.has_prefix_of.Goals as goal

pub loop-high-preserved-then-is_at_most : goal.loop-high-preserved-then-is_at_most
loop-high-preserved-then-is_at_most c =
    let P : List (List ℕ) → Type 0 = λ keys. AreApart keys in
    let Q : List (List ℕ) → Type 0 = λ keys. c.index.result.now ≡ get_or keys (c.loop-high.low + (c.loop-high.high - c.loop-high.low) / 2) c.index.result.now in
    rightwards c.args.self.now c.args.key.now c.loop-high.low c.loop-high.high (c.loop-high.low + (c.loop-high.high - c.loop-high.low) / 2) c.index.result.now
    (subst P c.self.view_is c.self.invariant) c.loop-high.invariant (omega arith) (omega arith) (subst Q c.self.view_is c.index.ensures)
    (sym c.is_at_most.ensures ∙ c.if-is_at_most.true)

pub loop-high-preserved : goal.loop-high-preserved
loop-high-preserved c =
    let P : List (List ℕ) → Type 0 = λ keys. AreApart keys in
    let Q : List (List ℕ) → Type 0 = λ keys. c.index.result.now ≡ get_or keys (c.loop-high.low + (c.loop-high.high - c.loop-high.low) / 2) c.index.result.now in
    leftwards c.args.self.now c.args.key.now c.loop-high.low c.loop-high.high (c.loop-high.low + (c.loop-high.high - c.loop-high.low) / 2) c.index.result.now
    (subst P c.self.view_is c.self.invariant) c.loop-high.invariant (omega arith) (omega arith) (subst Q c.self.view_is c.index.ensures)
    (sym c.is_at_most.ensures ∙ c.if-is_at_most.false)

pub returns-then-low-high : goal.returns-then-low-high
returns-then-low-high c =
    let Q : List (List ℕ) → Type 0 = λ keys. c.index-then-low-high.result.now ≡ get_or keys c.loop-high.low c.index-then-low-high.result.now in
    c.begins_with.ensures ∙ one_left c.args.self.now c.args.key.now c.loop-high.low c.loop-high.high c.index-then-low-high.result.now c.loop-high.invariant
    c.loop-high-test.false c.if-low-high.true (subst Q c.self.view_is c.index-then-low-high.ensures)

pub returns-else-low-high : goal.returns-else-low-high
returns-else-low-high c =
    ltb_not _ _ c.if-low-high.false ∙ none_left c.args.self.now c.args.key.now c.loop-high.low c.loop-high.high c.loop-high.invariant c.if-low-high.false
