use Rattle.std.proofs.Common.{◌≡◌, ◌∙◌, ℕ, List, [], Bor, get_or, map, refl, sym, subst}
use Rattle.std.proofs.lemmas.Bool.{true≢false}
use Rattle.std.proofs.lemmas.List.Elements.{Contains-get_or}
use Rattle.std.specs.Cmp.Lexicographic.{bytes_decides}
use Rattle.std.specs.List.{Contains}
use Rattle.x509_verify.proofs.Keys.{each_element, each_further, from_map, to_map}
use Rattle.x509_verify.proofs.search.is_in.Goals as goal

-- what a read of a list of slices answers behind its end
abbrev nothing : Bor (List ℕ)
nothing = record { ref_ptr = (0, 0); now = [] }

pub loop-one-preserved : goal.loop-one-preserved
loop-one-preserved c =
    each_further (λ one. one.now ≡ c.args.bytes.now → ⊥) c.args.path.now c.loop-one.one-index nothing c.loop-one-test.true c.loop-one.invariant
    (λ is. true≢false (sym ((bytes_decides _ _).1 is) ∙ sym c.eq.ensures ∙ c.if-eq.false))

pub returns-then-eq : goal.returns-then-eq
returns-then-eq c =
    let one = get_or c.args.path.now c.loop-one.one-index nothing in
    let is = (bytes_decides one.now c.args.bytes.now).0 (sym c.eq.ensures ∙ c.if-eq.true) in (
      (λ yes. subst (λ b. Contains (map (λ (lent : Bor (List ℕ)). lent.now) c.args.path.now) b) is (to_map (λ (lent : Bor (List ℕ)). lent.now) c.args.path.now one (Contains-get_or c.args.path.now c.loop-one.one-index nothing c.loop-one-test.true))),
      (λ among. refl),
    )

pub returns : goal.returns
returns c = (
  (λ no. absurd (true≢false (sym no))),
  (λ among.
      let (one, there, is) = from_map (λ (lent : Bor (List ℕ)). lent.now) c.args.path.now c.args.bytes.now among in
      absurd (each_element (λ lent. lent.now ≡ c.args.bytes.now → ⊥) c.args.path.now c.loop-one.one-index c.loop-one-test.false c.loop-one.invariant one there is)),
)
