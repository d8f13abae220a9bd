use Rattle.std.proofs.Common.{◌∙◌, Bor, List, ℕ, ap, subst, sym}
use Rattle.std.proofs.lemmas.Bool.{not-false, not-true}
use Rattle.std.specs.Prelude.{bytes_eq}
use Rattle.x509_der.specs.Any.{any}
use Rattle.x509_path_steps.proofs.WorkingKeys.{held_oid, left_other, left_same, no_parameters, own_parameters}
use Rattle.x509_path_steps.proofs.above.Above.left_to.Goals as goal
use Rattle.x509_path_steps.specs.Inputs.{SpellsOption}
use Rattle.x509_path_steps.specs.Keys.{parameters_of}

pub returns-then-is_some : goal.returns-then-is_some
returns-then-is_some c = λ above key holds spells.
    own_parameters c.algorithm_of.result.1 above key (parameters_of key) (sym c.is_some.ensures ∙ c.if-is_some.true) (c.algorithm_of.ensures key spells).1

pub returns-then-ne : goal.returns-then-ne
returns-then-ne c = λ above key holds spells.
    let said = c.algorithm_of.ensures key spells in
    let over = (c.algorithm_of-2.ensures holds.own holds.spells).0 ∙ sym (held_oid c.args.self.now above holds) in
    left_other above key (no_parameters c.algorithm_of.result.1 (parameters_of key) (sym c.is_some.ensures ∙ c.if-is_some.false) said.1)
    (ap (λ oid. bytes_eq oid above.algorithm.oid) (sym said.0) ∙ ap (bytes_eq c.algorithm_of.result.0.now) (sym over) ∙ not-true _ (sym c.ne.ensures ∙ c.if-ne.true))

pub returns : goal.returns
returns c = λ above key holds spells.
    let said = c.algorithm_of.ensures key spells in
    let over = (c.algorithm_of-2.ensures holds.own holds.spells).0 ∙ sym (held_oid c.args.self.now above holds) in
    let same = left_same above key (no_parameters c.algorithm_of.result.1 (parameters_of key) (sym c.is_some.ensures ∙ c.if-is_some.false) said.1)
    (ap (λ oid. bytes_eq oid above.algorithm.oid) (sym said.0) ∙ ap (bytes_eq c.algorithm_of.result.0.now) (sym over) ∙ not-false _ (sym c.ne.ensures ∙ c.if-ne.false)) in
    subst (λ p. SpellsOption (λ (lent : Bor (List ℕ)). lent.now) any c.parameters.result p) (sym same) (c.parameters.ensures above holds)
