use Rattle.std.proofs.Common.{Bor, List, ℕ, subst, sym}
use Rattle.x509_der.specs.Any.{any}
use Rattle.x509_path_steps.proofs.WorkingKeys.{none_held, some_held}
use Rattle.x509_path_steps.proofs.above.Above.parameters.Goals as goal
use Rattle.x509_path_steps.specs.Inputs.{SpellsOption}
use Rattle.x509_path_steps.specs.Keys.{parameters_of}

pub returns-in-Some : goal.returns-in-Some
returns-in-Some c = λ key holds. some_held c.args.self.now key c.in-Some.parameters c.in-Some.is holds

pub returns-in-None : goal.returns-in-None
returns-in-None c = λ key holds.
    subst (λ k. SpellsOption (λ (lent : Bor (List ℕ)). lent.now) any c.algorithm_of.result.1 (parameters_of k)) (sym (none_held c.args.self.now key c.in-None.is holds)) (c.algorithm_of.ensures holds.own holds.spells).1
