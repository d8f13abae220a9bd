use Rattle.std.proofs.Common.{◌≡◌, map, take, ◌++◌, ◌∷◌, [], ◌+◌, length}
use Rattle.x509_path_steps.specs.Inputs.{Inputs, LendsInputs}
use Rattle.x509_validation.proofs.Stepping.{Passed}
use Rattle.x509_validation.proofs.validate.walk_down.Given as goal
use Rattle.x509_validation.specs.Judging.{Carries}

-- what was passed so far, and what is carried on
abbrev pub invariant-loop-index : goal.invariant-loop-index
invariant-loop-index g l =
    (inputs : Inputs) → LendsInputs l.fn.trusted l.fn.settings inputs → Carries inputs (length l.front + 1) [] l.fn.policies
    → Passed (g.S.Trust.accepts l.validator.signatures.now) inputs (map (λ input. input.now) l.front ++ l.last ∷ []) l.index l.validator.moment l.above l.max_path_length l.sets l.state
    × (map (λ certificate. certificate.bytes.now) l.certificates.items ≡ map (λ input. input.now) (take l.index l.front))
