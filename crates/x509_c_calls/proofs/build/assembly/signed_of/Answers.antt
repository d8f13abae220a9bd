use Rattle.std.proofs.Common.{◌⊎◌, inl, inr}
use Rattle.std.proofs.lemmas.Result.{err_from_is_err_and}
use Rattle.x509_c_calls.proofs.Wholes.{memory_alone}
use Rattle.x509_c_calls.proofs.build.assembly.signed_of.Goals as goal

-- without the limit, within which memory may be refused
narrowed : {A W B : Type 0} → (A × W) ⊎ B → A ⊎ B
narrowed (inl memory) = inl memory.0
narrowed (inr refused) = inr refused

pub returns-in_err-part : goal.returns-in_err-part
returns-in_err-part c =
    let p = err_from_is_err_and c.from_residual-in_err-part.result c.from_residual-in_err-part.ensures.1 in
    rw (p.1, p.2) (memory_alone (λ e. ⊥) _ _ _ c.in_ok-check_part.ensures.ok (narrowed c.in_err-part.ensures.found))
