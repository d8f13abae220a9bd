use Rattle.std.proofs.Common.{inr}
use Rattle.x509_c_calls.proofs.Filled.{refused_as, repeated_as, unrepeated_with}
use Rattle.x509_c_calls.proofs.Profiled.{made, made_of_none, made_repeated, made_unbuilt}
use Rattle.x509_c_calls.proofs.build.profile.fill_part.Goals as goal

pub returns-in-Err : goal.returns-in-Err
returns-in-Err g c = refused_as _ _ _ _ (inr (made_of_none _ _ _ _ c.in-Err.is))

pub returns-in-Ok-Some : goal.returns-in-Ok-Some
returns-in-Ok-Some g c =
    let parts = rw c.in-Ok-Some.field-0-is at c.in-Ok-Some.ensures in
    unrepeated_with _ _ _ _ _ _ _ (rw c.as_slice.ensures.value (made _ _ _ _ c.in-Ok.is _ parts)) c.fill.ensures.left

pub returns-in-Ok-None : goal.returns-in-Ok-None
returns-in-Ok-None g c =
    let repeats = rw c.in-Ok-None.field-0-is at c.in-Ok-None.ensures in
    repeated_as _ _ _ (made_repeated _ _ _ _ c.in-Ok.is repeats)

pub returns-in-Err-profile_part : goal.returns-in-Err-profile_part
returns-in-Err-profile_part g c = refused_as _ _ _ _ (made_unbuilt _ _ _ _ c.in-Ok.is _ _ c.kind_of.ensures c.in-Err-profile_part.ensures)
