-- A list is put together without the signer, so it is refused for memory alone.
use Rattle.std.proofs.Common.{inr}
use Rattle.std.proofs.lemmas.Result.{IfErr-weaker}
use Rattle.x509_build.proofs.crl_builder.CrlBuilderBuilder.TheImpl.Goals as goal

pub assemble-tells : goal.assemble-tells
assemble-tells g c = record { ok = c.ensures.ok; err = IfErr-weaker c.result _ _ (λ e lacks. inr lacks) c.ensures.err }
