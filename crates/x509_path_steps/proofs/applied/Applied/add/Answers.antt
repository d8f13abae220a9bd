use Rattle.std.proofs.Common.{true≢false}
use Rattle.x509_path_steps.proofs.applied.Applied.add.Goals as goal

pub returns : goal.returns
returns c applied holds = record { applied = c.in_ok-add.ensures.applied applied holds.applied; none = λ is. absurd (true≢false is) }
