use Rattle.std.proofs.Common.{take}
use Rattle.std.specs.List.{All}
use Rattle.x509_path_steps.proofs.trusted_buf.may_all_be_left.Given as goal
use Rattle.x509_path_steps.specs.Trusts.{MayBeLeft}

abbrev pub invariant-loop-extension : goal.invariant-loop-extension
invariant-loop-extension l = All (λ e. MayBeLeft e) (take l.extension-index l.extensions)
