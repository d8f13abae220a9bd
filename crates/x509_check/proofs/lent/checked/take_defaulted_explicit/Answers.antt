use Rattle.std.proofs.Common.{◌+◌, ◌∷◌, [], arith}
use Rattle.std.proofs.lemmas.Bool.Decides.{nat_tests}
use Rattle.std.proofs.lemmas.Result.{err_from_is_err_and}
use Rattle.x509_check.proofs.Checks.{among_one, not_among_one}
use Rattle.x509_check.proofs.LentFields.{default_left_out, optional_at_end, optional_left_out, other_is, other_refused_at}
use Rattle.x509_check.proofs.lent.checked.take_defaulted_explicit.Goals.{in_default-via-then-rest-lt1, in_default-via-in-len1-up+else-octet-n}
use Rattle.x509_der.specs.Form.{universal}
use Rattle.x509_der.specs.Frames.{explicit}
use Rattle.x509_check.proofs.lent.checked.take_defaulted_explicit.Goals as goal

pub returns-in_err-lent-in-len1-up-clause-exact : goal.returns-in_err-lent-in-len1-up-clause-exact
returns-in_err-lent-in-len1-up-clause-exact g c =
    let p = err_from_is_err_and c.from_residual.result c.from_residual.ensures.1 in
    rw (p.1, p.2) (other_refused_at g.T.DefaultValue.default _ _ _ _ c.in-len1-up.len_at_least (among_one _ _ c.if-octet-n.true) c.in_err-lent-in-len1-up.ensures.exact)

pub returns-in_ok-lent-in-len1-up-clause-exact : goal.returns-in_ok-lent-in-len1-up-clause-exact
returns-in_ok-lent-in-len1-up-clause-exact g c =
    let read = c.in_ok-lent-in-len1-up.ensures.exact in
    let found = other_is g.T.DefaultValue.default (universal g.T.Content.IDENTIFIER g.T.Content.contents) _ _ _ _ _ read.0 c.in-len1-up.len_at_least (among_one _ _ c.if-octet-n.true) read.1 read.2 in
    (read.0, found.0, found.1)

pub returns-in_default-clause-exact : goal.returns-in_default-clause-exact
returns-in_default-clause-exact g c =
    elim c.in_default.branch [
      | in_default-via-then-rest-lt1 w ↦ default_left_out g.T.DefaultValue.default g.met.T.DefaultValue.default_lawful (universal g.T.Content.IDENTIFIER g.T.Content.contents) ((160 + c.args.n) ∷ []) (explicit c.args.n (universal g.T.Content.IDENTIFIER g.T.Content.contents)).reading _ (optional_at_end _ _ _ (grind (arith, nat_tests)))
      | in_default-via-in-len1-up+else-octet-n w ↦ default_left_out g.T.DefaultValue.default g.met.T.DefaultValue.default_lawful (universal g.T.Content.IDENTIFIER g.T.Content.contents) ((160 + c.args.n) ∷ []) (explicit c.args.n (universal g.T.Content.IDENTIFIER g.T.Content.contents)).reading _ (optional_left_out _ _ _ (not_among_one _ _ w.if-octet-n.false))
    ]
