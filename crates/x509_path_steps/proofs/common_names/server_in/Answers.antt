use Rattle.std.proofs.Common.{◌≡◌, ◌∙◌, ap, subst, sym, true}
use Rattle.x509_host.specs.Host.{is_host_or_wildcard}
use Rattle.x509_path_steps.proofs.CommonNames.{no_server}
use Rattle.x509_path_steps.proofs.common_names.server_in.Goals as goal
use Rattle.x509_path_steps.specs.CommonNames.{IsServerText}

pub returns-then-not-is_host_or_wildcard : goal.returns-then-not-is_host_or_wildcard
returns-then-not-is_host_or_wildcard c =
    no_server c.args.text.now c.in_default.ensures (ap is_host_or_wildcard (sym c.without_root-host.ensures) ∙ (sym c.is_host_or_wildcard.ensures ∙ c.if-not-is_host_or_wildcard.true))

pub returns : goal.returns
returns c =
    let is_host : is_host_or_wildcard c.without_root-host.result.now ≡ true = sym c.is_host_or_wildcard.ensures ∙ c.if-not-is_host_or_wildcard.false in
    subst (IsServerText c.args.text.now) (sym c.in_ok-name-2.ensures) (c.in_default.ensures, (c.without_root-host.ensures, is_host))
