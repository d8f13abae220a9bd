use Rattle.std.proofs.Common.{◌≡◌, None, Some, sym, ap, subst, ◌∙◌}
use Rattle.std.specs.Option.{option_copied}
use Rattle.x509_host.proofs.Wildcards.{behind_first, first_is_label, split_label}
use Rattle.x509_host.specs.Host.{IsSame, behind_label}
use Rattle.x509_host.proofs.wildcard.is_wildcard_of.Goals as goal

pub returns-in_default-behind_label : goal.returns-in_default-behind_label
returns-in_default-behind_label c =
    let none : behind_label c.args.host.now ≡ None = sym c.behind_label.ensures ∙ ap option_copied c.in_default-behind_label.is in
    (λ h. absurd cc, λ w. absurd (let found = ap behind_label w.4 ∙ behind_first w.1 w.2 w.5 in cc))

pub returns : goal.returns
returns c =
    let others = c.in-Some-behind_label.others.now in
    let behind : behind_label c.args.host.now ≡ Some others = sym c.behind_label.ensures ∙ ap option_copied c.in-Some-behind_label.is in
    let split = split_label c.args.host.now others behind in (
      λ h. (c.in-Some.labels.now, split.first, others, c.in-Some.ensures, split.whole, first_is_label _ _ split c.requires, c.is_same.ensures.0 h),
      λ w.
          let labels : w.0 ≡ c.in-Some.labels.now = let a = sym w.3.0 ∙ c.in-Some.ensures.0 in cc in
          let found : behind_label c.args.host.now ≡ Some w.2 = ap behind_label w.4 ∙ behind_first w.1 w.2 w.5 in
          let same : w.2 ≡ others = let a = sym found ∙ behind in cc in
          c.is_same.ensures.1 (subst (λ x. IsSame x others) labels (subst (λ x. IsSame w.0 x) same w.6)),
    )
