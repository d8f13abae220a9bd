-- PrivateKeyUsagePeriod: not_before: [0]GeneralizedTime?, not_after: [1]GeneralizedTime? (X.509 9.2.2.5; its identifier:
-- RFC 5280 appendix A.2). No profile respells its times.
use Rattle.std.specs.Prelude.{Option, refl}
use Rattle.x509_base.specs.CivilTime.{CivilTime}
use Rattle.x509_base.specs.TimeForms.{generalized_time, generalized_time_lawful}
use Rattle.x509_der.specs.declared.error.ErrorKind.{ErrorKind}
use Rattle.x509_der.specs.Form.{Form, Contents, IsContents, universal}
use Rattle.x509_der.specs.Frames.{Part, implicit, optional, ◌⊗◌, fields}
use Rattle.x509_der.specs.PartRules.{part_rules}
use Rattle.x509_ext.specs.declared.pkix.private_key_usage_period.PrivateKeyUsagePeriod.{PrivateKeyUsagePeriod}
use Rattle.x509_der.specs.declared.tag.Tag.TheVariants.{Sequence}
use Rattle.x509_der.specs.Writing.{plain, writes}
use Rattle.x509_der.specs.Order.{Order, IsOrder}
use Rattle.x509_der.specs.PartOrder.{PartOrder, by_parts, by_optional, ◌⊕◌, plain_parts_ordered}
use Rattle.x509_der.specs.OrderRules.{order_rules}
use Rattle.x509_base.specs.TimeOrder.{as_times, generalized_time_ordered}
use Rattle.x509_base.specs.declared.time.Time.TheVariants.{GeneralTime}

unfoldable pub private_key_usage_period_fields : Part (Option CivilTime × Option CivilTime)
private_key_usage_period_fields = optional (implicit 0 generalized_time) ⊗ optional (implicit 1 generalized_time)

abbrev pub private_key_usage_period_contents : Contents PrivateKeyUsagePeriod
private_key_usage_period_contents = fields (λ p. (p.not_before, p.not_after)) (λ (not_before, not_after). record { not_before = not_before; not_after = not_after }) private_key_usage_period_fields

abbrev pub private_key_usage_period : Form PrivateKeyUsagePeriod
private_key_usage_period = universal Sequence private_key_usage_period_contents

pub private_key_usage_period_contents_lawful : {R : ErrorKind → Type 0} → IsContents R private_key_usage_period_contents
unfolding private_key_usage_period_fields
private_key_usage_period_contents_lawful = search (part_rules, generalized_time_lawful) depth 20

-- ---- the byte order

abbrev pub private_key_usage_period_cmp : PartOrder (Option CivilTime × Option CivilTime)
private_key_usage_period_cmp = by_optional (implicit 0 generalized_time) plain (as_times GeneralTime) ⊕ by_optional (implicit 1 generalized_time) plain (as_times GeneralTime)

abbrev pub private_key_usage_period_order : Order PrivateKeyUsagePeriod
private_key_usage_period_order = by_parts (λ p. (p.not_before, p.not_after)) private_key_usage_period_cmp

pub private_key_usage_period_ordered : IsOrder private_key_usage_period (writes plain) private_key_usage_period_order
unfolding private_key_usage_period_fields
private_key_usage_period_ordered = plain_parts_ordered Sequence _ _ private_key_usage_period_cmp (λ v. refl) refl (search (order_rules, generalized_time_ordered) depth 20)
