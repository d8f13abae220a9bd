use Rattle.std.proofs.Common.{◌≡◌, ◌∙◌, List, ℕ}
use Rattle.std.specs.declared.cmp.Ordering.{Ordering}
use Rattle.x509_der.specs.Order.{bytes_cmp}
use Rattle.x509_base.specs.TimeOrder.{HasContent, utc_time_has, generalized_time_has, compared_contents, time_order}
use Rattle.x509_base.specs.declared.time.Time.{Time}
use Rattle.x509_base.specs.declared.time.Time.TheVariants.{UtcTime, GeneralTime}
use Rattle.x509_base.proofs.time.TimeValueOrd.value_cmp.Goals as goal

told : (t u x y : Time) (a b : List ℕ) (o : Ordering) → t ≡ x → u ≡ y → HasContent x a → HasContent y b → o ≡ bytes_cmp a b → o ≡ time_order t u
told t u x y a b o p q g h e = rw (p, q) (e ∙ compared_contents x y a b g h)

pub returns-in-UtcTime-UtcTime : goal.returns-in-UtcTime-UtcTime
returns-in-UtcTime-UtcTime c =
    told c.args.self.now c.args.other.now (UtcTime c.in-UtcTime-UtcTime.a) (UtcTime c.in-UtcTime-UtcTime.b) c.content.result c.content-in-UtcTime-UtcTime.result c.cmp.result c.in-UtcTime-UtcTime.is-0 c.in-UtcTime-UtcTime.is-1
    (utc_time_has c.in-UtcTime-UtcTime.a c.content.result c.content.ensures.good c.content.ensures.octets)
    (utc_time_has c.in-UtcTime-UtcTime.b c.content-in-UtcTime-UtcTime.result c.content-in-UtcTime-UtcTime.ensures.good c.content-in-UtcTime-UtcTime.ensures.octets) c.cmp.ensures

pub returns-in-UtcTime-GeneralTime : goal.returns-in-UtcTime-GeneralTime
returns-in-UtcTime-GeneralTime c =
    told c.args.self.now c.args.other.now (UtcTime c.in-UtcTime-GeneralTime.a) (GeneralTime c.in-UtcTime-GeneralTime.b) c.as_slice.result.now c.as_slice-in-UtcTime-GeneralTime.result.now c.cmp-in-UtcTime-GeneralTime.result c.in-UtcTime-GeneralTime.is-0 c.in-UtcTime-GeneralTime.is-1
    (utc_time_has c.in-UtcTime-GeneralTime.a c.as_slice.result.now c.content-in-UtcTime-GeneralTime.ensures.good (c.as_slice.ensures ∙ c.content-in-UtcTime-GeneralTime.ensures.octets))
    (generalized_time_has c.in-UtcTime-GeneralTime.b c.as_slice-in-UtcTime-GeneralTime.result.now c.content-in-UtcTime-GeneralTime-2.ensures.good (c.as_slice-in-UtcTime-GeneralTime.ensures ∙ c.content-in-UtcTime-GeneralTime-2.ensures.octets)) c.cmp-in-UtcTime-GeneralTime.ensures

pub returns-in-GeneralTime-UtcTime : goal.returns-in-GeneralTime-UtcTime
returns-in-GeneralTime-UtcTime c =
    told c.args.self.now c.args.other.now (GeneralTime c.in-GeneralTime-UtcTime.a) (UtcTime c.in-GeneralTime-UtcTime.b) c.as_slice-in-GeneralTime-UtcTime.result.now c.as_slice-in-GeneralTime-UtcTime-2.result.now c.cmp-in-GeneralTime-UtcTime.result c.in-GeneralTime-UtcTime.is-0 c.in-GeneralTime-UtcTime.is-1
    (generalized_time_has c.in-GeneralTime-UtcTime.a c.as_slice-in-GeneralTime-UtcTime.result.now c.content-in-GeneralTime-UtcTime.ensures.good (c.as_slice-in-GeneralTime-UtcTime.ensures ∙ c.content-in-GeneralTime-UtcTime.ensures.octets))
    (utc_time_has c.in-GeneralTime-UtcTime.b c.as_slice-in-GeneralTime-UtcTime-2.result.now c.content-in-GeneralTime-UtcTime-2.ensures.good (c.as_slice-in-GeneralTime-UtcTime-2.ensures ∙ c.content-in-GeneralTime-UtcTime-2.ensures.octets)) c.cmp-in-GeneralTime-UtcTime.ensures

pub returns-in-GeneralTime-GeneralTime : goal.returns-in-GeneralTime-GeneralTime
returns-in-GeneralTime-GeneralTime c =
    told c.args.self.now c.args.other.now (GeneralTime c.in-GeneralTime-GeneralTime.a) (GeneralTime c.in-GeneralTime-GeneralTime.b) c.content-in-GeneralTime-GeneralTime.result c.content-in-GeneralTime-GeneralTime-2.result c.cmp-in-GeneralTime-GeneralTime.result c.in-GeneralTime-GeneralTime.is-0 c.in-GeneralTime-GeneralTime.is-1
    (generalized_time_has c.in-GeneralTime-GeneralTime.a c.content-in-GeneralTime-GeneralTime.result c.content-in-GeneralTime-GeneralTime.ensures.good c.content-in-GeneralTime-GeneralTime.ensures.octets)
    (generalized_time_has c.in-GeneralTime-GeneralTime.b c.content-in-GeneralTime-GeneralTime-2.result c.content-in-GeneralTime-GeneralTime-2.ensures.good c.content-in-GeneralTime-GeneralTime-2.ensures.octets) c.cmp-in-GeneralTime-GeneralTime.ensures
