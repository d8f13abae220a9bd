-- Validity: not_before: Time, not_after: Time (RFC 5280 4.1.2.5)
use Rattle.std.specs.Prelude.{Result, refl}
use Rattle.x509_der.specs.declared.error.ErrorKind.{ErrorKind}
use Rattle.x509_der.specs.declared.tag.Tag.TheVariants.{Sequence}
use Rattle.x509_der.specs.Form.{Form, IsForm, Contents, IsContents, universal}
use Rattle.x509_der.specs.FormLaws.{universal_lawful}
use Rattle.x509_der.specs.Writing.{Written, first, respelled, plain, writes, Writing}
use Rattle.x509_der.specs.Frames.{Part, required, ◌⊗◌, fields}
use Rattle.x509_der.specs.PartRules.{part_rules}
use Rattle.x509_base.specs.Time.{time, time_lawful}
use Rattle.x509_base.specs.declared.time.Time.{Time}
use Rattle.x509_base.specs.declared.validity.Validity.{Validity}
use Rattle.x509_der.specs.Order.{Order, IsOrder}
use Rattle.x509_der.specs.PartOrder.{PartOrder, by_parts, by_required, ◌⊕◌, parts_ordered}
use Rattle.x509_der.specs.OrderRules.{order_rules}
use Rattle.x509_base.specs.TimeOrder.{time_begins, time_order, time_ordered}

unfoldable pub validity_fields : Part (Time × Time)
validity_fields = required time ⊗ required time

abbrev pub validity_contents : {P : Type 0} → Contents (Validity P)
validity_contents = fields (λ v. (v.not_before, v.not_after)) (λ (not_before, not_after). record { not_before = not_before; not_after = not_after; profile = record {} }) validity_fields

abbrev pub validity : {P : Type 0} → Form (Validity P)
validity = universal Sequence validity_contents

pub validity_contents_lawful : {P : Type 0} {R : ErrorKind → Type 0} → IsContents R (validity_contents {P = P})
unfolding validity_fields
validity_contents_lawful = search (part_rules, time_lawful) depth 20

pub validity_lawful : {P : Type 0} {R : ErrorKind → Type 0} → IsForm R (validity {P = P})
validity_lawful = universal_lawful Sequence validity_contents validity_contents_lawful

-- each of the two dates as time_of answers it
abbrev pub respelled_validity : {P : Type 0} → (Time → Result Time ErrorKind) → Validity P → Written (Validity P)
respelled_validity time_of v = record {
  value = record {
    not_before = (respelled v.not_before (time_of v.not_before)).value;
    not_after = (respelled v.not_after (time_of v.not_after)).value;
    profile = v.profile;
  };
  refusal = first (respelled v.not_before (time_of v.not_before)).refusal (respelled v.not_after (time_of v.not_after)).refusal;
}

-- ---- the byte order

abbrev pub validity_cmp : PartOrder (Time × Time)
validity_cmp = by_required time plain time_order ⊕ by_required time plain time_order

abbrev pub validity_order : {P : Type 0} → Order (Validity P)
validity_order = by_parts (λ v. (v.not_before, v.not_after)) validity_cmp

pub validity_ordered : {P : Type 0} (writing : Writing (Validity P)) → IsOrder (validity {P = P}) (writes writing) validity_order
unfolding validity_fields
validity_ordered writing = parts_ordered Sequence _ _ validity_cmp writing (λ v. refl) (λ v e. refl) (search (order_rules, time_ordered, time_begins) depth 20)
