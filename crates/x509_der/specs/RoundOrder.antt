-- The order of a type with one field is that of the value within.
use Rattle.std.specs.Ordering.{on}
use Rattle.std.proofs.Common.{sym, ◌∙◌, ap}
use Rattle.std.proofs.lemmas.Cmp.{on_total}
use Rattle.x509_der.specs.declared.tag.Tag.{Tag}
use Rattle.x509_der.specs.Tag.{octet_of}
use Rattle.x509_der.specs.Form.{Form, HasTag}
use Rattle.x509_der.specs.Round.{Round, rounded, round_writing, round_within, round_refusal}
use Rattle.x509_der.specs.Writing.{Writing, writes}
use Rattle.x509_der.specs.Order.{Order, IsOrder, HasEncoding}

-- by the values within
abbrev pub round_order : {X Y : Type 0} → Round Y X → Order X → Order Y
round_order round order = on round.to order

module _ {X Y : Type 0} (round : Round Y X) (tag : Tag) (form : Form X) (fixed : HasTag (octet_of tag) form) (writing : Writing X) where
  encoding_within : (y : Y) → HasEncoding (rounded round tag form) (writes (round_writing round writing)) y → HasEncoding form (writes writing) (round.to y)
  encoding_within y h =
      let value = sym (round_within round writing y) ∙ ap (λ written. round.to written.value) h.1 in
      let refusal = sym (round_refusal round writing y) ∙ ap (λ written. written.refusal) h.1 in
      (h.0, (λ i. record { value = value i; refusal = refusal i }), rw (fixed (round.to y)) h.2)

  pub round_ordered : (order : Order X) → IsOrder form (writes writing) order → IsOrder (rounded round tag form) (writes (round_writing round writing)) (round_order round order)
  round_ordered order h = record {
    total = on_total round.to h.total;
    agrees = λ x y p q. h.agrees (round.to x) (round.to y) (encoding_within x p) (encoding_within y q);
    exact = λ x y p e. sym (round.back x) ∙ ap round.from (h.exact (round.to x) (round.to y) (fixed (round.to x) ∙ sym (fixed (round.to y))) e) ∙ round.back y;
  }
