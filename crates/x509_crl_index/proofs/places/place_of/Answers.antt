use Rattle.std.proofs.Common.{◌∙◌, ap, arith, bytes_eq, rules, sym}
use Rattle.std.proofs.lemmas.List.{get_or_default}
use Rattle.std.proofs.lemmas.List.Sorted.{IsPartitionPoint-from_clause}
use Rattle.std.specs.Prelude.{None, Some}
use Rattle.x509_crl_index.proofs.Looking.{among_elements, first_has, is_below, none_has, parted}
use Rattle.x509_crl_index.specs.Places.{has_number}
use Rattle.x509_crl_index.proofs.places.place_of.Goals.{else-low-places-via-then-low-places+else-eq, else-low-places-via-else-low-places}
use Rattle.x509_crl_index.proofs.places.place_of.Goals as goal

pub returns-then-eq-clause-first : goal.returns-then-eq-clause-first
returns-then-eq-clause-first c = λ index.
    let octets = c.args.octets.now in
    let places = c.args.places.now in
    let number = c.args.number.now in
    let low = c.partition_point-low.result in
    let point = IsPartitionPoint-from_clause (is_below octets number places index.order) places low c.partition_point-low.ensures.partitioned (parted octets number places index.order) (λ a r f h. search rules) in
    among_elements octets number places index.same (Some _) (first_has octets number places index.order low point c.if-low-places.true 0 (ap (λ found. bytes_eq found number) (sym c.number_at.ensures) ∙ sym c.eq.ensures ∙ c.if-eq.true))

pub returns-clause-first : goal.returns-clause-first
returns-clause-first c = λ index.
    let octets = c.args.octets.now in
    let places = c.args.places.now in
    let number = c.args.number.now in
    let low = c.partition_point-low.result in
    let point = IsPartitionPoint-from_clause (is_below octets number places index.order) places low c.partition_point-low.ensures.partitioned (parted octets number places index.order) (λ a r f h. search rules) in
    among_elements octets number places index.same None (none_has octets number places index.order low point (λ d here.
    elim c.else-low-places.branch [
      | else-low-places-via-then-low-places+else-eq w ↦
          ap (has_number octets number) (get_or_default places low d 0 here) ∙ ap (λ found. bytes_eq found number) (sym w.number_at.ensures) ∙ sym w.eq.ensures ∙ w.if-eq.false
      | else-low-places-via-else-low-places w ↦ absurd (omega (arith, here, w.if-low-places.false))
    ]))
