use Rattle.std.proofs.Common.{◌<◌, ◌≤◌, ◌∙◌, ap, arith, inl, inr, length, refl, subst, take}
use Rattle.std.proofs.lemmas.Bool.Decides.{nat_tests}
use Rattle.x509_base.specs.Checked.{CheckRefuses}
use Rattle.x509_base.specs.Profiles.{rfc5280_serial_number}
use Rattle.x509_base.specs.declared.profile.Rfc5280.{Rfc5280}
use Rattle.x509_c_calls.proofs.CrlIndexes.{as_many, refused_by}
use Rattle.x509_c_calls.proofs.Parts.{is_sequence}
use Rattle.x509_c_calls.proofs.Refusals.{memory_is, never_memory}
use Rattle.x509_c_calls.proofs.Walks.{content_fits}
use Rattle.x509_c_calls.specs.CrlIndexes.{Indexes}
use Rattle.x509_c_calls.specs.FoundEntry.{entry_octets}
use Rattle.x509_check.specs.CrlRefs.{entry_list}
use Rattle.x509_crl_index.specs.Places.{IsIndex}
use Rattle.x509_c_calls.proofs.crl.index.crl_index.Goals as goal

pub put_index-requires : goal.put_index-requires
put_index-requires c =
    let list = c.in_default.ensures.found in
    let same = c.content_of.ensures 48 (entry_octets list.0) is_sequence list.1.1 in
    omega (arith, ap length same, content_fits c.args.input.now (entry_octets list.0) 48 list.1.1, list.1.2)

pub returns-then-written-index-clause-indexes : goal.returns-then-written-index-clause-indexes
unfolding Indexes
returns-then-written-index-clause-indexes c =
    let list = c.in_default.ensures.found in
    let same = c.content_of.ensures 48 (entry_octets list.0) is_sequence list.1.1 in
    let count = c.put_index.ensures.count ∙ as_many c.content_of.result.now c.args.input.now list.0 same list.1 in
    let less : length c.args.index.now < c.put_index.result = grind (arith, nat_tests) in
    (list.0, list.1, count, less, c.put_index.ensures.unchanged less)

pub returns-clause-indexes : goal.returns-clause-indexes
unfolding Indexes
returns-clause-indexes c =
    let list = c.in_default.ensures.found in
    let same = c.content_of.ensures 48 (entry_octets list.0) is_sequence list.1.1 in
    let count = c.put_index.ensures.count ∙ as_many c.content_of.result.now c.args.input.now list.0 same list.1 in
    let fits : c.put_index.result ≤ length c.args.index.now = grind (arith, nat_tests) in
    let fits_new : c.put_index.result ≤ length c.put_index.new.index = grind (arith, nat_tests) in
    (list.0, (list.1, subst (λ octets. IsIndex octets (take c.put_index.result c.put_index.new.index)) same (c.put_index.ensures.put fits)), count, fits_new)

pub returns-in-Err-clause-indexes : goal.returns-in-Err-clause-indexes
unfolding Indexes
returns-in-Err-clause-indexes c =
    let e = c.in-Err.ensures in
    rw c.into.ensures (refused_by (CheckRefuses rfc5280_serial_number) (entry_list {P = Rfc5280} rfc5280_serial_number) c.args.input.now c.in-Err.e.kind e.overlength e.refused e.every e.which, refl, refl)

pub returns-in-Err-clause-memory : goal.returns-in-Err-clause-memory
returns-in-Err-clause-memory c = λ memory.
    elim (memory_is {W = ⊥} (CheckRefuses rfc5280_serial_number) c.in-Err.e.kind _ (length c.args.input.now) c.into.ensures c.in-Err.ensures.overlength (λ within. inr (c.in-Err.ensures.refused within)) memory) [
      | inl none ↦ none
      | inr refuses ↦ never_memory refuses
    ]
