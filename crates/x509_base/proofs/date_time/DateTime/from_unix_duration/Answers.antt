use Rattle.std.proofs.Common.{◌≡◌, ◌≤◌, ◌<◌, ◌^◌, ℕ, arith, pos, refl, ap, sym, ◌∙◌, Ok, true≢false}
use Rattle.std.proofs.lemmas.Int.{to_z_pos}
use Rattle.std.specs.Duration.{as_nanos}
use mir.Syntax.{w128}
use mir.Val.{to_z}
use Rattle.x509_base.proofs.MomentLemmas.{year_from_epoch, unix_seconds-shown, shown_is_date_time, in_range, shown_time-whole, in_range_only, range_in}
use Rattle.x509_base.specs.CivilTime.{whole_seconds}
use Rattle.x509_base.proofs.StandardFacts.{unix_seconds-last}
use Rattle.x509_base.proofs.date_time.DateTime.from_unix_duration.Goals as goal

-- the nanoseconds as the library takes them
nanos_of : (k n : ℕ) → k ≡ n → k < 2 ^ 127 → to_z w128 k ≡ pos n
nanos_of k n e small = to_z_pos w128 k small ∙ ap pos e

pub returns-in_default-clause-every : goal.returns-in_default-clause-every
returns-in_default-clause-every c d h e =
    let nanos = nanos_of c.as_nanos.result (as_nanos c.args.duration) c.as_nanos.ensures (omega arith) in
    let succeeds = rw nanos at c.in_default.ensures.succeeds in
    absurd (true≢false (sym (succeeds.1 (in_range d (as_nanos c.args.duration) h e))))

pub at-requires : goal.at-requires
at-requires c =
    let nanos = nanos_of c.as_nanos.result (as_nanos c.args.duration) c.as_nanos.ensures (omega arith) in
    year_from_epoch c.in-Ok.moment (as_nanos c.args.duration) (c.in-Ok.ensures.value ∙ nanos)

pub returns-clause-found : goal.returns-clause-found
returns-clause-found c =
    let nanos = nanos_of c.as_nanos.result (as_nanos c.args.duration) c.as_nanos.ensures (omega arith) in
    let is = c.in-Ok.ensures.value ∙ nanos in
    let low = year_from_epoch c.in-Ok.moment (as_nanos c.args.duration) is in
    rw c.at.ensures (shown_is_date_time c.in-Ok.moment low, unix_seconds-shown c.in-Ok.moment (as_nanos c.args.duration) is)

pub returns-clause-every : goal.returns-clause-every
returns-clause-every c d h e =
    let nanos = nanos_of c.as_nanos.result (as_nanos c.args.duration) c.as_nanos.ensures (omega arith) in
    ap Ok (c.at.ensures ∙ shown_time-whole c.in-Ok.moment (as_nanos c.args.duration) d (c.in-Ok.ensures.value ∙ nanos) h e)

pub returns-in_default-clause-succeeds : goal.returns-in_default-clause-succeeds
returns-in_default-clause-succeeds c =
    let nanos = nanos_of c.as_nanos.result (as_nanos c.args.duration) c.as_nanos.ensures (omega arith) in
    let succeeds = rw nanos at c.in_default.ensures.succeeds in
    let far = λ (near : whole_seconds c.args.duration ≤ 253_402_300_799). true≢false (sym (succeeds.1 (range_in (as_nanos c.args.duration) near))) in
    (λ ok. absurd (true≢false (sym ok)), λ near. absurd (far (rw unix_seconds-last at near)))

pub returns-clause-succeeds : goal.returns-clause-succeeds
returns-clause-succeeds c =
    let nanos = nanos_of c.as_nanos.result (as_nanos c.args.duration) c.as_nanos.ensures (omega arith) in
    let succeeds = rw nanos at c.in-Ok.ensures.succeeds in
    (λ _. rw unix_seconds-last (in_range_only (as_nanos c.args.duration) (succeeds.0 refl)), λ _. refl)
