use Rattle.std.proofs.Common.{List, ℕ, ◌≡◌, sym, ap, subst, ◌∙◌}
use Rattle.std.specs.Prelude.{Ok}
use Rattle.std.proofs.lemmas.Option.{same_Some, none-some}
use Rattle.x509_der.specs.Arcs.{AreArcs, content_of, dotted}
use Rattle.x509_der.specs.ObjectIdentifier.{arcs_of}
use Rattle.x509_der.specs.ArcLaws.{some_arcs, few_arcs, small_arcs, content_of-passes, content_of-arcs_of, arcs_of-content_of}
use Rattle.x509_der.proofs.oid.identifier.ObjectIdentifier.new.Goals as goal

pub returns-in_default-clause-value : goal.returns-in_default-clause-value
returns-in_default-clause-value c = λ arcs h is. absurd (none-some arcs (c.in_default.ensures.only arcs (some_arcs arcs h) (few_arcs arcs h) (small_arcs arcs h) is))

pub returns-in_default-of_arcs-clause-value : goal.returns-in_default-of_arcs-clause-value
returns-in_default-of_arcs-clause-value c = λ arcs h is.
    let read : c.in-Some.arcs ≡ arcs = same_Some c.in-Some.arcs arcs (c.in-Some.ensures.only arcs (some_arcs arcs h) (few_arcs arcs h) (small_arcs arcs h) is) in
    let now : c.as_slice.result.now ≡ arcs = c.as_slice.ensures ∙ read in
    absurd (none-some (content_of c.as_slice.result.now) (c.in_default-of_arcs.ensures.only (subst AreArcs (sym now) h)))

pub from_checked-requires : goal.from_checked-requires
from_checked-requires c =
    let found = c.in-Some-of_arcs.ensures.found in
    rw (c.as_slice-2.ensures ∙ found.1) (content_of-passes c.as_slice.result.now found.0)

pub returns-clause-value : goal.returns-clause-value
returns-clause-value c = λ arcs h is.
    let read : c.in-Some.arcs ≡ arcs = same_Some c.in-Some.arcs arcs (c.in-Some.ensures.only arcs (some_arcs arcs h) (few_arcs arcs h) (small_arcs arcs h) is) in
    let now : c.as_slice.result.now ≡ arcs = c.as_slice.ensures ∙ read in
    ap (λ (xs : List ℕ). Ok xs) (c.from_checked.ensures ∙ c.as_slice-2.ensures ∙ c.in-Some-of_arcs.ensures.found.1 ∙ ap content_of now)

pub returns-in_default-clause-written : goal.returns-in_default-clause-written
returns-in_default-clause-written c = λ content passes is.
    let made = content_of-arcs_of content passes in
    returns-in_default-clause-value c (arcs_of content) made.0 is ∙ ap (λ (xs : List ℕ). Ok xs) made.1

pub returns-in_default-of_arcs-clause-written : goal.returns-in_default-of_arcs-clause-written
returns-in_default-of_arcs-clause-written c = λ content passes is.
    let made = content_of-arcs_of content passes in
    returns-in_default-of_arcs-clause-value c (arcs_of content) made.0 is ∙ ap (λ (xs : List ℕ). Ok xs) made.1

pub returns-clause-written : goal.returns-clause-written
returns-clause-written c = λ content passes is.
    let made = content_of-arcs_of content passes in
    returns-clause-value c (arcs_of content) made.0 is ∙ ap (λ (xs : List ℕ). Ok xs) made.1

pub returns-clause-writes : goal.returns-clause-writes
returns-clause-writes c =
    let found = c.in-Some-of_arcs.ensures.found in
    let content : c.from_checked.result ≡ content_of c.as_slice.result.now = c.from_checked.ensures ∙ c.as_slice-2.ensures ∙ found.1 in
    let again : arcs_of c.from_checked.result ≡ c.in-Some.arcs = ap arcs_of content ∙ arcs_of-content_of c.as_slice.result.now found.0.begin ∙ c.as_slice.ensures in
    c.in-Some.ensures.found.2 ∙ ap dotted (sym again)
