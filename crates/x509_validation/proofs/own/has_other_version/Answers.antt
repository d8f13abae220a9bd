use Rattle.std.proofs.Common.{◌∙◌, ◌==◌, ap, length, not, sym}
use Rattle.std.proofs.lemmas.Bool.{eqb-true, true≢false}
use Rattle.std.proofs.lemmas.List.{nil_from_length}
use Rattle.x509_cert.specs.contracts.certificate.version.Version.{enum as versions}
use Rattle.x509_cert.specs.declared.certificate.version.Version.TheVariants.{V3}
use Rattle.x509_der.specs.Exact.{exact_bare}
use Rattle.x509_path.proofs.Lent.{differ}
use Rattle.x509_path.specs.Certificates.{extensions_of}
use Rattle.x509_validation.proofs.Versions.{none_lent}
use Rattle.x509_validation.proofs.own.has_other_version.Goals as goal

pub returns-then-not-is_empty : goal.returns-then-not-is_empty
returns-then-not-is_empty c = λ certificate lends same.
    let version = c.version.ensures certificate lends in
    let other = differ _ (exact_bare versions tt c.version.result V3) in
    let none = none_lent c.args.extensions.now (extensions_of certificate) same in (
      (λ is. (
        (λ empty. true≢false (sym (c.is_empty.ensures ∙ ap (λ refs. length refs == 0) (none.1 empty)) ∙ c.if-not-is_empty.true)),
        (λ third. other.0 (sym c.ne.ensures ∙ is) (version ∙ third)),
      )),
      (λ (some, apart). c.ne.ensures ∙ other.1 (λ third. apart (sym version ∙ third))),
    )

pub returns-else-not-is_empty : goal.returns-else-not-is_empty
returns-else-not-is_empty c = λ certificate lends same.
    let none = none_lent c.args.extensions.now (extensions_of certificate) same in
    let empty = nil_from_length c.args.extensions.now (eqb-true _ _ (sym c.is_empty.ensures ∙ c.if-not-is_empty.false)) in (
      (λ is. absurd (true≢false (sym is ∙ ap not c.if-not-is_empty.false))),
      (λ (some, apart). absurd (some (none.0 empty))),
    )
