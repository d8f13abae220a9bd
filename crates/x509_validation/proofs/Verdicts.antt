-- What is known of one certificate of a path that is validated.
use Rattle.std.proofs.Common.{◌≡◌, ◌↔◌, ℕ, Bool, false, List, Option, subst}
use Rattle.std.proofs.lemmas.List.Elements.{All-from_recursion}
use Rattle.std.specs.Bool.{IsTrue}
use Rattle.std.specs.List.{All}
use Rattle.x509_check.specs.declared.lent.extension.ExtensionRef.{ExtensionRef}
use Rattle.x509_ext.specs.declared.pkix.basic_constraints.BasicConstraints.{BasicConstraints}
use Rattle.x509_ext.specs.declared.pkix.name_constraints.NameConstraints.{NameConstraints}
use Rattle.x509_match.specs.Matching.{NamesMatch}
use Rattle.x509_path.specs.Certificates.{Certificate, IsSelfIssued, extensions_of}
use Rattle.x509_path.specs.Lent.{Lends, lent_extensions}
use Rattle.x509_path.specs.PathLength as lengths
use Rattle.x509_path_steps.specs.Steps.{AreConstraintsOf}
use Rattle.x509_path_steps.specs.Validation.{own_reasons}
use Rattle.x509_validation.specs.Judging.{IsOwn, Knows}

-- what is looked up among its extensions
pub knows_of : (bytes : List ℕ) (lent : List ExtensionRef) (is_last is_own : Bool) (c : Certificate) (basic : Option BasicConstraints) (names : Option NameConstraints) → Lends bytes c
    → lent_extensions lent ≡ extensions_of c → IsTrue is_own ↔ IsSelfIssued NamesMatch c → (is_last ≡ false → lengths.HasConstraints (lent_extensions lent) basic) → (is_last ≡ false → AreConstraintsOf c names)
    → Knows c bytes lent is_last is_own basic names
knows_of bytes lent is_last is_own c basic names lends same own of_basic of_names = record {
  lends = lends;
  extensions = same;
  own = own;
  limits = λ early. record { of_basic = subst (λ es. lengths.HasConstraints es basic) same (of_basic early); of_names = of_names early };
}

-- none of these reasons is one of policies
pub all_own : All IsOwn own_reasons
all_own = All-from_recursion IsOwn own_reasons (tt, (tt, (tt, (tt, (tt, (tt, (tt, (tt, (tt, (tt, (tt, (tt, (tt, (tt, (tt, tt)))))))))))))))
