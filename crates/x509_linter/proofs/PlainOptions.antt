-- Options that choose nothing, one after the other.
use Rattle.std.proofs.Common.{◌≡◌, ℕ, List, [], ◌∷◌, ◌++◌, sym, ◌∙◌, append_assoc, append-nil}
use Rattle.x509_linter.specs.Choice.{plain_option, plain_options}

-- what all options come to, where the first are taken and these are left
pub record PlainSo (whole plain rest : List (List ℕ)) : Type 0 where
  pub so : whole ≡ plain ++ plain_options rest

pub after_option : (whole plain : List (List ℕ)) (option : List ℕ) (rest : List (List ℕ)) → PlainSo whole plain (option ∷ rest) → PlainSo whole (plain ++ plain_option option) rest
after_option whole plain option rest h = record { so = h.so ∙ sym (append_assoc plain (plain_option option) (plain_options rest)) }

pub at_last : (whole plain : List (List ℕ)) → PlainSo whole plain [] → plain ≡ whole
at_last whole plain h = sym (h.so ∙ append-nil plain)
