-- What the bytes of two types of names may give.
use Rattle.std.specs.Prelude.{ℕ, List}
use Rattle.x509_der.specs.Writing.{plain}
use Rattle.x509_name.specs.Names.{rdn_sequence, relative_distinguished_name}
use Rattle.x509_types.specs.Reencoding.{Reencodes}
use Rattle.x509_types.specs.Table.{Answers}

unfoldable pub rdn_sequence_answers : List ℕ → Answers
rdn_sequence_answers = Reencodes rdn_sequence plain (λ _. ⊥)

unfoldable pub rdn_answers : List ℕ → Answers
rdn_answers = Reencodes relative_distinguished_name plain (λ _. ⊥)
