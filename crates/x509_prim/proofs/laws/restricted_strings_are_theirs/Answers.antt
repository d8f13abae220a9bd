use Rattle.x509_prim.proofs.laws.restricted_strings_are_theirs.Goals as goal

pub returns : goal.returns
returns c = record { printable = λ string bytes. (λ s. s, λ s. s); ia5 = λ string bytes. (λ s. s, λ s. s); visible = λ string bytes. (λ s. s, λ s. s); teletex = λ string bytes. (λ s. s, λ s. s) }
