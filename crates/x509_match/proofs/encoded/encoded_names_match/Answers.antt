use Rattle.std.proofs.Common.{List, ℕ, refl, sym, subst, ◌∙◌}
use Rattle.std.specs.Cmp.Lexicographic.{bytes_decides}
use Rattle.x509_der.specs.Form.{Spells}
use Rattle.x509_match.proofs.KeysAgree.{names_match-refl}
use Rattle.x509_match.specs.Matching.{NamesMatch}
use Rattle.x509_name.specs.Names.{name}
use Rattle.x509_match.proofs.encoded.encoded_names_match.Goals as goal

pub returns-then-eq-clause-same : goal.returns-then-eq-clause-same
returns-then-eq-clause-same c x y p q =
    let octets = (bytes_decides c.args.a.now c.args.b.now).0 (sym c.eq.ensures ∙ c.if-eq.true) in
    let same = c.bytes_determine_the_name.ensures x y c.args.b.now (subst (λ (b : List ℕ). Spells name x b) octets p) q in
    (λ t. subst (NamesMatch x) same (names_match-refl x), λ m. refl)
