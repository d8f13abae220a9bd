use Rattle.std.proofs.Common.{List, ℕ, [], refl, sym, subst, ◌∙◌}
use Rattle.std.specs.Cmp.Lexicographic.{bytes_decides}
use Rattle.x509_der.specs.Form.{Spells}
use Rattle.x509_der.specs.TagLaws.{tag_is_identifier}
use Rattle.x509_der.specs.declared.tag.Tag.TheVariants.{Sequence}
use Rattle.x509_match.proofs.Fronts.{name_content}
use Rattle.x509_match.proofs.KeysAgree.{names_match-refl}
use Rattle.x509_match.specs.Matching.{NamesMatch}
use Rattle.x509_name.specs.Names.{name, rdn_list}
use Rattle.x509_match.proofs.checked.checked_names_match.Goals as goal

pub returns-then-eq-clause-same : goal.returns-then-eq-clause-same
returns-then-eq-clause-same c x y p q =
    let octets = (bytes_decides c.args.a.now c.args.b.now).0 (sym c.eq.ensures ∙ c.if-eq.true) in
    let same = c.bytes_determine_the_name.ensures x y c.args.b.now (subst (λ (b : List ℕ). Spells name x b) octets p) q in
    (λ t. subst (NamesMatch x) same (names_match-refl x), λ m. refl)

pub returns-clause-same : goal.returns-clause-same
returns-clause-same c = λ x y p q.
    let left = c.front_content.ensures.front 48 (rdn_list.octets x) [] (tag_is_identifier Sequence) (name_content _ x p) in
    let right = c.front_content-2.ensures.front 48 (rdn_list.octets y) [] (tag_is_identifier Sequence) (name_content _ y q) in
    c.lists_match.ensures.same x y (p.0, left.0) (q.0, right.0)

pub returns-clause-plain : goal.returns-clause-plain
returns-clause-plain c = λ x y p q plain others.
    let left = c.front_content.ensures.front 48 (rdn_list.octets x) [] (tag_is_identifier Sequence) (name_content _ x p) in
    let right = c.front_content-2.ensures.front 48 (rdn_list.octets y) [] (tag_is_identifier Sequence) (name_content _ y q) in
    c.lists_match.ensures.plain x y (p.0, left.0) (q.0, right.0) plain others
