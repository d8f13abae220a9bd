use Rattle.std.proofs.Common.{◌≡◌, ◌<◌, length, arith}
use Rattle.std.proofs.lemmas.Bool.Decides.{nat_tests}
use Rattle.x509_der.specs.Form.{spelling}
use Rattle.x509_der.specs.List.{joined}
use Rattle.x509_der.specs.TagLaws.{tag_is_identifier}
use Rattle.x509_der.specs.declared.tag.Tag.TheVariants.{Set}
use Rattle.x509_match.proofs.Fronts.{has_rdn, behind_rdn, plain_rdn, rdns_end, rdns_empty, one_rdn_less, one_rdn_apart, one_is_longer, both_end, other_ends}
use Rattle.x509_name.specs.Names.{attribute_set, relative_distinguished_name}
use Rattle.x509_match.proofs.lent.lists_match.Goals as goal

pub returns-then-is_empty-clause-same : goal.returns-then-is_empty-clause-same
returns-then-is_empty-clause-same c = λ x y p q.
    let more : 0 < length c.loop-left.left.now = grind (arith, nat_tests) in
    let none : length c.loop-left.right.now ≡ 0 = grind (arith, nat_tests) in
    let k = c.loop-left.invariant.same x y p q in
    let s = has_rdn _ k.0 k.2 more in
    one_is_longer k.0 k.1 k.4 s.first s.behind s.are (rdns_end _ k.1 k.3 none)

pub returns-in_err-rdns_match-clause-plain : goal.returns-in_err-rdns_match-clause-plain
returns-in_err-rdns_match-clause-plain c = λ x y p q plain others.
    let more : 0 < length c.loop-left.left.now = grind (arith, nat_tests) in
    let some : 0 < length c.loop-left.right.now = grind (arith, nat_tests) in
    let k = c.loop-left.invariant.plain x y p q plain others in
    let s = has_rdn _ k.0 k.2 more in
    let t = has_rdn _ k.1 k.3 some in
    let f = c.front_content.ensures.front 49 (attribute_set.octets s.first) (joined (spelling relative_distinguished_name) s.behind) (tag_is_identifier Set) s.octets_are in
    let g = c.front_content-in-loop-left.ensures.front 49 (attribute_set.octets t.first) (joined (spelling relative_distinguished_name) t.behind) (tag_is_identifier Set) t.octets_are in
    absurd (let e = c.in_err-rdns_match.ensures.plain s.first t.first s.good t.good f.0 g.0 (plain_rdn _ k.0 k.2 more k.4).0 (plain_rdn _ k.1 k.3 some k.5).0 in cc)

pub returns-then-not-branch-clause-same : goal.returns-then-not-branch-clause-same
returns-then-not-branch-clause-same c = λ x y p q.
    let more : 0 < length c.loop-left.left.now = grind (arith, nat_tests) in
    let some : 0 < length c.loop-left.right.now = grind (arith, nat_tests) in
    let k = c.loop-left.invariant.same x y p q in
    let s = has_rdn _ k.0 k.2 more in
    let t = has_rdn _ k.1 k.3 some in
    let f = c.front_content.ensures.front 49 (attribute_set.octets s.first) (joined (spelling relative_distinguished_name) s.behind) (tag_is_identifier Set) s.octets_are in
    let g = c.front_content-in-loop-left.ensures.front 49 (attribute_set.octets t.first) (joined (spelling relative_distinguished_name) t.behind) (tag_is_identifier Set) t.octets_are in
    let same = c.in_ok-rdns_match.ensures.same s.first t.first s.good t.good f.0 g.0 in
    one_rdn_apart k.0 k.1 k.4 s.first t.first s.behind t.behind s.are t.are (λ h. let e = same.1 h in let n = c.if-not-branch.true in cc)

pub loop-left-preserved : goal.loop-left-preserved
loop-left-preserved c =
    let more : 0 < length c.loop-left.left.now = grind (arith, nat_tests) in
    let some : 0 < length c.loop-left.right.now = grind (arith, nat_tests) in record {
      same = λ x y p q.
          let k = c.loop-left.invariant.same x y p q in
          let s = has_rdn _ k.0 k.2 more in
          let t = has_rdn _ k.1 k.3 some in
          let f = c.front_content.ensures.front 49 (attribute_set.octets s.first) (joined (spelling relative_distinguished_name) s.behind) (tag_is_identifier Set) s.octets_are in
          let g = c.front_content-in-loop-left.ensures.front 49 (attribute_set.octets t.first) (joined (spelling relative_distinguished_name) t.behind) (tag_is_identifier Set) t.octets_are in
          let match = (c.in_ok-rdns_match.ensures.same s.first t.first s.good t.good f.0 g.0).0 (let n = c.if-not-branch.false in cc) in
          (s.behind, t.behind, behind_rdn _ _ k.0 k.2 more f.1, behind_rdn _ _ k.1 k.3 some g.1, one_rdn_less k.0 k.1 k.4 s.first t.first s.behind t.behind s.are t.are match);
      plain = λ x y p q plain others.
          let k = c.loop-left.invariant.plain x y p q plain others in
          let s = has_rdn _ k.0 k.2 more in
          let t = has_rdn _ k.1 k.3 some in
          let f = c.front_content.ensures.front 49 (attribute_set.octets s.first) (joined (spelling relative_distinguished_name) s.behind) (tag_is_identifier Set) s.octets_are in
          let g = c.front_content-in-loop-left.ensures.front 49 (attribute_set.octets t.first) (joined (spelling relative_distinguished_name) t.behind) (tag_is_identifier Set) t.octets_are in
          (s.behind, t.behind, behind_rdn _ _ k.0 k.2 more f.1, behind_rdn _ _ k.1 k.3 some g.1, (plain_rdn _ k.0 k.2 more k.4).1, (plain_rdn _ k.1 k.3 some k.5).1);
    }

pub returns-clause-same : goal.returns-clause-same
returns-clause-same c = λ x y p q.
    let none : length c.loop-left.left.now ≡ 0 = grind (arith, nat_tests) in
    let k = c.loop-left.invariant.same x y p q in
    let ends = rdns_end _ k.0 k.2 none in (
      λ t. let empty : length c.loop-left.right.now ≡ 0 = grind (arith, nat_tests) in both_end k.0 k.1 k.4 ends (rdns_end _ k.1 k.3 empty),
      λ w. let empty : length c.loop-left.right.now ≡ 0 = rdns_empty _ k.1 k.3 (other_ends k.0 k.1 k.4 w ends) in grind (arith, nat_tests),
    )
