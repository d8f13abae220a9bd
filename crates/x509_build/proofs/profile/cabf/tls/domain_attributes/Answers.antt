use Rattle.std.proofs.Common.{arith}
use Rattle.x509_build.proofs.DomainFacts.{all_attributes, kept_is_set, set_of_kept}
use Rattle.x509_build.proofs.profile.cabf.tls.domain_attributes.Goals as goal

-- what is kept is a set as it stands
pub returns-clause-ok : goal.returns-clause-ok
returns-clause-ok c =
    let members = c.as_slice-attributes.ensures.members in
    let is = all_attributes c.as_slice-attributes.result.now c.args.rdn.now c.loop-attribute.kept.items c.loop-attribute.attribute-index c.loop-attribute.invariant c.loop-attribute-test.false members in
    set_of_kept c.args.rdn.now c.loop-attribute.kept.items is c.as_slice-attributes.ensures.sorted c.attributes_make_the_rdn.ensures c.try_from_vec.result c.try_from_vec.ensures.ok

pub returns-clause-err : goal.returns-clause-err
returns-clause-err c =
    let members = c.as_slice-attributes.ensures.members in
    let is = all_attributes c.as_slice-attributes.result.now c.args.rdn.now c.loop-attribute.kept.items c.loop-attribute.attribute-index c.loop-attribute.invariant c.loop-attribute-test.false members in
    kept_is_set c.args.rdn.now c.loop-attribute.kept.items is c.as_slice-attributes.ensures.sorted c.try_from_vec.result c.try_from_vec.ensures.err
