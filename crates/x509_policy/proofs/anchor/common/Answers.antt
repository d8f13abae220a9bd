use Rattle.std.proofs.Common.{◌≡◌, ◌∙◌, ◌++◌, ap}
use Rattle.std.proofs.lemmas.List.{map-append}
use Rattle.x509_policy.specs.Edges.{asked}
use Rattle.x509_policy.specs.Values.{has}
use Rattle.x509_policy.specs.Views.{octets_of}
use Rattle.x509_policy.proofs.Merged.{common_right}
use Rattle.x509_policy.proofs.anchor.common.Goals as goal

pub returns : goal.returns
returns c =
    let user = octets_of c.args.user.now in
    let anchor = octets_of c.args.anchor.now in
    let of_user = c.new-of_user.result in
    let of_anchor = c.new-of_anchor.result in
    let one : has of_user ≡ has user = c.new-of_user.ensures.same ∙ ap (λ l. has (octets_of l)) c.in_ok-from_slice-2.ensures.items in
    let two : has of_anchor ≡ has anchor = c.new-of_anchor.ensures.same ∙ ap (λ l. has (octets_of l)) c.in_ok-from_slice.ensures.items in
    let own = c.in_ok-found.found.items in
    let others = c.in_ok-others.others.items in
    let all : octets_of c.append.new.self.items ≡ asked user (has of_anchor) ++ asked anchor (has of_user) =
    ap octets_of c.in_ok-append.ensures.items ∙ (map-append (λ p. p.now) own others
    ∙ (ap (λ l. l ++ octets_of others) c.in_ok-found.ensures ∙ ap (λ l. asked user (has of_anchor) ++ l) c.in_ok-others.ensures)) in
    common_right user anchor of_user of_anchor (octets_of c.into_vec.result.items) one two (ap has c.into_vec.ensures.same ∙ (c.new.ensures.same ∙ ap has all))
