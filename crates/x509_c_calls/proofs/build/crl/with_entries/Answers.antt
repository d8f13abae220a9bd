use Rattle.std.proofs.Common.{◌≡◌, ◌∙◌, length, rules, vec_len}
use Rattle.std.proofs.lemmas.Result.{IfOk-weaker}
use Rattle.x509_c_calls.proofs.BuildEntries.{given_entries, some_stand}
use Rattle.x509_c_calls.proofs.build.crl.with_entries.Goals as goal

pub returns-clause-ok : goal.returns-clause-ok
returns-clause-ok c =
    let all = c.args.entries.items in
    let len : vec_len c.args.entries ≡ length all = search rules in
    IfOk-weaker c.with_certificates.result _ _
    (λ given h. given_entries c.args.builder given h.0 all c.into_iter.result c.requires (some_stand all _ c.is_empty.result len c.is_empty.ensures c.if-is_empty.false) c.into_iter.ensures.rest (c.into_iter.ensures.len ∙ len) h.1 h.2)
    c.with_certificates.ensures.ok
