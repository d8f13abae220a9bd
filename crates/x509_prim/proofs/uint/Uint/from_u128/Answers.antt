use Rattle.std.proofs.Common.{◌≡◌, List, [], ℕ, ◌<◌, ◌⊎◌, length, Result, Ok, Err, IfOk, IfErr, IsOkAnd, inl, inr, ap, ◌∙◌, arith}
use Rattle.x509_der.specs.declared.error.Error.{Error}
use Rattle.x509_der.specs.declared.error.ErrorKind.TheVariants as errors
use Rattle.x509_prim.specs.Integer.{with_sign, without_zeros}
use Rattle.x509_prim.proofs.NumberTypes.{number_content, length_content}
use Rattle.x509_prim.proofs.uint.Uint.from_u128.Goals as goal

-- sixteen octets are some, and their content has no more than 24
taken : (r : Result (List ℕ) Error) (octets content : List ℕ) → length octets ≡ 16 → with_sign (without_zeros octets) ≡ content
    → IfOk r (λ uint. uint ≡ with_sign (without_zeros octets))
    → IfErr r (λ e. ((e.kind ≡ errors.Memory) × (24 < length (with_sign (without_zeros octets)))) ⊎ ((e.kind ≡ errors.Value) × (octets ≡ [])))
    → IsOkAnd r (λ uint. uint ≡ content)
taken (Ok uint) octets content size is ok err = ok ∙ is
taken (Err e) octets content size is ok (inl long) = absurd (omega (arith, long.1, length_content octets))
taken (Err e) octets content size is ok (inr none) = absurd (omega (arith, ap length none.1))

pub returns : goal.returns
returns c =
    let is = ap (λ (octets : List ℕ). with_sign (without_zeros octets)) c.to_be_bytes.ensures ∙ number_content c.args.number (omega arith) in
    taken c.new.result c.to_be_bytes.result _ (omega arith) is c.new.ensures.ok c.new.ensures.err
