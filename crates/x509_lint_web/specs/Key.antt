-- The rules on public keys (TLS BR 6.1.1.3, 6.1.5, 6.1.6, 7.1.3.1).
use Rattle.std.specs.Prelude.{◌&&◌, ◌||◌, ◌==◌, ◌-◌, ◌%◌, ℕ, Bool, false, not, nat_lt, length, List, [], ◌∷◌, bytes_eq, codes, None}
use Rattle.std.specs.List.{slice_get}
use Rattle.x509_lint.specs.Words.{passes}
use Rattle.x509_lint_web.specs.Algorithm.{is_ec, is_null, is_rsa, names_curve}
use Rattle.x509_lint_web.specs.Factor.{has_small_factor}
use Rattle.x509_lint_web.specs.Words.{key_of}
use Rattle.x509_prim.specs.Integer.{without_zeros}
use Rattle.x509_lint_web.specs.Sentence.{Sentence, from_day, must, should}
use Rattle.x509_lint_web.specs.declared.values.WebValues.{WebValues}
use Rattle.x509_lint_web.specs.declared.rule.key.WebKeyRule.{WebKeyRule}
use Rattle.x509_lint_web.specs.declared.rule.key.WebKeyRule.TheVariants as rules

-- ---- the modulus and the exponent, by their octets without leading zeros

-- the first of two numbers passes the test
abbrev pub first_passes : (List ℕ → Bool) → List (List ℕ) → Bool
first_passes test (modulus ∷ exponent ∷ []) = test (without_zeros modulus)
first_passes test other = false

abbrev pub second_passes : (List ℕ → Bool) → List (List ℕ) → Bool
second_passes test (modulus ∷ exponent ∷ []) = test (without_zeros exponent)
second_passes test other = false

-- the key is an RSAPublicKey, and its modulus, or its exponent, passes the test
abbrev pub has_modulus : (List ℕ → Bool) → WebValues → Bool
has_modulus test v = passes (first_passes test) v.rsa_numbers

abbrev pub has_exponent : (List ℕ → Bool) → WebValues → Bool
has_exponent test v = passes (second_passes test) v.rsa_numbers

-- the highest bit of the first octet isn't set: the number of bits isn't divisible by 8
abbrev pub is_uneven : List ℕ → Bool
is_uneven octets = passes (λ octet. nat_lt octet 128) (slice_get octets 0)

-- fewer than 2048 bits
abbrev pub is_short : List ℕ → Bool
is_short octets = nat_lt (length octets) 256 || ((length octets == 256) && is_uneven octets)

abbrev pub is_even : List ℕ → Bool
is_even octets = passes (λ octet. octet % 2 == 0) (slice_get octets (length octets - 1))

-- even, or 1
abbrev pub is_no_exponent : List ℕ → Bool
is_no_exponent octets = is_even octets || bytes_eq octets (1 ∷ [])

-- 2^16 or below, or 2^256 or above
abbrev pub is_outside : List ℕ → Bool
is_outside octets = nat_lt (length octets) 3 || (bytes_eq octets (1 ∷ 0 ∷ 0 ∷ []) || nat_lt 32 (length octets))

-- ---- the rules

abbrev pub key_rules : List WebKeyRule
key_rules =
    rules.KeyAlgorithmOther
    ∷ rules.RsaKeyParametersNotNull
    ∷ rules.EcCurveOther
    ∷ rules.RsaModulusShort
    ∷ rules.RsaModulusUneven
    ∷ rules.RsaModulusEven
    ∷ rules.RsaModulusSmallFactor
    ∷ rules.RsaFactorsClose
    ∷ rules.RsaExponentInvalid
    ∷ rules.RsaExponentOutside
    ∷ rules.EcPointOffCurve ∷ []

abbrev pub key_sentence : WebKeyRule → Sentence
key_sentence rules.KeyAlgorithmOther =
    must (codes "key_algorithm_other") (codes "7.1.3.1") (from_day 2020 8 20) (codes "tbsCertificate.subjectPublicKeyInfo")
    (λ c v. not (is_rsa (key_of c)) && not (is_ec (key_of c)))
key_sentence rules.RsaKeyParametersNotNull =
    must (codes "rsa_key_parameters_not_null") (codes "7.1.3.1.1") (from_day 2020 8 20) (codes "tbsCertificate.subjectPublicKeyInfo")
    (λ c v. is_rsa (key_of c) && not (passes is_null (key_of c).algorithm.parameters))
key_sentence rules.EcCurveOther =
    must (codes "ec_curve_other") (codes "6.1.5") None (codes "tbsCertificate.subjectPublicKeyInfo")
    (λ c v. is_ec (key_of c) && not (passes names_curve (key_of c).algorithm.parameters))
key_sentence rules.RsaModulusShort =
    must (codes "rsa_modulus_short") (codes "6.1.5") (from_day 2014 1 1) (codes "tbsCertificate.subjectPublicKeyInfo")
    (λ c v. is_rsa (key_of c) && has_modulus is_short v)
key_sentence rules.RsaModulusUneven =
    must (codes "rsa_modulus_uneven") (codes "6.1.5") (from_day 2020 8 20) (codes "tbsCertificate.subjectPublicKeyInfo")
    (λ c v. is_rsa (key_of c) && has_modulus is_uneven v)
key_sentence rules.RsaModulusEven =
    should (codes "rsa_modulus_even") (codes "6.1.6") (from_day 2013 1 1) (codes "tbsCertificate.subjectPublicKeyInfo")
    (λ c v. is_rsa (key_of c) && has_modulus is_even v)
key_sentence rules.RsaModulusSmallFactor =
    should (codes "rsa_modulus_small_factor") (codes "6.1.6") (from_day 2013 1 1) (codes "tbsCertificate.subjectPublicKeyInfo")
    (λ c v. is_rsa (key_of c) && has_modulus has_small_factor v)
key_sentence rules.RsaFactorsClose =
    must (codes "rsa_factors_close") (codes "6.1.1.3") (from_day 2024 11 15) (codes "tbsCertificate.subjectPublicKeyInfo")
    (λ c v. is_rsa (key_of c) && v.has_close_factors)
key_sentence rules.RsaExponentInvalid =
    must (codes "rsa_exponent_invalid") (codes "6.1.6") (from_day 2013 1 1) (codes "tbsCertificate.subjectPublicKeyInfo")
    (λ c v. is_rsa (key_of c) && has_exponent is_no_exponent v)
key_sentence rules.RsaExponentOutside =
    should (codes "rsa_exponent_outside") (codes "6.1.6") (from_day 2013 1 1) (codes "tbsCertificate.subjectPublicKeyInfo")
    (λ c v. is_rsa (key_of c) && has_exponent is_outside v)
-- a compressed point isn't asked
key_sentence rules.EcPointOffCurve =
    should (codes "ec_point_off_curve") (codes "6.1.6") (from_day 2013 1 1) (codes "tbsCertificate.subjectPublicKeyInfo")
    (λ c v. is_ec (key_of c) && v.has_point_off_curve)
