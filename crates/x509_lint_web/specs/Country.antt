-- Countries by their two letters: the alpha-2 codes of ISO 3166-1, as they were on 2025-01-01, and XX, which stands for one that has none (TLS BR 7.1.2.7.4).
use Rattle.std.specs.Prelude.{◌==◌, ◌++◌, ℕ, Bool, List, codes}
use Rattle.std.specs.List.{list_any, slice_split}
use Rattle.x509_lint.specs.Words.{is_same}

unfoldable pub country_codes : List ℕ
country_codes =
    codes "AD AE AF AG AI AL AM AO AQ AR AS AT AU AW AX AZ BA BB BD BE BF BG BH BI BJ BL BM BN BO BQ BR BS BT BV BW BY "
    ++ codes "BZ CA CC CD CF CG CH CI CK CL CM CN CO CR CU CV CW CX CY CZ DE DJ DK DM DO DZ EC EE EG EH ER ES ET FI FJ FK "
    ++ codes "FM FO FR GA GB GD GE GF GG GH GI GL GM GN GP GQ GR GS GT GU GW GY HK HM HN HR HT HU ID IE IL IM IN IO IQ IR "
    ++ codes "IS IT JE JM JO JP KE KG KH KI KM KN KP KR KW KY KZ LA LB LC LI LK LR LS LT LU LV LY MA MC MD ME MF MG MH MK "
    ++ codes "ML MM MN MO MP MQ MR MS MT MU MV MW MX MY MZ NA NC NE NF NG NI NL NO NP NR NU NZ OM PA PE PF PG PH PK PL PM "
    ++ codes "PN PR PS PT PW PY QA RE RO RS RU RW SA SB SC SD SE SG SH SI SJ SK SL SM SN SO SR SS ST SV SX SY SZ TC TD TF "
    ++ codes "TG TH TJ TK TL TM TN TO TR TT TV TW TZ UA UG UM US UY UZ VA VC VE VG VI VN VU WF WS XX YE YT ZA ZM ZW"

-- one of the codes, each but the last with a space behind it, in any case
abbrev pub is_code_of : List ℕ → List ℕ → Bool
is_code_of codes text = list_any (is_same text) (slice_split (λ octet. octet == 32) codes)

abbrev pub is_country : List ℕ → Bool
is_country text = is_code_of country_codes text
