-- The names of the rules.
use Rattle.std.specs.List.{list_any, slice_split}
use Rattle.std.specs.Prelude.{ℕ, Bool, ◌||◌, List, ◌++◌, ◌==◌, bytes_eq, codes}

-- on certificates, in alphabetic order, each in a line
unfoldable pub certificate_rules : List ℕ
certificate_rules =
    codes "any_extended_key_usage_critical\nany_policy_qualifier_invalid\nauthority_cert_issuer_and_serial_apart\n"
    ++ codes "authority_cert_issuer_empty\nauthority_info_access_critical\nauthority_info_access_empty\nauthority_info_access_not_read\n"
    ++ codes "authority_info_access_uri_invalid\nauthority_key_identifier_absent\nauthority_key_identifier_critical\n"
    ++ codes "authority_key_identifier_not_read\nauthority_key_identifier_without_key\nca_basic_constraints_not_critical\n"
    ++ codes "ca_issuers_ldap_incomplete\nca_issuers_ldap_without_host\nca_issuers_without_uri\nca_repository_without_uri\n"
    ++ codes "ca_subject_empty\nca_without_key_cert_sign\nca_without_key_usage\nca_without_subject_key_identifier\n"
    ++ codes "certificate_policies_empty\ncertificate_policies_not_read\ncertificate_policy_repeated\ncps_pointer_malformed\n"
    ++ codes "cps_pointer_not_uri\ncrl_distribution_points_critical\ncrl_distribution_points_empty\ncrl_distribution_points_not_read\n"
    ++ codes "crl_issuer_subject_empty\ndistribution_point_empty\ndistribution_point_issuer_invalid\ndistribution_point_ldap_incomplete\n"
    ++ codes "distribution_point_ldap_without_host\ndistribution_point_names_empty\ndistribution_point_own_issuer\n"
    ++ codes "distribution_point_relative\ndistribution_point_relative_to_several\ndistribution_point_uri_invalid\n"
    ++ codes "distribution_point_without_uri\ndistribution_points_partial\nec_key_usage_invalid\nec_parameters_not_named\n"
    ++ codes "ec_point_invalid\necdsa_signature_parameters_present\nedwards_key_length\nedwards_key_parameters_present\n"
    ++ codes "edwards_key_usage_invalid\nedwards_signature_parameters_present\nexplicit_text_control\nexplicit_text_empty\n"
    ++ codes "explicit_text_not_normalized\nexplicit_text_not_utf8_string\nexplicit_text_too_long\nexplicit_text_type\n"
    ++ codes "extended_key_usage_empty\nextended_key_usage_not_read\nextension_malformed\nextension_repeated\nextensions_empty\n"
    ++ codes "extensions_without_v3\nfreshest_crl_critical\nfreshest_crl_empty\nfreshest_crl_not_read\nfreshest_crl_point_empty\n"
    ++ codes "freshest_crl_point_issuer_invalid\nfreshest_crl_point_ldap_incomplete\nfreshest_crl_point_ldap_without_host\n"
    ++ codes "freshest_crl_point_names_empty\nfreshest_crl_point_own_issuer\nfreshest_crl_point_relative\n"
    ++ codes "freshest_crl_point_relative_to_several\nfreshest_crl_point_uri_invalid\nfreshest_crl_point_without_uri\n"
    ++ codes "freshest_crl_points_partial\ninhibit_any_policy_not_critical\nissuer_alt_name_address_length\nissuer_alt_name_critical\n"
    ++ codes "issuer_alt_name_directory_name_invalid\nissuer_alt_name_dns_name_invalid\nissuer_alt_name_dns_name_not_normalized\n"
    ++ codes "issuer_alt_name_empty\nissuer_alt_name_empty_name\nissuer_alt_name_mailbox_invalid\nissuer_alt_name_not_read\n"
    ++ codes "issuer_alt_name_smtp_utf8_mailbox_invalid\nissuer_alt_name_srv_name_invalid\nissuer_alt_name_uri_host_invalid\n"
    ++ codes "issuer_alt_name_uri_invalid\nissuer_alt_name_uri_relative\nissuer_country_name_invalid\nissuer_domain_component_invalid\n"
    ++ codes "issuer_empty\nissuer_rdn_empty\nissuer_rdn_type_repeated\nissuer_text_characters\nissuer_text_old_type\nissuer_text_size\n"
    ++ codes "issuer_text_type\nkey_cert_sign_without_ca\nkey_usage_empty\nkey_usage_not_critical\nmontgomery_key_without_agreement\n"
    ++ codes "name_constraints_address_length\nname_constraints_address_mask\nname_constraints_empty\nname_constraints_in_leaf\n"
    ++ codes "name_constraints_maximum\nname_constraints_minimum\nname_constraints_not_critical\nname_constraints_not_read\n"
    ++ codes "name_constraints_other_form\nname_constraints_subtrees_empty\nname_constraints_uri_invalid\nnot_after_before_not_before\n"
    ++ codes "not_after_not_utc_time\nnot_before_not_utc_time\nnotice_reference_present\nocsp_location_not_uri\nocsp_no_check_critical\n"
    ++ codes "old_rsa_signature_parameters_not_null\npath_len_above_255\npath_len_without_ca\npolicy_constraints_empty\n"
    ++ codes "policy_constraints_not_critical\npolicy_mapping_any_policy\npolicy_mapping_not_asserted\npolicy_mappings_empty\n"
    ++ codes "policy_mappings_not_critical\npolicy_mappings_not_read\npolicy_qualifier_other\npolicy_qualifiers_empty\n"
    ++ codes "precertificate_poison_not_critical\nprivate_key_usage_period_empty\npss_signature_parameters_absent\nrsa_exponent_invalid\n"
    ++ codes "rsa_key_parameters_not_null\nrsa_modulus_even\nrsa_public_key_malformed\nrsa_signature_parameters_not_null\n"
    ++ codes "serial_number_not_positive\nserial_number_too_long\nsignature_algorithms_differ\nsubject_alt_name_address_length\n"
    ++ codes "subject_alt_name_critical\nsubject_alt_name_directory_name_invalid\nsubject_alt_name_dns_name_invalid\n"
    ++ codes "subject_alt_name_dns_name_not_normalized\nsubject_alt_name_empty\nsubject_alt_name_empty_name\n"
    ++ codes "subject_alt_name_mailbox_invalid\nsubject_alt_name_not_read\nsubject_alt_name_smtp_utf8_mailbox_invalid\n"
    ++ codes "subject_alt_name_srv_name_invalid\nsubject_alt_name_uri_host_invalid\nsubject_alt_name_uri_invalid\n"
    ++ codes "subject_alt_name_uri_relative\nsubject_country_name_invalid\nsubject_directory_attribute_values_empty\n"
    ++ codes "subject_directory_attributes_critical\nsubject_directory_attributes_empty\nsubject_directory_attributes_not_read\n"
    ++ codes "subject_domain_component_invalid\nsubject_email_not_in_alt_name\nsubject_empty_without_critical_alt_name\n"
    ++ codes "subject_info_access_critical\nsubject_info_access_empty\nsubject_info_access_not_read\nsubject_info_access_uri_invalid\n"
    ++ codes "subject_key_identifier_absent\nsubject_key_identifier_critical\nsubject_rdn_empty\nsubject_rdn_type_repeated\n"
    ++ codes "subject_text_characters\nsubject_text_old_type\nsubject_text_size\nsubject_text_type\nunique_identifier_in_v1\n"
    ++ codes "unique_identifier_present\nuser_notice_malformed\nversion_above_v1\nversion_above_v2"

-- on CRLs
unfoldable pub crl_rules : List ℕ
crl_rules =
    codes "authority_info_access_critical\nauthority_info_access_not_read\nauthority_info_access_other_method\n"
    ++ codes "authority_key_identifier_absent\nauthority_key_identifier_critical\nauthority_key_identifier_not_read\n"
    ++ codes "authority_key_identifier_without_key\nca_issuers_without_uri\ncrl_number_absent\ncrl_number_critical\ncrl_number_too_long\n"
    ++ codes "delta_crl_indicator_not_critical\nentry_certificate_issuer_not_critical\nentry_certificate_issuer_not_indirect\n"
    ++ codes "entry_extension_repeated\nentry_extensions_empty\nentry_invalidity_date_critical\nentry_invalidity_date_invalid\n"
    ++ codes "entry_reason_critical\nentry_reason_invalid\nentry_reason_remove_from_crl\nentry_reason_unspecified\nextension_malformed\n"
    ++ codes "extension_repeated\nextensions_empty\nextensions_without_v2\nfreshest_crl_critical\nfreshest_crl_in_delta\n"
    ++ codes "freshest_crl_not_read\nfreshest_crl_reasons_or_issuer\nissuer_alt_name_critical\nissuer_country_name_invalid\n"
    ++ codes "issuer_domain_component_invalid\nissuer_empty\nissuer_rdn_empty\nissuer_rdn_type_repeated\nissuer_text_characters\n"
    ++ codes "issuer_text_old_type\nissuer_text_size\nissuer_text_type\nissuing_distribution_point_attribute_certs\n"
    ++ codes "issuing_distribution_point_empty\nissuing_distribution_point_kinds\nissuing_distribution_point_not_critical\n"
    ++ codes "issuing_distribution_point_not_read\nnext_update_absent\nnext_update_before_this_update\nnext_update_not_utc_time\n"
    ++ codes "revocation_date_not_utc_time\nrevoked_certificates_empty\nserial_number_repeated\nsignature_algorithms_differ\n"
    ++ codes "this_update_not_utc_time\nversion_not_v2"

-- on CSRs
unfoldable pub csr_rules : List ℕ
csr_rules =
    codes "attribute_repeated\nattribute_values_empty\nchallenge_password_malformed\nchallenge_password_several_values\n"
    ++ codes "challenge_password_size\nchallenge_password_type\nextension_malformed\nextension_repeated\nextension_request_malformed\n"
    ++ codes "extension_request_several_values\nextensions_empty\nsubject_alt_name_address_length\n"
    ++ codes "subject_alt_name_directory_name_invalid\nsubject_alt_name_dns_name_invalid\nsubject_alt_name_dns_name_not_normalized\n"
    ++ codes "subject_alt_name_empty\nsubject_alt_name_empty_name\nsubject_alt_name_mailbox_invalid\nsubject_alt_name_not_read\n"
    ++ codes "subject_alt_name_smtp_utf8_mailbox_invalid\nsubject_alt_name_srv_name_invalid\nsubject_alt_name_uri_host_invalid\n"
    ++ codes "subject_alt_name_uri_invalid\nsubject_alt_name_uri_relative\nsubject_country_name_invalid\nsubject_domain_component_invalid\n"
    ++ codes "subject_empty_without_alt_name\nsubject_rdn_empty\nsubject_rdn_type_repeated\nsubject_text_characters\n"
    ++ codes "subject_text_old_type\nsubject_text_size\nsubject_text_type"

-- on the descriptions of trust anchors
unfoldable pub anchor_rules : List ℕ
anchor_rules =
    codes "certificate_key_differs\ncertificate_key_identifier_differs\ncertificate_policies_in_exts\ncertificate_subject_differs\n"
    ++ codes "extension_malformed\nextension_repeated\nextensions_empty\ninhibit_any_policy_in_exts\nname_constraints_address_length\n"
    ++ codes "name_constraints_address_mask\nname_constraints_empty\nname_constraints_in_exts\nname_constraints_maximum\n"
    ++ codes "name_constraints_minimum\nname_constraints_other_form\nname_constraints_subtrees_empty\nname_constraints_uri_invalid\n"
    ++ codes "policy_constraints_in_exts\npolicy_set_empty\npolicy_set_qualifiers\npolicy_set_repeated\nta_name_country_name_invalid\n"
    ++ codes "ta_name_domain_component_invalid\nta_name_empty\nta_name_rdn_empty\nta_name_rdn_type_repeated\nta_name_text_characters\n"
    ++ codes "ta_name_text_old_type\nta_name_text_size\nta_name_text_type\nta_title_lang_tag_invalid\nta_title_size"

-- of the Baseline Requirements
unfoldable pub web_rules : List ℕ
web_rules =
    codes "access_location_not_http\naccess_method_other\naddress_reserved\nany_policy_present\nattribute_order\nattribute_repeated\n"
    ++ codes "attribute_without_text\nauthority_cert_issuer_present\nauthority_info_access_absent\nbasic_constraints_not_critical\n"
    ++ codes "ca_attribute_other\nca_country_unknown\nca_extended_key_usage_forbidden\nca_key_usage_not_critical\nca_key_usage_other\n"
    ++ codes "ca_without_common_name\nca_without_country\nca_without_crl_sign\nca_without_organization\ncertificate_policies_absent\n"
    ++ codes "certificate_policies_critical\ncommon_name_not_as_in_alt_name\ncommon_name_not_in_alt_name\ncommon_name_present\n"
    ++ codes "common_name_repeated\nconstrained_purpose_forbidden\nconstrained_without_addresses\nconstrained_without_directory_names\n"
    ++ codes "country_unknown\ncrl_distribution_point_not_http\ncrl_distribution_point_partial\ncrl_distribution_points_critical\n"
    ++ codes "dns_name_internal\ndns_name_numeric\ndns_name_one_label\ndns_name_onion_other\ndns_name_reserved_label\ndns_name_reverse\n"
    ++ codes "dns_name_underscore\ndns_name_wildcard\ndns_name_xn_label_other\ndomain_validated_attribute\nec_curve_other\n"
    ++ codes "ec_point_off_curve\nec_without_digital_signature\necdsa_signature_parameters_present\nextended_key_usage_absent\n"
    ++ codes "extended_key_usage_critical\nextended_key_usage_forbidden\nextended_key_usage_other\nextended_validation_without_category\n"
    ++ codes "extended_validation_without_country\nextended_validation_without_jurisdiction\nextended_validation_without_number\n"
    ++ codes "extended_validation_without_organization\nextended_validation_without_place\nindividual_validated_without_country\n"
    ++ codes "individual_validated_without_name\nindividual_validated_without_place\nkey_algorithm_other\nkey_usage_absent\n"
    ++ codes "key_usage_not_critical\nkey_usage_not_of_ec\nkey_usage_not_of_rsa\nkey_usage_of_authority\nocsp_access_absent\n"
    ++ codes "ocsp_no_check_absent\nocsp_no_check_critical\norganization_validated_personal_name\norganization_validated_without_country\n"
    ++ codes "organization_validated_without_organization\norganization_validated_without_place\norganizational_unit_present\n"
    ++ codes "policy_qualifier_other\npolicy_qualifiers_present\nprecertificate_signer_key_usage_not_critical\n"
    ++ codes "precertificate_signer_purpose_other\nprecertificate_signer_purposes_critical\nprecertificate_signer_without_crl_points\n"
    ++ codes "precertificate_signer_without_policies\nprecertificate_with_timestamps\nrdn_of_several_attributes\nreserved_policy_absent\n"
    ++ codes "responder_access_present\nresponder_alt_name_present\nresponder_constraints_not_critical\nresponder_crl_points_present\n"
    ++ codes "responder_key_usage_absent\nresponder_key_usage_not_critical\nresponder_key_usage_other\nresponder_policies_present\n"
    ++ codes "responder_purpose_other\nrevocation_absent_over_10_days\nrevocation_absent_over_7_days\nroot_crl_points_present\n"
    ++ codes "root_extended_key_usage_present\nroot_extension_other\nroot_organizational_unit_present\nroot_path_len_present\n"
    ++ codes "root_policies_present\nroot_validity_over_9132_days\nroot_validity_under_2922_days\nroot_without_authority_key_identifier\n"
    ++ codes "rsa_exponent_invalid\nrsa_exponent_outside\nrsa_factors_close\nrsa_key_parameters_not_null\nrsa_modulus_even\n"
    ++ codes "rsa_modulus_short\nrsa_modulus_small_factor\nrsa_modulus_uneven\nrsa_pss_parameters_other\n"
    ++ codes "rsa_signature_parameters_not_null\nsignature_algorithm_other\nsignature_of_sha1\nsubject_alt_name_absent\n"
    ++ codes "subject_alt_name_critical\nsubject_alt_name_other\nsubject_alt_name_without_host\nsubject_key_identifier_present\n"
    ++ codes "subordinate_access_location_not_http\nsubordinate_access_method_other\nsubordinate_any_policy_among_others\n"
    ++ codes "subordinate_extended_key_usage_critical\nsubordinate_extended_key_usage_other\nsubordinate_organizational_unit_present\n"
    ++ codes "subordinate_policies_critical\nsubordinate_policy_qualifier_other\nsubordinate_policy_qualifiers_present\n"
    ++ codes "subordinate_without_authority_info_access\nsubordinate_without_crl_points\nsubordinate_without_extended_key_usage\n"
    ++ codes "subordinate_without_policies\nsubordinate_without_reserved_policy\nvalidity_over_100_days\nvalidity_over_199_days\n"
    ++ codes "validity_over_200_days\nvalidity_over_397_days\nvalidity_over_398_days\nvalidity_over_46_days\nvalidity_over_47_days\n"
    ++ codes "validity_over_825_days\nvalidity_over_99_days\nversion_not_v3"

abbrev pub lines_of : List ℕ → List (List ℕ)
lines_of text = slice_split (λ octet. octet == 10) text

abbrev pub has_line : List ℕ → List ℕ → Bool
has_line text name = list_any (λ line. bytes_eq line name) (lines_of text)

abbrev pub is_rule_on_objects : List ℕ → Bool
is_rule_on_objects name = (has_line certificate_rules name || has_line crl_rules name) || (has_line csr_rules name || has_line anchor_rules name)

abbrev pub is_rule : List ℕ → Bool
is_rule name = is_rule_on_objects name || has_line web_rules name
