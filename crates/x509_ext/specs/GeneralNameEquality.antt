-- Equality of general names, and of what stands in them, is exact.
use Rattle.std.specs.Prelude.{refl}
use Rattle.x509_der.specs.Exact.{IsExact, exact_octets, exact_list, exact_option, exact_both, exact_last, exact_by, exact_cases}
use Rattle.x509_der.specs.Equality.{exact_any}
use Rattle.x509_name.specs.Names.{rdn_decides, rdn_sequence_decides}
use Rattle.x509_name.specs.contracts.name.directory_string.DirectoryString.{enum as strings}
use Rattle.x509_name.specs.contracts.name.directory_string.DirectoryStringPartialEq.TheImpl as directory_string_eq
use Rattle.x509_ext.specs.contracts.pkix.name.distribution_point_name.DistributionPointName.{enum as places}
use Rattle.x509_ext.specs.contracts.pkix.name.distribution_point_name.DistributionPointNamePartialEq.TheImpl as distribution_point_name_eq
use Rattle.x509_ext.specs.contracts.pkix.name.edi_party_name.EdiPartyNamePartialEq.TheImpl as edi_party_name_eq
use Rattle.x509_ext.specs.contracts.pkix.name.general_name.GeneralName.{enum as names}
use Rattle.x509_ext.specs.contracts.pkix.name.general_name.GeneralNamePartialEq.TheImpl as general_name_eq
use Rattle.x509_ext.specs.contracts.pkix.name.general_name.IpAddress.{enum as addresses}
use Rattle.x509_ext.specs.contracts.pkix.name.general_name.IpAddressPartialEq.TheImpl as ip_address_eq
use Rattle.x509_ext.specs.contracts.pkix.name.hardware_module_name.HardwareModuleNamePartialEq.TheImpl as hardware_module_name_eq
use Rattle.x509_ext.specs.contracts.pkix.name.other_name.OtherNamePartialEq.TheImpl as other_name_eq
use Rattle.x509_ext.specs.declared.pkix.name.edi_party_name.EdiPartyName.{EdiPartyName}
use Rattle.x509_ext.specs.declared.pkix.name.hardware_module_name.HardwareModuleName.{HardwareModuleName}
use Rattle.x509_ext.specs.declared.pkix.name.other_name.OtherName.{OtherName}

pub exact_directory_string : IsExact directory_string_eq.ghosts.eq
exact_directory_string = exact_cases strings _ (exact_last exact_octets, (exact_last exact_octets, (exact_last exact_octets, (exact_last exact_octets, tt))))

pub exact_other_name : IsExact other_name_eq.ghosts.eq
exact_other_name = exact_by (λ (o : OtherName). (o.type_id, o.value)) (λ (type_id, value). record { type_id = type_id; value = value }) (λ o. refl) (exact_both exact_octets exact_any)

pub exact_edi_party_name : IsExact edi_party_name_eq.ghosts.eq
exact_edi_party_name =
    exact_by (λ (e : EdiPartyName). (e.name_assigner, e.party_name))
    (λ (name_assigner, party_name). record { name_assigner = name_assigner; party_name = party_name })
    (λ e. refl) (exact_both (exact_option exact_directory_string) exact_directory_string)

pub exact_general_name : IsExact general_name_eq.ghosts.eq
exact_general_name = exact_cases names _ (exact_last exact_other_name, (exact_last exact_octets, (exact_last exact_octets, (exact_last rdn_sequence_decides, (exact_last exact_edi_party_name, (exact_last exact_octets, (exact_last exact_octets, (exact_last exact_octets, tt))))))))

pub exact_ip_address : IsExact ip_address_eq.ghosts.eq
exact_ip_address = exact_cases addresses _ (exact_last exact_octets, (exact_last exact_octets, tt))

pub exact_hardware_module_name : IsExact hardware_module_name_eq.ghosts.eq
exact_hardware_module_name = exact_by (λ (h : HardwareModuleName). (h.hw_type, h.hw_serial_num)) (λ (hw_type, hw_serial_num). record { hw_type = hw_type; hw_serial_num = hw_serial_num }) (λ h. refl) (exact_both exact_octets exact_octets)

pub exact_distribution_point_name : IsExact distribution_point_name_eq.ghosts.eq
exact_distribution_point_name = exact_cases places _ (exact_last (exact_list exact_general_name), (exact_last rdn_decides, tt))
