use Rattle.x509_build.proofs.ModuleFacts.{module_there}
use Rattle.x509_build.proofs.profile.devid.check_module.Goals as goal

-- the first of which it is said was read
pub returns : goal.returns
returns c = module_there c.args.names.now c.in-Some.other.now c.in-Some.ensures c.from_other_name.result c.from_other_name.ensures.found c.in_ok-_module._module c.in_ok-_module.was
