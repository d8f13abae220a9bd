use Rattle.x509_c_calls.proofs.Profiled.{builds}
use Rattle.x509_c_calls.proofs.build.device.build_device.Goals as goal

pub returns : goal.returns
returns c = builds _ _ _ _ c.read_device-inputs.result c.read_device-inputs.ensures c.args.room.now c.fill_part.new.room c.args.written.now c.fill_part.new.written c.fill_part.result c.fill_part.ensures
