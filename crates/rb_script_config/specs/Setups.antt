-- What a script is set up with, as it is read.
use Rattle.rb_script_types.specs.Config.{Config}
use Rattle.rb_script_config.specs.declared.setup.Setup.{Setup}

abbrev pub setup_view : Setup → Config
setup_view s = record { version = s.version; limit = s.limit; chains = s.chains; clients = s.clients; paths = s.paths }
