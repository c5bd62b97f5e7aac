use Rattle.rb_script_types.specs.Script.{script_view}
use Rattle.rb_super.proofs.Room.{read_fits}
use Rattle.rb_super.proofs.scripts.laws_hold_of_read_scripts.Goals as goal

pub returns-clause-room : goal.returns-clause-room
returns-clause-room g c = read_fits (script_view c.args.script.now) c.requires
