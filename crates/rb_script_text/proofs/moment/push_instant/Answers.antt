use Rattle.rb_script_text.proofs.Clocks.{instant_text-is}
use Rattle.rb_script_text.proofs.moment.push_instant.Goals as goal

pub returns-in-Some : goal.returns-in-Some
returns-in-Some c =
    let text = instant_text-is c.in-Some.clock c.args.nanoseconds c.in-Some.ensures.shown c.in-Some.ensures.shows in
    rw (← text) c.write.ensures.bytes
