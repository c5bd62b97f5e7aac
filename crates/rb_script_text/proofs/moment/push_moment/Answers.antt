use Rattle.rb_script_text.proofs.Clocks.{clock_text-is, moment-shown}
use Rattle.rb_script_text.proofs.moment.push_moment.Goals as goal

pub returns : goal.returns
returns c =
    let text = clock_text-is c.clock_at-clock.result c.args.moment (moment-shown c.args.moment c.clock_at-clock.ensures.range) c.clock_at-clock.ensures.shows in
    rw (← text) c.write.ensures.bytes
