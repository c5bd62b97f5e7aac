use Rattle.std.proofs.Common.{rules}
use Rattle.std.proofs.Output.{has_written_append}
use Rattle.rb_want_requests.proofs.packet_lines.write_states_path.Goals as goal

pub returns-in_ok-write_part-in-Unreceived : goal.returns-in_ok-write_part-in-Unreceived
returns-in_ok-write_part-in-Unreceived g c = λ plain ok.
    let begun = c.write_str.ensures.writes plain (search rules) in
    let part = c.write_part.ensures begun.plain (search rules) in
    let end = c.write_str-in-Unreceived.ensures.writes part.plain ok in
    rw c.in-Unreceived.is (has_written_append _ _ _ _ _ _ begun (has_written_append _ _ _ _ _ _ part end))
