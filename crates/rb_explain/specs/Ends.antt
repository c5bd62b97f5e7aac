-- (internal) How far a path's list of messages is ready at a height.
use Rattle.std.specs.Prelude.{ℕ, nat_le, nat_lt, Bool, false, List, Option, if◌then◌else◌}
use Rattle.std.specs.Option.{option_map_or}
use Rattle.rb_scan.specs.Owed.{run_end, same_kind}
use Rattle.rb_scan.specs.declared.message.Kind.{Kind}
use Rattle.rb_scan.specs.declared.message.Kind.TheVariants.{Receive, Acknowledge, Timeout}
use Rattle.rb_scan.specs.declared.message.PacketMsg.{PacketMsg}
use Rattle.rb_scan.specs.declared.path.Order.{Order}
use Rattle.rb_scan.specs.declared.path.Order.TheVariants.{Ordered, Unordered}
use Rattle.rb_explain.specs.declared.ready.Ends.{Ends}

abbrev pub ends_of : List PacketMsg → ℕ → Ends
ends_of ms reach = record { reach = reach; receives = run_end reach Receive ms; acknowledgements = run_end reach Acknowledge ms }

-- where the run of a kind ends; timeouts have none
abbrev pub end_for : Ends → Kind → ℕ
end_for e Receive = e.receives
end_for e Acknowledge = e.acknowledgements
end_for e Timeout = 0

abbrev pub is_before_end : Ends → Order → ℕ → PacketMsg → Bool
is_before_end e Unordered place m = nat_le m.floor e.reach
is_before_end e Ordered place m = if same_kind m.kind Timeout then nat_le m.floor e.reach else nat_lt place (end_for e m.kind)

-- the same where there may be no height
abbrev pub is_before : Option Ends → Order → ℕ → PacketMsg → Bool
is_before ends order place m = option_map_or (λ (e : Ends). is_before_end e order place m) ends false
