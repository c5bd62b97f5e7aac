-- (internal) How far a list is ready at a reach, as it is computed.
use Rattle.std.specs.Prelude.{ℕ, nat_le, nat_lt, Bool, List, if◌then◌else◌}
use Rattle.rb_scan.specs.Owed.{run_end, same_kind}
use Rattle.rb_scan.specs.declared.readiness.Ends.{Ends}
use Rattle.rb_scan.specs.declared.path.Order.{Order}
use Rattle.rb_scan.specs.declared.path.Order.TheVariants.{Ordered, Unordered}
use Rattle.rb_scan.specs.declared.message.Kind.{Kind}
use Rattle.rb_scan.specs.declared.message.Kind.TheVariants.{Receive, Acknowledge, Timeout}
use Rattle.rb_scan.specs.declared.message.PacketMsg.{PacketMsg}

abbrev pub ends_of : List PacketMsg → ℕ → Ends
ends_of ms reach = record { reach = reach; receives = run_end reach Receive ms; acknowledgements = run_end reach Acknowledge ms }

-- where the run of a kind ends; timeouts have none
abbrev pub end_for : Ends → Kind → ℕ
end_for e Receive = e.receives
end_for e Acknowledge = e.acknowledgements
end_for e Timeout = 0

abbrev pub is_taken : Ends → Order → ℕ → PacketMsg → Bool
is_taken e Unordered place m = nat_le m.floor e.reach
is_taken e Ordered place m = if same_kind m.kind Timeout then nat_le m.floor e.reach else nat_lt place (end_for e m.kind)
