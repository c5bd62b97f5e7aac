-- Which packets at the front of a path are over: nothing of them can be owed any more (own choice, over ICS 4).
use Rattle.std.specs.Prelude.{ℕ, ◌+◌, ◌-◌, ◌^◌, ◌==◌, Bool, ◌&&◌, nat_lt, List, drop, map}
use Rattle.std.specs.List.{prefix_len, enumerate_from}
use Rattle.rb_scan.specs.Packet.{Packet, is_finished, is_cleared}
use Rattle.rb_scan.specs.declared.path.Order.{Order}
use Rattle.rb_scan.specs.declared.path.Order.TheVariants.{Ordered, Unordered}
use Rattle.rb_core_model.specs.Standing.{PathState, Standing}

-- it is cleared; on an ORDERED path its receive is finished, too, since the next ones wait for it
abbrev pub is_over : Order → Packet → Bool
is_over Unordered q = is_cleared q
is_over Ordered q = is_finished q && is_cleared q

-- the packet with this sequence is; the greatest sequence stays, since none follows it
abbrev pub is_over_at : Order → ℕ × Packet → Bool
is_over_at order (s, q) = (q.sequence == s) && nat_lt (s + 1) (2 ^ 63) && is_over order q

-- how many at the front are, one after another from a sequence on
abbrev pub over_from : Order → ℕ → List Packet → ℕ
over_from order first packets = prefix_len (is_over_at order) (enumerate_from first packets)

abbrev pub over_in : PathState → ℕ
over_in p = over_from p.config.order p.first p.packets

-- an event of a packet may come after its clearing: two chains are observed, and their observations come in any order
abbrev pub slack : ℕ
slack = 256

-- so many go: all that are over but for the last ones
abbrev pub gone_in : PathState → ℕ
gone_in p = over_in p - slack

-- the path from a later sequence on, where so many packets at the front have the sequences before it
abbrev pub from_later : ℕ → PathState → PathState
from_later n p = record p { first = p.first + n; packets = drop n p.packets }

-- the path without those that go
abbrev pub rest_of_path : PathState → PathState
rest_of_path p = from_later (gone_in p) p

-- the sequences from which on the paths go on, by their places
abbrev pub firsts_of : Standing → List ℕ
firsts_of s = map (λ (p : PathState). p.first) s.paths
