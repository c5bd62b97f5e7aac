-- What is to be explained.
use Rattle.std.specs.Prelude.{ℕ, Bool, true, ◌&&◌, ◌==◌}
use Rattle.std.specs.Option.{option_map_or}
use Rattle.rb_explain.specs.declared.wanted.Wanted.{Wanted}

-- a turn, by its number from 1: that one, or each
abbrev pub has_turn : Wanted → ℕ → Bool
has_turn w number = option_map_or (λ (turn : ℕ). turn == number) w.turn true

-- in such a turn a client, by its place: that one, or each
abbrev pub has_client : Wanted → ℕ → ℕ → Bool
has_client w number place = has_turn w number && option_map_or (λ (client : ℕ). client == place) w.client true
