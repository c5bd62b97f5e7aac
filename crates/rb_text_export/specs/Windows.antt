-- The windows in force in the turns of a script (docs/FORMATS.md, turns and windows of hosts).
use Rattle.std.specs.Prelude.{ℕ, ◌==◌, List, map, Option, Some, None, find, option_map, slice_get, if◌then◌else◌}
use Rattle.std.specs.List.{enumerate_from, list_any}
use Rattle.std.specs.Option.{option_map_or, option_or}
use Rattle.rb_base.specs.Window.{Span}
use Rattle.rb_script_types.specs.Config.{Config, config_view}
use Rattle.rb_script_types.specs.Script.{Script, Turn}
use Rattle.rb_script_types.specs.declared.script.HostWindow.{HostWindow}
use Rattle.rb_super_turn.specs.Report.{TurnReport}
use Rattle.rb_text_export.specs.declared.windows.Given.{Given as CodeGiven}
use Rattle.rb_text_export.specs.declared.windows.InForce.{InForce as CodeInForce}
use Rattle.rb_text_export.specs.declared.windows.Setting.{Setting as CodeSetting}

-- those that a turn gives: its own, and those of hosts
pub record Given : Type 0 where
  pub window : Span
  pub hosts : List HostWindow

abbrev pub given_view : CodeGiven → Given
given_view g = record { window = g.window; hosts = g.hosts.items }

abbrev pub given_in : {A : Type 0} → Turn A → Given
given_in t = record { window = t.window; hosts = t.windows }

-- how a script is set up, and the windows that its turns give
pub record Setting : Type 0 where
  pub config : Config
  pub turns : List Given

abbrev pub setting_view : CodeSetting → Setting
setting_view s = record { config = config_view s.config; turns = map given_view s.turns.items }

abbrev pub setting_of : {A : Type 0} → Script A → Setting
setting_of s = record { config = s.config; turns = map given_in s.turns }

-- those in force: that of a turn, and by their places those of the hosts that have one of their own
pub record InForce : Type 0 where
  pub window : Option Span
  pub hosts : List (Option Span)

abbrev pub in_force_view : CodeInForce → InForce
in_force_view f = record { window = f.window; hosts = f.hosts.items }

abbrev pub before_all : List (List ℕ) → InForce
before_all chains = record { window = None; hosts = map (λ chain. None) chains }

abbrev pub given_window : List HostWindow → ℕ → Option Span
given_window given host = option_map (λ (w : HostWindow). w.window) (find (λ (w : HostWindow). w.host == host) given)

-- the window that a turn gives a host and doesn't refuse
abbrev pub taken_window : TurnReport → Given → ℕ → Option Span
taken_window t given host = if list_any (λ refused. refused == host) t.hosts_back then None else given_window given.hosts host

-- a host's own window after a turn
abbrev pub host_after : TurnReport → Given → ℕ × Option Span → Option Span
host_after t given (host, before) = option_or (taken_window t given host) before

abbrev pub after : TurnReport → Given → InForce → InForce
after t given before = record {
  window = if t.window_back then before.window else Some given.window;
  hosts = map (host_after t given) (enumerate_from 0 before.hosts);
}

-- those in force in the turn at a place
abbrev pub in_turn : Setting → ℕ → TurnReport → InForce → InForce
in_turn s place t before = option_map_or (λ given. after t given before) (slice_get s.turns place) before
