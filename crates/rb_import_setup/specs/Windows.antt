-- In which windows the clients of a setup are updated (docs/FORMATS.md, windows of hosts).
use Rattle.std.specs.Prelude.{ℕ, ◌==◌, List, Option, find, option_and_then, option_map, reverse, slice_get, unwrap_or}
use Rattle.rb_base.specs.Window.{Span}
use Rattle.rb_script_types.specs.declared.script.HostWindow.{HostWindow}
use Rattle.rb_script_config.specs.HostWindows.{has_window}
use Rattle.rb_import_setup.specs.declared.setup.ClientSetup.{ClientSetup}
use Rattle.rb_import_setup.specs.declared.setup.ImportSetup.{ImportSetup}
use Rattle.rb_import_setup.specs.declared.setup.TurnSetup.{TurnSetup}

-- the window that a turn gives a host, if it gives one
abbrev pub given_window : ℕ → TurnSetup → Option Span
given_window host turn = option_map (λ (w : HostWindow). w.window) (find (λ (w : HostWindow). w.host == host) turn.windows.items)

-- the latest of these turns that gives a host a window
abbrev pub latest_for : ℕ → List TurnSetup → Option TurnSetup
latest_for host turns = find (λ (turn : TurnSetup). has_window host turn.windows.items) (reverse turns)

-- a host's own window after these turns, if it has one: that of the latest turn that gives it one
abbrev pub own_window : ℕ → List TurnSetup → Option Span
own_window host turns = option_and_then (given_window host) (latest_for host turns)

-- the own window of the host of the client at a place
abbrev pub hosts_window : ImportSetup → ℕ → Option Span
hosts_window setup client = option_and_then (λ (c : ClientSetup). own_window c.host setup.turns.items) (slice_get setup.clients.items client)

-- the window of the client at a place, this being the common one: its host's own, or else the common one
unfoldable pub window_of : ImportSetup → ℕ → Span → Span
window_of setup client common = unwrap_or (hosts_window setup client) common
