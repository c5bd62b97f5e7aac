-- When clients expire: a consensus state has expired from its time and the trusting period on (ICS 7).
use Rattle.std.specs.Prelude.{ℕ, ◌+◌, ◌-◌, length, Option, slice_get}
use Rattle.std.specs.Option.{option_map, option_and_then}
use Rattle.rb_book.specs.Book.{record_at}
use Rattle.rb_book.specs.Header.{Record}
use Rattle.rb_core_model.specs.Machine.{State, client_view}
use Rattle.rb_plan_client.specs.Draft.{Job}
use Rattle.rb_plan_client.specs.Task.{Task}
use Rattle.rb_script_types.specs.declared.config.ClientConfig.{ClientConfig}
use Rattle.rb_text_report.specs.declared.expiry.Expiry.{Expiry}
use Rattle.rb_text_report.specs.declared.health.ClientHealth.{ClientHealth}

-- when the record at a height expires, beside the window's end
abbrev pub expiry_at : Task → ℕ → Record → Expiry
expiry_at t height r = record { height = height; expires = r.time + t.config.options.period; until = t.window.until }

-- of the greatest height that the client has stored
abbrev pub newest_expiry : Task → Option Expiry
newest_expiry t =
    option_and_then (λ height. option_map (expiry_at t height) (record_at t.book height)) (slice_get t.stored (length t.stored - 1))

-- of a client, by its place, as a relayer shows it; none before the first window
abbrev pub expiry_in : State → ℕ → Option Expiry
expiry_in s client = option_and_then (λ (job : Job). newest_expiry job.task) (client_view s client)

-- a client with its place
abbrev pub health_in : State → ℕ × ClientConfig → ClientHealth
health_in s (place, client) = record { client = client; expiry = expiry_in s place }
