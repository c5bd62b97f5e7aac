use Rattle.std.proofs.Common.{codes, string_bytes, List, ℕ, Bor, sym, ◌∙◌}
use Rattle.std.proofs.lemmas.Slice.Eq.{bytes_eq-Decides}
use Rattle.toml.specs.View.{table_view}
use Rattle.rb_script_config.specs.Setups.{setup_view}
use Rattle.rb_script_read.specs.Plain.{IsKeyRead, IsPair, around}
use Rattle.rb_script_read.specs.TurnNames.{names_now}
use Rattle.rb_script_read.proofs.PlainLemmas.{apart_of, if_ok, other_read}
use Rattle.rb_script_read.proofs.plain.read_key.Goals as goal

pub read_listed-requires : goal.read_listed-requires
read_listed-requires c =
    record { key = (bytes_eq-Decides (string_bytes c.args.key) (codes "event")).0 (rw c.as_str.ensures.value at (sym c.eq.ensures ∙ c.if-eq.true)) }

pub returns-clause-read : goal.returns-clause-read
returns-clause-read c names ds seen =
    let key = string_bytes c.args.key in
    let s = c.args.s.now in
    let lines = c.args.lines.now in
    let old = table_view lines.table in
    let new = table_view c.read_value.new.table in
    let setup = setup_view c.args.setup.now in
    let path = c.args.path.now in
    let apart = apart_of key (codes "event") (rw c.as_str.ensures.value at (sym c.eq.ensures ∙ c.if-eq.false)) in
    if_ok c.read_value.result (λ (rest : Bor (List ℕ)). IsPair key s rest.now old new)
    (λ (rest : Bor (List ℕ)). IsKeyRead setup path names key s rest.now (around ds old) new lines.events.items (names_now lines.names))
    c.read_value.ensures.pair (λ rest pair. other_read setup path names key s rest.now old new ds lines.events.items (names_now lines.names) apart seen pair)
