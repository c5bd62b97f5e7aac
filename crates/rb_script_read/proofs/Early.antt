-- In scripts of versions 1 and 2 no message may wait, and clients are refreshed by age.
use Rattle.std.proofs.Common.{◌≡◌, ◌≢◌, ℕ, ◌==◌, not, List, [], codes, Ok, All, refl, sym, ap, subst, inl, inr, arith}
use Rattle.std.specs.declared.alloc.Global.{Global}
use Rattle.std.proofs.lemmas.List.Elements.{All-push}
use Rattle.rb_script_types.specs.Config.{Config}
use Rattle.rb_script_types.specs.Script.{Script}
use Rattle.rb_script_types.specs.declared.config.ClientConfig.{ClientConfig}
use Rattle.rb_script_types.specs.declared.config.PathConfig.{PathConfig}
use Rattle.rb_script_types.specs.declared.config.RefreshTo.TheVariants.{Newer}
use Rattle.rb_script_types.specs.declared.version.Version.{Version}
use Rattle.rb_script_types.specs.declared.version.Version.TheVariants as versions
use Rattle.rb_script_types.specs.declared.waits.Waits.{Waits}
use Rattle.rb_script_toml.specs.Documents.{document}
use Rattle.rb_script_toml.specs.Faults.{check}
use Rattle.rb_script_toml.specs.Fields.{Section, elements, only, number, or_default, optional, trust, max_number, in_sequence}
use Rattle.rb_script_toml.specs.declared.fault.FaultName.TheVariants.{OutOfRange, SameChain}
use Rattle.rb_script_config.specs.declared.chain.Chain.{Chain}
use Rattle.rb_script_config.specs.Chains.{chain, chain_ids}
use Rattle.rb_script_config.specs.Channels.{channel_in}
use Rattle.rb_script_config.specs.Clients.{identity, terms, client, client_ends, client_ids, own, shared_by, votes_in, refresh_to}
use Rattle.rb_script_config.specs.Paths.{path, path_config, path_keys, path_ids, waits_in, no_waits, fits}
use Rattle.rb_script_config.specs.Tables.{Tables, tables, config}
use Rattle.rb_script_config.proofs.ConfigForms.{pass, same_ok, elements-keep}
use Rattle.rb_script_read.specs.Turns.{opening, turn}
use Rattle.rb_script_read.specs.Work.{little}
use Rattle.rb_script_read.specs.Scripts.{script, script_of}
use Rattle.rb_script_read.specs.Laws.{WaitsNot, WaitsNever, IsEarly, EarlyScriptsWaitNot}

waits_not : (v : Version) → IsEarly v → (s : Section) (w : Waits) → waits_in v s ≡ Ok w → WaitsNot w
waits_not versions.One early s w h = subst WaitsNot (same_ok no_waits w h) (refl, refl, refl)
waits_not versions.Two early s w h = subst WaitsNot (same_ok no_waits w h) (refl, refl, refl)
waits_not versions.Three (inl e) s w h = absurd cc
waits_not versions.Three (inr e) s w h = absurd cc
waits_not versions.Four (inl e) s w h = absurd cc
waits_not versions.Four (inr e) s w h = absurd cc

by_age : (v : Version) → IsEarly v → refresh_to v ≢ Newer
by_age versions.One early = λ e. cc
by_age versions.Two early = λ e. cc
by_age versions.Three early = λ e. cc
by_age versions.Four (inl e) = absurd cc
by_age versions.Four (inr e) = absurd cc

path_waits_not : (v : Version) → IsEarly v → (chains : List (List ℕ)) (clients : List ClientConfig) (before : List PathConfig) (s : Section) (p : PathConfig)
    → path v chains clients before s ≡ Ok p → WaitsNot p.waits
unfolding path
path_waits_not v early chains clients before s p h =
    pass (only (path_keys v) s) _ p h (λ u e0 h0.
    pass (path_config chains (client_ids clients) (path_ids before) s) _ p h0 (λ q e1 h1.
    pass (waits_in v s) _ p h1 (λ w e2 h2.
    pass (channel_in v s) _ p h2 (λ ends e3 h3.
    pass (fits client_ends clients q s.path) _ p h3 (λ fit e4 same.
    subst (λ (x : PathConfig). WaitsNot x.waits) (same_ok _ p same) (waits_not v early s w e2))))))

client_by_age : (v : Version) → IsEarly v → (chains : List Chain) (before : List ClientConfig) (s : Section) (c : ClientConfig)
    → client v chains before s ≡ Ok c → c.refresh_to ≢ Newer
unfolding client
client_by_age v early chains before s c h =
    pass (identity v (chain_ids chains) (client_ids before) s) _ c h (λ n e0 h0.
    let d = shared_by chains n.tracks in
    pass (own d.period (codes "period_ns") (number 1 max_number OutOfRange) s) _ c h0 (λ period e1 h1.
    pass (own d.drift (codes "drift_ns") (number 0 max_number OutOfRange) s) _ c h1 (λ drift e2 h2.
    pass (terms d s) _ c h2 (λ t e3 h3.
    pass (or_default d.trust trust (optional (codes "trust") s)) _ c h3 (λ level e4 h4.
    pass (votes_in v s) _ c h4 (λ votes e5 h5.
    pass (check (not (n.host == n.tracks)) SameChain s.path) _ c h5 (λ u e6 same.
    subst (λ (x : ClientConfig). x.refresh_to ≢ Newer) (same_ok _ c same) (by_age v early))))))))

config_waits_never : (t : Tables) (c : Config) → config t ≡ Ok c → IsEarly c.version → WaitsNever c
unfolding config
config_waits_never t c h early =
    pass (elements (chain t.version) (codes "chain") [] t.chains) _ c h (λ chains e0 h0.
    pass (elements (client t.version chains) (codes "client") [] t.clients) _ c h0 (λ clients e1 h1.
    pass (elements (path t.version (chain_ids chains) clients) (codes "path") [] t.paths) _ c h1 (λ paths e2 same.
    let is = same_ok _ c same in
    let v : IsEarly t.version = subst IsEarly (ap (λ (x : Config). x.version) (sym is)) early in
    subst WaitsNever is (record {
      waits = elements-keep (path t.version (chain_ids chains) clients) (All (λ (p : PathConfig). WaitsNot p.waits)) (λ before s p kept read.
          All-push (λ (p : PathConfig). WaitsNot p.waits) before p kept (path_waits_not t.version v (chain_ids chains) clients before s p read))
          (codes "path") [] t.paths paths (λ k d lt. absurd (omega arith)) e2;
      by_age = elements-keep (client t.version chains) (All (λ (k : ClientConfig). k.refresh_to ≢ Newer)) (λ before s k kept read.
          All-push (λ (x : ClientConfig). x.refresh_to ≢ Newer) before k kept (client_by_age t.version v chains before s k read))
          (codes "client") [] t.clients clients (λ k d lt. absurd (omega arith)) e1;
    }))))

script_waits_never : (s : Section) (t : Script Global) → script s ≡ Ok t → IsEarly t.config.version → WaitsNever t.config
unfolding script
script_waits_never s t h early =
    pass (tables s) _ t h (λ x e0 h0.
    pass (config x) _ t h0 (λ c e1 h1.
    pass (in_sequence (turn c) (codes "turn") opening [] x.turns) _ t h1 (λ turns e2 h2.
    pass (little c turns.0) _ t h2 (λ u e3 same.
    let is : c ≡ t.config = ap (λ (y : Script Global). y.config) (same_ok _ t same) in
    subst WaitsNever is (config_waits_never x c e1 (subst (λ (y : Config). IsEarly y.version) (sym is) early))))))

pub early_scripts_wait_not : EarlyScriptsWaitNot
unfolding script_of
early_scripts_wait_not bytes s h early = pass (document bytes) _ s h (λ section e h0. script_waits_never section s h0 early)
