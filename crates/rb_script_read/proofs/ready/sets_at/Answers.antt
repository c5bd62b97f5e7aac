use Rattle.toml.specs.View.{items_view}
use Rattle.rayon.proofs.ListFacts.{IfOk-then, AllZip-weaken}
use Rattle.rb_script_read.specs.Ready.{AreReady, IsReady}
use Rattle.rb_script_read.proofs.ReadyLemmas.{all_ready, moved}
use Rattle.rb_script_read.proofs.ready.sets_at.Goals as goal

pub returns : goal.returns
returns g c =
    let path = c.map_init.result.f.1.now in
    let events = items_view c.map_init.result.f.2.now in
    IfOk-then c.collect.result _ _ c.collect.ensures (λ sets h.
    let chain = h.1 in
    moved (λ f. AreReady f.1.now (items_view f.2.now) sets.items) c.map_init.result.f _ c.map_init.ensures.f
    (all_ready path events chain.0 sets.items
    (rw h.2 (AllZip-weaken _ (λ place set. IsReady path events set) (λ place set read. read.2) chain.0 h.0 chain.2))))
