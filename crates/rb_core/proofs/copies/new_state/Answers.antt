use Rattle.std.proofs.Common.{◌≡◌, ℕ, List, None, length, map, replicate, ap, ◌∙◌, arith}
use Rattle.rb_script_types.specs.declared.config.ClientConfig.{ClientConfig}
use Rattle.rb_script_types.specs.declared.config.PathConfig.{PathConfig}
use Rattle.rb_core_model.specs.Machine.{no_scans}
use Rattle.rb_core_model.specs.Standing.{empty_book, new_client, new_path}
use Rattle.rb_core.proofs.copies.new_state.Goals as goal

pub returns : goal.returns
returns g c =
    let config = c.args.config.now in
    let chains : c.len.result ≡ length config.chains.items = omega (arith, c.len.ensures, config.chains.ok.0) in
    let clients : c.len-2.result ≡ length config.clients.items = omega (arith, c.len-2.ensures, config.clients.ok.0) in
    let paths : c.len-3.result ≡ length config.paths.items = omega (arith, c.len-3.ensures, config.paths.ok.0) in
    λ i. record {
      standing = record {
        window = None;
        books = (c.in_ok-new_books.ensures ∙ ap (λ (n : ℕ). replicate n (empty_book config.limit)) chains) i;
        clients = (c.in_ok-new_clients.ensures ∙ ap (λ (cs : List ClientConfig). map new_client cs) c.as_slice.ensures.value) i;
        paths = (c.in_ok-new_paths.ensures ∙ ap (λ (ps : List PathConfig). map new_path ps) c.as_slice-2.ensures.value) i;
      };
      plans = (c.in_ok-new_plans.ensures ∙ ap (λ (n : ℕ). replicate n 0) clients) i;
      scans = (c.in_ok-new_scans.ensures ∙ ap (λ (n : ℕ). replicate n no_scans) paths) i;
      front = 0;
    }
