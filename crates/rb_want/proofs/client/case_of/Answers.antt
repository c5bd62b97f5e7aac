use Rattle.std.proofs.Common.{◌≡◌, ◌∙◌, Some, ap, rules}
use Rattle.std.proofs.lemmas.Option.{slice_get-map, slice_get_read}
use Rattle.std.specs.Prelude.{map, option_map, slice_get}
use Rattle.rb_want.specs.declared.chain.ChainAnswers.{ChainAnswers}
use Rattle.rb_want_requests.specs.declared.content.Folder.{Folder}
use Rattle.rb_want.proofs.Tracked.{tracked}
use Rattle.rb_want.proofs.client.case_of.Goals as goal

abbrev folder_of : ChainAnswers → Folder
folder_of a = a.folder.now

pub returns : goal.returns
returns c =
    let t = c.in-Some-Some-Some-Some-Some in
    let at : slice_get c.args.chains.now c.args.client.now.tracks ≡ Some t.chain.now = search (slice_get_read, rules) in (
      tracked c.args.setup.now c.args.folders.now.clients.items (map folder_of c.args.chains.now) c.args.place c.args.client.now t.turn.now t.host.now t.tracks.now
          c.in_ok-of.field-0.folder.now t.chain.now.folder.now c.goal_of.result c.window_of-window.result
          (search rules) (search (slice_get_read, rules)) (search (slice_get_read, rules)) (search (slice_get_read, rules))
          (slice_get-map folder_of c.args.chains.now c.args.client.now.tracks ∙ ap (option_map folder_of) at) (search rules) (search rules),
      search rules,
    )
