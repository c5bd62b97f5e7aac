use Rattle.std.proofs.Common.{◌≡◌, map, sym, ap, ◌∙◌}
use Rattle.rb_core_model.specs.Forgetting.{floor, rest_of_books, rest_of_client, rest}
use Rattle.rb_core.specs.State.{standing_view}
use Rattle.rb_core_state.specs.Floors.{floor_in, standing_at}
use Rattle.rb_core_state.specs.Room.{books_of, clients_of}
use Rattle.rb_core.proofs.copies.left_in.Goals as goal

pub returns : goal.returns
returns g c =
    let old = c.args.state in
    let s = standing_view old in
    let w = c.args.window in
    let floors = c.in_ok-floors.floors.items in
    let slices : standing_at w c.as_slice.result.now c.as_slice-2.result.now c.as_slice-3.result.now ≡ standing_at w old.books.items old.clients.items old.paths.items =
    λ i. standing_at w (c.as_slice.ensures.value i) (c.as_slice-2.ensures.value i) (c.as_slice-3.ensures.value i) in
    let here : standing_at w old.books.items old.clients.items old.paths.items ≡ s = λ i. record s { window = sym c.requires i } in
    let same : floor_in floors ≡ floor w s = λ i chain. (c.in_ok-floors.ensures.floors chain ∙ (λ j. floor w ((slices ∙ here) j) chain)) i in
    let books = c.in_ok-forget.ensures ∙ ap (λ fs. rest_of_books (floor_in fs) 0 (books_of old.books.items)) c.as_slice-4.ensures.value in
    let clients = c.forget-2.ensures ∙ ap (λ fs. map (rest_of_client (floor_in fs)) (clients_of old.clients.items)) c.as_slice-5.ensures.value in
    let paths = c.forget-3.ensures in
    (λ i. record { window = old.window; books = books i; clients = clients i; paths = paths i }) ∙ (λ i. rest (same i) s)
