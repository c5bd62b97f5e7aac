use Rattle.std.proofs.Common.{◌≡◌, ◌∙◌, ℕ, List, ap, arith, filter, inl, inr, subst}
use Rattle.std.proofs.lemmas.Grind.{common_steps}
use Rattle.std.proofs.lemmas.Option.{gets}
use Rattle.rb_import_check.specs.declared.client.Stored.{Stored}
use Rattle.rb_import_merge.specs.Room.{AreThose, IsKept, is_kept}
use Rattle.rb_import_merge.proofs.Rooms.{kept_are, none_kept}
use Rattle.rb_import_merge.proofs.room.kept_at.Goals as goal

pub returns-in_default : goal.returns-in_default
returns-in_default c = none_kept c.args.chains.now c.args.clients.now c.args.books.now c.args.number c.args.client.now c.new.result.items (inl (grind (arith, common_steps, gets)))

pub returns-in_default-get : goal.returns-in_default-get
returns-in_default-get c = none_kept c.args.chains.now c.args.clients.now c.args.books.now c.args.number c.args.client.now c.new-in_default-get.result.items (inr (inl (grind (arith, common_steps, gets))))

pub returns-in_default-get-2 : goal.returns-in_default-get-2
returns-in_default-get-2 c = none_kept c.args.chains.now c.args.clients.now c.args.books.now c.args.number c.args.client.now c.new-in_default-get-2.result.items (inr (inr (grind (arith, common_steps, gets))))

pub returns : goal.returns
returns c =
    let book : List ℕ = c.in-Some-get-2.book.now.items in
    let Has : List ℕ → Stored → Type 0 = λ b s. IsKept c.in-Some-get.chain.now b s.state.now.height in
    let Lacks : List ℕ → Stored → Type 0 = λ b s. ¬ IsKept c.in-Some-get.chain.now b s.state.now.height in
    let those : AreThose (Has book) (Lacks book) c.in-Some.seen.now.stored.items c.in_ok-kept.kept.items =
    subst (λ b. AreThose (Has b) (Lacks b) c.in-Some.seen.now.stored.items c.in_ok-kept.kept.items) c.as_slice.ensures.value
    (subst (λ l. AreThose (Has c.as_slice.result.now) (Lacks c.as_slice.result.now) l c.in_ok-kept.kept.items) c.as_slice-2.ensures.value c.in_ok-kept.ensures.those) in
    let order : c.in_ok-kept.kept.items ≡ filter (λ (s : Stored). is_kept c.in-Some-get.chain.now book s.state.now.height) c.in-Some.seen.now.stored.items =
    c.in_ok-kept.ensures.order ∙ ap (λ b. filter (λ (s : Stored). is_kept c.in-Some-get.chain.now b s.state.now.height) c.as_slice-2.result.now) c.as_slice.ensures.value
    ∙ ap (filter (λ (s : Stored). is_kept c.in-Some-get.chain.now book s.state.now.height)) c.as_slice-2.ensures.value in
    kept_are c.args.chains.now c.args.clients.now c.args.books.now c.args.number c.args.client.now c.in-Some.seen.now c.in-Some-get.chain.now c.in-Some-get-2.book.now c.in_ok-kept.kept.items
    (grind (arith, common_steps, gets)) (grind (arith, common_steps, gets)) (grind (arith, common_steps, gets)) (those, order)
