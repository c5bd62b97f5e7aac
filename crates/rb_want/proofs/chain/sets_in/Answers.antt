use Rattle.std.proofs.Common.{◌≡◌, ◌+◌, ◌<◌, ◌==◌, length, take, map, filter, rules, ap, sym, subst, ◌∙◌}
use Rattle.std.specs.Prelude.{Some}
use Rattle.std.specs.Borrow.{Bor}
use Rattle.std.proofs.lemmas.List.{take_all}
use Rattle.rb_import_answers.specs.declared.validators.ValidatorsPage.{ValidatorsPage}
use Rattle.rb_import_check.proofs.Heights.{is_last}
use Rattle.rb_import_check.specs.declared.sets.SeenSets.{SeenSets}
use Rattle.rb_want.specs.Clients.{pages_at}
use Rattle.rb_want.proofs.Sets.{AreSoFar, have_sets, next_height, none_so_far, page, same_height}
use Rattle.rb_want.proofs.chain.sets_in.Goals as goal
use Rattle.rb_want.proofs.chain.sets_in.Goals.{then-ne+in_ok-add_set, else-ne}

pub loop-page-init : goal.loop-page-init
loop-page-init c = none_so_far c.args.contents.now c.new-sets.result.sets.items c.deref-page-items.result.now (search rules)

pub loop-page-preserved : goal.loop-page-preserved
loop-page-preserved c =
    let small : c.loop-page.page-index < length c.deref-page-items.result.now = search rules in
    let height = c.page-item.result.now.height in
    let items = c.deref-page-items.result.now in
    let next = c.loop-page.page-index + 1 in
    elim c.if-ne.branch [
      | then-ne+in_ok-add_set w ↦
          let group : w.of_height-same.result.now ≡ filter (λ (p : Bor ValidatorsPage). p.now.height == height) c.in_ok-pages.pages.items =
          w.of_height-same.ensures ∙ ap (filter (λ (p : Bor ValidatorsPage). p.now.height == height)) w.as_slice.ensures.value in
          let these : map page w.of_height-same.result.now ≡ pages_at height c.args.contents.now = ap (map page) group ∙ c.in_ok-pages.ensures.same height in
          let now : AreSoFar c.args.contents.now w.add_set.new.sets.sets.items (take next items) (Some height) =
          next_height c.args.contents.now c.loop-page.sets.sets.items w.add_set.new.sets.sets.items items c.loop-page.page-index c.page-item.result c.loop-page.last _
          small c.page-item.is these w.in_ok-add_set.ensures.stays w.in_ok-add_set.ensures.added w.in_ok-add_set.ensures.only c.loop-page.invariant in
          let last = subst (λ o. AreSoFar c.args.contents.now w.add_set.new.sets.sets.items (take next items) o) (sym w.last-is) now in
          subst (λ (s : SeenSets). AreSoFar c.args.contents.now s.sets.items (take next items) c.if-ne.last) (sym w.sets-is) last
      | else-ne w ↦
          let same : c.loop-page.last ≡ Some height = is_last c.loop-page.last height (sym c.ne.ensures ∙ w.if-ne.false) in
          let was : AreSoFar c.args.contents.now c.loop-page.sets.sets.items (take c.loop-page.page-index items) (Some height) =
          subst (AreSoFar c.args.contents.now c.loop-page.sets.sets.items (take c.loop-page.page-index items)) same c.loop-page.invariant in
          let now = same_height c.args.contents.now c.loop-page.sets.sets.items items c.loop-page.page-index c.page-item.result small c.page-item.is was in
          let last = subst (λ o. AreSoFar c.args.contents.now c.loop-page.sets.sets.items (take next items) o) (sym (w.last-is ∙ same)) now in
          subst (λ (s : SeenSets). AreSoFar c.args.contents.now s.sets.items (take next items) c.if-ne.last) (sym w.sets-is) last
    ]

pub returns : goal.returns
returns c =
    let all : take c.loop-page.page-index c.deref-page-items.result.now ≡ c.in_ok-pages.pages.items = take_all _ _ (search rules) ∙ c.deref-page-items.ensures.value in
    have_sets c.args.contents.now c.loop-page.sets.sets.items c.in_ok-pages.pages.items c.loop-page.last c.in_ok-pages.ensures.same
    (subst (λ l. AreSoFar c.args.contents.now c.loop-page.sets.sets.items l c.loop-page.last) all c.loop-page.invariant)
