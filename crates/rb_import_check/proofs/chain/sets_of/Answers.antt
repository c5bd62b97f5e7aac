use Rattle.std.proofs.Common.{◌≡◌, ◌+◌, ◌<◌, ◌==◌, length, take, map, filter, rules, ap, sym, subst, ◌∙◌}
use Rattle.std.specs.Prelude.{Some}
use Rattle.std.proofs.lemmas.List.{take_all}
use Rattle.rb_import_check.specs.declared.chain.Page.{Page}
use Rattle.rb_import_check.specs.declared.sets.SeenSets.{SeenSets}
use Rattle.rb_import_check.specs.Chains.{filed, pages_at}
use Rattle.std.specs.List.Sorted.{IsNonDecreasingBy}
use Rattle.rb_import_check.proofs.Heights.{is_last, is_other}
use Rattle.rb_import_check.proofs.Pages.{AreSoFar, AreTaken, IsReached, have_sets, have_validators, height_of, next_height, none_so_far, none_taken, reached_more, reached_next, same_height, taken_at, taken_next}
use Rattle.rb_import_check.specs.Errors.{IsToldBy}
use Rattle.rb_import_check.specs.Named.{NamesSomePages, filed_page, filed_pages_at}
use Rattle.rb_import_check.proofs.Naming.{names_at}
use Rattle.rb_import_check.proofs.SetReasons.{RefusesSome, header_of, refuses_at}
use Rattle.rb_import_check.proofs.chain.sets_of.Goals as goal
use Rattle.rb_import_check.proofs.chain.sets_of.Goals.{then-ne+in_ok-add_set, else-ne}

pub loop-page-init : goal.loop-page-init
loop-page-init c =
    let none = none_so_far c.args.answers.now c.new-sets.result.sets.items c.deref-page-items.result.now (search rules) in
    (none.0, none.1, none_taken c.args.answers.now c.args.commits.now c.deref-page-items.result.now)

pub loop-page-preserved : goal.loop-page-preserved
loop-page-preserved c =
    let small : c.loop-page.page-index < length c.deref-page-items.result.now = search rules in
    let height = c.page-item.result.page.now.height in
    let items = c.deref-page-items.result.now in
    let next = c.loop-page.page-index + 1 in
    let rises : IsNonDecreasingBy height_of items = subst (IsNonDecreasingBy height_of) (sym c.deref-page-items.ensures.value) c.in_ok-pages.ensures.order in
    elim c.if-ne.branch [
      | then-ne+in_ok-add_set w ↦
          let group : w.of_height-same.result.now ≡ filter (λ (p : Page). p.page.now.height == height) c.in_ok-pages.pages.items =
          w.of_height-same.ensures ∙ ap (filter (λ (p : Page). p.page.now.height == height)) w.as_slice.ensures.value in
          let these : map (λ (p : Page). p.page.now) w.of_height-same.result.now ≡ pages_at c.args.answers.now height =
          ap (map (λ (p : Page). p.page.now)) group ∙ c.in_ok-pages.ensures.same height in
          let other : c.loop-page.last ≡ Some height → ⊥ = is_other c.loop-page.last height (sym c.ne.ensures ∙ w.if-ne.true) in
          let now : AreSoFar c.args.answers.now w.add_set.new.sets.sets.items (take next items) (Some height) =
          next_height c.args.answers.now c.loop-page.sets.sets.items w.add_set.new.sets.sets.items items c.loop-page.page-index c.page-item.result c.loop-page.last _
          small c.page-item.is these other c.loop-page.invariant.1 w.in_ok-add_set.ensures.kept w.in_ok-add_set.ensures.sets w.in_ok-add_set.ensures.seen c.loop-page.invariant.0 in
          let at = taken_at c.args.answers.now c.args.commits.now height w.of_height-same.result.now these w.in_ok-add_set.ensures.validators in
          let taken = taken_next c.args.answers.now c.args.commits.now items c.loop-page.page-index c.page-item.result c.loop-page.last small c.page-item.is at c.loop-page.invariant.2 in
          let last = subst (λ o. AreSoFar c.args.answers.now w.add_set.new.sets.sets.items (take next items) o × IsReached items next o × AreTaken c.args.answers.now c.args.commits.now (take next items) o)
          (sym w.last-is) (now, reached_next items c.loop-page.page-index c.page-item.result rises small c.page-item.is, taken) in
          subst (λ (s : SeenSets). AreSoFar c.args.answers.now s.sets.items (take next items) c.if-ne.last × IsReached items next c.if-ne.last × AreTaken c.args.answers.now c.args.commits.now (take next items) c.if-ne.last)
          (sym w.sets-is) last
      | else-ne w ↦
          let same : c.loop-page.last ≡ Some height = is_last c.loop-page.last height (sym c.ne.ensures ∙ w.if-ne.false) in
          let was : AreSoFar c.args.answers.now c.loop-page.sets.sets.items (take c.loop-page.page-index items) (Some height) =
          subst (AreSoFar c.args.answers.now c.loop-page.sets.sets.items (take c.loop-page.page-index items)) same c.loop-page.invariant.0 in
          let now = same_height c.args.answers.now c.loop-page.sets.sets.items items c.loop-page.page-index c.page-item.result small c.page-item.is was in
          let reached = reached_more items c.loop-page.page-index (Some height) (subst (IsReached items c.loop-page.page-index) same c.loop-page.invariant.1) in
          let so_far = subst (AreTaken c.args.answers.now c.args.commits.now (take c.loop-page.page-index items)) same c.loop-page.invariant.2 in
          let taken = taken_next c.args.answers.now c.args.commits.now items c.loop-page.page-index c.page-item.result (Some height) small c.page-item.is so_far.1 so_far in
          let last = subst (λ o. AreSoFar c.args.answers.now c.loop-page.sets.sets.items (take next items) o × IsReached items next o × AreTaken c.args.answers.now c.args.commits.now (take next items) o)
          (sym (w.last-is ∙ same)) (now, reached, taken) in
          subst (λ (s : SeenSets). AreSoFar c.args.answers.now s.sets.items (take next items) c.if-ne.last × IsReached items next c.if-ne.last × AreTaken c.args.answers.now c.args.commits.now (take next items) c.if-ne.last)
          (sym w.sets-is) last
    ]

pub returns-clause-sets : goal.returns-clause-sets
returns-clause-sets c =
    let all : take c.loop-page.page-index c.deref-page-items.result.now ≡ c.in_ok-pages.pages.items = take_all _ _ (search rules) ∙ c.deref-page-items.ensures.value in
    have_sets c.args.answers.now c.loop-page.sets.sets.items c.in_ok-pages.pages.items c.loop-page.last c.in_ok-pages.ensures.same
    (subst (λ l. AreSoFar c.args.answers.now c.loop-page.sets.sets.items l c.loop-page.last) all c.loop-page.invariant.0)

pub returns-clause-validators : goal.returns-clause-validators
returns-clause-validators c =
    let all : take c.loop-page.page-index c.deref-page-items.result.now ≡ c.in_ok-pages.pages.items = take_all _ _ (search rules) ∙ c.deref-page-items.ensures.value in
    have_validators c.args.answers.now c.args.commits.now c.in_ok-pages.pages.items c.loop-page.last c.in_ok-pages.ensures.same
    (subst (λ l. AreTaken c.args.answers.now c.args.commits.now l c.loop-page.last) all c.loop-page.invariant.2)

pub returns-in_err-add_set-clause-reason : goal.returns-in_err-add_set-clause-reason
returns-in_err-add_set-clause-reason c =
    let height = c.page-item.result.page.now.height in
    let group : c.of_height-same.result.now ≡ filter (λ (p : Page). p.page.now.height == height) c.in_ok-pages.pages.items =
    c.of_height-same.ensures ∙ ap (filter (λ (p : Page). p.page.now.height == height)) c.as_slice.ensures.value in
    let these : map (λ (p : Page). p.page.now) c.of_height-same.result.now ≡ pages_at c.args.answers.now height =
    ap (map (λ (p : Page). p.page.now)) group ∙ c.in_ok-pages.ensures.same height in
    let reason : IsToldBy (RefusesSome (map header_of c.args.commits.now) c.args.answers.now) c.in_err-add_set.field-0.0 =
    refuses_at (map header_of c.args.commits.now) c.args.answers.now height _ _ these c.in_err-add_set.ensures.reason in
    search rules

pub returns-in_err-add_set-clause-named : goal.returns-in_err-add_set-clause-named
returns-in_err-add_set-clause-named c =
    let height = c.page-item.result.page.now.height in
    let group : c.of_height-same.result.now ≡ filter (λ (p : Page). p.page.now.height == height) c.in_ok-pages.pages.items =
    c.of_height-same.ensures ∙ ap (filter (λ (p : Page). p.page.now.height == height)) c.as_slice.ensures.value in
    let these : map filed_page c.of_height-same.result.now ≡ filed_pages_at c.args.answers.now height = ap (map filed_page) group ∙ c.in_ok-pages.ensures.files height in
    let named : NamesSomePages (map filed c.args.commits.now) c.args.answers.now c.in_err-add_set.field-0.0 =
    names_at (map filed c.args.commits.now) c.args.answers.now height _ _ these c.in_err-add_set.ensures.named in
    search rules
