use Rattle.std.proofs.Common.{◌∙◌, Some, ap, arith, length, map, sym, subst}
use Rattle.rb_import_check.specs.Chains.{AreAllPages}
use Rattle.rb_import_check.proofs.Pages.{stays_seen}
use Rattle.rb_want.specs.Clients.{MayMake}
use Rattle.rb_want.proofs.Sets.{all_there, made, made_there, none_there, not_all, only_more, page, refused, some_pages, unmade}
use Rattle.rb_want.proofs.Waiting.{on_ok}
use Rattle.rb_want.proofs.chain.add_set.Goals as goal
use Rattle.rb_want.proofs.chain.add_set.Goals.{then-is_empty-via-then-is_empty, then-is_empty-via-else-is_empty+then-not-say_total}

-- not all pages are there
pub returns-then-is_empty-clause-added : goal.returns-then-is_empty-clause-added
returns-then-is_empty-clause-added c hash makes =
    let denied : AreAllPages (map page c.args.same.now) → ⊥ =
    elim c.then-is_empty.branch [
      | then-is_empty-via-then-is_empty w ↦ none_there c.args.same.now (sym c.is_empty.ensures ∙ w.if-is_empty.true)
      | then-is_empty-via-else-is_empty+then-not-say_total w ↦
          not_all c.args.same.now w.len.result (sym w.say_total.ensures ∙ w.if-not-say_total.true) (omega (arith, w.len.ensures, c.in_ok-members.members.ok.0, ap length c.in_ok-members.ensures))
    ] in
    absurd (unmade (map page c.args.same.now) hash denied makes)

-- the set of these pages
pub returns-in-Some-clause-stays : goal.returns-in-Some-clause-stays
returns-in-Some-clause-stays c =
    on_ok c.add.result _ _ (λ kept hash was. stays_seen _ c.args.sets.now.sets.items c.add.new.self.sets.items hash kept was) c.add.ensures.kept

pub returns-in-Some-clause-added : goal.returns-in-Some-clause-added
returns-in-Some-clause-added c =
    let one : MayMake c.in_ok-members.members.items (Some c.in-Some.set) = subst (MayMake c.in_ok-members.members.items) c.in-Some.is c.in_ok-set.ensures in
    on_ok c.add.result _ _
    (λ there hash makes. made_there c.args.same.now c.in_ok-members.members.items c.in-Some.set c.add.new.self.sets.items hash c.in_ok-members.ensures one there makes)
    c.add.ensures.seen

pub returns-in-Some-clause-only : goal.returns-in-Some-clause-only
returns-in-Some-clause-only c =
    let one : MayMake c.in_ok-members.members.items (Some c.in-Some.set) = subst (MayMake c.in_ok-members.members.items) c.in-Some.is c.in_ok-set.ensures in
    let whole : AreAllPages (map page c.args.same.now) =
    all_there c.args.same.now c.len.result (some_pages c.args.same.now (sym c.is_empty.ensures ∙ c.if-is_empty.false))
    (sym c.say_total.ensures ∙ c.if-not-say_total.false) (omega (arith, c.len.ensures, c.in_ok-members.members.ok.0, ap length c.in_ok-members.ensures)) in
    on_ok c.add.result _ _
    (λ kept hash was. only_more (map page c.args.same.now) _ c.args.sets.now.sets.items c.add.new.self.sets.items hash kept
    (made c.args.same.now c.in_ok-members.members.items c.in-Some.set whole c.in_ok-members.ensures one) was)
    c.add.ensures.kept

-- the validators make none
pub returns-in-None-clause-added : goal.returns-in-None-clause-added
returns-in-None-clause-added c hash makes =
    absurd (refused c.args.same.now c.in_ok-members.members.items hash c.in_ok-members.ensures
    (subst (MayMake c.in_ok-members.members.items) c.in-None.is c.in_ok-set.ensures) makes)
