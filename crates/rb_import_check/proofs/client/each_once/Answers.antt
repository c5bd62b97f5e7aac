use Rattle.std.proofs.Common.{◌≡◌, ◌+◌, ◌<◌, ◌++◌, [], ◌∷◌, All, List, Some, ap, get_or, length, map, rules, subst, sym, ◌∙◌}
use Rattle.std.specs.Prelude.{Contains}
use Rattle.std.proofs.lemmas.List.{take_all}
use Rattle.rb_import_check.specs.declared.client.Stored.{Stored}
use Rattle.rb_import_check.proofs.Repeats.{AreTaken, one_repeated, one_taken, state_of}
use Rattle.rb_import_check.proofs.client.each_once.Goals as goal

pub loop-next-preserved : goal.loop-next-preserved
loop-next-preserved c =
    let i = c.loop-next.next-index in
    let told : List Stored = c.args.told.now in
    let next : Stored = c.next-item.result in
    let before : List Stored = c.loop-next.stored.items in
    let was = c.loop-next.invariant in
    let taken : AreTaken told i before c.loop-next.last = (was.rising, was.among, was.all, was.last) in
    let small : i < length told = search rules in
    let is : next ≡ get_or told i next = search rules in
    elim c.if-not-branch.branch [
      | goal.then-not-branch+in_ok-push w ↦
          let items : c.if-not-branch.stored.items ≡ before ++ next ∷ [] = ap (λ v. v.items) w.stored-is ∙ w.in_ok-push.ensures.items in
          let now : AreTaken told (i + 1) (before ++ next ∷ []) (Some next) =
          one_taken told i next before c.loop-next.last c.requires.order small is (c.in_ok-is_repeated.ensures.other w.if-not-branch.true) taken in
          let there : AreTaken told (i + 1) c.if-not-branch.stored.items c.if-not-branch.last =
          subst (AreTaken told (i + 1) c.if-not-branch.stored.items) (sym w.last-is) (subst (λ l. AreTaken told (i + 1) l (Some next)) (sym items) now) in
          record { rising = there.0; among = there.1; all = there.2; last = there.3 }
      | goal.else-not-branch w ↦
          let now : AreTaken told (i + 1) before c.loop-next.last =
          one_repeated told i next before c.loop-next.last small is (c.in_ok-is_repeated.ensures.same w.if-not-branch.false) taken in
          let there : AreTaken told (i + 1) c.if-not-branch.stored.items c.if-not-branch.last =
          subst (AreTaken told (i + 1) c.if-not-branch.stored.items) (sym w.last-is) (subst (λ l. AreTaken told (i + 1) l c.loop-next.last) (sym (ap (λ v. v.items) w.stored-is)) now) in
          record { rising = there.0; among = there.1; all = there.2; last = there.3 }
    ]

pub returns-clause-among : goal.returns-clause-among
returns-clause-among c =
    subst (λ l. All (Contains l) c.loop-next.stored.items) (take_all c.loop-next.next-index c.args.told.now c.loop-next-test.false) c.loop-next.invariant.among

pub returns-clause-all : goal.returns-clause-all
returns-clause-all c =
    subst (All (λ (s : Stored). Contains (map state_of c.loop-next.stored.items) s.state.now)) (take_all c.loop-next.next-index c.args.told.now c.loop-next-test.false) c.loop-next.invariant.all
