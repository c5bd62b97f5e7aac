use Rattle.std.proofs.Common.{◌≡◌, ◌++◌, ◌∷◌, [], map, is_some, sym, ap, subst, ◌∙◌, arith, rules, tests}
use Rattle.std.proofs.lemmas.List.{length-map}
use Rattle.std.specs.BTreeMap.{get_by_text}
use Rattle.rb_script_config.specs.Directories.{IsIndex}
use Rattle.rb_script_config.proofs.DirectoriesLemmas.{IsIndex-new, IsIndex-old, map-more}
use Rattle.rb_script_config.proofs.directory.Directory.with.Goals.{then-not-contains_key+in_ok-id+in_ok-insert, else-not-contains_key}
use Rattle.rb_script_config.proofs.directory.Directory.with.Goals as goal

pub invariant_of-result : goal.invariant_of-result
invariant_of-result g c =
    let name = g.T.Named.name in
    let before = c.self.inside.objects.items in
    let id = name c.args.object in
    let places = c.self.inside.places in
    let found : c.contains_key.result ≡ is_some (get_by_text places id) = c.contains_key.ensures ∙ ap (λ x. is_some (get_by_text places x)) c.id.ensures in
    let ids = map-more name before c.push.new.self.items c.args.object c.in_ok-push.ensures.items in
    subst (λ xs. IsIndex xs c.if-not-contains_key.places) (sym ids) (elim c.if-not-contains_key.branch [
      | then-not-contains_key+in_ok-id+in_ok-insert w ↦
          subst (IsIndex (map name before ++ id ∷ [])) (sym w.places-is) (
          IsIndex-new (map name before) places w.insert.new.self w.in_ok-id.id id w.len.result c.self.invariant
          (w.in_ok-id.ensures.ok ∙ w.id-then-not-contains_key.ensures)
          (omega (arith, length-map before name, w.len.ensures, c.self.inside.objects.ok.0))
          (sym found ∙ search (rules, tests)) w.in_ok-insert.ensures.updates
          )
      | else-not-contains_key w ↦
          subst (IsIndex (map name before ++ id ∷ [])) (sym w.places-is) (IsIndex-old (map name before) places id c.self.invariant (sym found ∙ search (rules, tests)))
    ])
