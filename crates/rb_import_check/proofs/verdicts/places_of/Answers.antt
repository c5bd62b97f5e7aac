use Rattle.std.proofs.Common.{◌≡◌, ◌<◌, length, get_or, rules, subst}
use Rattle.std.proofs.lemmas.List.{take_all}
use Rattle.rb_import_check.proofs.Indexing.{HasEach, at_place, each_more, places_more}
use Rattle.rb_import_check.proofs.verdicts.places_of.Goals as goal

pub loop-place-preserved : goal.loop-place-preserved
loop-place-preserved c =
    let verdicts = c.args.verdicts.now in
    let place = c.loop-place.place in
    let v = c.index-verdicts-place.result in
    let small : place < length verdicts = search rules in
    let is : v ≡ get_or verdicts place v = search rules in
    record {
      places = places_more verdicts c.loop-place.places c.insert.new.self place v c.in_ok-insert.ensures.updates c.loop-place.invariant.places (at_place verdicts place v small is);
      each = each_more verdicts c.loop-place.places c.insert.new.self place v c.in_ok-insert.ensures.updates c.loop-place.invariant.each small is;
    }

pub returns : goal.returns
returns c =
    (c.loop-place.invariant.places, subst (HasEach c.loop-place.places) (take_all c.loop-place.place c.args.verdicts.now (search rules)) c.loop-place.invariant.each)
