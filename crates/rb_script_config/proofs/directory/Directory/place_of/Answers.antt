use Rattle.std.proofs.Common.{◌≡◌, ℕ, ◌<◌, Bool, List, [], length, map, IfSome, Option, Some, None, sym, ap, ◌∙◌, arith}
use Rattle.std.proofs.lemmas.List.{length-map}
use Rattle.std.proofs.lemmas.List.Quantifiers.{position-Some}
use Rattle.std.specs.List.{position}
use Rattle.std.specs.Str.{bytes_eq}
use Rattle.rb_script_config.proofs.directory.Directory.place_of.Goals as goal

within : {A : Type 0} (p : List ℕ → Bool) (f : A → List ℕ) (xs : List A) (r : Option ℕ) → r ≡ position p (map f xs) → IfSome r (λ i. i < length xs)
within p f xs (Some i) h = let here = (position-Some p (map f xs) i [] (sym h)).0 in omega (arith, length-map xs f)
within p f xs None h = tt

pub returns-clause-range : goal.returns-clause-range
returns-clause-range g c =
    let name = g.T.Named.name in
    within (bytes_eq c.args.id.now) name c.args.self.now c.copied.result (
    c.copied.ensures ∙ c.get.ensures.value ∙ c.self.invariant c.args.id.now ∙ ap (λ xs. position (bytes_eq c.args.id.now) (map name xs)) c.self.view_is
    )
