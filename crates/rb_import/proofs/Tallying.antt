-- The tally with commits more.
use Rattle.std.proofs.Common.{◌≡◌, ℕ, ◌+◌, ◌<◌, List, [], ◌∷◌, ◌++◌, length, take, get_or, sym, subst, ap, ◌∙◌, append_assoc}
use Rattle.std.proofs.lemmas.List.{take_more}
use Rattle.rb_import_check.specs.declared.chain.Commit.{Commit}
use Rattle.rb_import.specs.declared.opening.Tally.{Tally}
use Rattle.rb_import.specs.Tallies.{IsTally}

pub commits_more : (counted commits : List Commit) (i : ℕ) (c : Commit) (t : Tally) → i < length commits → c ≡ get_or commits i c
    → IsTally ((counted ++ take i commits) ++ c ∷ []) t → IsTally (counted ++ take (i + 1) commits) t
commits_more counted commits i c t small is all =
    let taken : take (i + 1) commits ≡ take i commits ++ c ∷ [] = take_more commits i c small ∙ ap (λ d. take i commits ++ d ∷ []) (sym is) in
    subst (λ l. IsTally l t) (append_assoc counted (take i commits) (c ∷ []) ∙ ap (λ l. counted ++ l) (sym taken)) all
