-- One more step of a line.
use Rattle.std.proofs.Common.{◌≡◌, ℕ, suc, ◌+◌, ◌<◌, List, length, slice_index, true, refl, arith}
use Rattle.std.specs.Prelude.{nat_lt}
use Rattle.std.proofs.lemmas.Bool.{ltb-true}
use Rattle.std.proofs.lemmas.List.Sums.{AllPass-from_list_all}
use Rattle.rb_valset.specs.declared.ripemd_line.Line.{Line}
use Rattle.rb_valset.specs.Ripemd.{after, are_places, step}

pub place-below : (ps : List ℕ) (j : ℕ) → are_places ps ≡ true → j < length ps → slice_index ps j < 16
place-below ps j places within = ltb-true _ 16 (AllPass-from_list_all (λ p. nat_lt p 16) ps places j 0 within)

pub after-more : (l : Line) (b h v : List ℕ) (j : ℕ) → v ≡ after l b h j → step l b j v ≡ after l b h (j + 1)
unfolding after
after-more l b h v j at =
    let next : suc j ≡ j + 1 = omega arith in
    rw (← next, at) refl
