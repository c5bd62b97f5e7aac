-- the places of the voters whose votes are sent are those of members of the own set
use Rattle.std.proofs.Common.{◌≡◌, ◌∙◌, ℕ, ◌<◌, List, [], ◌++◌, Option, Some, get_or, slice_get, length, refl, sym, ap, subst}
use Rattle.std.specs.List.{All}
use Rattle.std.specs.Option.{option_map_or}
use Rattle.std.proofs.lemmas.List.{take_at}
use Rattle.std.proofs.lemmas.List.Elements.{All-take}
use Rattle.std.proofs.lemmas.List.Sorted.{All-permutation}
use Rattle.std.proofs.lemmas.Option.{slice_get-get_or}
use Rattle.rb_base.specs.Options.{ClientOptions}
use Rattle.rb_valset.specs.Validator.{Member, address_of}
use Rattle.rb_book.specs.Header.{Header}
use Rattle.rb_votes.specs.declared.voter.Voter.{Voter}
use Rattle.rb_votes.specs.Votes.{IsPart}
use Rattle.rb_votes.proofs.Sent.{sent_part}
use Rattle.rb_step.specs.Sent.{address_at}
use Rattle.rb_step.specs.Carried.{voters_of, needed_of, needed_voters}
use Rattle.rb_step.proofs.CommitVoters.{places_below}

-- what holds of all voters holds of a part of them
all_part : (P : Voter → Type 0) (votes voters : List Voter) → IsPart votes voters → All P voters → All P votes
all_part P votes voters part all =
    subst (All P) (take_at votes part.0 (length votes) refl)
    (All-take P (length votes) (votes ++ part.0) (All-permutation P voters (votes ++ part.0) part.1 all))

pub needed_places : (o : ClientOptions) (trusted_height : ℕ) (next : Option (List Member)) (h : Header) (own : List Member)
    → All (λ v. v.place < length own) (needed_voters o trusted_height next h own)
needed_places o trusted_height next h own =
    all_part (λ v. v.place < length own) (needed_voters o trusted_height next h own) (voters_of next h own)
    (sent_part (needed_of o trusted_height next h own) (voters_of next h own)) (places_below next h own)

-- what is read at a place
pub address_there : (own items : List Member) (v : Voter) (m : Member) (a : List ℕ) → items ≡ own → v.place < length own → m ≡ get_or items v.place m → a ≡ address_of m.key → a ≡ address_at own v
address_there own items v m a same within is address =
    let read : get_or own v.place m ≡ m = sym (is ∙ ap (λ (ms : List Member). get_or ms v.place m) same) in
    let there : slice_get own v.place ≡ Some m = slice_get-get_or own v.place m within ∙ ap Some read in
    address ∙ sym (ap (λ (x : Option Member). option_map_or (λ (n : Member). address_of n.key) x []) there)
