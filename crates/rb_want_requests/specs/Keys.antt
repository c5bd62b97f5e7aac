-- The keys of next pages, as gateways give them (Cosmos SDK: `next_key` of a page).
use Rattle.std.specs.Prelude.{ℕ, ◌-◌, ◌&&◌, not, is_some, Bool, if◌then◌else◌, List, Option, Some, None, find, reverse, option_and_then, option_map, string_bytes}
use Rattle.std.specs.Option.{option_or}
use Rattle.rb_want_requests.specs.Answered.{is_part, is_part_of, number_in}
use Rattle.rb_want_requests.specs.declared.answered.PartKind.{PartKind}
use Rattle.rb_want_requests.specs.declared.content.Content.{Content}
use Rattle.rb_want_requests.specs.declared.content.Content.TheVariants as contents

-- the key of the page after one that isn't the last
abbrev pub key_unless : Bool → Option (List ℕ) → Option (List ℕ)
key_unless is_last key = if is_last then None else key

-- the key of the page after one that a file holds, if there is one
abbrev pub key_in : Content → Option (List ℕ)
key_in (contents.ConsensusStates number page) = key_unless page.is_last (option_map string_bytes page.next_key)
key_in (contents.Commitments number page) = key_unless page.is_last (option_map string_bytes page.next_key)
key_in _ = None

-- the key that the page with this number names
abbrev pub key_after : PartKind → ℕ → List Content → Option (List ℕ)
key_after kind n there = option_and_then key_in (find (is_part kind n) there)

-- a page in a file of another name
abbrev pub is_other : PartKind → Content → Bool
is_other kind c = is_part_of kind c && not (is_some (number_in c))

-- the key that the last of the pages in files of other names has
abbrev pub other_key : PartKind → List Content → Option (List ℕ)
other_key kind there = option_and_then key_in (find (is_other kind) (reverse there))

-- the key that a page begins with: which the page before it names
abbrev pub next_key : PartKind → ℕ → List Content → Option (List ℕ)
next_key kind page there = option_or (key_after kind (page - 1) there) (other_key kind there)
