-- Lemmas on tables all of whose keys hold values.
use Rattle.std.proofs.Common.{◌≡◌, ℕ, false, cond, Ordering, Less, Equal, Greater, nat_cmp, is_eq, List, [], ◌∷◌, length, Option, Some, None, is_some, option_map, String, Global, string_bytes, refl, sym, ap, ◌∙◌, arith}
use Rattle.std.proofs.lemmas.Bool.{true≢false}
use Rattle.std.specs.Cmp.Lexicographic.{slice_cmp}
use Rattle.std.specs.BTreeMap.{insert_entry, is_at}
use Rattle.std.specs.Map.{lookup}
use Rattle.std.specs.String.{string_cmp}
use Rattle.std.specs.Ordering.{match_ordering}
use Rattle.toml.specs.declared.value.Value.{Value}
use Rattle.toml.specs.Data.{Data, Members, no_members, member, get_member}
use Rattle.toml.specs.View.{view, members_view}
use Rattle.toml.specs.Tables.{Node, Nodes, value, get_node, insert, key_value, put, along_dots, close}
use Rattle.toml_parser.specs.Reading.{path_view}
use Rattle.toml.proofs.Turns.{at_key_new}
use Rattle.toml.proofs.Views.{Entry, view-lookup}
use Rattle.rb_script_read.specs.Front.{values_of}

pub close-values : (ms : Members) → close (values_of ms) ≡ ms
close-values no_members = refl
close-values (member k d ms) = ap (member k d) (close-values ms)

found_or : (o : Ordering) (d : Data) (rest : Option Node) (more : Option Data) → rest ≡ option_map value more
    → cond (is_eq o) (Some (value d)) rest ≡ option_map value (match_ordering o more (Some d) more)
found_or Less d rest more e = e
found_or Equal d rest more e = refl
found_or Greater d rest more e = e

pub get-values : (k : List ℕ) (ms : Members) → get_node k (values_of ms) ≡ option_map value (get_member k ms)
get-values k no_members = refl
get-values k (member l d ms) = found_or (slice_cmp nat_cmp k l) d _ _ (get-values k ms)

match_values : (o : Ordering) (a b c : List Entry)
    → values_of (members_view (match_ordering o a b c)) ≡ match_ordering o (values_of (members_view a)) (values_of (members_view b)) (values_of (members_view c))
match_values Less a b c = refl
match_values Equal a b c = refl
match_values Greater a b c = refl

pub insert-values : (es : List Entry) (k : String Global) (v : Value)
    → values_of (members_view (insert_entry string_cmp es k v)) ≡ insert (string_bytes k) (value (view v)) (values_of (members_view es))
insert-values [] k v = refl
insert-values (e ∷ es) k v = match_values (string_cmp k e.0) _ _ _ ∙ rw (insert-values es k v)

none_of : {A : Type 0} (o : Option A) → is_some o ≡ false → o ≡ None
none_of None h = refl
none_of (Some x) h = absurd (true≢false h)

-- a key that the map doesn't have is no key of the table
pub missing : (k : List ℕ) (es : List Entry) → is_some (lookup (is_at (λ x. slice_cmp nat_cmp k (string_bytes x))) es) ≡ false
    → get_node k (values_of (members_view es)) ≡ None
missing k es h =
    let none = none_of _ h in
    get-values k (members_view es) ∙ ap (option_map value) (sym (view-lookup k es) ∙ ap (option_map view) none)

-- a pair with a new key
pub put-new : (k : List ℕ) (d : Data) (ns : Nodes) → get_node k ns ≡ None → put ([], k) d ns ≡ Some (insert k (value d) ns)
unfolding along_dots
put-new k d ns none = at_key_new k (key_value d) ns none

-- a key of no parts before its last
pub no_path : (path : List (String Global)) → length path ≡ 0 → path_view path ≡ []
no_path [] h = refl
no_path (x ∷ xs) h = absurd (omega arith)
