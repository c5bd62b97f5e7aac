-- Lemmas on plain scripts: another value at a key, the lines of a document, and tables in sequence.
use Rattle.std.proofs.Common.{◌≡◌, ◌≢◌, ℕ, suc, ◌-◌, ◌<◌, ◌≤◌, ◌==◌, nat_le, true, false, cond, Ordering, Less, Equal, Greater, nat_cmp, is_eq, List, [], ◌∷◌, ◌++◌, length, map, codes, drop, slice_index, Option, Some, None, option_map, Result, Ok, Err, IfOk, IsUtf8, inl, inr, ◌⊎◌, refl, sym, ap, subst, ◌∙◌, arith}
use Rattle.std.proofs.lemmas.Bool.{cases_Bool, leb-true, true≢false}
use Rattle.std.proofs.Common.{le-leb}
use Rattle.std.proofs.lemmas.Map.Text.{is_eq-slice_cmp}
use Rattle.std.proofs.lemmas.Slice.Eq.{bytes_eq-Decides}
use Rattle.std.specs.declared.alloc.Global.{Global}
use Rattle.std.specs.Cmp.Lexicographic.{slice_cmp}
use Rattle.std.specs.List.{list_any}
use Rattle.std.specs.Ordering.{match_ordering}
use Rattle.std.specs.Str.{bytes_eq}
use Rattle.toml_parser.specs.Lexical.{first, skip_ws}
use Rattle.toml_parser.specs.Strings.{recursion_limit, key}
use Rattle.toml.specs.declared.value.Value.{Value}
use Rattle.toml.specs.View.{items_view}
use Rattle.toml.specs.Data.{Data, array, table, Items, no_items, item, Members, no_members, member, get_member, same_key, push_item}
use Rattle.toml.specs.Tables.{Node, Nodes, no_nodes, node, value, open_array, get_node, insert, replace, close, close_node, key_value, array_table, put, define, along_header}
use Rattle.toml.specs.Parse.{val, after_byte, header_key, key_equals, expression, line, ends_line}
use Rattle.toml.proofs.NodeLaws.{get_node-insert, replace-insert}
use Rattle.toml.proofs.Turns.{along_header_ok, at_key_ok, at_key_new}
use Rattle.rb_script_toml.specs.Faults.{Fault, check}
use Rattle.rb_script_toml.specs.Fields.{Field, Section, section_at, needs, required, optional, or_default, only, unknown_key, items, items_count, next_in_sequence, in_sequence}
use Rattle.rb_script_toml.specs.Fields.{time, elements, array as array_of}
use Rattle.rb_script_toml.specs.KeyPaths.{child, element}
use Rattle.rb_script_toml.specs.Documents.{document, max_bytes, max_marks, whole}
use Rattle.rb_script_toml.specs.Marks.{marks}
use Rattle.rb_script_toml.proofs.Documents.{document-parsed}
use Rattle.rb_script_toml.specs.declared.fault.FaultName.TheVariants.{TooManyEvents, BadWindow}
use Rattle.rb_script_types.specs.Config.{Config}
use Rattle.rb_script_types.specs.Limits.{max_chains, max_clients, max_paths, max_turns}
use Rattle.rb_script_types.specs.Script.{Script, Turn, IsReadScript}
use Rattle.rb_script_types.specs.declared.script.Asked.{Asked}
use Rattle.rb_script_types.specs.declared.script.HostWindow.{HostWindow}
use Rattle.rb_script_types.specs.declared.script.Settlement.{Settlement}
use Rattle.rb_script_types.specs.declared.observation.Observation.{Observation}
use Rattle.rb_script_types.specs.declared.version.Version.{Version}
use Rattle.rb_script_types.specs.declared.version.Version.TheVariants.{One, Two, Three, Four}
use Rattle.rb_script_config.specs.Clients.{client_ids}
use Rattle.rb_script_config.specs.Goals.{asked, settlement}
use Rattle.rb_script_config.specs.HostWindows.{host_window}
use Rattle.rb_script_config.specs.Tables.{Tables, tables, config, top_keys}
use Rattle.rb_script_config.specs.Versions.{version}
use Rattle.rb_script_config.proofs.ConfigForms.{pass, same_ok, check-passed}
use Rattle.rb_script_read.specs.Events.{event}
use Rattle.rb_script_read.specs.Names.{Names}
use Rattle.rb_script_read.specs.Scripts.{script, script_of}
use Rattle.rb_script_read.specs.Turns.{TurnHead, Reading, entries, frame, is_taken, opening, turn, turn_at, turn_keys, turns_of, windows_in}
use Rattle.rb_script_read.specs.Work.{little}
use Rattle.rb_script_read.specs.Front.{values_of}
use Rattle.rb_script_read.specs.Plain.{AreRead, IsKeyRead, IsPair, TakesPairs, around, in_array, in_turn, set_member, with_events}
use Rattle.rb_script_types.specs.Script.{turn_view}
use Rattle.rb_script_types.specs.declared.script.Turn.{Turn as CodeTurn}
use Rattle.std.proofs.lemmas.Bool.Decides.{nat_tests}
use Rattle.std.proofs.lemmas.List.{length-map, map_push}
use Rattle.toml.specs.Parse.{lines, skip_bom, parse_document}
use Rattle.toml.proofs.Turns.{lines_more, document_some}
use Rattle.toml_parser.specs.Lexical.{skip_blank}
use Rattle.rb_script_read.proofs.Forms.{in_sequence-count, script-form}
use Rattle.rb_script_read.proofs.FrontLemmas.{close-values, get-values, put-new}

-- ---- nodes with another value at a key

cases_ordering : (o : Ordering) → (o ≡ Less) ⊎ ((o ≡ Equal) ⊎ (o ≡ Greater))
cases_ordering Less = inl refl
cases_ordering Equal = inr (inl refl)
cases_ordering Greater = inr (inr refl)

not_some : {A G : Type 0} (x : A) → Some x ≡ None → G
not_some x h = absurd cc

pub get-replace : (k e : List ℕ) (y : Node) (ns : Nodes) → get_node k ns ≡ None → get_node k (replace e y ns) ≡ None
get-replace k e y no_nodes h = refl
get-replace k e y (node l x ns) h =
    elim (cases_Bool (same_key k l)) [
      | inl here ↦ not_some x (rw here at h)
      | inr there ↦ elim (cases_Bool (same_key e l)) [
        | inl same ↦ rw (same, there) (rw there at h)
        | inr other ↦ rw (other, there) (get-replace k e y ns (rw there at h))
      ]
    ]

pub insert-replace : (k e : List ℕ) (x y : Node) (ns : Nodes) → same_key e k ≡ false → get_node k ns ≡ None → insert k x (replace e y ns) ≡ replace e y (insert k x ns)
insert-replace k e x y no_nodes apart h = rw apart
insert-replace k e x y (node l z ns) apart h =
    elim (cases_ordering (slice_cmp nat_cmp k l)) [
      | inl less ↦ elim (cases_Bool (same_key e l)) [
        | inl same ↦ simp (same, less, apart)
        | inr other ↦ simp (other, less, apart)
      ]
      | inr rest ↦ elim rest [
        | inl tie ↦ not_some z (rw tie at h)
        | inr more ↦ elim (cases_Bool (same_key e l)) [
          | inl same ↦ simp (same, more)
          | inr other ↦ simp (other, more) (ap (node l z) (insert-replace k e x y ns apart (rw more at h)))
        ]
      ]
    ]

pub replace-missing : (e : List ℕ) (y : Node) (ns : Nodes) → get_node e ns ≡ None → replace e y ns ≡ ns
replace-missing e y no_nodes h = refl
replace-missing e y (node l z ns) h =
    elim (cases_Bool (same_key e l)) [
      | inl same ↦ not_some z (rw same at h)
      | inr other ↦ rw other (ap (node l z) (replace-missing e y ns (rw other at h)))
    ]

pub get-insert : (k e : List ℕ) (x : Node) (ns : Nodes) → get_node e (insert k x ns) ≡ None → get_node e ns ≡ None
get-insert k e x no_nodes h = refl
get-insert k e x (node l z ns) h =
    elim (cases_ordering (slice_cmp nat_cmp k l)) [
      | inl less ↦
          let g = rw less at h in
          elim (cases_Bool (same_key e k)) [ inl same ↦ not_some x (rw same at g) | inr other ↦ rw other at g ]
      | inr rest ↦ elim rest [
        | inl tie ↦
            let g = rw tie at h in
            elim (cases_Bool (same_key e l)) [ inl same ↦ not_some x (rw same at g) | inr other ↦ rw other (rw other at g) ]
        | inr more ↦
            let g = rw more at h in
            elim (cases_Bool (same_key e l)) [ inl same ↦ not_some z (rw same at g) | inr other ↦ rw other (get-insert k e x ns (rw other at g)) ]
      ]
    ]

pub close-replace : (e : List ℕ) (x : Node) (ms : Members) → close (replace e x (values_of ms)) ≡ set_member e (close_node x) ms
close-replace e x no_members = refl
close-replace e x (member l d ms) =
    elim (cases_Bool (same_key e l)) [
      | inl same ↦ rw same (ap (member l (close_node x)) (close-values ms))
      | inr other ↦ rw other (ap (member l d) (close-replace e x ms))
    ]

-- ---- members with another value at a key

alike : (e l k : List ℕ) → same_key e l ≡ true → same_key k e ≡ false → slice_cmp nat_cmp k l ≢ Equal
alike e l k same apart tie =
    let is : e ≡ l = (bytes_eq-Decides e l).0 (sym (is_eq-slice_cmp e l) ∙ same) in
    true≢false (sym (ap is_eq tie) ∙ subst (λ x. same_key k x ≡ false) is apart)

not_tied : (o : Ordering) (a b c : Option Data) → o ≢ Equal → match_ordering o a b a ≡ match_ordering o a c a
not_tied Less a b c h = refl
not_tied Equal a b c h = absurd (h refl)
not_tied Greater a b c h = refl

pub get-set : (k e : List ℕ) (d : Data) (ms : Members) → same_key k e ≡ false → get_member k (set_member e d ms) ≡ get_member k ms
get-set k e d no_members apart = refl
get-set k e d (member l x ms) apart =
    elim (cases_Bool (same_key e l)) [
      | inl same ↦ rw same (not_tied (slice_cmp nat_cmp k l) (get_member k ms) (Some d) (Some x) (alike e l k same apart))
      | inr other ↦ rw other (ap (λ o. match_ordering (slice_cmp nat_cmp k l) o (Some x) o) (get-set k e d ms apart))
    ]

pub get-set_same : (e : List ℕ) (d x : Data) (ms : Members) → get_member e ms ≡ Some x → get_member e (set_member e d ms) ≡ Some d
get-set_same e d x no_members h = not_some x (sym h)
get-set_same e d x (member l y ms) h =
    elim (cases_ordering (slice_cmp nat_cmp e l)) [
      | inl less ↦ simp less (get-set_same e d x ms (rw less at h))
      | inr rest ↦ elim rest [
        | inl tie ↦ simp tie
        | inr more ↦ simp more (get-set_same e d x ms (rw more at h))
      ]
    ]

pub set-missing : (e : List ℕ) (d : Data) (ms : Members) → get_member e ms ≡ None → set_member e d ms ≡ ms
set-missing e d no_members h = refl
set-missing e d (member l y ms) h =
    elim (cases_ordering (slice_cmp nat_cmp e l)) [
      | inl less ↦ simp less (ap (member l y) (set-missing e d ms (rw less at h)))
      | inr rest ↦ elim rest [
        | inl tie ↦ not_some y (rw tie at h)
        | inr more ↦ simp more (ap (member l y) (set-missing e d ms (rw more at h)))
      ]
    ]

pub unknown-set : (keys : List (List ℕ)) (e : List ℕ) (d : Data) (ms : Members) → unknown_key keys (set_member e d ms) ≡ unknown_key keys ms
unknown-set keys e d no_members = refl
unknown-set keys e d (member l x ms) =
    elim (cases_Bool (same_key e l)) [
      | inl same ↦ rw same
      | inr other ↦ rw other (ap (λ u. cond (list_any (λ known. bytes_eq known l) keys) u (Some l)) (unknown-set keys e d ms))
    ]

-- ---- lines

pub line_pair : (text at_value rest key : List ℕ) (d : Data) → (first text == 91) ≡ false → key_equals text ≡ Some (([], key), at_value)
    → val recursion_limit at_value ≡ Some (d, rest) → ends_line (skip_ws rest) ≡ true → line text ≡ Some ((([], key), key_value d), rest)
unfolding line expression
line_pair text at_value rest key d other read_key read ends = rw (other, read_key, read, ends)

pub line_header : (text rest one two : List ℕ) (path : List (List ℕ)) (last : List ℕ) → (first text == 91) ≡ true → (slice_index text 1 == 91) ≡ true
    → key (skip_ws (drop 2 text)) ≡ Some ((path, last), rest) → path ≡ [] → after_byte 93 rest ≡ Some one → after_byte 93 one ≡ Some two
    → ends_line (skip_ws two) ≡ true → line text ≡ Some ((([], last), array_table), two)
unfolding line expression header_key
line_header text rest one two path last a b read none closed again ends = rw (a, b, read, closed, again, ends, none)

pub root_pair : TakesPairs (λ ns. (ns, []))
unfolding define along_header
root_pair key d ns new none written = rw (put-new key d ns none, written)

edit_array : (done : Items) (last new : Nodes) (key : List ℕ) (d : Data) → put ([], key) d last ≡ Some new
    → option_map (open_array done) (along_header [] (put ([], key) d) last) ≡ Some (open_array done new)
unfolding along_header
edit_array done last new key d edit = rw edit

pub array_pair : (name : List ℕ) (root : Nodes) (done : Items) → TakesPairs (in_array name root done)
unfolding define
array_pair name root done key d last next none written =
    let old = open_array done last in
    let new = open_array done next in
    let edit = edit_array done last next key d (put-new key d last none ∙ ap Some (sym written)) in
    rw (along_header_ok name [] (put ([], key) d) (insert name old root) (insert name new root) old new (get_node-insert name old root) edit (sym (replace-insert name old new root)))

pub array_first : (name : List ℕ) (root : Nodes) (path : List (List ℕ)) → get_node name root ≡ None
    → define (root, path) (([], name), array_table) ≡ Some (in_array name root no_items no_nodes)
unfolding define along_header
array_first name root path none = rw (at_key_new name array_table root none)

pub array_more : (name : List ℕ) (root : Nodes) (done : Items) (last : Nodes)
    → define (in_array name root done last) (([], name), array_table) ≡ Some (in_array name root (push_item done (table (close last))) no_nodes)
unfolding define along_header
array_more name root done last =
    let old = open_array done last in
    let new = open_array (push_item done (table (close last))) no_nodes in
    rw (at_key_ok name array_table (insert name old root) (insert name new root) old new (get_node-insert name old root) refl (sym (replace-insert name old new root)))

-- the same where the last table's keys hold values
pub array_next : (name : List ℕ) (root : Nodes) (done next : Items) (ms : Members) → next ≡ push_item done (table ms)
    → define (in_array name root done (values_of ms)) (([], name), array_table) ≡ Some (in_array name root next no_nodes)
array_next name root done next ms same = array_more name root done (values_of ms) ∙ ap (λ (x : Items). Some (in_array name root x no_nodes)) (ap (λ (x : Members). push_item done (table x)) (close-values ms) ∙ sym same)

-- ---- nodes and the values that they stand for

pub absent-close : (k : List ℕ) (ns : Nodes) → get_node k (values_of (close ns)) ≡ None → get_node k ns ≡ None
absent-close k no_nodes h = refl
absent-close k (node l x ns) h =
    elim (cases_Bool (same_key k l)) [
      | inl here ↦ not_some (value (close_node x)) (rw here at h)
      | inr there ↦ rw there (absent-close k ns (rw there at h))
    ]

close-insert_node : (k : List ℕ) (x y : Node) (ns : Nodes) → close_node x ≡ close_node y → close (insert k x ns) ≡ close (insert k y ns)
close-insert_node k x y no_nodes same = ap (λ (d : Data). member k d no_members) same
close-insert_node k x y (node l z ns) same =
    elim (cases_ordering (slice_cmp nat_cmp k l)) [
      | inl less ↦ simp less (ap (λ (d : Data). member k d (member l (close_node z) (close ns))) same)
      | inr rest ↦ elim rest [
        | inl tie ↦ simp tie (ap (λ (d : Data). member l d (close ns)) same)
        | inr more ↦ simp more (ap (member l (close_node z)) (close-insert_node k x y ns same))
      ]
    ]

pub close-insert : (k : List ℕ) (x : Node) (ns : Nodes) → close (insert k x ns) ≡ close (insert k x (values_of (close ns)))
close-insert k x no_nodes = refl
close-insert k x (node l z ns) =
    elim (cases_ordering (slice_cmp nat_cmp k l)) [
      | inl less ↦ simp less (ap (λ (ms : Members). member k (close_node x) (member l (close_node z) ms)) (sym (close-values (close ns))))
      | inr rest ↦ elim rest [
        | inl tie ↦ simp tie (ap (member l (close_node x)) (sym (close-values (close ns))))
        | inr more ↦ simp more (ap (member l (close_node z)) (close-insert k x ns))
      ]
    ]

-- a new key of a table, by a node that stands for its value
pub close-new : (k : List ℕ) (x : Node) (d : Data) (ns : Nodes) (ms new : Members) → close_node x ≡ d → close ns ≡ ms → values_of new ≡ insert k (value d) (values_of ms)
    → close (insert k x ns) ≡ new
close-new k x d ns ms new same closed written =
    close-insert_node k x (value d) ns same ∙ close-insert k (value d) ns ∙ ap (λ (x : Members). close (insert k (value d) (values_of x))) closed ∙ ap close (sym written) ∙ close-values new

-- ---- tables in sequence

module _ {S A : Type 0} (read : S → Section → Result (A × S) Fault) where
  -- one more table
  pub sequence-push : (path : List ℕ) (state : S) (before : List A) (ds : Items) (d : Data) (xs : List A) (now : S) (x : A) (after : S)
      → in_sequence read path state before ds ≡ Ok (xs, now) → next_in_sequence read path (length xs) now d ≡ Ok (x, after)
      → in_sequence read path state before (push_item ds d) ≡ Ok (xs ++ x ∷ [], after)
  sequence-push path state before no_items d xs now x after h next =
      let same = same_ok (before, state) (xs, now) h in
      let listed : before ≡ xs = ap (λ (y : List A × S). y.0) same in
      let stood : state ≡ now = ap (λ (y : List A × S). y.1) same in
      rw (listed, stood, next)
  sequence-push path state before (item e ds) d xs now x after h next =
      pass (next_in_sequence read path (length before) state e) (λ y. in_sequence read path y.1 (before ++ y.0 ∷ []) ds) (xs, now) h (λ y read_first rest.
      rw read_first (sequence-push path y.1 (before ++ y.0 ∷ []) ds d xs now x after rest next))

-- ---- sections with another value at a key

abbrev with_member : List ℕ → Data → Section → Section
with_member e d s = record { path = s.path; members = set_member e d s.members }

only-set : (keys : List (List ℕ)) (e : List ℕ) (d : Data) (s : Section) → only keys (with_member e d s) ≡ only keys s
unfolding only
only-set keys e d s = rw (unknown-set keys e d s.members)

optional-set : (key e : List ℕ) (d : Data) (s : Section) → same_key key e ≡ false → optional key (with_member e d s) ≡ optional key s
unfolding optional
optional-set key e d s apart = rw (get-set key e d s.members apart)

required-set : (key e : List ℕ) (d : Data) (s : Section) → same_key key e ≡ false → required key (with_member e d s) ≡ required key s
unfolding required
required-set key e d s apart = rw (optional-set key e d s apart)

needs-set : {A : Type 0} (key : List ℕ) (read : Field → Result A Fault) (e : List ℕ) (d : Data) (s : Section) → same_key key e ≡ false
    → needs key read (with_member e d s) ≡ needs key read s
needs-set key read e d s apart = rw (required-set key e d s apart)

windows-set : (ver : Version) (d : Data) (s : Section) → windows_in ver (with_member (codes "event") d s) ≡ windows_in ver s
windows-set One d s = refl
windows-set Two d s = refl
windows-set Three d s = refl
windows-set Four d s = rw (optional-set (codes "window") (codes "event") d s refl)

taken-set : (ver : Version) (d : Data) (s : Section) → is_taken ver (with_member (codes "event") d s) ≡ is_taken ver s
taken-set One d s = refl
taken-set Two d s = refl
taken-set Three d s = rw (optional-set (codes "taken") (codes "event") d s refl)
taken-set Four d s = rw (optional-set (codes "taken") (codes "event") d s refl)

cases_found : (o : Option Data) → (o ≡ None) ⊎ ((x : Data) × (o ≡ Some x))
cases_found None = inl refl
cases_found (Some x) = inr (x, refl)

-- the events that a turn lists, which has none where it has no key for them
listed-events : (ds : Items) (s : Section) → (get_member (codes "event") s.members ≡ None → ds ≡ no_items)
    → or_default no_items items (optional (codes "event") (with_events ds s)) ≡ Ok ds
unfolding optional items
listed-events ds s listed =
    elim (cases_found (get_member (codes "event") s.members)) [
      | inl none ↦ rw (set-missing (codes "event") (array ds) s.members none, none, listed none)
      | inr found ↦ let (x, there) = found in rw (get-set_same (codes "event") (array ds) x s.members there)
    ]

pub frame-around : (ver : Version) (room : ℕ) (s : Section) (ds : Items) (f : TurnHead) → frame ver (room - items_count ds) s ≡ Ok f
    → items_count ds ≤ room → f.events ≡ no_items → (get_member (codes "event") s.members ≡ None → ds ≡ no_items)
    → frame ver room (with_events ds s) ≡ Ok (record { window = f.window; windows = f.windows; goals = f.goals; events = ds; settlements = f.settlements; taken = f.taken; room = f.room })
unfolding frame
frame-around ver room s ds f h fits none listed =
    let e : List ℕ = codes "event" in
    let d : Data = array ds in
    pass (only (turn_keys ver) s) _ f h (λ u e0 h0.
    pass (needs (codes "from") time s) _ f h0 (λ from e1 h1.
    pass (needs (codes "until") time s) _ f h1 (λ until e2 h2.
    pass (windows_in ver s) _ f h2 (λ windows e3 h3.
    pass (or_default no_items items (optional (codes "goal") s)) _ f h3 (λ goals e4 h4.
    pass (or_default no_items items (optional (codes "event") s)) _ f h4 (λ events e5 h5.
    pass (or_default no_items items (optional (codes "settle") s)) _ f h5 (λ settlements e6 h6.
    pass (is_taken ver s) _ f h6 (λ whole e7 h7.
    pass (check (nat_le (entries windows goals events settlements) (room - items_count ds)) TooManyEvents s.path) _ f h7 (λ v few h8.
    pass (check (nat_le from until) BadWindow s.path) _ f h8 (λ w ordered same.
    let f_is = same_ok _ f same in
    let empty : events ≡ no_items = ap (λ (x : TurnHead). x.events) f_is ∙ none in
    let count : items_count events ≡ 0 = ap items_count empty in
    let there = leb-true (entries windows goals events settlements) (room - items_count ds) (check-passed _ TooManyEvents s.path v few) in
    let enough : nat_le (entries windows goals ds settlements) room ≡ true = le-leb (entries windows goals ds settlements) room (omega arith) in
    let left : room - entries windows goals ds settlements ≡ (room - items_count ds) - entries windows goals events settlements = omega arith in
    rw (
      ← f_is,
      only-set (turn_keys ver) e d s ∙ e0,
      needs-set (codes "from") time e d s refl ∙ e1,
      needs-set (codes "until") time e d s refl ∙ e2,
      windows-set ver d s ∙ e3,
      ap (or_default no_items items) (optional-set (codes "goal") e d s refl) ∙ e4,
      listed-events ds s listed,
      ap (or_default no_items items) (optional-set (codes "settle") e d s refl) ∙ e6,
      taken-set ver d s ∙ e7,
      enough,
      ordered,
      left,
    )
    ))))))))))

pub turn-around : (c : Config) (reading : Reading) (s : Section) (ds : Items) (f : TurnHead) (windows : List HostWindow) (goals : List Asked) (settlements : List Settlement)
    (events : List (Observation Global)) (after : Names) → frame c.version (reading.room - items_count ds) s ≡ Ok f
    → items_count ds ≤ reading.room → f.events ≡ no_items → (get_member (codes "event") s.members ≡ None → ds ≡ no_items)
    → elements (host_window c.chains) (child s.path (codes "window")) [] f.windows ≡ Ok windows
    → elements (asked (client_ids c.clients)) (child s.path (codes "goal")) [] f.goals ≡ Ok goals
    → in_sequence (event c) (child s.path (codes "event")) reading.names [] ds ≡ Ok (events, after)
    → elements (settlement (client_ids c.clients)) (child s.path (codes "settle")) [] f.settlements ≡ Ok settlements
    → turn c reading (with_events ds s) ≡ Ok (record { window = f.window; windows = windows; goals = goals; events = events; settlements = settlements; taken = f.taken }, record { names = after; room = f.room })
unfolding turn
turn-around c reading s ds f windows goals settlements events after framed fits none listed hosted wanted seen settled =
    rw (frame-around c.version reading.room s ds f framed fits none listed, hosted, wanted, seen, settled)

none_listed : (vs : List Value) → length vs ≡ 0 → items_view vs ≡ no_items
none_listed [] h = refl
none_listed (v ∷ vs) h = absurd (omega arith)

-- a turn whose events were read before its other keys
pub turn_read : (c : Config) (reading : Reading) (s : Section) (ds : Items) (f : TurnHead) (others : List Value) (windows : List HostWindow) (goals : List Asked) (settlements : List Settlement)
    (events : List (Observation Global)) (after next : Names) → AreRead c (child s.path (codes "event")) reading.names s.members ds events after → after ≡ next
    → length events ≤ reading.room → frame c.version (reading.room - length events) s ≡ Ok f → f.events ≡ items_view others → length others ≡ 0
    → elements (host_window c.chains) (child s.path (codes "window")) [] f.windows ≡ Ok windows
    → elements (asked (client_ids c.clients)) (child s.path (codes "goal")) [] f.goals ≡ Ok goals
    → elements (settlement (client_ids c.clients)) (child s.path (codes "settle")) [] f.settlements ≡ Ok settlements
    → turn c reading (with_events ds s) ≡ Ok (record { window = f.window; windows = windows; goals = goals; events = events; settlements = settlements; taken = f.taken }, record { names = next; room = f.room })
turn_read c reading s ds f others windows goals settlements events after next seen same fits framed listed none hosted wanted settled =
    let e : List ℕ = codes "event" in
    let count : length events ≡ items_count ds = omega (arith, in_sequence-count (event c) (child s.path e) reading.names [] ds (events, after) seen.read) in
    subst (λ (n : Names). turn c reading (with_events ds s) ≡ Ok (record { window = f.window; windows = windows; goals = goals; events = events; settlements = settlements; taken = f.taken }, record { names = n; room = f.room })) same
    (turn-around c reading s ds f windows goals settlements events after (subst (λ (n : ℕ). frame c.version (reading.room - n) s ≡ Ok f) count framed) (omega (arith, count, fits)) (listed ∙ none_listed others none)
    (λ gone. seen.listed (get-values e s.members ∙ ap (option_map value) gone)) hosted wanted seen.read settled)

-- the table that a turn is
pub turn_is : (c : Config) (index : ℕ) (reading : Reading) (ms : Members) → turn_at c index reading (table ms) ≡ turn c reading (record { path = element (codes "turn") index; members = ms })
unfolding section_at
turn_is c index reading ms = refl

-- ---- scripts

listed-turns : (ds : Items) (s : Section) (x : Data) → get_member (codes "turn") s.members ≡ Some x → items_count ds ≤ max_turns
    → or_default no_items (array_of max_turns) (optional (codes "turn") (with_member (codes "turn") (array ds) s)) ≡ Ok ds
unfolding optional items array_of
listed-turns ds s x there few =
    let fits = le-leb (items_count ds) max_turns few in
    rw (get-set_same (codes "turn") (array ds) x s.members there, fits)

pub script-around : (ms : Members) (ds : Items) (t : Tables) (c : Config) (all : List (Turn Global) × Reading) (u : Unit {0}) (x : Data) → tables (whole ms) ≡ Ok t → config t ≡ Ok c
    → get_member (codes "turn") ms ≡ Some x → turns_of c opening ds ≡ Ok all → items_count ds ≤ max_turns → little c all.0 ≡ Ok u
    → script (whole (set_member (codes "turn") (array ds) ms)) ≡ Ok (record { config = c; turns = all.0 })
unfolding script tables config
script-around ms ds t c all u x read made there turns few light =
    let s = whole ms in
    let e : List ℕ = codes "turn" in
    let d : Data = array ds in
    pass (only top_keys s) _ t read (λ v e0 h0.
    pass (needs (codes "version") version s) _ t h0 (λ ver e1 h1.
    pass (or_default no_items (array_of max_chains) (optional (codes "chain") s)) _ t h1 (λ chains e2 h2.
    pass (or_default no_items (array_of max_clients) (optional (codes "client") s)) _ t h2 (λ clients e3 h3.
    pass (or_default no_items (array_of max_paths) (optional (codes "path") s)) _ t h3 (λ paths e4 h4.
    pass (or_default no_items (array_of max_turns) (optional (codes "turn") s)) _ t h4 (λ others e5 same.
    let t_is = same_ok _ t same in
    rw (
      only-set top_keys e d s ∙ e0,
      needs-set (codes "version") version e d s refl ∙ e1,
      ap (or_default no_items (array_of max_chains)) (optional-set (codes "chain") e d s refl) ∙ e2,
      ap (or_default no_items (array_of max_clients)) (optional-set (codes "client") e d s refl) ∙ e3,
      ap (or_default no_items (array_of max_paths)) (optional-set (codes "path") e d s refl) ∙ e4,
      listed-turns ds s x there few,
      rw (← t_is) at made,
      turns,
      light,
    )
    ))))))

-- ---- the keys of a turn

-- another key than that of the events
pub apart_of : (key e : List ℕ) → bytes_eq key e ≡ false → same_key e key ≡ false
apart_of key e other =
    elim (cases_Bool (same_key e key)) [
      | inl same ↦
          let is : e ≡ key = (bytes_eq-Decides e key).0 (sym (is_eq-slice_cmp e key) ∙ same) in
          absurd (true≢false (sym ((bytes_eq-Decides key e).1 (sym is)) ∙ other))
      | inr apart ↦ apart
    ]

pub listed_read : (c : Config) (path : List ℕ) (names : Names) (key text rest : List ℕ) (old new : Members) (v : Data) (ds es : Items) (before events : List (Observation Global))
    (known after : Names) → key ≡ codes "event" → get_node key (values_of old) ≡ None → values_of new ≡ insert key (value v) (values_of old)
    → AreRead c path names old ds before known → val recursion_limit text ≡ Some (array es, rest) → ends_line (skip_ws rest) ≡ true
    → in_sequence (event c) path known [] es ≡ Ok (events, after) → IsKeyRead c path names key text rest (around ds old) new events after
listed_read c path names key text rest old new v ds es before events known after is absent written seen read ends then_read =
    let e : List ℕ = codes "event" in
    let absent_there = rw is at absent in
    let none = seen.listed absent_there in
    let first_names = same_ok ([], names) (before, known) (subst (λ x. in_sequence (event c) path names [] x ≡ Ok (before, known)) none seen.read) in
    let stood : names ≡ known = ap (λ (y : List (Observation Global) × Names). y.1) first_names in
    let flat : around ds old ≡ values_of old = replace-missing e (value (array ds)) (values_of old) absent_there in
    let put_there = rw is at written in
    let there : get_node e (values_of new) ≡ Some (value v) = ap (get_node e) put_there ∙ get_node-insert e (value v) (values_of old) in (
      array es,
      es,
      read,
      ends,
      rw flat absent,
      rw (flat, is) (ap (replace e (value (array es))) put_there ∙ replace-insert e (value v) (value (array es)) (values_of old)),
      record { listed = λ gone. not_some (value v) (sym there ∙ gone); read = rw stood then_read },
    )

pub other_read : (c : Config) (path : List ℕ) (names : Names) (key text rest : List ℕ) (old new : Members) (ds : Items) (events : List (Observation Global)) (known : Names)
    → same_key (codes "event") key ≡ false → AreRead c path names old ds events known → IsPair key text rest old new
    → IsKeyRead c path names key text rest (around ds old) new events known
other_read c path names key text rest old new ds events known apart seen pair =
    let e : List ℕ = codes "event" in
    let (d, read, ends, absent, written) = pair in (
      d,
      ds,
      read,
      ends,
      get-replace key e (value (array ds)) (values_of old) absent,
      ap (replace e (value (array ds))) written ∙ sym (insert-replace key e (value d) (value (array ds)) (values_of old) apart absent),
      record { listed = λ gone. seen.listed (get-insert key e (value d) (values_of old) (rw written at gone)); read = seen.read },
    )

-- what a turn's table holds beside its events
pub close-around : (ds : Items) (ms : Members) → close (around ds ms) ≡ set_member (codes "event") (array ds) ms
close-around ds ms = close-replace (codes "event") (value (array ds)) ms

-- what follows from what was read
pub if_ok : {A E : Type 0} (r : Result A E) (P Q : A → Type 0) → IfOk r P → ((x : A) → P x → Q x) → IfOk r Q
if_ok (Ok x) P Q h f = f x h
if_ok (Err e) P Q h f = tt

-- ---- the document

-- one more turn
pub turns_push : (c : Config) (done : Items) (last : Nodes) (ts more : List (CodeTurn Global)) (t : CodeTurn Global) (index : ℕ) (reading after : Reading)
    → turns_of c opening done ≡ Ok (map turn_view ts, reading) → index ≡ length ts
    → turn_at c index reading (table (close last)) ≡ Ok (turn_view t, after) → more ≡ ts ++ t ∷ []
    → turns_of c opening (push_item done (table (close last))) ≡ Ok (map turn_view more, after)
turns_push c done last ts more t index reading after read at next pushed =
    let place : index ≡ length (map turn_view ts) = at ∙ sym (length-map ts turn_view) in
    let there = subst (λ i. turn_at c i reading (table (close last)) ≡ Ok (turn_view t, after)) place next in
    rw (pushed, map_push turn_view ts t) (sequence-push (turn c) (codes "turn") opening [] done (table (close last)) (map turn_view ts) reading (turn_view t) after read there)

no_bom : (text : List ℕ) → (first text == 0xEF) ≡ false → skip_bom text ≡ text
unfolding skip_bom
no_bom text h = rw h

found_member : (k : List ℕ) (ms : Members) (x : Node) → get_node k (values_of ms) ≡ Some x → (d : Data) × (get_member k ms ≡ Some d)
found_member k ms x h =
    elim (cases_found (get_member k ms)) [
      | inl none ↦ not_some x (sym h ∙ get-values k ms ∙ ap (option_map value) none)
      | inr found ↦ found
    ]

-- the script of a text whose lines were read
pub text_read : (text rest after : List ℕ) (m : ℕ) (ns : Nodes) (path : List (List ℕ)) (keys root : Members) (v : Data) (done : Items) (last : Nodes) (t : Tables) (c : Config) (turns : List (Turn Global)) (end : Reading)
    (u : Unit {0}) → (first text == 0xEF) ≡ false → lines (suc (length text)) (no_nodes, []) text ≡ lines m (ns, path) rest → close ns ≡ keys → 0 < m → length after < length (skip_blank rest)
    → get_node (codes "turn") (values_of keys) ≡ None → values_of root ≡ insert (codes "turn") (value v) (values_of keys)
    → line (skip_blank rest) ≡ Some ((([], codes "turn"), array_table), after)
    → lines (m - 1) (in_turn ns no_items no_nodes) after ≡ Some (in_turn ns done last)
    → turns_of c opening (push_item done (table (close last))) ≡ Ok (turns, end)
    → tables (whole root) ≡ Ok t → config t ≡ Ok c → length turns ≤ max_turns → little c turns ≡ Ok u
    → (ms : Members) × (parse_document text ≡ Some ms) × (script (whole ms) ≡ Ok (record { config = c; turns = turns }))
text_read text rest after m ns path keys root v done last t c turns end u plain begun same some shorter absent written header ended read tabled made few light =
    let e : List ℕ = codes "turn" in
    let node_now = open_array done last in
    let ds = push_item done (table (close last)) in
    let other : (length (skip_blank rest) == 0) ≡ false = grind (arith, nat_tests) in
    let gone : get_node e ns ≡ None = absent-close e ns (ap (λ (x : Members). get_node e (values_of x)) same ∙ absent) in
    let all = begun ∙ lines_more m _ _ rest _ _ some other header (array_first e ns path gone) ∙ ended in
    let doc = document_some text (in_turn ns done last) (rw (no_bom text plain) all) in
    let whole_root : insert e node_now (values_of keys) ≡ replace e node_now (values_of root) =
    sym (ap (replace e node_now) written ∙ replace-insert e (value v) node_now (values_of keys)) in
    let closed : close (insert e node_now ns) ≡ set_member e (array ds) root =
    close-insert e node_now ns ∙ ap (λ (x : Members). close (insert e node_now (values_of x))) same ∙ ap close whole_root ∙ close-replace e node_now root in
    let there : get_node e (values_of root) ≡ Some (value v) = ap (get_node e) written ∙ get_node-insert e (value v) (values_of keys) in
    let (x, found) = found_member e root (value v) there in
    let count = in_sequence-count (turn c) e opening [] ds (turns, end) read in
    (set_member e (array ds) root, doc ∙ ap Some closed, script-around root ds t c (turns, end) u x tabled made found read (omega arith) light)

-- before the first line of a turn
pub none_read : (c : Config) (path : List ℕ) (names : Names) (ms : Members) (events : List (Observation Global)) (after : Names) → ms ≡ no_members → events ≡ [] → after ≡ names
    → AreRead c path names ms no_items events after
none_read c path names ms events after no_keys no_events same = rw (no_keys, no_events, same) (record { listed = λ gone. refl; read = refl })

-- a turn in an array, whose events these are
pub turn_closed : (c : Config) (index : ℕ) (reading : Reading) (es : Items) (ms : Members) (path : List ℕ) (x : Turn Global × Reading) → path ≡ element (codes "turn") index
    → turn c reading (with_events es (record { path = path; members = ms })) ≡ Ok x → turn_at c index reading (table (close (around es ms))) ≡ Ok x
turn_closed c index reading es ms path x at read =
    rw (close-around es ms) (turn_is c index reading (set_member (codes "event") (array es) ms)
    ∙ subst (λ (p : List ℕ). turn c reading (record { path = p; members = set_member (codes "event") (array es) ms }) ≡ Ok x) at read)

-- ---- the script of a text

pub plain_script : (bytes text : List ℕ) (s : Script Global) → length bytes ≤ max_bytes → marks bytes ≤ max_marks → IsUtf8 bytes → text ≡ bytes
    → (ms : Members) × (parse_document text ≡ Some ms) × (script (whole ms) ≡ Ok s) → script_of bytes ≡ Ok s
unfolding script_of
plain_script bytes text s small few utf8 same read =
    let (ms, parsed, made) = read in
    rw (document-parsed bytes ms small few utf8 (rw same at parsed), made)

pub script_of-form : (bytes : List ℕ) (t : Script Global) → script_of bytes ≡ Ok t → IsReadScript t
unfolding script_of
script_of-form bytes t h = pass (document bytes) script t h (λ s e read. script-form s t read)
