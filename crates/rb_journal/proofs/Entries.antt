-- Texts of tables as parts of a journal.
use Rattle.std.proofs.Common.{◌≡◌, ℕ, Bool, true, false, ◌&&◌, List, [], ◌∷◌, ◌++◌, length, get_or, Option, Some, None, Result, Ok, Err, IfOk, IfErr, String, Global, nat_cmp, is_eq, ◌==◌, string_bytes, refl, sym, ap, subst, ◌∙◌, inl, inr, arith}
use Rattle.std.proofs.lemmas.Bool.{cases_Bool, ne_eqb}
use Rattle.std.specs.Cmp.Lexicographic.{slice_cmp}
use Rattle.std.specs.Map.{remove_entry}
use Rattle.std.specs.BTreeMap.{is_at}
use Rattle.toml.specs.Data.{Data, Items, Members, members_have_valid_dates, get_member, as_array, as_table}
use Rattle.toml.specs.View.{view, items_view, members_view}
use Rattle.toml.specs.declared.value.Value.{Value}
use Rattle.rb_script_toml.specs.Fields.{Section}
use Rattle.rb_script_toml.specs.Faults.{Fault, Fails}
use Rattle.rb_script_toml.specs.declared.fault.Fault.{Fault as CodeFault}
use Rattle.rb_script_toml.specs.declared.fault.RunError.{RunError}
use Rattle.rb_script_toml.specs.declared.fault.RunError.TheVariants.{NoMemory, Device, Fault as FaultOf}
use Rattle.rb_script_toml.specs.Documents.{document, whole}
use Rattle.rb_journal.specs.Parts.{heading, gap, closing, IsWhole}
use Rattle.rb_journal.specs.Refusals.{IsRefusal, MakesNoPart, HasNoScript}
use Rattle.rb_journal.specs.Verbatim.{bar, barred, verbatim}
use Rattle.rb_journal.proofs.Verbatims.{verbatim_whole}
use Rattle.rb_journal.specs.Entries.{turn_key, script_of, only_table, count_of, turn_in, without, IsWritable, IsTooMuch, IsPart, IsOpening, IsScriptPart, IsVerbatimPart, IsEntry, RestoresScript, Restores, UnrestoredScript, Unrestored}

-- ---- the turn of a script

pub only-one : (vs : List Value) (v : Value) → vs ≡ v ∷ [] → only_table (items_view vs) ≡ as_table (view v)
only-one vs v e = rw e refl

pub only-other : (vs : List Value) → (length vs ≡ 1 → ⊥) → only_table (items_view vs) ≡ None
only-other [] h = refl
only-other (v ∷ []) h = absurd (h refl)
only-other (v ∷ w ∷ vs) h = refl

pub count_of-view : (es : List (String Global × Value)) → count_of (members_view es) ≡ length es
count_of-view [] = refl
count_of-view (e ∷ es) = let more = count_of-view es in omega arith

pub turn-many : (ms : Members) → (count_of ms ≡ 1 → ⊥) → turn_in ms ≡ None
unfolding turn_in
turn-many ms h = rw (ne_eqb (count_of ms) 1 h) refl

one : (ms : Members) → count_of ms ≡ 1 → (count_of ms == 1) ≡ true
one ms h = rw h refl

pub turn-missing : (ms : Members) → count_of ms ≡ 1 → get_member turn_key ms ≡ None → turn_in ms ≡ None
unfolding turn_in
turn-missing ms n e = rw (one ms n, e) refl

pub turn-other : (ms : Members) (d : Data) → count_of ms ≡ 1 → get_member turn_key ms ≡ Some d → as_array d ≡ None → turn_in ms ≡ None
unfolding turn_in
turn-other ms d n e none = rw (one ms n, e, none) refl

pub turn-array : (ms : Members) (d : Data) (ds : Items) → count_of ms ≡ 1 → get_member turn_key ms ≡ Some d → as_array d ≡ Some ds → turn_in ms ≡ only_table ds
unfolding turn_in
turn-array ms d ds n e is = rw (one ms n, e, is) refl

pub turn_in-script_of : (turn : Members) → turn_in (script_of turn) ≡ Some turn
unfolding turn_in
turn_in-script_of turn = refl

both : (b : Bool) → ((b && true) && true) ≡ true → b ≡ true
both true h = refl
both false h = h

pub turn-writable : (turn : Members) → IsWritable (script_of turn) → IsWritable turn
turn-writable turn h = let deep = h.1 in (both (members_have_valid_dates turn) h.0, omega arith)

-- ---- a setup without turns

pub view-removed : (name : List ℕ) (es : List (String Global × Value))
    → members_view (remove_entry (is_at (λ k. slice_cmp nat_cmp name (string_bytes k))) es) ≡ without name (members_view es)
view-removed name [] = refl
view-removed name (e ∷ es) =
    elim (cases_Bool (is_eq (slice_cmp nat_cmp name (string_bytes e.0)))) [
      | inl same ↦ rw same refl
      | inr other ↦ rw (other, view-removed name es) refl
    ]

pub is_opening : {E : Type 0} (r : Result (String Global) E) (digests : Bool) (setup : List ℕ) (ms ns : Members) → document setup ≡ Ok (whole ms) → ns ≡ without turn_key ms
    → IfOk r (λ part. IsPart digests (heading digests) ns (string_bytes part)) → IfOk r (λ part. IsOpening digests setup (string_bytes part))
is_opening (Ok part) digests setup ms ns read same h = (ms, read, subst (λ (xs : Members). IsPart digests (heading digests) xs (string_bytes part)) same h)
is_opening (Err e) digests setup ms ns read same h = tt

-- ---- a turn

pub is_script : {E : Type 0} (r : Result (String Global) E) (digests : Bool) (bytes : List ℕ) (turn script : Members) → document bytes ≡ Ok (whole turn) → script ≡ script_of turn
    → IfOk r (λ part. IsPart digests gap script (string_bytes part)) → IfOk r (λ part. IsScriptPart digests bytes (string_bytes part))
is_script (Ok part) digests bytes turn script read same h =
    record { turn = turn; held = read; part_of = subst (λ (xs : Members). IsPart digests gap xs (string_bytes part)) same h }
is_script (Err e) digests bytes turn script read same h = tt

ok_same : (x y : Section) (r : Result Section Fault) → r ≡ Ok x → r ≡ Ok y → x ≡ y
ok_same x y r a b = cc

whole-same : (ms ns : Members) (r s : Result Section Fault) → r ≡ s → r ≡ Ok (whole ms) → s ≡ Ok (whole ns) → ms ≡ ns
whole-same ms ns r s e a b =
    let same : r ≡ Ok (whole ns) = e ∙ b in
    ap (λ (x : Section). x.members) (ok_same (whole ms) (whole ns) r a same)

-- what stands in the part of a document is the script of its turn
script-same : (digests : Bool) (part inner bytes : List ℕ) (script : Members) → ((t : List ℕ) → part ≡ gap ++ (t ++ closing digests (gap ++ t)) → inner ≡ t) → document inner ≡ Ok (whole script)
    → (e : IsScriptPart digests bytes part) → script ≡ script_of e.turn
script-same digests part inner bytes script is_inner read e =
    let inside : inner ≡ e.part_of.text = is_inner e.part_of.text e.part_of.is_part in
    whole-same script (script_of e.turn) (document inner) (document e.part_of.text) (ap document inside) read e.part_of.read

turn-same : (digests : Bool) (part inner bytes : List ℕ) (script turn : Members) → ((t : List ℕ) → part ≡ gap ++ (t ++ closing digests (gap ++ t)) → inner ≡ t) → document inner ≡ Ok (whole script)
    → turn_in script ≡ Some turn → (e : IsScriptPart digests bytes part) → turn ≡ e.turn
turn-same digests part inner bytes script turn is_inner read is_turn e =
    let turns : Some turn ≡ Some e.turn = sym is_turn ∙ ap turn_in (script-same digests part inner bytes script is_inner read e) ∙ turn_in-script_of e.turn in
    cc

-- its text reads as the document
pub restored : {E : Type 0} (digests : Bool) (r : Result (String Global) E) (part inner : List ℕ) (script turn : Members) → ((t : List ℕ) → part ≡ gap ++ (t ++ closing digests (gap ++ t)) → inner ≡ t)
    → document inner ≡ Ok (whole script) → turn_in script ≡ Some turn → IfOk r (λ text. document (string_bytes text) ≡ Ok (whole turn))
    → IfOk r (λ text. RestoresScript digests part (string_bytes text))
restored digests (Ok text) part inner script turn is_inner read is_turn written = λ bytes e.
    let same : turn ≡ e.turn = turn-same digests part inner bytes script turn is_inner read is_turn e in
    written ∙ ap (λ (xs : Members). Ok (whole xs)) same ∙ sym e.held
restored digests (Err e) part inner script turn is_inner read is_turn written = tt

-- ---- why none is restored

some-none : {A : Type 0} {x : A} {o : Option A} → o ≡ Some x → o ≡ None → ⊥
some-none a b = cc

ok-err : {A E : Type 0} {x : A} {e : E} {r : Result A E} → r ≡ Ok x → r ≡ Err e → ⊥
ok-err a b = cc

pub unrestored-read : (digests : Bool) (part inner : List ℕ) (error : RunError) → ((t : List ℕ) → part ≡ gap ++ (t ++ closing digests (gap ++ t)) → inner ≡ t) → Fails error (document inner) → UnrestoredScript digests part error
unrestored-read digests part inner NoMemory is_inner h = λ bytes e. inl tt
unrestored-read digests part inner Device is_inner h = absurd h
unrestored-read digests part inner (FaultOf f) is_inner h = λ bytes e.
    absurd (ok-err (ap document (is_inner e.part_of.text e.part_of.is_part) ∙ e.part_of.read) h)

pub unrestored-turn : (digests : Bool) (part inner : List ℕ) (script : Members) (error : RunError) → ((t : List ℕ) → part ≡ gap ++ (t ++ closing digests (gap ++ t)) → inner ≡ t)
    → document inner ≡ Ok (whole script) → turn_in script ≡ None → UnrestoredScript digests part error
unrestored-turn digests part inner script error is_inner read none = λ bytes e.
    absurd (some-none (ap turn_in (script-same digests part inner bytes script is_inner read e) ∙ turn_in-script_of e.turn) none)

pub unrestored-text : {T : Type 0} (digests : Bool) (r : Result T RunError) (part inner : List ℕ) (script turn : Members) → ((t : List ℕ) → part ≡ gap ++ (t ++ closing digests (gap ++ t)) → inner ≡ t)
    → document inner ≡ Ok (whole script) → turn_in script ≡ Some turn
    → IfErr r (λ error. IsWritable turn → IsTooMuch error) → IfErr r (λ error. UnrestoredScript digests part error)
unrestored-text digests (Ok text) part inner script turn is_inner read is_turn refused = tt
unrestored-text digests (Err error) part inner script turn is_inner read is_turn refused = λ bytes e.
    let same : turn ≡ e.turn = turn-same digests part inner bytes script turn is_inner read is_turn e in
    refused (subst IsWritable (sym same) (turn-writable e.turn e.part_of.writable))

-- ---- documents as they came

-- a script doesn't begin with a bar
no_bar : (lines rest : List ℕ) → bar ∷ lines ≡ gap ++ rest → ⊥
no_bar lines rest e = let heads : 124 ≡ 10 = ap (λ (xs : List ℕ). get_or xs 0 0) e in absurd (omega (arith, heads))

-- the part is the script
pub script_entry : (digests : Bool) (bytes part : List ℕ) → IsScriptPart digests bytes part
    → IsEntry digests bytes part × (IsVerbatimPart digests bytes part → HasNoScript digests bytes)
script_entry digests bytes part s =
    let text = s.part_of.text in
    (inl s, λ v. absurd (no_bar ((barred bytes ++ 10 ∷ []) ++ closing digests (verbatim bytes)) (text ++ closing digests (gap ++ text)) (sym v.is_part ∙ s.part_of.is_part)))

-- the part is the document
pub verbatim_entry : (digests : Bool) (bytes part : List ℕ) (turn script : Members) (f : CodeFault) → document bytes ≡ Ok (whole turn) → script ≡ script_of turn
    → IsRefusal (MakesNoPart digests gap script) (FaultOf f) → part ≡ verbatim bytes ++ closing digests (verbatim bytes)
    → IsEntry digests bytes part × (IsVerbatimPart digests bytes part → HasNoScript digests bytes)
verbatim_entry digests bytes part turn script f read same none is = (
  inr (record { turn = turn; held = read; is_part = is; ends = subst IsWhole (sym is) (verbatim_whole digests bytes) }),
  λ v. (turn, f.name, read, subst (λ (ms : Members). MakesNoPart digests gap ms f.name) same none.0),
)

-- such a part is the script of no document
pub restored_verbatim : (digests : Bool) (part lines text : List ℕ) → part ≡ bar ∷ lines
    → ((bytes : List ℕ) → bar ∷ lines ≡ verbatim bytes ++ closing digests (verbatim bytes) → text ≡ bytes) → Restores digests part text
restored_verbatim digests part lines text is same = λ bytes e. elim e [
  | inl s ↦ absurd (no_bar lines (s.part_of.text ++ closing digests (gap ++ s.part_of.text)) (sym is ∙ s.part_of.is_part))
  | inr v ↦ ap document (same bytes (sym is ∙ v.is_part))
]

pub restored_script : (digests : Bool) (part text : List ℕ) → ((rest : List ℕ) → part ≡ bar ∷ rest → ⊥) → RestoresScript digests part text → Restores digests part text
restored_script digests part text none restores = λ bytes e. elim e [
  | inl s ↦ restores bytes s
  | inr v ↦ absurd (none ((barred bytes ++ 10 ∷ []) ++ closing digests (verbatim bytes)) v.is_part)
]

pub unrestored_script : (digests : Bool) (part : List ℕ) (error : RunError) → ((rest : List ℕ) → part ≡ bar ∷ rest → ⊥) → UnrestoredScript digests part error → Unrestored digests part error
unrestored_script digests part error none unrestored = λ bytes e. elim e [
  | inl s ↦ unrestored bytes s
  | inr v ↦ absurd (none ((barred bytes ++ 10 ∷ []) ++ closing digests (verbatim bytes)) v.is_part)
]

pub unrestored_memory : (digests : Bool) (part : List ℕ) → Unrestored digests part NoMemory
unrestored_memory digests part = λ bytes e. inl tt
