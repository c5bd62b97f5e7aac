-- Tables that are kept stay those of their chains' books.
use Rattle.std.proofs.Common.{◌≡◌, ℕ, zero, suc, ◌<◌, true, cond, not, ltb, List, [], ◌∷◌, Option, Some, None, IfSome, is_some, length, get_or, set, replicate, refl, sym, ap, ◌∙◌, subst, inl, inr, arith}
use Rattle.std.specs.List.{slice_get}
use Rattle.std.specs.Option.{option_map, option_map_or, option_and_then}
use Rattle.std.proofs.lemmas.Bool.{cases_eq, ltb-true, not-false}
use Rattle.std.proofs.lemmas.List.{get_or-set_same, get_or-set_other, length-set, length-replicate, set-get_or}
use Rattle.std.proofs.lemmas.List.Elements.{All-get_or}
use Rattle.std.proofs.lemmas.Option.{get_or_from_slice_get, none-some, same_Some, slice_get-get_or, slice_get-map, slice_get_within}
use Rattle.rb_book.specs.Book.{Book}
use Rattle.rb_script_types.specs.Config.{Config, IsClient}
use Rattle.rb_script_types.specs.declared.config.ClientConfig.{ClientConfig}
use Rattle.rb_script_types.specs.declared.refusal.Refusal.TheVariants.{UnknownObject}
use Rattle.rb_core_model.specs.Config.{IsSetUp}
use Rattle.rb_core.specs.Core.{Core, state_in, refusal_in}
use Rattle.rb_core_model.specs.Event.{Event, Window, HostWindow, Asked, SetSeen, HeaderSeen, StoredSeen, Sent, Received, AckWritten, Cleared, Closed, Scanned, Planned, Settled}
use Rattle.rb_core_model.specs.Machine.{State, accepted, is_known}
use Rattle.rb_core_model.specs.Snapshot.{followed_by}
use Rattle.rb_core_model.specs.Standing.{OpenBatch, ClientState, Standing, after_settled, book_at, changed, empty_book, open_batch, tracked}
use Rattle.rb_core_model.proofs.Options.{passes, get_set_other}
use Rattle.rb_super_turn.specs.Phases.{standing_in}
use Rattle.rb_super_turn.specs.Tables.{chain_of, with_addition, IsTableOf, AreTables}
use Rattle.rb_core_model.proofs.Configs.{config_of}
use Rattle.rb_super_turn.proofs.Configs.{configs_are}
use Rattle.rb_super_turn.proofs.Sizes.{at_place}
use Rattle.rb_super_turn.proofs.Steps.{one_more, same_state, sizes_in}

-- ---- the chain of an event

-- the chain by how things stand
abbrev chain_by : Standing → Event → Option ℕ
chain_by s (SetSeen chain x) = Some chain
chain_by s (HeaderSeen chain header) = Some chain
chain_by s (StoredSeen client height r) = Some (tracked s.clients client)
chain_by s _ = None

-- what is accepted is of something that is there
known_if : (core : Core) (e : Event) → refusal_in core e ≡ None → is_known (state_in core) e ≡ true
known_if core e ok = not-false (is_known (state_in core) e) (passes (not (is_known (state_in core) e)) UnknownObject _ ok).0

chain_within : (core : Core) (chain : ℕ) → ltb chain (length (standing_in core).books) ≡ true → chain < length core.config.chains
chain_within core chain known = subst (λ n. chain < n) (sizes_in core).books (ltb-true chain (length (standing_in core).books) known)

client_at : (core : Core) (client : ℕ) → ltb client (length (standing_in core).clients) ≡ true → (c : ClientConfig) × (slice_get core.config.clients client ≡ Some c)
client_at core client known =
    at_place core.config.clients client (subst (λ n. client < n) (sizes_in core).clients (ltb-true client (length (standing_in core).clients) known))

-- what a client tracks stands in the configuration
tracked_is : (core : Core) (client : ℕ) → ltb client (length (standing_in core).clients) ≡ true → Some (tracked (standing_in core).clients client) ≡ option_map (λ (k : ClientConfig). k.tracks) (slice_get core.config.clients client)
tracked_is core client known =
    let c = client_at core client known in
    let found : option_map config_of (slice_get (standing_in core).clients client) ≡ Some c.0 =
    sym (slice_get-map config_of (standing_in core).clients client) ∙ ap (λ cs. slice_get cs client) (configs_are core) ∙ c.1 in
    go (slice_get (standing_in core).clients client) c.0 found ∙ sym (ap (option_map (λ (k : ClientConfig). k.tracks)) c.1)
  where
    go : (o : Option ClientState) (c : ClientConfig) → option_map config_of o ≡ Some c → Some (option_map_or (λ (k : ClientState). k.config.tracks) o 0) ≡ Some c.tracks
    go None c e = absurd (none-some c e)
    go (Some k) c e = ap (λ (x : ClientConfig). Some x.tracks) (same_Some k.config c e)

same_chain : (core : Core) (e : Event) → is_known (state_in core) e ≡ true → chain_by (standing_in core) e ≡ chain_of core.config e
same_chain core (Window window) known = refl
same_chain core (HostWindow host window) known = refl
same_chain core (Asked client goal) known = refl
same_chain core (SetSeen chain x) known = refl
same_chain core (HeaderSeen chain header) known = refl
same_chain core (StoredSeen client height r) known = tracked_is core client known
same_chain core (Sent path sequence block timeout_height timeout_time) known = refl
same_chain core (Received path sequence block) known = refl
same_chain core (AckWritten path sequence block) known = refl
same_chain core (Cleared path sequence) known = refl
same_chain core (Closed path) known = refl
same_chain core (Scanned path scan) known = refl
same_chain core (Planned d) known = refl
same_chain core (Settled client number done) known = refl

there : (core : Core) (e : Event) (chain : ℕ) → IsSetUp core.config → is_known (state_in core) e ≡ true → chain_of core.config e ≡ Some chain → chain < length core.config.chains
there core (Window window) chain up known is = absurd (none-some chain is)
there core (HostWindow host window) chain up known is = absurd (none-some chain is)
there core (Asked client goal) chain up known is = absurd (none-some chain is)
there core (SetSeen other x) chain up known is = subst (λ n. n < length core.config.chains) (same_Some other chain is) (chain_within core other known)
there core (HeaderSeen other header) chain up known is = subst (λ n. n < length core.config.chains) (same_Some other chain is) (chain_within core other known)
there core (StoredSeen client height r) chain up known is =
    let c = client_at core client known in
    let within = slice_get_within core.config.clients client c.0 c.1 in
    let at : get_or core.config.clients client c.0 ≡ c.0 = get_or_from_slice_get core.config.clients client c.0 c.0 c.1 in
    let rule : IsClient (length core.config.chains) c.0 =
    subst (IsClient (length core.config.chains)) at (All-get_or (IsClient (length core.config.chains)) core.config.clients client c.0 within up.rules.clients) in
    let same : c.0.tracks ≡ chain = same_Some c.0.tracks chain (sym (ap (option_map (λ (k : ClientConfig). k.tracks)) c.1) ∙ is) in
    subst (λ n. n < length core.config.chains) same rule.tracks
there core (Sent path sequence block timeout_height timeout_time) chain up known is = absurd (none-some chain is)
there core (Received path sequence block) chain up known is = absurd (none-some chain is)
there core (AckWritten path sequence block) chain up known is = absurd (none-some chain is)
there core (Cleared path sequence) chain up known is = absurd (none-some chain is)
there core (Closed path) chain up known is = absurd (none-some chain is)
there core (Scanned path scan) chain up known is = absurd (none-some chain is)
there core (Planned d) chain up known is = absurd (none-some chain is)
there core (Settled client number done) chain up known is = absurd (none-some chain is)

-- the chain of what is accepted is there
pub chain_there : (core : Core) (e : Event) (chain : ℕ) → IsSetUp core.config → refusal_in core e ≡ None → chain_of core.config e ≡ Some chain → chain < length core.config.chains
chain_there core e chain up ok is = there core e chain up (known_if core e ok) is

-- ---- what an event makes of the books

abbrev books_with : List Book → Event → Option ℕ → List Book
books_with books e o = option_map_or (λ chain. set books chain (with_addition e (book_at books chain))) o books

books_changed : (s : Standing) (e : Event) → (changed s e).books ≡ books_with s.books e (chain_by s e)
books_changed s (Window window) = refl
books_changed s (HostWindow host window) = refl
books_changed s (Asked client goal) = refl
books_changed s (SetSeen chain x) = refl
books_changed s (HeaderSeen chain header) = refl
books_changed s (StoredSeen client height r) = refl
books_changed s (Sent path sequence block timeout_height timeout_time) = refl
books_changed s (Received path sequence block) = refl
books_changed s (AckWritten path sequence block) = refl
books_changed s (Cleared path sequence) = refl
books_changed s (Closed path) = refl
books_changed s (Scanned path scan) = refl
books_changed s (Planned d) = refl
books_changed s (Settled client number done) = go (option_and_then (λ c. open_batch c number) (slice_get s.clients client))
  where
    go : (o : Option OpenBatch) → (after_settled s client done o).books ≡ s.books
    go None = refl
    go (Some b) = refl

module _ (old new : Core) (e : Event) (config : new.config ≡ old.config) (log : new.log ≡ followed_by old.log (e ∷ [])) (ok : refusal_in old e ≡ None) where
  books_after : (standing_in new).books ≡ books_with (standing_in old).books e (chain_of old.config e)
  books_after =
      ap (λ (t : State). t.standing.books) (one_more old new e config log)
      ∙ ap (λ o. (cond (is_some o) (state_in old) (accepted (state_in old) e)).standing.books) ok
      ∙ books_changed (standing_in old) e
      ∙ ap (books_with (standing_in old).books e) (same_chain old e (known_if old e ok))

  same_books : chain_of old.config e ≡ None → (standing_in new).books ≡ (standing_in old).books
  same_books none = books_after ∙ ap (books_with (standing_in old).books e) none

  one_book : (chain : ℕ) → chain_of old.config e ≡ Some chain
      → (standing_in new).books ≡ set (standing_in old).books chain (with_addition e (book_at (standing_in old).books chain))
  one_book chain some = books_after ∙ ap (books_with (standing_in old).books e) some

-- ---- the tables

none_of : (n k : ℕ) (book : Book) → IfSome (slice_get (replicate n None) k) (IsTableOf book)
none_of zero k book = tt
none_of (suc n) zero book = tt
none_of (suc n) (suc k) book = none_of n k book

pub tables_none : (core : Core) (n : ℕ) → n ≡ length core.config.chains → AreTables core (replicate n None)
tables_none core n e = record { places = length-replicate n None ∙ e; right = λ chain. none_of n chain (book_at (standing_in core).books chain) }

-- as many places, with no table in them
pub as_many : (tables kept none : List (Option Book)) → kept ≡ tables → none ≡ replicate (length kept) None → length none ≡ length tables
as_many tables kept none same is = ap (λ (xs : List (Option Book)). length xs) is ∙ length-replicate (length kept) None ∙ ap (λ (xs : List (Option Book)). length xs) same

pub tables_let_go : (core : Core) (tables kept none : List (Option Book)) → kept ≡ tables → none ≡ replicate (length kept) None → AreTables core tables → AreTables core none
tables_let_go core tables kept none same is are =
    subst (AreTables core) (sym is) (tables_none core (length kept) (ap (λ (xs : List (Option Book)). length xs) same ∙ are.places))

pub tables_stay : (old new : Core) (tables : List (Option Book)) → new.config ≡ old.config → (standing_in new).books ≡ (standing_in old).books → AreTables old tables → AreTables new tables
tables_stay old new tables config books are = record {
  places = are.places ∙ sym (ap (λ (k : Config). length k.chains) config);
  right = λ chain. subst (λ bs. IfSome (slice_get tables chain) (IsTableOf (book_at bs chain))) (sym books) (are.right chain);
}

-- nothing was taken in
pub tables_same : (old new : Core) (tables : List (Option Book)) → new.config ≡ old.config → new.log ≡ old.log → AreTables old tables → AreTables new tables
tables_same old new tables config log = tables_stay old new tables config (ap (λ (t : State). t.standing.books) (same_state old new config log))

-- a table, or none, of the book that a chain has then
put : (books : List Book) (tables : List (Option Book)) (chain : ℕ) (book : Book) (t : Option Book) → length tables ≡ length books → chain < length books → IsTableOf book t
    → ((k : ℕ) → IfSome (slice_get tables k) (IsTableOf (book_at books k)))
    → (k : ℕ) → IfSome (slice_get (set tables chain t) k) (IsTableOf (book_at (set books chain book) k))
put books tables chain book t long lt of right k = elim (cases_eq k chain) [
  | inl same ↦ subst (λ i. IfSome (slice_get (set tables chain t) i) (IsTableOf (book_at (set books chain book) i))) (sym same) here
  | inr other ↦
      subst (λ (p : Option (Option Book) × Book). IfSome p.0 (IsTableOf p.1))
      (λ i. (sym (get_set_other tables chain k t other) i, sym (get_or-set_other books chain k book (empty_book 1) other) i)) (right k)
]
  where
    here : IfSome (slice_get (set tables chain t) chain) (IsTableOf (book_at (set books chain book) chain))
    here =
        let within : chain < length (set tables chain t) = omega (arith, length-set tables chain t) in
        let found : slice_get (set tables chain t) chain ≡ Some t =
        slice_get-get_or (set tables chain t) chain t within ∙ ap (λ x. Some x) (get_or-set_same tables chain t t (omega arith)) in
        subst (λ (p : Option (Option Book) × Book). IfSome p.0 (IsTableOf p.1))
        (λ i. (sym found i, sym (get_or-set_same books chain book (empty_book 1) lt) i)) of

-- a table, or none, in the place of a chain that has a new book
tables_put : (old new : Core) (tables : List (Option Book)) (chain : ℕ) (book : Book) (t : Option Book) → new.config ≡ old.config
    → (standing_in new).books ≡ set (standing_in old).books chain book → chain < length old.config.chains → IsTableOf book t → AreTables old tables → AreTables new (set tables chain t)
tables_put old new tables chain book t config books lt of are =
    let sizes = (sizes_in old).books in
    let places = are.places in
    record {
      places = length-set tables chain t ∙ are.places ∙ sym (ap (λ (k : Config). length k.chains) config);
      right = λ k.
          subst (λ bs. IfSome (slice_get (set tables chain t) k) (IsTableOf (book_at bs k))) (sym books)
          (put (standing_in old).books tables chain book t (omega arith) (omega arith) of are.right k);
    }

-- a table of a chain's book as it stands, in its place
pub tables_with : (core : Core) (tables : List (Option Book)) (chain : ℕ) (book : Book) (t : Option Book) → chain < length tables → book ≡ book_at (standing_in core).books chain
    → IsTableOf book t → AreTables core tables → AreTables core (set tables chain t)
tables_with core tables chain book t lt is of are =
    let sizes = (sizes_in core).books in
    let places = are.places in
    record {
      places = length-set tables chain t ∙ are.places;
      right = λ k.
          subst (λ bs. IfSome (slice_get (set tables chain t) k) (IsTableOf (book_at bs k)))
          (ap (set (standing_in core).books chain) is ∙ set-get_or (standing_in core).books chain (empty_book 1))
          (put (standing_in core).books tables chain book t (omega arith) (omega arith) of are.right k);
    }

-- the table of a chain
pub table_at : (core : Core) (tables : List (Option Book)) (chain : ℕ) (t : Option Book) → chain < length tables → t ≡ get_or tables chain t → AreTables core tables
    → IsTableOf (book_at (standing_in core).books chain) t
table_at core tables chain t lt at are =
    let found : slice_get tables chain ≡ Some t = slice_get-get_or tables chain t lt ∙ ap (λ x. Some x) (sym at) in
    subst (λ o. IfSome o (IsTableOf (book_at (standing_in core).books chain))) found (are.right chain)

-- ---- what was taken in is added to them

module _ (old new : Core) (e : Event) (config : new.config ≡ old.config) (log : new.log ≡ followed_by old.log (e ∷ [])) (ok : refusal_in old e ≡ None) where
  pub tables_as_were : (tables : List (Option Book)) → chain_of old.config e ≡ None → AreTables old tables → AreTables new tables
  tables_as_were tables none are = tables_stay old new tables config (same_books old new e config log ok none) are

  pub tables_grown : (tables : List (Option Book)) (chain : ℕ) (t : Option Book) → IsSetUp old.config → chain_of old.config e ≡ Some chain
      → IsTableOf (with_addition e (book_at (standing_in old).books chain)) t → AreTables old tables → AreTables new (set tables chain t)
  tables_grown tables chain t up some of are =
      tables_put old new tables chain (with_addition e (book_at (standing_in old).books chain)) t config (one_book old new e config log ok chain some) (chain_there old e chain up ok some) of are
