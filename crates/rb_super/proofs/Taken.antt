-- Where every open batch is taken, no client is held.
use Rattle.std.proofs.Common.{◌≡◌, ℕ, zero, suc, ◌+◌, ◌<◌, Bool, true, false, eqb, nat_lt, List, [], ◌∷◌, length, map, Option, Some, None, is_some, refl, sym, ap, ◌∙◌, subst, inl, inr, arith, if◌then◌else◌}
use Rattle.std.specs.List.{fold, range_with_len, slice_get, AllByRecursion}
use Rattle.std.specs.Option.{option_map, option_map_or, option_and_then}
use Rattle.std.proofs.lemmas.Bool.{cases_eq}
use Rattle.std.proofs.lemmas.Bool.Decides.{nat_tests}
use Rattle.std.proofs.lemmas.List.Elements.{recursion_from_All}
use Rattle.std.proofs.lemmas.Option.{none-some, same_Some, slice_get_within}
use Rattle.rb_script_types.specs.Config.{Config}
use Rattle.rb_script_types.specs.declared.config.ClientConfig.{ClientConfig}
use Rattle.rb_script_types.specs.declared.refusal.Refusal.TheVariants.{OutOfOrder}
use Rattle.rb_script_types.specs.declared.script.HostWindow.{HostWindow as WindowOf}
use Rattle.rb_script_types.specs.declared.script.Settlement.{Settlement}
use Rattle.rb_core_model.specs.Refusal.{refused_if}
use Rattle.rb_core_model.specs.Event.{Event, Window, HostWindow, Asked, SetSeen, HeaderSeen, StoredSeen, Sent, Received, AckWritten, Cleared, Closed, Scanned, Planned, Settled}
use Rattle.rb_core_model.specs.Standing.{OpenBatch, ClientState, Standing, new_client, with_batch, open_batch, settled_refusal, settled_refusal_of, judged, changed, changed_at, with_height, after_batch, after_settled, standing_after, in_host_window}
use Rattle.rb_core_model.proofs.HostWindows.{in_host_by, get_mapped}
use Rattle.rb_core_model.proofs.Lengths.{length-changed_at}
use Rattle.rb_core_model.proofs.Options.{get_changed, get_changed_same}
use Rattle.rb_super_turn.specs.Report.{Outcome, held, idle, planned, ClientReport, TurnReport}
use Rattle.rb_super_turn.specs.Script.{Turn, IsSeen, IsTurn}
use Rattle.rb_super_turn.specs.Turns.{after_window, window_event, after_host_window, after_question, before_plans, opened, after_outcome, after_reports, after_plans, settlement_event, after_settlement, taking, after_taking, takers, after_turn}

-- ---- what holds of the client at each place

abbrev pub AllAt : (ClientState → Type 0) → List ClientState → Type 0
AllAt P cs = (k : ℕ) (c : ClientState) → slice_get cs k ≡ Some c → P c

abbrev pub IsUnasked : ClientState → Type 0
IsUnasked c = c.asked ≡ None

abbrev pub HasNoBatch : ClientState → Type 0
HasNoBatch c = c.batch ≡ None

abbrev pub IsFree : ClientState → Type 0
IsFree c = HasNoBatch c × IsUnasked c

all_changed : (P : ClientState → Type 0) (f : ClientState → ClientState) (cs : List ClientState) (i : ℕ) → ((c : ClientState) → P c → P (f c)) → AllAt P cs → AllAt P (changed_at f cs i)
all_changed P f cs i step all k c at =
    let was = get_changed f cs i k c at in
    elim was.2 [
      | inl here ↦ subst P (sym here.1) (step was.0 (all k was.0 was.1))
      | inr other ↦ subst P (sym other.1) (all k was.0 was.1)
    ]

pub none_at_first : (configs : List ClientConfig) → AllAt IsFree (map new_client configs)
none_at_first [] k c at = absurd (none-some c at)
none_at_first (x ∷ xs) zero c at = subst IsFree (same_Some (new_client x) c at) (refl, refl)
none_at_first (x ∷ xs) (suc k) c at = none_at_first xs k c at

-- ---- what is seen leaves them so

abbrev IsQuiet : Event → Type 0
IsQuiet (Window window) = Unit {0}
IsQuiet (HostWindow host window) = Unit {0}
IsQuiet (Asked client goal) = ⊥
IsQuiet (Planned d) = ⊥
IsQuiet (Settled client number done) = ⊥
IsQuiet (SetSeen chain set) = Unit {0}
IsQuiet (HeaderSeen chain header) = Unit {0}
IsQuiet (StoredSeen client height r) = Unit {0}
IsQuiet (Sent path sequence block timeout_height timeout_time) = Unit {0}
IsQuiet (Received path sequence block) = Unit {0}
IsQuiet (AckWritten path sequence block) = Unit {0}
IsQuiet (Cleared path sequence) = Unit {0}
IsQuiet (Closed path) = Unit {0}
IsQuiet (Scanned path scan) = Unit {0}

quiet : (config : Config) (e : Event) → IsSeen config e → IsQuiet e
quiet config (Window window) is = tt
quiet config (HostWindow host window) is = tt
quiet config (Asked client goal) is = is
quiet config (SetSeen chain set) is = tt
quiet config (HeaderSeen chain header) is = tt
quiet config (StoredSeen client height r) is = tt
quiet config (Sent path sequence block timeout_height timeout_time) is = tt
quiet config (Received path sequence block) is = tt
quiet config (AckWritten path sequence block) is = tt
quiet config (Cleared path sequence) is = tt
quiet config (Closed path) is = tt
quiet config (Scanned path scan) is = tt
quiet config (Planned d) is = is
quiet config (Settled client number done) is = is

free_changed : (s : Standing) (e : Event) → IsQuiet e → AllAt IsFree s.clients → AllAt IsFree (changed s e).clients
free_changed s (Window window) is all = all
free_changed s (HostWindow host window) is all = λ k c at.
    let was = get_mapped (in_host_window host window) s.clients k c at in
    let free = all k was.0 was.1 in
    subst IsFree was.2 (in_host_by IsFree host window was.0 free free)
free_changed s (Asked client goal) is all = absurd is
free_changed s (SetSeen chain set) is all = all
free_changed s (HeaderSeen chain header) is all = all
free_changed s (StoredSeen client height r) is all =
    all_changed IsFree (λ c. record c { stored = with_height height c.stored }) s.clients client (λ c free. free) all
free_changed s (Sent path sequence block timeout_height timeout_time) is all = all
free_changed s (Received path sequence block) is all = all
free_changed s (AckWritten path sequence block) is all = all
free_changed s (Cleared path sequence) is all = all
free_changed s (Closed path) is all = all
free_changed s (Scanned path scan) is all = all
free_changed s (Planned d) is all = absurd is
free_changed s (Settled client number done) is all = absurd is

free_after : (s : Standing) (e : Event) → IsQuiet e → AllAt IsFree s.clients → AllAt IsFree (standing_after s e).clients
free_after s e is all = go (is_some (judged s e))
  where
    go : (refused : Bool) → AllAt IsFree (if refused then s else changed s e).clients
    go true = all
    go false = free_changed s e is all

free_events : (config : Config) (events : List Event) → AllByRecursion (IsSeen config) events → (s : Standing) → AllAt IsFree s.clients → AllAt IsFree (fold standing_after s events).clients
free_events config [] seen s all = all
free_events config (e ∷ events) seen s all =
    free_events config events seen.1 (standing_after s e) (free_after s e (quiet config e seen.0) all)

free_hosts : (ws : List WindowOf) (s : Standing) → AllAt IsFree s.clients → AllAt IsFree (fold after_host_window s ws).clients
free_hosts [] s all = all
free_hosts (w ∷ ws) s all = free_hosts ws (after_host_window s w) (free_after s (window_event w) tt all)

pub before_free : (config : Config) (s : Standing) (turn : Turn) → IsTurn config turn → turn.goals ≡ [] → AllAt IsFree s.clients → AllAt IsFree (before_plans s turn).clients
before_free config s turn is none all =
    let entered = fold after_host_window s turn.windows in
    let there : AllAt IsFree (fold standing_after (after_window entered turn.window) turn.events).clients =
    free_events config turn.events (recursion_from_All (IsSeen config) turn.events is.events) (after_window entered turn.window) (free_after entered (Window turn.window) tt (free_hosts turn.windows s all)) in
    subst (λ goals. AllAt IsFree (fold standing_after (fold after_question (after_window entered turn.window) goals) turn.events).clients) (sym none) there

-- ---- plans answer what was asked for

unasked_outcome : (o : Outcome) (c : ClientState) → IsFree c → IsUnasked (after_outcome o c)
unasked_outcome (held number) c free = free.1
unasked_outcome (idle next) c free = refl
unasked_outcome (planned p) c free = go (opened p)
  where
    go : (o : Option OpenBatch) → IsUnasked (with_batch c o)
    go None = refl
    go (Some b) = refl

unasked_reports : (cs : List ClientState) (rs : List ClientReport) → AllAt IsFree cs → AllAt IsUnasked (after_reports cs rs)
unasked_reports [] rs all k c at = absurd (none-some c at)
unasked_reports (x ∷ xs) [] all k c at = (all k c at).1
unasked_reports (x ∷ xs) (r ∷ rs) all zero c at = subst IsUnasked (same_Some (after_outcome r.outcome x) c at) (unasked_outcome r.outcome x (all 0 x refl))
unasked_reports (x ∷ xs) (r ∷ rs) all (suc k) c at = unasked_reports xs rs (λ j d e. all (suc j) d e) k c at

-- ---- settlements ask for nothing, and there are as many clients after them

record Keeps (s t : Standing) : Type 0 where
  unasked : AllAt IsUnasked s.clients → AllAt IsUnasked t.clients
  count : length t.clients ≡ length s.clients

keeps_settled : (s : Standing) (client done : ℕ) (o : Option OpenBatch) → Keeps s (after_settled s client done o)
keeps_settled s client done None = record { unasked = λ all. all; count = refl }
keeps_settled s client done (Some b) = record {
  unasked = all_changed IsUnasked (after_batch b done) s.clients client (λ c none. none);
  count = length-changed_at (after_batch b done) s.clients client;
}

keeps_settlement : (s : Standing) (x : Settlement) → Keeps s (after_settlement s x)
keeps_settlement s x = go (is_some (judged s (settlement_event x)))
  where
    go : (refused : Bool) → Keeps s (if refused then s else changed s (settlement_event x))
    go true = record { unasked = λ all. all; count = refl }
    go false = keeps_settled s x.client x.done (option_and_then (λ c. open_batch c x.batch) (slice_get s.clients x.client))

keeps_settlements : (xs : List Settlement) (s : Standing) → Keeps s (fold after_settlement s xs)
keeps_settlements [] s = record { unasked = λ all. all; count = refl }
keeps_settlements (x ∷ xs) s =
    let one = keeps_settlement s x in
    let rest = keeps_settlements xs (after_settlement s x) in
    record { unasked = λ all. rest.unasked (one.unasked all); count = rest.count ∙ one.count }

-- ---- a client's open batch is taken whole

not_less : (n : ℕ) → nat_lt n n ≡ false
not_less n = grind (arith, nat_tests)

same_number : (n : ℕ) → eqb n n ≡ true
same_number n = grind (arith, nat_tests)

abbrev whole_of : ℕ → OpenBatch → Settlement
whole_of client b = record { client = client; batch = b.number; done = length b.transactions }

-- the settlement of an open batch, whole, is not refused
taken_whole : (s : Standing) (client : ℕ) (c : ClientState) (b : OpenBatch) → slice_get s.clients client ≡ Some c → c.batch ≡ Some b
    → after_taking s client ≡ after_settled s client (length b.transactions) (Some b)
taken_whole s client c b at has =
    let found : option_and_then (λ (c : ClientState). open_batch c b.number) (slice_get s.clients client) ≡ Some b =
    ap (option_and_then (λ (c : ClientState). open_batch c b.number)) at ∙ ap (option_and_then (λ (x : OpenBatch). if eqb x.number b.number then Some x else None)) has
    ∙ ap (λ t. if t then Some b else None) (same_number b.number) in
    let right : judged s (Settled client b.number (length b.transactions)) ≡ None =
    ap (option_and_then (λ (c : ClientState). settled_refusal c b.number (length b.transactions))) at
    ∙ ap (settled_refusal_of c b.number (length b.transactions)) (sym (ap (option_and_then (λ (c : ClientState). open_batch c b.number)) at) ∙ found)
    ∙ ap (λ t. refused_if t OutOfOrder None) (not_less (length b.transactions)) in
    let taken : taking s client ≡ Some (whole_of client b) =
    ap (λ o. option_map (whole_of client) (option_and_then (λ (c : ClientState). c.batch) o)) at
    ∙ ap (option_map (whole_of client)) has in
    ap (λ o. option_map_or (after_settlement s) o s) taken
    ∙ ap (λ o. if is_some o then s else changed s (Settled client b.number (length b.transactions))) right
    ∙ ap (after_settled s client (length b.transactions)) found

-- where none is open, nothing changes
nothing_taken : (s : Standing) (client : ℕ) → taking s client ≡ None → after_taking s client ≡ s
nothing_taken s client none = ap (λ o. option_map_or (after_settlement s) o s) none

record Takes (s t : Standing) (client : ℕ) : Type 0 where
  keeps : Keeps s t
  taken : (c : ClientState) → slice_get t.clients client ≡ Some c → HasNoBatch c
  others : (k : ℕ) → ((c : ClientState) → slice_get s.clients k ≡ Some c → HasNoBatch c) → (c : ClientState) → slice_get t.clients k ≡ Some c → HasNoBatch c

takes_nothing : (s : Standing) (client : ℕ) → ((c : ClientState) → slice_get s.clients client ≡ Some c → HasNoBatch c) → Takes s s client
takes_nothing s client none = record {
  keeps = record { unasked = λ all. all; count = refl };
  taken = none;
  others = λ k before. before;
}

takes_batch : (s : Standing) (client : ℕ) (c : ClientState) (b : OpenBatch) (done : ℕ) → slice_get s.clients client ≡ Some c → Takes s (after_settled s client done (Some b)) client
takes_batch s client c b done at = record {
  keeps = keeps_settled s client done (Some b);
  taken = λ d there.
      subst HasNoBatch (same_Some (after_batch b done c) d (sym (get_changed_same (after_batch b done) s.clients client c at) ∙ there)) refl;
  others = λ k before d there.
      let was = get_changed (after_batch b done) s.clients client k d there in
      elim was.2 [
        | inl here ↦ subst HasNoBatch (sym here.1) refl
        | inr other ↦ subst HasNoBatch (sym other.1) (before was.0 was.1)
      ];
}

takes : (s : Standing) (client : ℕ) → Takes s (after_taking s client) client
takes s client = go (slice_get s.clients client) refl
  where
    of_client : (c : ClientState) → slice_get s.clients client ≡ Some c → (o : Option OpenBatch) → c.batch ≡ o → Takes s (after_taking s client) client
    of_client c at None none =
        let nothing : taking s client ≡ None =
        ap (λ o. option_map (whole_of client) (option_and_then (λ (c : ClientState). c.batch) o)) at
        ∙ ap (option_map (whole_of client)) none in
        subst (λ t. Takes s t client) (sym (nothing_taken s client nothing)) (takes_nothing s client (λ d there. subst HasNoBatch (same_Some c d (sym at ∙ there)) none))
    of_client c at (Some b) has = subst (λ t. Takes s t client) (sym (taken_whole s client c b at has)) (takes_batch s client c b (length b.transactions) at)

    go : (o : Option ClientState) → slice_get s.clients client ≡ o → Takes s (after_taking s client) client
    go None gone =
        let nothing : taking s client ≡ None =
        ap (λ o. option_map (whole_of client) (option_and_then (λ (c : ClientState). c.batch) o)) gone in
        subst (λ t. Takes s t client) (sym (nothing_taken s client nothing)) (takes_nothing s client (λ d there. absurd (none-some d (sym gone ∙ there))))
    go (Some c) at = of_client c at c.batch refl

-- client after client, from the first on
all_taken : (count first : ℕ) (s : Standing) → AllAt IsUnasked s.clients → ((k : ℕ) (c : ClientState) → k < first → slice_get s.clients k ≡ Some c → HasNoBatch c)
    → (k : ℕ) (c : ClientState) → k < first + count → slice_get (fold after_taking s (range_with_len first count)).clients k ≡ Some c → IsFree c
all_taken zero first s unasked free k c lt at = (free k c (omega (arith, lt)) at, unasked k c at)
all_taken (suc count) first s unasked free k c lt at =
    let one = takes s first in
    all_taken count (first + 1) (after_taking s first) (one.keeps.unasked unasked)
    (λ j d below there. elim (cases_eq j first) [
      | inl same ↦ one.taken d (ap (slice_get (after_taking s first).clients) (sym same) ∙ there)
      | inr other ↦ one.others j (λ x before. free j x (omega (arith, below, other)) before) d there
    ])
    k c (omega (arith, lt)) at

taken_count : (clients : List ℕ) (s : Standing) → length (fold after_taking s clients).clients ≡ length s.clients
taken_count [] s = refl
taken_count (n ∷ ns) s = taken_count ns (after_taking s n) ∙ (takes s n).keeps.count

pub after_free : (config : Config) (s : Standing) (turn : Turn) (r : TurnReport) → IsTurn config turn → turn.taken ≡ true → turn.goals ≡ [] → AllAt IsFree s.clients
    → AllAt IsFree (after_turn s turn r).clients
after_free config s turn r is taken none free =
    let sent = after_plans s turn r in
    let settled = fold after_settlement sent turn.settlements in
    let keeps = keeps_settlements turn.settlements sent in
    let unasked = keeps.unasked (unasked_reports (before_plans s turn).clients r.clients (before_free config s turn is none free)) in
    subst (λ b. AllAt IsFree (fold after_taking settled (takers sent b)).clients) (sym taken)
    (λ k c at.
    let within = slice_get_within (fold after_taking settled (range_with_len 0 (length sent.clients))).clients k c at in
    all_taken (length sent.clients) 0 settled unasked (λ j d lt e. absurd (omega (arith, lt))) k c
    (omega (arith, within, taken_count (range_with_len 0 (length sent.clients)) settled, keeps.count)) at)
