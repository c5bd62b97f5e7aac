-- What is true of whatever a log begins with.
use Rattle.std.proofs.Common.{◌≡◌, ◌⊎◌, ℕ, zero, suc, ◌<◌, ◌≤◌, Bool, false, length, None, Option, List, [], ◌∷◌, map, All, Some, IfSome, IsSomeAnd, refl, sym, ap, ◌∙◌, subst, inl, inr, arith}
use Rattle.rb_base.specs.Fee.{IsFeeTable}
use Rattle.rb_base.specs.Window.{Span}
use Rattle.rb_base.specs.declared.gate.Part.{Part}
use Rattle.std.specs.List.{AllByRecursion, find, fold, slice_get}
use Rattle.std.specs.Option.{option_and_then, option_map}
use Rattle.std.proofs.lemmas.Bool.{cases_lt}
use Rattle.std.proofs.lemmas.Option.{none-some, slice_get-map}
use Rattle.std.proofs.lemmas.List.Elements.{recursion_from_All}
use Rattle.rb_book.specs.Book.{Book}
use Rattle.rb_book.specs.Invariant.{IsBook}
use Rattle.rb_book.specs.Laws.{FindsWhatWasAdded, StaysABook}
use Rattle.rb_book.proofs.Rising.{Up-from_pairs}
use Rattle.rb_scan.specs.Laws.{SettledIsNotOwed}
use Rattle.rb_scan.specs.Packet.{Packet}
use Rattle.rb_step.specs.Laws.{ViewsAreOrderly}
use Rattle.rb_step.specs.LightClient.{Update}
use Rattle.rb_script_types.specs.Config.{Config, IsClient}
use Rattle.rb_script_types.specs.declared.config.ClientConfig.{ClientConfig}
use Rattle.rb_core_model.specs.Begun.{IsBegun, known_since}
use Rattle.rb_core_model.specs.Config.{IsSetUp, part_for}
use Rattle.rb_core_model.specs.Event.{Event, IsEvent}
use Rattle.rb_core_model.specs.Fits.{AreApart, IsOpenOn, FitsMessage, FitsBatch, FitsClient, FitsPath, Fits}
use Rattle.rb_core_model.specs.Forgetting.{rest_at_floors}
use Rattle.rb_core_model.specs.Machine.{State, begun, opening, after}
use Rattle.rb_core_model.specs.Snapshot.{Snapshot, nothing, standing_from}
use Rattle.rb_core_model.specs.Over.{gone_in, rest_of_path}
use Rattle.rb_core_model.specs.Standing.{OpenBatch, ClientState, PathState, Standing, book_at}
use Rattle.rb_plan_client.specs.Task.{Message}
use Rattle.rb_core_model.proofs.Configs.{IsConfigured, config_of, path_config_of, configured_begun, configured_fold, configured_left, snapshot_back}
use Rattle.rb_core_model.proofs.Left.{all_mapped, left_sound, left_paths, left_batches, path_configs_same}
use Rattle.rb_core_model.proofs.Marks.{all_weaker, has, part_of, is_settled, mark_in, mark_at}
use Rattle.rb_core_model.proofs.Open.{HasInvariant, IsBelow, IsSent, IsUnsettled, kept_opening, all_events}
use Rattle.rb_core_model.proofs.Options.{chained}
use Rattle.rb_core_model.proofs.Over.{counted_over, found_later}
use Rattle.rb_core_model.proofs.Paths.{IsSoundPath, first_of, rest_of_sound}
use Rattle.rb_core_model.proofs.Sound.{IsRecorded, IsSound, IsSoundClient, events_sound, opening_sound}

abbrev since : Config → Snapshot → List (List Event) → Standing
since c first earlier = (begun c (known_since c first earlier)).standing

-- it is what is left of how things stood
since_left : (c : Config) (first : Snapshot) (events : List Event) (earlier : List (List Event)) → since c first (events ∷ earlier) ≡ rest_at_floors (fold after (begun c (known_since c first earlier)) events).standing
since_left c first events earlier =
    let s = begun c (known_since c first earlier) in
    snapshot_back c (rest_at_floors (fold after s events).standing)
    (configured_left c (fold after s events).standing (configured_fold c events s (configured_begun c (known_since c first earlier))))

-- a fact of what is begun with, where it is one of nothing and of what fits, and stays one of what is left
module _ (P : Standing → Type 0) (c : Config) (opens : P (opening c).standing) (fitting : (s : Standing) → IsConfigured c s → Fits s → P s)
    (next : (s : State) (events : List Event) → P s.standing → AllByRecursion IsEvent events → P (fold after s events).standing) (left : (s : Standing) → P s → P (rest_at_floors s)) where
  first_is : (first : Snapshot) → (first ≡ nothing) ⊎ Fits (standing_from c first) → P (begun c first).standing
  first_is first (inl e) = subst (λ x. P (begun c x).standing) (sym e) opens
  first_is first (inr fits) = fitting (standing_from c first) (configured_begun c first) fits

  earlier_is : (first : Snapshot) → (first ≡ nothing) ⊎ Fits (standing_from c first) → (earlier : List (List Event)) → AllByRecursion (All IsEvent) earlier → P (since c first earlier)
  earlier_is first fits [] all = first_is first fits
  earlier_is first fits (events ∷ earlier) all =
      subst P (sym (since_left c first events earlier))
      (left (fold after (begun c (known_since c first earlier)) events).standing (next (begun c (known_since c first earlier)) events (earlier_is first fits earlier all.1) (recursion_from_All IsEvent events all.0)))

  begun_is : (start : Snapshot) → IsBegun c start → P (begun c start).standing
  begun_is start is = subst (λ x. P (begun c x).standing) (sym is.is) (earlier_is is.first is.fits is.earlier (recursion_from_All (All IsEvent) is.earlier is.events))

-- ---- what fits

path_fits : (ps : List PathState) → All FitsPath ps → AllByRecursion IsSoundPath ps
path_fits ps all =
    all_weaker FitsPath IsSoundPath (λ p is. record { rising = is.rising; from_first = recursion_from_All (λ (q : Packet). p.first ≤ q.sequence) p.packets is.from_first }) ps
    (recursion_from_All FitsPath ps all)

client_fits : (s : Standing) (client : ℕ) (k : ClientState) → k.config.tracks < length s.books → IsFeeTable k.config.fees → FitsClient s client k → IsSoundClient s.books k
client_fits s client k tracks fees is = record {
  tracks = tracks;
  window = λ w e. subst (λ o. IfSome o (λ (x : Span). x.from ≤ x.until)) e is.window;
  fees = fees;
  rising = is.stored.rising;
  recorded = recursion_from_All (IsRecorded book) k.stored is.stored.recorded;
  updates = λ b e. recursion_from_All (λ (u : Update). IsRecorded book u.height) b.updates (batch b e).updates;
  apart = λ b e. Up-from_pairs AreApart b.messages (batch b e).apart;
}
  where
    book : Book
    book = book_at s.books k.config.tracks

    batch : (b : OpenBatch) → k.batch ≡ Some b → FitsBatch s client book b
    batch b e = subst (λ o. IfSome o (FitsBatch s client book)) e is.batch

-- a fact of each client's configuration
of_configs : (P : ClientConfig → Type 0) (ks : List ClientState) → AllByRecursion P (map config_of ks) → AllByRecursion (λ (k : ClientState). P k.config) ks
of_configs P [] all = tt
of_configs P (k ∷ ks) all = (all.0, of_configs P ks all.1)

fits_sound : (c : Config) → IsSetUp c → (s : Standing) → IsConfigured c s → Fits s → IsSound s
fits_sound c set_up s configured fits = record {
  window = λ w e. subst (λ o. IfSome o (λ (x : Span). x.from ≤ x.until)) e fits.window;
  books = recursion_from_All IsBook s.books fits.books;
  clients = clients s.clients
      (of_configs (IsClient (length c.chains)) s.clients (subst (AllByRecursion (IsClient (length c.chains))) (sym configured.clients) (recursion_from_All (IsClient (length c.chains)) c.clients set_up.rules.clients)))
      (of_configs (λ (d : ClientConfig). IsFeeTable d.fees) s.clients
      (subst (AllByRecursion (λ (d : ClientConfig). IsFeeTable d.fees)) (sym configured.clients) (recursion_from_All (λ (d : ClientConfig). IsFeeTable d.fees) c.clients set_up.fees)))
      (λ i k at. (i, subst (λ o. IfSome o (FitsClient s i)) at (fits.clients i)));
  paths = path_fits s.paths fits.paths;
}
  where
    clients : (ks : List ClientState) → AllByRecursion (λ (k : ClientState). IsClient (length c.chains) k.config) ks → AllByRecursion (λ (k : ClientState). IsFeeTable k.config.fees) ks
        → ((i : ℕ) (k : ClientState) → slice_get ks i ≡ Some k → (client : ℕ) × FitsClient s client k) → AllByRecursion (IsSoundClient s.books) ks
    clients [] all fees each = tt
    clients (k ∷ ks) all fees each = (
      client_fits s (each 0 k refl).0 k (subst (λ n. k.config.tracks < n) (sym configured.books) all.0.tracks) fees.0 (each 0 k refl).1,
      clients ks all.1 fees.1 (λ i j at. each (suc i) j at),
    )

-- ---- a packet message that fits

mark_found : (part : Part) (o : Option Packet) → IsSomeAnd o (λ (q : Packet). is_settled part q ≡ false) → option_map (is_settled part) o ≡ Some false
mark_found part None is = absurd is
mark_found part (Some q) is = ap (λ b. Some b) is

module _ (c : Config) (paths : List PathState) (same : map path_config_of paths ≡ c.paths) (client : ℕ) (m : Message) where
  packet_fits : (p : PathState) → slice_get paths m.path ≡ Some p → IsOpenOn p m.packet → IsUnsettled paths m ⊎ IsBelow (map first_of paths) m.path m.packet.sequence
  packet_fits p at (inl unsettled) =
      inl
      (ap (option_and_then (λ (p : PathState). mark_in p.packets (part_of m.packet.kind) m.packet.sequence)) at
      ∙ mark_found (part_of m.packet.kind) (find (has m.packet.sequence) p.packets) unsettled)
  packet_fits p at (inr gone) =
      inr (subst (λ o. IsSomeAnd o (λ first. m.packet.sequence < first)) (sym (slice_get-map first_of paths m.path ∙ ap (option_map first_of) at)) gone)

  message_fits : FitsMessage paths client m → IsSent c paths client m
  message_fits is = go (slice_get paths m.path) refl is
    where
      go : (o : Option PathState) → slice_get paths m.path ≡ o → IsSomeAnd o (λ (p : PathState). (part_for p.config client ≡ Some (part_of m.packet.kind)) × IsOpenOn p m.packet) → IsSent c paths client m
      go None at is = absurd is
      go (Some p) at is =
          ((p.config, ap (λ cs. slice_get cs m.path) (sym same) ∙ slice_get-map path_config_of paths m.path ∙ ap (option_map path_config_of) at, is.0), packet_fits p at is.1)

fits_kept : (c : Config) (s : Standing) → IsConfigured c s → Fits s → HasInvariant c s
fits_kept c s configured fits = record {
  configs = configured.paths;
  sound = path_fits s.paths fits.paths;
  sent = λ client b e.
      let k = chained (λ (k : ClientState). k.batch) (slice_get s.clients client) b e in
      let is : FitsClient s client k.0 = subst (λ o. IfSome o (FitsClient s client)) k.1 (fits.clients client) in
      let batch : FitsBatch s client (book_at s.books k.0.config.tracks) b = subst (λ o. IfSome o (FitsBatch s client (book_at s.books k.0.config.tracks))) k.2 is.batch in
      all_weaker (FitsMessage s.paths client) (IsSent c s.paths client) (message_fits c s.paths configured.paths client) b.messages
      (recursion_from_All (FitsMessage s.paths client) b.messages batch.messages);
}

-- ---- sound

module _ (finds : FindsWhatWasAdded) (stays : StaysABook) (orderly : ViewsAreOrderly) where
  pub begun_sound : (c : Config) (start : Snapshot) → IsSetUp c → IsBegun c start → IsSound (begun c start).standing
  begun_sound c start set_up is =
      begun_is IsSound c (opening_sound finds stays orderly c set_up) (fits_sound c set_up) (events_sound finds stays orderly) left_sound start is

-- ---- the open batches

-- a packet that isn't left has a sequence below the first one then
mark_left : (p : PathState) (part : Part) (sequence : ℕ) (b : Bool) → mark_in p.packets part sequence ≡ Some b → (mark_in (rest_of_path p).packets part sequence ≡ Some b) ⊎ (sequence < (rest_of_path p).first)
mark_left p part sequence b e = elim (cases_lt sequence (rest_of_path p).first) [
  | inl below ↦ inr below
  | inr above ↦
      inl
      (ap (option_map (is_settled part)) (found_later p.config.order p.first (gone_in p) p.packets sequence (counted_over p.config.order p.first (gone_in p) p.packets (omega arith)) above) ∙ e)
]

marks_left : (ps : List PathState) (path : ℕ) (part : Part) (sequence : ℕ) (b : Bool) → mark_at ps path part sequence ≡ Some b
    → (mark_at (map rest_of_path ps) path part sequence ≡ Some b) ⊎ IsBelow (map first_of (map rest_of_path ps)) path sequence
marks_left [] path part sequence b e = absurd (none-some b e)
marks_left (p ∷ ps) zero part sequence b e = mark_left p part sequence b e
marks_left (p ∷ ps) (suc path) part sequence b e = marks_left ps path part sequence b e

below_left : (ps : List PathState) (path sequence : ℕ) → IsBelow (map first_of ps) path sequence → IsBelow (map first_of (map rest_of_path ps)) path sequence
below_left [] path sequence below = below
below_left (p ∷ ps) zero sequence below = omega (arith, below)
below_left (p ∷ ps) (suc path) sequence below = below_left ps path sequence below

sent_left : (c : Config) (ps : List PathState) (client : ℕ) (m : Message) → IsSent c ps client m → IsSent c (map rest_of_path ps) client m
sent_left c ps client m is = (is.0, go is.1)
  where
    go : IsUnsettled ps m ⊎ IsBelow (map first_of ps) m.path m.packet.sequence → IsUnsettled (map rest_of_path ps) m ⊎ IsBelow (map first_of (map rest_of_path ps)) m.path m.packet.sequence
    go (inl unsettled) = marks_left ps m.path (part_of m.packet.kind) m.packet.sequence false unsettled
    go (inr below) = inr (below_left ps m.path m.packet.sequence below)

left_kept : (c : Config) (s : Standing) → HasInvariant c s → HasInvariant c (rest_at_floors s)
left_kept c s kept = record {
  configs = left_paths (λ ps. map (λ (p : PathState). p.config) ps ≡ map (λ (p : PathState). p.config) s.paths) s refl (path_configs_same s.paths) ∙ kept.configs;
  sound = left_paths (AllByRecursion IsSoundPath) s kept.sound (all_mapped IsSoundPath rest_of_path rest_of_sound s.paths kept.sound);
  sent = λ client b e.
      let before = kept.sent client b (sym (left_batches s client) ∙ e) in
      left_paths (λ ps. AllByRecursion (IsSent c ps client) b.messages) s before
      (all_weaker (IsSent c s.paths client) (IsSent c (map rest_of_path s.paths) client) (sent_left c s.paths client) b.messages before);
}

pub begun_kept : SettledIsNotOwed → (c : Config) (start : Snapshot) → IsBegun c start → HasInvariant c (begun c start).standing
begun_kept law c start is = begun_is (HasInvariant c) c (kept_opening c) (fits_kept c) (λ s events kept are. (all_events law c s events kept are).kept) (left_kept c) start is
