-- The laws of views and of batches, over every log.
use Rattle.std.proofs.Common.{◌≡◌, ℕ, true, false, List, [], ◌∷◌, ◌++◌, Some, All, is_some, refl, sym, ap, ◌∙◌, subst, inl, inr, if◌then◌else◌}
use Rattle.std.specs.List.{fold, slice_get}
use Rattle.std.specs.Option.{option_map, option_and_then}
use Rattle.std.proofs.lemmas.Bool.{true≢false}
use Rattle.std.proofs.lemmas.List.Elements.{All-from_recursion, recursion_from_All, All-contains}
use Rattle.std.proofs.lemmas.Option.{same_Some, slice_get-get_or}
use Rattle.rb_book.specs.Laws.{FindsWhatWasAdded, StaysABook}
use Rattle.rb_book.proofs.Rising.{pairs_from_up}
use Rattle.rb_scan.specs.Laws.{SettledIsNotOwed}
use Rattle.rb_scan.specs.declared.message.Kind.{Kind}
use Rattle.rb_step.specs.Laws.{ViewsAreOrderly}
use Rattle.rb_step.specs.View.{IsView}
use Rattle.rb_script_types.specs.Config.{Config}
use Rattle.rb_core_model.specs.Batches.{Carries, MessagesAreInOneBatch, MessagesStandOnce, SettledMessagesAreGone}
use Rattle.rb_core_model.specs.Begun.{IsBegun}
use Rattle.rb_core_model.specs.Config.{IsSetUp, part_for}
use Rattle.rb_core_model.specs.Event.{Event, IsEvent, Settled}
use Rattle.rb_core_model.specs.Fits.{AreApart}
use Rattle.rb_core_model.specs.Machine.{State, begun, job_of, accepted, after, state_of}
use Rattle.rb_core_model.specs.Snapshot.{Log, followed_by}
use Rattle.rb_core_model.specs.Standing.{ClientState, Standing, after_settled, after_messages, settled_messages}
use Rattle.rb_core_model.specs.Views.{ClientViewsAreViews}
use Rattle.rb_core_model.proofs.Begun.{begun_sound, begun_kept}
use Rattle.rb_core_model.proofs.Marks.{all_at, all_take, all_weaker, part_of, mark_at, IsAbout, all_marked}
use Rattle.rb_core_model.proofs.Open.{HasInvariant, IsFor, IsBelow, IsGone, IsSent, all_events, apart, not_below, one_client, open_before, steps, settling}
use Rattle.rb_core_model.proofs.Options.{chained, mapped}
use Rattle.rb_core_model.proofs.Paths.{firsts_messages}
use Rattle.rb_core_model.proofs.Sound.{IsSound, IsSoundClient, client_view_sound, events_sound}
use Rattle.rb_plan_client.specs.Draft.{Job}
use Rattle.rb_plan_client.specs.Task.{view_of}

-- ---- views

module _ (finds : FindsWhatWasAdded) (stays : StaysABook) (orderly : ViewsAreOrderly) where
  sound_after : (config : Config) (log : Log) → IsSetUp config → IsBegun config log.start → All IsEvent log.events → IsSound (state_of config log).standing
  sound_after config log is start are =
      events_sound finds stays orderly (begun config log.start) log.events (begun_sound finds stays orderly config log.start is start) (recursion_from_All IsEvent log.events are)

  pub stand_once : MessagesStandOnce
  stand_once config log is start are client b opened =
      let s = state_of config log in
      let sound = sound_after config log is start are in
      let c = chained (λ (k : ClientState). k.batch) (slice_get s.standing.clients client) b opened in
      pairs_from_up AreApart b.messages ((all_at (IsSoundClient s.standing.books) s.standing.clients client c.0 sound.clients c.1).apart b c.2)

  pub client_views : ClientViewsAreViews
  client_views config log is start are client job view =
      let s = state_of config log in
      let sound = sound_after config log is start are in
      let w = chained (λ window. option_map (job_of s client window) (slice_get s.standing.clients client)) s.standing.window job view in
      let c = mapped (job_of s client w.0) (slice_get s.standing.clients client) job w.2 in
      subst (λ (j : Job). IsView (view_of j.task)) c.2
      (client_view_sound s.standing w.0 c.0 sound w.1 (all_at (IsSoundClient s.standing.books) s.standing.clients client c.0 sound.clients c.1))

-- ---- batches

kept_after : SettledIsNotOwed → (config : Config) (log : Log) → IsBegun config log.start → All IsEvent log.events → HasInvariant config (state_of config log).standing
kept_after law config log start are =
    (all_events law config (begun config log.start) log.events (begun_kept law config log.start start) (recursion_from_All IsEvent log.events are)).kept

carried : (config : Config) (s : Standing) (client path : ℕ) (kind : Kind) (sequence : ℕ) → HasInvariant config s → (x : Carries s client path kind sequence) → IsSent config s.paths client x.message
carried config s client path kind sequence kept x =
    All-contains (IsSent config s.paths client) x.batch.messages x.message (All-from_recursion (IsSent config s.paths client) x.batch.messages (kept.sent client x.batch x.is_open)) x.has

pub in_one_batch : SettledIsNotOwed → MessagesAreInOneBatch
in_one_batch law config log start are client other path kind sequence x y =
    let kept = kept_after law config log start are in
    let mine = (carried config _ client path kind sequence kept x).0 in
    let theirs = (carried config _ other path kind sequence kept y).0 in
    let same : theirs.0 ≡ mine.0 = same_Some theirs.0 mine.0 (sym theirs.1 ∙ ap (slice_get config.paths) (y.is_path ∙ sym x.is_path) ∙ mine.1) in
    one_client mine.0 client other (part_of x.message.packet.kind) mine.2
    (ap (λ c. part_for c other) (sym same) ∙ theirs.2 ∙ ap (λ k. Some (part_of k)) (y.is_kind ∙ sym x.is_kind))

fold-append : (s : State) (xs ys : List Event) → fold after s (xs ++ ys) ≡ fold after (fold after s xs) ys
fold-append s [] ys = refl
fold-append s (x ∷ xs) ys = fold-append (after s x) xs ys

-- a message that a batch carries is among its own
not_carried : (s : Standing) (client path : ℕ) (kind : Kind) (sequence : ℕ) → IsGone s path (part_of kind) sequence → Carries s client path kind sequence → ⊥
not_carried s client path kind sequence gone x =
    All-contains (λ m. IsAbout path (part_of kind) sequence m → ⊥) x.batch.messages x.message
    (All-from_recursion (λ m. IsAbout path (part_of kind) sequence m → ⊥) x.batch.messages (gone.others client x.batch x.is_open)) x.has
    (x.is_path, ap part_of x.is_kind, x.is_sequence)

-- nor is one whose packet is marked
not_settled : (config : Config) (s : Standing) (client path : ℕ) (kind : Kind) (sequence : ℕ) → HasInvariant config s → mark_at s.paths path (part_of kind) sequence ≡ Some true → Carries s client path kind sequence → ⊥
not_settled config s client path kind sequence kept marked x =
    let about : mark_at s.paths x.message.path (part_of x.message.packet.kind) x.message.packet.sequence ≡ Some true =
    ap (λ (k : ℕ × Kind × ℕ). mark_at s.paths k.0 (part_of k.1) k.2) (λ i. (x.is_path i, x.is_kind i, x.is_sequence i)) ∙ marked in
    elim (carried config s client path kind sequence kept x).1 [
      | inl unsettled ↦ true≢false (same_Some true false (sym about ∙ unsettled))
      | inr below ↦ not_below s.paths kept.sound x.message.path (part_of x.message.packet.kind) x.message.packet.sequence true about below
    ]

pub settled_gone : SettledIsNotOwed → SettledMessagesAreGone
settled_gone law config log later client number done b m start are are_later ok stands among other x =
    let s = state_of config log in
    let e : Event = Settled client number done in
    let kept = kept_after law config log start are in
    let y = settling s client number done ok in
    let same : y.batch ≡ b = same_Some y.batch b (sym (ap (option_and_then (λ (c : ClientState). c.batch)) y.is_known ∙ y.is_open) ∙ stands) in
    let changed_is : (accepted s e).standing ≡ after_settled s.standing client done (Some b) = y.changed_is ∙ ap (λ z. after_settled s.standing client done (Some z)) same in
    let sent = all_take (IsSent config s.standing.paths client) _ b.messages (kept.sent client b stands) in
    let was = All-contains (IsSent config s.standing.paths client) (settled_messages b done) m (All-from_recursion (IsSent config s.standing.paths client) (settled_messages b done) sent) among in
    let next : State = accepted s e in
    let kept_now = (steps law config s e kept tt ok).kept in
    let rest = all_events law config next later kept_now (recursion_from_All IsEvent later are_later) in
    let last : state_of config (followed_by log (e ∷ later)) ≡ fold after next later =
    fold-append (begun config log.start) log.events (e ∷ later) ∙ ap (λ o. fold after (if is_some o then s else next) later) ok in
    let z = subst (λ (t : State). Carries t.standing other m.path m.packet.kind m.packet.sequence) last x in
    elim was.1 [
      | inl unsettled ↦
          let at : slice_get (settled_messages b done) among.0 ≡ Some m = slice_get-get_or (settled_messages b done) among.0 m among.1 ∙ ap (λ k. Some k) among.2 in
          let marked : mark_at (after_messages s.standing.paths (settled_messages b done)) m.path (part_of m.packet.kind) m.packet.sequence ≡ Some true =
          all_marked (settled_messages b done) s.standing.paths among.0 m false at unsettled in
          let now : mark_at next.standing.paths m.path (part_of m.packet.kind) m.packet.sequence ≡ Some true =
          ap (λ (t : Standing). mark_at t.paths m.path (part_of m.packet.kind) m.packet.sequence) changed_is ∙ marked in
          not_settled config (fold after next later).standing other m.path m.packet.kind m.packet.sequence rest.kept (rest.grows m.path (part_of m.packet.kind) m.packet.sequence now) z
      | inr below ↦
          let gone : IsGone (after_settled s.standing client done (Some b)) m.path (part_of m.packet.kind) m.packet.sequence = record {
            below = subst (λ fs. IsBelow fs m.path m.packet.sequence) (sym (firsts_messages (settled_messages b done) s.standing.paths)) below;
            others = λ its d is_open.
                let before = open_before s.standing client done b its d is_open in
                apart config client its m (λ f. before.0 (sym f)) was.0 d.messages
                (all_weaker (IsSent config s.standing.paths its) (IsFor config its) (λ k is. is.0) d.messages (kept.sent its d before.1));
          } in
          not_carried (fold after next later).standing other m.path m.packet.kind m.packet.sequence
          (rest.gone m.path (part_of m.packet.kind) m.packet.sequence (subst (λ (t : Standing). IsGone t m.path (part_of m.packet.kind) m.packet.sequence) (sym changed_is) gone)) z
    ]
