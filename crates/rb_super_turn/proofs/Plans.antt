-- What the supervisor plans for a client.
use Rattle.std.proofs.Common.{◌≡◌, ℕ, ◌+◌, ◌<◌, not, if◌then◌else◌, List, [], Option, Some, None, is_some, length, map, get_or, set, refl, sym, ap, ◌∙◌, subst, arith}
use Rattle.std.specs.List.{slice_get}
use Rattle.std.specs.Option.{option_map, option_map_or, option_and_then}
use Rattle.std.proofs.lemmas.Bool.{ltb-true, not-false}
use Rattle.rb_core.specs.Core.{Core, state_in, refusal_in}
use Rattle.rb_plan_client.specs.Draft.{Sending, nothing, too_big, batched, Plan, Planned as Answer, Job, Draft, IsDraft}
use Rattle.rb_core_model.specs.Event.{Planned}
use Rattle.rb_core_model.specs.Machine.{State, Reply, is_known, is_scanned, job_of, client_view, refusal_of, reply_for, reply_of, after}
use Rattle.rb_core_model.specs.Standing.{OpenBatch, ClientState, Standing, batch_of_sending, batch_of, batch_opened, task_in, with_client, batch_open}
use Rattle.rb_script_types.specs.Config.{Config}
use Rattle.rb_script_types.specs.declared.config.ClientConfig.{ClientConfig}
use Rattle.rb_script_types.specs.declared.refusal.Refusal.TheVariants.{UnknownObject}
use Rattle.rb_plan_types.specs.Order.{cost_of}
use Rattle.rb_step.specs.View.{client_of}
use Rattle.rb_plan_client.specs.Task.{Task, Message, view_of, too_big_messages}
use Rattle.rb_core_model.proofs.Options.{mapped, chained, passes, some_from}
use Rattle.rb_core_model.proofs.Steps.{present_drafts, of_the_moment}
use Rattle.rb_super_turn.specs.Report.{Outcome, held, idle, planned}
use Rattle.rb_super_turn.specs.Turns.{priced, numbered, beyond_goal, reported_plan, reported, outcome_numbered, outcome_of, IsClientReport, after_outcome, id_of}
use Rattle.rb_super_turn.proofs.Reported.{accepted_reported, set_same}
use Rattle.rb_super_turn.proofs.Sizes.{at_place}
use Rattle.rb_super_turn.specs.Phases.{standing_in, HasLogRoom, IsPlannable, IsReportedOf, IsOutcomeOf}
use Rattle.rb_super_turn.specs.Drafts.{number_of}
use Rattle.rb_super_turn.proofs.Configs.{known_config}
use Rattle.rb_super_turn.proofs.Steps.{sizes_in}

-- ---- the client and its draft

-- a client that is there is known
pub known_at : (core : Core) (client : ℕ) → client < length core.config.clients → (known : ClientState) × (slice_get (standing_in core).clients client ≡ Some known)
known_at core client lt = at_place (standing_in core).clients client (subst (λ n. client < n) (sym (sizes_in core).clients) lt)

pub client_of_view : (s : State) (client : ℕ) (d : Draft) → client_view s client ≡ Some d.job → d.job.client ≡ client
client_of_view s client d view =
    let w = chained (λ window. option_map (job_of s client window) (slice_get s.standing.clients client)) s.standing.window d.job view in
    let k = mapped (job_of s client w.0) (slice_get s.standing.clients client) d.job w.2 in
    ap (λ (j : Job). j.client) (sym k.2)

-- its draft is accepted
pub draft_accepted : (core : Core) (client : ℕ) (d : Draft) → client < length core.config.clients → HasLogRoom core 1 → IsPlannable core
    → batch_open (standing_in core) client ≡ None → client_view (state_in core) client ≡ Some d.job → refusal_in core (Planned d) ≡ None
draft_accepted core client d lt room ready none_open view =
    let s = state_in core in
    let k = known_at core client lt in
    let not_held : k.0.batch ≡ None = sym (ap (option_and_then (λ (c : ClientState). c.batch)) k.1) ∙ none_open in
    present_drafts s client k.0 d (omega arith) view k.1 not_held
    (λ p part within. ready.scanned p part (subst (λ n. p < n) (sizes_in core).paths within))

-- ---- its number

sent_as : (number : ℕ) (p : Plan) (x : Sending) → numbered (number_of (reply_for (batch_of_sending number p x))) x ≡ numbered number x
sent_as number p nothing = refl
sent_as number p (too_big index) = refl
sent_as number p (batched b) = refl

numbered_as : (t : Task) (number : ℕ) (next : Option ℕ) (a : Answer) → reported t (number_of (reply_for (batch_of number (Some a)))) next a ≡ reported t number next a
numbered_as t number next a = ap (λ plan. record { goal = a.goal; beyond = beyond_goal t a.goal; labels = a.labels; plan = plan; next = next }) (go a.plan)
  where
    go : (o : Option Plan) → option_map (reported_plan t (number_of (reply_for (option_and_then (λ (p : Plan). batch_of_sending number p p.sending) o)))) o ≡ option_map (reported_plan t number) o
    go None = refl
    go (Some p) =
        ap (λ x. Some (record { updates = map (priced t) p.updates; total = cost_of (client_of (view_of t)) p.updates; messages = p.messages; sending = x }))
        (sent_as number p p.sending)

pub outcome_is : (s : State) (c : ClientState) (d : Draft) (reply : Reply) → slice_get s.standing.clients d.job.client ≡ Some c → reply ≡ reply_of s (Planned d)
    → outcome_numbered (number_of reply) d ≡ outcome_of c d
outcome_is s c d reply at e =
    let same : reply ≡ reply_for (batch_opened c d.answer) = e ∙ ap (λ o. reply_for (option_and_then (λ (k : ClientState). batch_opened k d.answer) o)) at in
    ap (λ r. outcome_numbered (number_of r) d) same ∙ go d.answer
  where
    go : (o : Option Answer)
        → option_map_or (λ a. planned (reported d.job.task (number_of (reply_for (batch_opened c o))) d.next a)) o (idle d.next) ≡ option_map_or (λ a. planned (reported d.job.task (c.batches + 1) d.next a)) o (idle d.next)
    go None = refl
    go (Some a) = ap (λ x. planned x) (numbered_as d.job.task (c.batches + 1) d.next a)

-- ---- what is reported of it

-- the client of a draft that is accepted is known
drafted_for : (s : State) (d : Draft) → refusal_of s (Planned d) ≡ None → (known : ClientState) × (slice_get s.standing.clients d.job.client ≡ Some known)
drafted_for s d ok =
    let there = not-false (is_known s (Planned d)) (passes (not (is_known s (Planned d))) UnknownObject _ ok).0 in
    at_place s.standing.clients d.job.client (ltb-true d.job.client (length s.standing.clients) there)

-- a draft that is accepted, whoever made it
pub taken_reported : (old new : Core) (client : ℕ) (d : Draft) (reply : Reply) → d.job.client ≡ client → IsDraft d → refusal_in old (Planned d) ≡ None
    → reply ≡ reply_of (state_in old) (Planned d) → state_in new ≡ after (state_in old) (Planned d)
    → IsOutcomeOf (standing_in old) (standing_in new) client (outcome_numbered (number_of reply) d) (too_big_messages d.job.task)
taken_reported old new client d reply place right ok reply_is state =
    let s = state_in old in
    let there = drafted_for s d ok in
    let known : ClientState = there.0 in
    let at : slice_get s.standing.clients client ≡ Some known = ap (slice_get s.standing.clients) (sym place) ∙ there.1 in
    let law = accepted_reported s d known right ok there.1 in
    let outcome = outcome_is s known d reply there.1 reply_is in
    let report : IsReportedOf (standing_in old) (standing_in new) client (record { id = known.config.id; outcome = outcome_numbered (number_of reply) d; too_big = too_big_messages d.job.task }) = record {
      known = known;
      is_known = at;
      right = subst (λ (p : ℕ × Outcome). IsClientReport s.standing (p.0, known) (record { id = known.config.id; outcome = p.1; too_big = too_big_messages d.job.task })) (λ i. (place i, sym outcome i)) law.0;
      after = ap (λ (t : State). t.standing) state ∙ law.1 ∙ (λ i. with_client s.standing (place i) (after_outcome (sym outcome i)));
    } in
    record { known = known; is_known = at; reported = report }

-- a draft that the supervisor made
pub draft_reported : (old new : Core) (client : ℕ) (d : Draft) (reply : Reply) → client < length old.config.clients → IsDraft d → HasLogRoom old 1 → IsPlannable old
    → batch_open (standing_in old) client ≡ None → client_view (state_in old) client ≡ Some d.job
    → reply ≡ reply_of (state_in old) (Planned d) → state_in new ≡ after (state_in old) (Planned d)
    → IsOutcomeOf (standing_in old) (standing_in new) client (outcome_numbered (number_of reply) d) (too_big_messages d.job.task)
draft_reported old new client d reply lt right room ready none_open view reply_is state =
    taken_reported old new client d reply (client_of_view (state_in old) client d view) right (draft_accepted old client d lt room ready none_open view) reply_is state

-- clients may be planned for as before, after a draft that was accepted
pub ready_then : (old new : Core) (d : Draft) → refusal_in old (Planned d) ≡ None → IsPlannable old → new.config ≡ old.config → state_in new ≡ after (state_in old) (Planned d) → IsPlannable new
ready_then old new d ok ready config state =
    let m = of_the_moment (state_in old) d ok in
    record {
      window = ap (λ (x : Standing). is_some x.window) (ap (λ (t : State). t.standing) state ∙ m.standing) ∙ ready.window;
      scanned = λ path part within.
          ap (λ (t : State). is_scanned t path part) state ∙ m.scans path part ∙ ready.scanned path part (subst (λ (c : Config). path < length c.paths) config within);
    }

pub ready_after : (old new : Core) (client : ℕ) (d : Draft) → client < length old.config.clients → HasLogRoom old 1 → IsPlannable old
    → batch_open (standing_in old) client ≡ None → client_view (state_in old) client ≡ Some d.job
    → new.config ≡ old.config → state_in new ≡ after (state_in old) (Planned d) → IsPlannable new
ready_after old new client d lt room ready none_open view = ready_then old new d (draft_accepted old client d lt room ready none_open view) ready

-- and where nothing was taken in
pub ready_still : (old new : Core) → IsPlannable old → new.config ≡ old.config → state_in new ≡ state_in old → IsPlannable new
ready_still old new ready config state = record {
  window = ap (λ (t : State). is_some t.standing.window) state ∙ ready.window;
  scanned = λ path part within. ap (λ (t : State). is_scanned t path part) state ∙ ready.scanned path part (subst (λ (c : Config). path < length c.paths) config within);
}

-- a client that is held
pub held_reported : (core : Core) (client : ℕ) (c : ClientConfig) (b : OpenBatch) → client < length core.config.clients → c ≡ get_or core.config.clients client c → IsPlannable core
    → Some b ≡ batch_open (standing_in core) client → IsReportedOf (standing_in core) (standing_in core) client (record { id = c.id; outcome = held b.number; too_big = [] })
held_reported core client c b lt at ready is_open =
    let k = known_at core client lt in
    let w = some_from (standing_in core).window ready.window in
    let batch : k.0.batch ≡ Some b = sym (ap (option_and_then (λ (x : ClientState). x.batch)) k.1) ∙ sym is_open in
    record {
      known = k.0;
      is_known = k.1;
      right = record {
        id = sym (ap (λ (x : ClientConfig). x.id) (known_config core client c lt at k.0 k.1));
        window = w.0;
        is_window = w.1;
        outcome = ap (option_map (λ (x : OpenBatch). x.number)) batch;
        too_big = sym (ap (λ o. if is_some o then [] else too_big_messages (task_in (standing_in core) w.0 client k.0)) batch);
      };
      after = sym (unchanged (standing_in core) client k.0 k.1);
    }
  where
    unchanged : (s : Standing) (client : ℕ) (c : ClientState) → slice_get s.clients client ≡ Some c → with_client s client (λ x. x) ≡ s
    unchanged s client c e =
        ap (λ cs. record s { clients = cs }) (ap (λ o. option_map_or (λ (x : ClientState). set s.clients client x) o s.clients) e ∙ set_same s.clients client c e)

-- the identifier of a client
pub id_there : (core : Core) (client : ℕ) (c : ClientConfig) → client < length core.config.clients → c ≡ get_or core.config.clients client c → id_of (standing_in core) client ≡ c.id
id_there core client c lt at =
    let k = known_at core client lt in
    ap (λ o. option_map_or (λ (x : ClientState). x.config.id) o []) k.1 ∙ ap (λ (x : ClientConfig). x.id) (known_config core client c lt at k.0 k.1)

-- a report of a client by its identifier in the configuration
pub reported_by_id : (core : Core) (t : Standing) (client : ℕ) (c : ClientConfig) (o : Outcome) (ms : List Message) → client < length core.config.clients → c ≡ get_or core.config.clients client c
    → IsOutcomeOf (standing_in core) t client o ms → IsReportedOf (standing_in core) t client (record { id = c.id; outcome = o; too_big = ms })
reported_by_id core t client c o ms lt at report =
    subst (λ id. IsReportedOf (standing_in core) t client (record { id = id; outcome = o; too_big = ms }))
    (ap (λ (x : ClientConfig). x.id) (known_config core client c lt at report.known report.is_known)) report.reported
