-- Jobs are compared by their content.
use Rattle.std.specs.Prelude.{◌≡◌, ◌==◌, ◌&&◌, Bool, true, false, refl}
use Rattle.std.proofs.Common.{ap, nat_eq}
use Rattle.std.specs.Bool.{Decides, beq}
use Rattle.std.specs.Option.{option_eq}
use Rattle.std.specs.Str.{bytes_eq}
use Rattle.std.specs.Cmp.{IsPartialEquivalence, IsEquivalence, decided, partial_equiv_from_equiv, booleans_Decides, unsigned_Decides}
use Rattle.std.specs.Cmp.Lexicographic.{pointwise}
use Rattle.std.proofs.lemmas.Bool.Decides.{Decides-and, Decides-like}
use Rattle.std.proofs.lemmas.Slice.Eq.{bytes_eq-Decides, slice_eq-Decides}
use Rattle.rb_base.specs.Fee.{Fees}
use Rattle.rb_base.specs.declared.ties.Ties.{Ties}
use Rattle.rb_base.specs.declared.ties.Ties.TheVariants.{Lower, Higher}
use Rattle.rb_base.specs.Options.{ClientOptions, carried_number, ties_number}
use Rattle.rb_base.specs.declared.votes.CarriedVotes.{CarriedVotes}
use Rattle.rb_base.specs.declared.votes.CarriedVotes.TheVariants.{Commit, Cast, Needed}
use Rattle.rb_base.specs.Window.{Span}
use Rattle.rb_batch.specs.Limits.{TransactionLimits}
use Rattle.rb_book.specs.Book.{same_book}
use Rattle.rb_book.specs.Same.{same_book-Decides}
use Rattle.rb_script_types.specs.declared.config.ClientConfig.{ClientConfig}
use Rattle.rb_script_types.specs.declared.config.RefreshTo.{RefreshTo}
use Rattle.rb_script_types.specs.declared.config.RefreshTo.TheVariants.{Lowest, Highest, Newer}
use Rattle.rb_script_types.specs.declared.waits.Waits.{Waits}
use Rattle.rb_script_types.specs.declared.goal.Goal.{Goal}
use Rattle.rb_script_types.specs.declared.goal.Goal.TheVariants.{Exactly, AtLeast}
use Rattle.rb_scan.specs.Owed.{same_kind}
use Rattle.rb_scan.specs.Same.{options_Decides, orders_Decides}
use Rattle.rb_scan.specs.Orders.{same_order}
use Rattle.rb_scan.specs.declared.message.Kind.{Kind}
use Rattle.rb_scan.specs.declared.message.Kind.TheVariants.{Receive, Acknowledge, Timeout}
use Rattle.rb_scan.specs.declared.message.PacketMsg.{PacketMsg}
use Rattle.rb_script_types.specs.Gas.{PathGas}
use Rattle.rb_plan_client.specs.Draft.{Job}
use Rattle.rb_plan_client.specs.Task.{PathTask, Task}

abbrev pub same_carried : CarriedVotes → CarriedVotes → Bool
same_carried v w = carried_number v == carried_number w

abbrev pub same_ties : Ties → Ties → Bool
same_ties a b = ties_number a == ties_number b

-- Field by field, grouped to the right as the derived comparisons are, so that `==` of two configurations is `same_config`.
abbrev pub same_options : ClientOptions → ClientOptions → Bool
same_options o p =
    (o.period == p.period) && ((o.drift == p.drift) && (((o.trust.numerator == p.trust.numerator) && (o.trust.denominator == p.trust.denominator)) && (same_carried o.votes p.votes && same_ties o.ties p.ties)))

abbrev pub same_fees : Fees → Fees → Bool
same_fees f g = (f.base == g.base) && ((f.signature == g.signature) && (f.validator == g.validator))

abbrev pub same_limits : TransactionLimits → TransactionLimits → Bool
same_limits l m = (l.gas == m.gas) && ((l.count == m.count) && (l.transaction_gas == m.transaction_gas))

abbrev pub same_refresh_to : RefreshTo → RefreshTo → Bool
same_refresh_to Lowest Lowest = true
same_refresh_to Lowest Highest = false
same_refresh_to Lowest Newer = false
same_refresh_to Highest Lowest = false
same_refresh_to Highest Highest = true
same_refresh_to Highest Newer = false
same_refresh_to Newer Lowest = false
same_refresh_to Newer Highest = false
same_refresh_to Newer Newer = true

-- by all that a client is set up with
abbrev pub same_config : ClientConfig → ClientConfig → Bool
same_config c d =
    bytes_eq c.id d.id && ((c.host == d.host) && ((c.tracks == d.tracks) && (same_options c.options d.options && ((c.refresh == d.refresh)
    && (same_refresh_to c.refresh_to d.refresh_to && (same_fees c.fees d.fees && (same_fees c.gas d.gas && same_limits c.limits d.limits)))))))

abbrev pub same_span : Span → Span → Bool
same_span s t = (s.from == t.from) && (s.until == t.until)

abbrev pub same_gas : PathGas → PathGas → Bool
same_gas g h = (g.receive == h.receive) && (g.acknowledge == h.acknowledge) && (g.timeout == h.timeout)

abbrev pub same_waits : Waits → Waits → Bool
same_waits w x = (w.receive == x.receive) && ((w.acknowledge == x.acknowledge) && (w.timeout == x.timeout))

abbrev pub same_packet_message : PacketMsg → PacketMsg → Bool
same_packet_message m n =
    same_kind m.kind n.kind && (m.sequence == n.sequence) && (m.floor == n.floor) && option_eq nat_eq m.expires n.expires && option_eq nat_eq m.since n.since
    && option_eq nat_eq m.timeout n.timeout

abbrev pub same_path_task : PathTask → PathTask → Bool
same_path_task p q =
    (p.path == q.path) && same_order p.order q.order && same_gas p.gas q.gas && same_waits p.waits q.waits && pointwise same_packet_message p.owed q.owed

abbrev pub same_goal : Goal → Goal → Bool
same_goal (Exactly g) (Exactly h) = g == h
same_goal (Exactly g) (AtLeast h) = false
same_goal (AtLeast g) (Exactly h) = false
same_goal (AtLeast g) (AtLeast h) = g == h

abbrev pub same_task : Task → Task → Bool
same_task t u =
    same_config t.config u.config && pointwise nat_eq t.stored u.stored && same_span t.window u.window && same_book t.book u.book
    && pointwise same_path_task t.paths u.paths && option_eq same_goal t.asked u.asked

abbrev pub same_job : Job → Job → Bool
same_job j k = (j.client == k.client) && same_task j.task k.task && (j.plan == k.plan) && beq j.held k.held

-- ---- each of them decides equality

pub kinds_Decides : (k l : Kind) → Decides (same_kind k l) (k ≡ l)
kinds_Decides Receive Receive = (λ _. refl, λ _. refl)
kinds_Decides Receive Acknowledge = (λ e. cc, λ e. cc)
kinds_Decides Receive Timeout = (λ e. cc, λ e. cc)
kinds_Decides Acknowledge Receive = (λ e. cc, λ e. cc)
kinds_Decides Acknowledge Acknowledge = (λ _. refl, λ _. refl)
kinds_Decides Acknowledge Timeout = (λ e. cc, λ e. cc)
kinds_Decides Timeout Receive = (λ e. cc, λ e. cc)
kinds_Decides Timeout Acknowledge = (λ e. cc, λ e. cc)
kinds_Decides Timeout Timeout = (λ _. refl, λ _. refl)

goals_Decides : (g h : Goal) → Decides (same_goal g h) (g ≡ h)
goals_Decides (Exactly g) (Exactly h) = Decides-like _ (λ e. ap (λ n. Exactly n) e) (λ e. cc) (unsigned_Decides g h)
goals_Decides (Exactly g) (AtLeast h) = (λ e. cc, λ e. cc)
goals_Decides (AtLeast g) (Exactly h) = (λ e. cc, λ e. cc)
goals_Decides (AtLeast g) (AtLeast h) = Decides-like _ (λ e. ap (λ n. AtLeast n) e) (λ e. cc) (unsigned_Decides g h)

refresh_to_Decides : (a b : RefreshTo) → Decides (same_refresh_to a b) (a ≡ b)
refresh_to_Decides Lowest Lowest = (λ _. refl, λ _. refl)
refresh_to_Decides Lowest Highest = (λ e. cc, λ e. cc)
refresh_to_Decides Lowest Newer = (λ e. cc, λ e. cc)
refresh_to_Decides Highest Lowest = (λ e. cc, λ e. cc)
refresh_to_Decides Highest Highest = (λ _. refl, λ _. refl)
refresh_to_Decides Highest Newer = (λ e. cc, λ e. cc)
refresh_to_Decides Newer Lowest = (λ e. cc, λ e. cc)
refresh_to_Decides Newer Highest = (λ e. cc, λ e. cc)
refresh_to_Decides Newer Newer = (λ _. refl, λ _. refl)

carried_Decides : (v w : CarriedVotes) → Decides (same_carried v w) (v ≡ w)
carried_Decides Commit Commit = (λ _. refl, λ _. refl)
carried_Decides Commit Cast = (λ e. cc, λ e. cc)
carried_Decides Commit Needed = (λ e. cc, λ e. cc)
carried_Decides Cast Commit = (λ e. cc, λ e. cc)
carried_Decides Cast Cast = (λ _. refl, λ _. refl)
carried_Decides Cast Needed = (λ e. cc, λ e. cc)
carried_Decides Needed Commit = (λ e. cc, λ e. cc)
carried_Decides Needed Cast = (λ e. cc, λ e. cc)
carried_Decides Needed Needed = (λ _. refl, λ _. refl)

ties_Decides : (a b : Ties) → Decides (same_ties a b) (a ≡ b)
ties_Decides Lower Lower = (λ _. refl, λ _. refl)
ties_Decides Lower Higher = (λ e. cc, λ e. cc)
ties_Decides Higher Lower = (λ e. cc, λ e. cc)
ties_Decides Higher Higher = (λ _. refl, λ _. refl)

same_options-Decides : (o p : ClientOptions) → Decides (same_options o p) (o ≡ p)
same_options-Decides o p =
    Decides-like _
    (λ e i. record { period = e.0 i; drift = e.1.0 i; trust = record { numerator = e.1.1.0.0 i; denominator = e.1.1.0.1 i }; votes = e.1.1.1.0 i; ties = e.1.1.1.1 i })
    (λ e. (ap (λ (x : ClientOptions). x.period) e, (ap (λ (x : ClientOptions). x.drift) e, ((ap (λ (x : ClientOptions). x.trust.numerator) e, ap (λ (x : ClientOptions). x.trust.denominator) e), (ap (λ (x : ClientOptions). x.votes) e, ap (λ (x : ClientOptions). x.ties) e)))))
    (Decides-and _ _ (unsigned_Decides o.period p.period) (Decides-and _ _ (unsigned_Decides o.drift p.drift)
    (Decides-and _ _ (Decides-and _ _ (unsigned_Decides o.trust.numerator p.trust.numerator) (unsigned_Decides o.trust.denominator p.trust.denominator)) (Decides-and _ _ (carried_Decides o.votes p.votes) (ties_Decides o.ties p.ties)))))

same_fees-Decides : (f g : Fees) → Decides (same_fees f g) (f ≡ g)
same_fees-Decides f g =
    Decides-like _ (λ e i. record { base = e.0 i; signature = e.1.0 i; validator = e.1.1 i })
    (λ e. (ap (λ (x : Fees). x.base) e, (ap (λ (x : Fees). x.signature) e, ap (λ (x : Fees). x.validator) e)))
    (Decides-and _ _ (unsigned_Decides f.base g.base) (Decides-and _ _ (unsigned_Decides f.signature g.signature) (unsigned_Decides f.validator g.validator)))

same_limits-Decides : (l m : TransactionLimits) → Decides (same_limits l m) (l ≡ m)
same_limits-Decides l m =
    Decides-like _ (λ e i. record { gas = e.0 i; count = e.1.0 i; transaction_gas = e.1.1 i })
    (λ e. (ap (λ (x : TransactionLimits). x.gas) e, (ap (λ (x : TransactionLimits). x.count) e, ap (λ (x : TransactionLimits). x.transaction_gas) e)))
    (Decides-and _ _ (unsigned_Decides l.gas m.gas) (Decides-and _ _ (unsigned_Decides l.count m.count) (unsigned_Decides l.transaction_gas m.transaction_gas)))

same_config-Decides : (c d : ClientConfig) → Decides (same_config c d) (c ≡ d)
same_config-Decides c d =
    Decides-like _
    (λ e i. record { id = e.0 i; host = e.1.0 i; tracks = e.1.1.0 i; options = e.1.1.1.0 i; refresh = e.1.1.1.1.0 i; refresh_to = e.1.1.1.1.1.0 i; fees = e.1.1.1.1.1.1.0 i; gas = e.1.1.1.1.1.1.1.0 i; limits = e.1.1.1.1.1.1.1.1 i })
    (λ e. (ap (λ (x : ClientConfig). x.id) e, (ap (λ (x : ClientConfig). x.host) e, (ap (λ (x : ClientConfig). x.tracks) e, (ap (λ (x : ClientConfig). x.options) e, (ap (λ (x : ClientConfig). x.refresh) e, (ap (λ (x : ClientConfig). x.refresh_to) e, (ap (λ (x : ClientConfig). x.fees) e, (ap (λ (x : ClientConfig). x.gas) e, ap (λ (x : ClientConfig). x.limits) e)))))))))
    (Decides-and _ _ (bytes_eq-Decides c.id d.id) (Decides-and _ _ (unsigned_Decides c.host d.host) (Decides-and _ _ (unsigned_Decides c.tracks d.tracks)
    (Decides-and _ _ (same_options-Decides c.options d.options) (Decides-and _ _ (unsigned_Decides c.refresh d.refresh) (Decides-and _ _ (refresh_to_Decides c.refresh_to d.refresh_to)
    (Decides-and _ _ (same_fees-Decides c.fees d.fees) (Decides-and _ _ (same_fees-Decides c.gas d.gas) (same_limits-Decides c.limits d.limits)))))))))

same_span-Decides : (s t : Span) → Decides (same_span s t) (s ≡ t)
same_span-Decides s t =
    Decides-like _ (λ h i. record { from = h.0 i; until = h.1 i }) (λ e. (ap (λ (x : Span). x.from) e, ap (λ (x : Span). x.until) e))
    (Decides-and _ _ (unsigned_Decides s.from t.from) (unsigned_Decides s.until t.until))

same_gas-Decides : (g h : PathGas) → Decides (same_gas g h) (g ≡ h)
same_gas-Decides g h =
    Decides-like _ (λ e i. record { receive = e.0.0 i; acknowledge = e.0.1 i; timeout = e.1 i })
    (λ e. ((ap (λ (x : PathGas). x.receive) e, ap (λ (x : PathGas). x.acknowledge) e), ap (λ (x : PathGas). x.timeout) e))
    (Decides-and _ _ (Decides-and _ _ (unsigned_Decides g.receive h.receive) (unsigned_Decides g.acknowledge h.acknowledge)) (unsigned_Decides g.timeout h.timeout))

same_packet_message-Decides : (m n : PacketMsg) → Decides (same_packet_message m n) (m ≡ n)
same_packet_message-Decides m n =
    Decides-like _ (λ e i. record { kind = e.0.0.0.0.0 i; sequence = e.0.0.0.0.1 i; floor = e.0.0.0.1 i; expires = e.0.0.1 i; since = e.0.1 i; timeout = e.1 i })
    (λ e. (((((ap (λ (x : PacketMsg). x.kind) e, ap (λ (x : PacketMsg). x.sequence) e), ap (λ (x : PacketMsg). x.floor) e), ap (λ (x : PacketMsg). x.expires) e), ap (λ (x : PacketMsg). x.since) e), ap (λ (x : PacketMsg). x.timeout) e))
    (Decides-and _ _ (Decides-and _ _ (Decides-and _ _ (Decides-and _ _ (Decides-and _ _ (kinds_Decides m.kind n.kind) (unsigned_Decides m.sequence n.sequence)) (unsigned_Decides m.floor n.floor))
    (options_Decides nat_eq unsigned_Decides m.expires n.expires)) (options_Decides nat_eq unsigned_Decides m.since n.since))
    (options_Decides nat_eq unsigned_Decides m.timeout n.timeout))

same_waits-Decides : (w x : Waits) → Decides (same_waits w x) (w ≡ x)
same_waits-Decides w x =
    Decides-like _ (λ e i. record { receive = e.0 i; acknowledge = e.1.0 i; timeout = e.1.1 i })
    (λ e. (ap (λ (y : Waits). y.receive) e, (ap (λ (y : Waits). y.acknowledge) e, ap (λ (y : Waits). y.timeout) e)))
    (Decides-and _ _ (unsigned_Decides w.receive x.receive) (Decides-and _ _ (unsigned_Decides w.acknowledge x.acknowledge) (unsigned_Decides w.timeout x.timeout)))

pub same_path_task-Decides : (p q : PathTask) → Decides (same_path_task p q) (p ≡ q)
same_path_task-Decides p q =
    Decides-like _ (λ e i. record { path = e.0.0.0.0 i; order = e.0.0.0.1 i; gas = e.0.0.1 i; waits = e.0.1 i; owed = e.1 i })
    (λ e. ((((ap (λ (x : PathTask). x.path) e, ap (λ (x : PathTask). x.order) e), ap (λ (x : PathTask). x.gas) e), ap (λ (x : PathTask). x.waits) e), ap (λ (x : PathTask). x.owed) e))
    (Decides-and _ _ (Decides-and _ _ (Decides-and _ _ (Decides-and _ _ (unsigned_Decides p.path q.path) (orders_Decides p.order q.order)) (same_gas-Decides p.gas q.gas)) (same_waits-Decides p.waits q.waits))
    (slice_eq-Decides same_packet_message-Decides p.owed q.owed _ refl))

same_task-Decides : (t u : Task) → Decides (same_task t u) (t ≡ u)
same_task-Decides t u =
    Decides-like _
    (λ e i. record { config = e.0.0.0.0.0 i; stored = e.0.0.0.0.1 i; window = e.0.0.0.1 i; book = e.0.0.1 i; paths = e.0.1 i; asked = e.1 i })
    (λ e. (((((ap (λ (x : Task). x.config) e, ap (λ (x : Task). x.stored) e), ap (λ (x : Task). x.window) e), ap (λ (x : Task). x.book) e), ap (λ (x : Task). x.paths) e), ap (λ (x : Task). x.asked) e))
    (Decides-and _ _ (Decides-and _ _ (Decides-and _ _ (Decides-and _ _ (Decides-and _ _ (same_config-Decides t.config u.config)
    (slice_eq-Decides unsigned_Decides t.stored u.stored _ refl)) (same_span-Decides t.window u.window)) (same_book-Decides t.book u.book))
    (slice_eq-Decides same_path_task-Decides t.paths u.paths _ refl)) (options_Decides same_goal goals_Decides t.asked u.asked))

pub same_job-Decides : (j k : Job) → Decides (same_job j k) (j ≡ k)
same_job-Decides j k =
    Decides-like _ (λ e i. record { client = e.0.0.0 i; task = e.0.0.1 i; plan = e.0.1 i; held = e.1 i })
    (λ e. (((ap (λ (x : Job). x.client) e, ap (λ (x : Job). x.task) e), ap (λ (x : Job). x.plan) e), ap (λ (x : Job). x.held) e))
    (Decides-and _ _ (Decides-and _ _ (Decides-and _ _ (unsigned_Decides j.client k.client) (same_task-Decides j.task k.task)) (unsigned_Decides j.plan k.plan)) (booleans_Decides j.held k.held))

-- ---- so each is an equality

pub same_path_task-equiv : IsEquivalence same_path_task
same_path_task-equiv = decided same_path_task same_path_task-Decides

pub same_path_task-laws : IsPartialEquivalence same_path_task
same_path_task-laws = partial_equiv_from_equiv same_path_task-equiv
