-- What is owed for a packet before and after a time is owed during it, as more is seen of the packet and of its destination.
use Rattle.std.proofs.Common.{◌≡◌, ℕ, ◌+◌, ◌≤◌, Bool, true, false, cond, not, ◌&&◌, ◌||◌, List, Option, Some, None, is_some, refl, sym, ap, ◌∙◌, arith}
use Rattle.std.specs.Option.{option_map}
use Rattle.std.proofs.lemmas.Bool.{true≢false, and_parts, and_from, or_left, or_right, not-true, not_from_false}
use Rattle.std.proofs.lemmas.Option.{none-some, same_Some}
use Rattle.rb_scan.specs.Expiry.{has_come, top, is_expired, timeout_floor}
use Rattle.rb_scan.specs.Owed.{floor_of}
use Rattle.rb_scan.specs.Packet.{Packet, is_finished, is_cleared, is_in_flight}
use Rattle.rb_scan.specs.declared.message.Kind.{Kind}
use Rattle.rb_scan.specs.declared.message.Kind.TheVariants.{Receive, Acknowledge, Timeout}
use Rattle.rb_core_model.proofs.Options.{mapped}
use Rattle.rb_super.proofs.Expired.{Rising, Extends, expired_stays, floor_falls}

-- more is seen of a packet: what was sent is the same, and no mark goes
pub record GrownPacket (q u : Packet) : Type 0 where
  pub sequence : u.sequence ≡ q.sequence
  pub sent : u.sent ≡ q.sent
  pub sent_time : u.sent_time ≡ q.sent_time
  pub timeout_height : u.timeout_height ≡ q.timeout_height
  pub timeout_time : u.timeout_time ≡ q.timeout_time
  pub received : is_some q.received ≡ true → is_some u.received ≡ true
  pub written : (block : ℕ) → q.written ≡ Some block → u.written ≡ Some block
  pub written_time : (block : ℕ) → q.written ≡ Some block → u.written_time ≡ q.written_time
  pub cleared : q.cleared ≡ true → u.cleared ≡ true
  pub receive_settled : q.receive_settled ≡ true → u.receive_settled ≡ true
  pub outcome_settled : q.outcome_settled ≡ true → u.outcome_settled ≡ true

pub grown_self : (q : Packet) → GrownPacket q q
grown_self q = record {
  sequence = refl;
  sent = refl;
  sent_time = refl;
  timeout_height = refl;
  timeout_time = refl;
  received = λ e. e;
  written = λ block e. e;
  written_time = λ block e. refl;
  cleared = λ e. e;
  receive_settled = λ e. e;
  outcome_settled = λ e. e;
}

pub grown_trans : (q u w : Packet) → GrownPacket q u → GrownPacket u w → GrownPacket q w
grown_trans q u w one two = record {
  sequence = two.sequence ∙ one.sequence;
  sent = two.sent ∙ one.sent;
  sent_time = two.sent_time ∙ one.sent_time;
  timeout_height = two.timeout_height ∙ one.timeout_height;
  timeout_time = two.timeout_time ∙ one.timeout_time;
  received = λ e. two.received (one.received e);
  written = λ block e. two.written block (one.written block e);
  written_time = λ block e. two.written_time block (one.written block e) ∙ one.written_time block e;
  cleared = λ e. two.cleared (one.cleared e);
  receive_settled = λ e. two.receive_settled (one.receive_settled e);
  outcome_settled = λ e. two.outcome_settled (one.outcome_settled e);
}

either : (a b c d : Bool) → (a ≡ true → c ≡ true) → (b ≡ true → d ≡ true) → (a || b) ≡ true → (c || d) ≡ true
either true b c d f g e = or_left c d (f refl)
either false b c d f g e = or_right c d (g e)

cleared_stays : (q u : Packet) → GrownPacket q u → is_cleared q ≡ true → is_cleared u ≡ true
cleared_stays q u more e = either q.cleared q.outcome_settled u.cleared u.outcome_settled more.cleared more.outcome_settled e

finished_stays : (q u : Packet) → GrownPacket q u → is_finished q ≡ true → is_finished u ≡ true
finished_stays q u more e =
    either (is_some q.received || q.cleared) q.receive_settled (is_some u.received || u.cleared) u.receive_settled
    (either (is_some q.received) q.cleared (is_some u.received) u.cleared more.received more.cleared) more.receive_settled e

pub backwards : (a b : Bool) → (a ≡ true → b ≡ true) → b ≡ false → a ≡ false
backwards true b f e = absurd (true≢false (sym (f refl) ∙ e))
backwards false b f e = refl

-- what is in flight later is in flight now
in_flight_before : (q u : Packet) → GrownPacket q u → is_in_flight u ≡ true → is_in_flight q ≡ true
in_flight_before q u more e =
    not_from_false (is_finished q || is_cleared q)
    (backwards (is_finished q || is_cleared q) (is_finished u || is_cleared u) (either (is_finished q) (is_cleared q) (is_finished u) (is_cleared u) (finished_stays q u more) (cleared_stays q u more))
    (not-true (is_finished u || is_cleared u) e))

-- limits are those of the packet
same_expired : (rs : List (ℕ × ℕ)) (q u : Packet) → GrownPacket q u → is_expired rs u ≡ is_expired rs q
same_expired rs q u more i =
    has_come (more.timeout_height i) (option_map (λ (r : ℕ × ℕ). r.0) (top rs)) || has_come (more.timeout_time i) (option_map (λ (r : ℕ × ℕ). r.1) (top rs))

same_timeout : (rs : List (ℕ × ℕ)) (q u : Packet) → GrownPacket q u → timeout_floor rs u ≡ timeout_floor rs q
same_timeout rs q u more i = timeout_floor rs (record u { timeout_height = more.timeout_height i; timeout_time = more.timeout_time i })

if_true : {X : Type 0} (b : Bool) (o : Option X) (x : X) → cond b o None ≡ Some x → (b ≡ true) × (o ≡ Some x)
if_true true o x e = (refl, e)
if_true false o x e = absurd (none-some x e)

if_false : {X : Type 0} (b : Bool) (o : Option X) (x : X) → cond b None o ≡ Some x → (b ≡ false) × (o ≡ Some x)
if_false true o x e = absurd (none-some x e)
if_false false o x e = (refl, e)

module _ (rs ss ts : List (ℕ × ℕ)) (q u w : Packet) (first : GrownPacket q u) (then_more : GrownPacket u w)
    (known : Extends rs ss) (then_known : Extends ss ts) (rising : Rising ss) (then_rising : Rising ts)
  where
    -- the floor in between is no higher than the one before
    pub between : (kind : Kind) (f g : ℕ) → floor_of rs kind q ≡ Some f → floor_of ts kind w ≡ Some g → (h : ℕ) × (floor_of ss kind u ≡ Some h) × (h ≤ f)
    between Receive f g before after =
        let was = if_true (is_in_flight q && not (is_expired rs q)) (Some (q.sent + 1)) f before in
        let will = if_true (is_in_flight w && not (is_expired ts w)) (Some (w.sent + 1)) g after in
        let both = and_parts (is_in_flight w) (not (is_expired ts w)) will.0 in
        let fresh : is_expired ss u ≡ false =
        backwards (is_expired ss u) (is_expired ts w) (λ e. expired_stays ss ts then_known then_rising w (same_expired ss u w then_more ∙ e)) (not-true (is_expired ts w) both.1) in
        let test = and_from (is_in_flight u) (not (is_expired ss u)) (in_flight_before u w then_more both.0) (not_from_false (is_expired ss u) fresh) in
        let same : q.sent + 1 ≡ f = same_Some (q.sent + 1) f was.1 in
        let sent = first.sent in
        (u.sent + 1, ap (λ b. cond b (Some (u.sent + 1)) None) test, omega (arith, same, sent))
    between Acknowledge f g before after =
        let was = if_false (is_cleared q) (option_map (λ (block : ℕ). block + 1) q.written) f before in
        let will = if_false (is_cleared w) (option_map (λ (block : ℕ). block + 1) w.written) g after in
        let open_now : is_cleared u ≡ false = backwards (is_cleared u) (is_cleared w) (cleared_stays u w then_more) will.0 in
        let block = mapped (λ (block : ℕ). block + 1) q.written f was.1 in
        (f, ap (λ b. cond b None (option_map (λ (block : ℕ). block + 1) u.written)) open_now ∙ ap (option_map (λ (block : ℕ). block + 1)) (first.written block.0 block.1) ∙ ap (λ n. Some n) block.2, omega arith)
    between Timeout f g before after =
        let was = if_true (is_in_flight q && is_expired rs q) (timeout_floor rs q) f before in
        let will = if_true (is_in_flight w && is_expired ts w) (timeout_floor ts w) g after in
        let flies = in_flight_before u w then_more (and_parts (is_in_flight w) (is_expired ts w) will.0).0 in
        let over = same_expired ss q u first ∙ expired_stays rs ss known rising q (and_parts (is_in_flight q) (is_expired rs q) was.0).1 in
        let floor = floor_falls rs ss known rising q f was.1 in (
          floor.0,
          ap (λ b. cond b (timeout_floor ss u) None) (and_from (is_in_flight u) (is_expired ss u) flies over) ∙ same_timeout ss q u first ∙ floor.1,
          floor.2,
        )
