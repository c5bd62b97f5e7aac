-- A follower's steps, over what it is made of.
use Rattle.std.proofs.Common.{◌≡◌, ℕ, ◌+◌, ◌<◌, ◌≤◌, Bool, true, false, List, [], Option, Result, Ok, Err, IfOk, OnOk, refl, sym, ap, subst, ◌∙◌, arith}
use Rattle.std.specs.declared.alloc.Global.{Global}
use Rattle.rb_core.specs.Core.{Core, state_in}
use Rattle.rb_core_model.specs.Event.{Event}
use Rattle.rb_core_model.specs.Machine.{state_of}
use Rattle.rb_core_model.specs.Forgetting.{floors_of, rest_at_floors}
use Rattle.rb_core_model.specs.Limits.{max_events}
use Rattle.rb_core_model.specs.Snapshot.{from_nothing}
use Rattle.rb_core_model.specs.Standing.{Standing}
use Rattle.rb_script_types.specs.Config.{Config}
use Rattle.rb_script_types.specs.Script.{Turn, turn_view}
use Rattle.rb_script_types.specs.declared.script.Turn.{Turn as CodeTurn}
use Rattle.rb_script_toml.specs.declared.fault.RunError.{RunError}
use Rattle.rb_script_toml.specs.Faults.{Fault, ◌>>=◌, Fails}
use Rattle.rb_script_toml.proofs.Steps.{fails-first}
use Rattle.rb_script_config.specs.Paths.{path_ids}
use Rattle.rb_script_read.specs.Turns.{Reading, opening}
use Rattle.rb_super_turn.specs.AsEvents.{code_turn_as_events, IsTurnFor, most_events as most_of_turn}
use Rattle.rb_super_turn.proofs.Runs.{opened_front, opened_standing}
use Rattle.rb_super_turn.specs.Phases.{standing_in, HasLogRoom, IsLater}
use Rattle.rb_super_turn.specs.Report.{TurnReport}
use Rattle.rb_super_turn.specs.Turns.{IsTurnReport, after_turn}
use Rattle.rb_follow.specs.Setups.{setup_of}
use Rattle.rb_follow.specs.Followers.{Following, begun_with, beginning, max_turns, most_events, read_turn, next_turn, Refusal, faulty, refusing, turn_behind, Answer, planned, refused, IsRight, IsAnswerFor, IsAnswer, room_again, tidied}
use Rattle.rb_follow.specs.Numbers.{number_text, numbered}
use Rattle.rb_follow.specs.Tidying.{forgets, raised}
use Rattle.rb_follow.specs.Seen.{IsInOrder}

-- a follower that is made of these
abbrev pub made_of : Config → Core → Reading → ℕ → ℕ → List ℕ → Following
made_of c core reading turns events forgotten =
    record { config = c; turns = turns; reading = reading; events = events; standing = standing_in core; forgotten = forgotten }

-- ---- the beginning

begun_from : (setup : List ℕ) (c : Config) (f : Following) → setup_of setup ≡ Ok c → f ≡ begun_with c → beginning setup ≡ Ok f
unfolding beginning
begun_from setup c f read is = ap (λ (r : Result Config Fault). r >>= (λ x. Ok (begun_with x))) read ∙ ap Ok (sym is)

pub begun : (setup : List ℕ) (c : Config) (core : Core) (reading : Reading) (forgotten : List ℕ) → setup_of setup ≡ Ok c → core.config ≡ c
    → core.log ≡ from_nothing [] → reading ≡ opening → forgotten ≡ [] → beginning setup ≡ Ok (made_of c core reading 0 0 forgotten)
begun setup c core reading forgotten read config log opened none =
    begun_from setup c (made_of c core reading 0 0 forgotten) read
    (λ i. record { config = c; turns = 0; reading = opened i; events = 0; standing = opened_standing core c config log i; forgotten = none i })

pub begins-refused : (setup : List ℕ) (e : RunError) → Fails e (setup_of setup) → Fails e (beginning setup)
unfolding beginning
begins-refused setup e h = fails-first e (setup_of setup) (λ c. Ok (begun_with c)) h

pub begins_in_order : (c : Config) (core : Core) (paths : List (List ℕ)) → core.config ≡ c → core.log ≡ from_nothing [] → paths ≡ path_ids c.paths → IsInOrder c core paths 0 0
begins_in_order c core paths config log are =
    let opened = opened_front core log in
    record { config = config; paths_are = are; few_turns = omega arith; front = omega arith; few_events = omega arith }

-- a relayer that goes on from a state
pub restored_front : (core : Core) → core.log.events ≡ [] → (state_in core).front ≡ 0
restored_front core none = ap (λ (events : List Event). (state_of core.config (record { start = core.log.start; events = events })).front) none

-- ---- a turn

pub in_order : (c : Config) (core : Core) (paths : List (List ℕ)) (turns events : ℕ) → core.config ≡ c → paths ≡ path_ids c.paths → turns ≤ max_turns c.version
    → (state_in core).front ≤ events → events ≤ max_events → IsInOrder c core paths turns events
in_order c core paths turns events config are few front room = record { config = config; paths_are = are; few_turns = few; front = front; few_events = room }

-- of a relayer that is the same as the follower's
pub turn_for : (c : Config) (core same : Core) (paths : List (List ℕ)) (turns events : ℕ) (t : CodeTurn Global) → same ≡ core → IsInOrder c core paths turns events
    → IsTurnFor c t → IsTurnFor same.config t
turn_for c core same paths turns events t e order is = subst (λ (k : Config). IsTurnFor k t) (sym (ap (λ (k : Core). k.config) e ∙ order.config)) is

room_here : (c : Config) (core : Core) (paths : List (List ℕ)) (turns events : ℕ) (t : CodeTurn Global) → IsInOrder c core paths turns events
    → events + most_events c (turn_view t) ≤ max_events → HasLogRoom core (most_of_turn core.config t)
room_here c core paths turns events t order room =
    let front = order.front in
    subst (λ (k : Config). (state_in core).front + most_of_turn k t ≤ max_events) (sym order.config) (omega (arith, front, room))

pub room_for : (c : Config) (core same : Core) (paths : List (List ℕ)) (turns events : ℕ) (t : CodeTurn Global) → same ≡ core → IsInOrder c core paths turns events
    → events + most_events c (turn_view t) ≤ max_events → HasLogRoom same (most_of_turn same.config t)
room_for c core same paths turns events t e order room =
    subst (λ (k : Core). HasLogRoom k (most_of_turn k.config t)) (sym e) (room_here c core paths turns events t order room)

goes_on : (c : Config) (core next : Core) (paths : List (List ℕ)) (turns events count : ℕ) (t : CodeTurn Global) → IsInOrder c core paths turns events
    → turns < max_turns c.version → events + most_events c (turn_view t) ≤ max_events → count ≡ events + most_events c (turn_view t)
    → IsLater (most_of_turn core.config t) core next → IsInOrder c next paths (turns + 1) count
goes_on c core next paths turns events count t order few room is later =
    let config = order.config in
    let front : (state_in next).front ≤ (state_in core).front + most_events c (turn_view t) =
    subst (λ (k : Config). (state_in next).front ≤ (state_in core).front + most_of_turn k t) config later.front in
    let before = order.front in
    record {
      config = later.config ∙ config;
      paths_are = order.paths_are;
      few_turns = omega (arith, few);
      front = omega (arith, front, before, is);
      few_events = omega (arith, room, is);
    }

pub stays_in_order : (c : Config) (core same next : Core) (paths : List (List ℕ)) (turns events count : ℕ) (t : CodeTurn Global) → same ≡ core → IsInOrder c core paths turns events
    → turns < max_turns c.version → events + most_events c (turn_view t) ≤ max_events → count ≡ events + most_events c (turn_view t)
    → IsLater (most_of_turn same.config t) same next → IsInOrder c next paths (turns + 1) count
stays_in_order c core same next paths turns events count t e order few room is later =
    goes_on c core next paths turns events count t order few room is (subst (λ (k : Core). IsLater (most_of_turn k.config t) k next) e later)

-- ---- an answer

-- what is left of a follower
pub tidies : (f : Following) (reading : Reading) (standing : Standing) (before floors forgotten : List ℕ) → forgets f.config.version f.standing ≡ true
    → reading ≡ room_again f.config.version f.reading → standing ≡ rest_at_floors f.standing
    → before ≡ f.forgotten → floors ≡ floors_of f.standing → forgotten ≡ raised before floors
    → record f { reading = reading; events = 0; standing = standing; forgotten = forgotten } ≡ tidied f
tidies f reading standing before floors forgotten does room left same lowest are =
    let raise : forgotten ≡ raised f.forgotten (floors_of f.standing) = are ∙ (λ i. raised (same i) (lowest i)) in
    rw does (λ i. record f { reading = room i; events = 0; standing = left i; forgotten = raise i })

pub stays : (f : Following) → forgets f.config.version f.standing ≡ false → f ≡ tidied f
stays f not_now = rw not_now refl

-- the answer to a turn
pub answers : (c : Config) (core same next : Core) (turns events count : ℕ) (forgotten : List ℕ) (reading read left : Reading) (t : CodeTurn Global) (r : TurnReport)
    (g : Following) → same ≡ core → left ≡ read → count ≡ events + most_events c (turn_view t)
    → IsTurnReport (standing_in same) (code_turn_as_events t) r → standing_in next ≡ after_turn (standing_in same) (code_turn_as_events t) r
    → g ≡ tidied (made_of c next left (turns + 1) count forgotten)
    → IsAnswerFor (made_of c core reading turns events forgotten) (Ok (turn_view t, read)) (planned (turns + 1) r) g
answers c core same next turns events count forgotten reading read left t r g e l n report standing tidy =
    let after : standing_in next ≡ after_turn (standing_in core) (code_turn_as_events t) r =
    subst (λ (k : Core). standing_in next ≡ after_turn (standing_in k) (code_turn_as_events t) r) e standing in (
      refl,
      subst (λ (k : Core). IsTurnReport (standing_in k) (code_turn_as_events t) r) e report,
      (tidy ∙ (λ i. tidied (record { config = c; turns = turns + 1; reading = l i; events = n i; standing = after i; forgotten = forgotten }))),
    )

-- the answer to a document that was read so behind its number, if it has one
pub answers_body : {X : Type 0} (told : X → Answer) (after : X → Following) (f : Following) (n : Option ℕ) (bytes : List ℕ) (x : Turn Global × Reading) (r : Result X RunError)
    → read_turn f bytes ≡ Ok x → IfOk r (λ y. IsAnswerFor f (Ok x) (told y) (after y)) → IfOk r (λ y. IsAnswerFor f (refusing n (read_turn f bytes)) (told y) (after y))
answers_body told after f n bytes x r e h =
    subst (λ (read : Result (Turn Global × Reading) Refusal). IfOk r (λ y. IsAnswerFor f read (told y) (after y))) (sym (ap (refusing n) e)) h

pub right_body : {X : Type 0} (f : Following) (n : Option ℕ) (bytes : List ℕ) (x : Turn Global × Reading) (r : Result X RunError)
    → read_turn f bytes ≡ Ok x → OnOk r (IsRight f (Ok x)) → OnOk r (IsRight f (refusing n (read_turn f bytes)))
right_body f n bytes x r e h = subst (λ (read : Result (Turn Global × Reading) Refusal). OnOk r (IsRight f read)) (sym (ap (refusing n) e)) h

-- the answer to one that was refused
pub refuses : (f : Following) (n : Option ℕ) (bytes : List ℕ) (fault : Fault) → read_turn f bytes ≡ Err fault → IsAnswerFor f (refusing n (read_turn f bytes)) (refused (faulty n fault)) f
refuses f n bytes fault e = subst (λ (read : Result (Turn Global × Reading) Refusal). IsAnswerFor f read (refused (faulty n fault)) f) (sym (ap (refusing n) e)) (refl, refl)

pub right_refused : (f : Following) (n : Option ℕ) (bytes : List ℕ) (fault : Fault) → read_turn f bytes ≡ Err fault → IsRight f (refusing n (read_turn f bytes))
right_refused f n bytes fault e = subst (IsRight f) (sym (ap (refusing n) e)) tt

-- the answer to a document of which so much stands behind its number
pub answers_document : {X : Type 0} (told : X → Answer) (after : X → Following) (f : Following) (bytes : List ℕ) (opened : Option (Bool × List ℕ)) (r : Result X RunError)
    → numbered (number_text (f.turns + 1)) bytes ≡ opened → IfOk r (λ y. IsAnswerFor f (turn_behind f opened) (told y) (after y)) → IfOk r (λ y. IsAnswer f bytes (told y) (after y))
answers_document told after f bytes opened r e h =
    subst (λ (read : Result (Turn Global × Reading) Refusal). IfOk r (λ y. IsAnswerFor f read (told y) (after y))) (sym (ap (turn_behind f) e)) h

pub right_document : {X : Type 0} (f : Following) (bytes : List ℕ) (opened : Option (Bool × List ℕ)) (r : Result X RunError)
    → numbered (number_text (f.turns + 1)) bytes ≡ opened → OnOk r (IsRight f (turn_behind f opened)) → OnOk r (IsRight f (next_turn f bytes))
right_document f bytes opened r e h = subst (λ (read : Result (Turn Global × Reading) Refusal). OnOk r (IsRight f read)) (sym (ap (turn_behind f) e)) h
