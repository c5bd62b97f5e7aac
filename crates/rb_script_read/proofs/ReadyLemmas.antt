-- Lemmas on sets that are read before the other events of their turn.
use Rattle.std.proofs.Common.{◌≡◌, ℕ, zero, suc, List, [], ◌∷◌, ◌++◌, codes, Option, Some, None, option_map, Result, Ok, Err, All, IfOk, IfSome, Vec, refl, ap, sym, ◌∙◌}
use Rattle.std.specs.List.{AllZip, slice_get}
use Rattle.std.specs.Option.{IsSomeAnd}
use Rattle.std.specs.Option.{option_to_list}
use Rattle.std.specs.declared.alloc.Global.{Global}
use Rattle.std.proofs.lemmas.List.Elements.{All-cons, All-nil, All-pop}
use Rattle.std.proofs.lemmas.Option.{slice_get_read}
use Rattle.toml.specs.Data.{Data, Items}
use Rattle.toml.specs.View.{view, items_view}
use Rattle.toml.specs.declared.value.Value.{Value}
use Rattle.rb_valset.specs.declared.set.ValidatorSet.{ValidatorSet}
use Rattle.rb_script_toml.specs.declared.fault.RunError.{RunError}
use Rattle.rb_script_toml.specs.Faults.{Gives}
use Rattle.rb_script_toml.specs.Fields.{Section, section_at}
use Rattle.rb_script_toml.specs.KeyPaths.{child, element}
use Rattle.rb_script_config.proofs.ConfigForms.{same_ok}
use Rattle.rb_script_read.specs.Ready.{AreReady, AreReadyAt, AreReadyIn, IsReady, events_of, item_at, validators_at}
use Rattle.rb_script_read.specs.declared.ready.ReadySet.{ReadySet}

pub moved : {A : Type 0} (P : A → Type 0) (x y : A) → x ≡ y → P x → P y
moved P x y same p = rw (sym same) p

-- an event by its place, as data
pub item_at-view : (vs : List Value) (k : ℕ) → item_at (items_view vs) k ≡ option_map view (slice_get vs k)
item_at-view [] k = refl
item_at-view (v ∷ vs) zero = refl
item_at-view (v ∷ vs) (suc k) = item_at-view vs k

pub all_of_zip : {A B : Type 0} (P : B → Type 0) (xs : List A) (ys : List B) → AllZip (λ x y. P y) xs ys → All P ys
all_of_zip P [] [] h = All-nil P
all_of_zip P [] (y ∷ ys) h = absurd h
all_of_zip P (x ∷ xs) [] h = absurd h
all_of_zip P (x ∷ xs) (y ∷ ys) h = All-cons P y ys h.0 (all_of_zip P xs ys h.1)

pub none_ready : (path : List ℕ) (events : Items) → AreReady path events []
unfolding AreReady
none_ready path events = All-nil (IsReady path events)

pub none_ready_in : (s : Section) → AreReadyIn s []
unfolding AreReadyIn
none_ready_in s = λ events _. none_ready _ events

pub none_ready_at : (index : ℕ) (turn : Data) → AreReadyAt index turn []
unfolding AreReadyAt
none_ready_at index turn = λ s _. none_ready_in s

pub all_ready : {A : Type 0} (path : List ℕ) (events : Items) (places : List A) (sets : List ReadySet) → AllZip (λ p s. IsReady path events s) places sets → AreReady path events sets
unfolding AreReady
all_ready path events places sets h = all_of_zip (IsReady path events) places sets h

pub rest_is_ready : (path : List ℕ) (events : Items) (sets rest : List ReadySet) (r : Option ReadySet)
    → sets ≡ rest ++ option_to_list r → AreReady path events sets → AreReady path events rest
unfolding AreReady
rest_is_ready path events sets rest r same ready = (All-pop (IsReady path events) sets rest r same ready).0

-- a set is ready by what reading it gives
pub set_is_ready : (path : List ℕ) (events : List Value) (place : ℕ) (v : Value) (set : Result (ValidatorSet Global) RunError)
    → slice_get events place ≡ Some v → Gives (λ s. s) set (validators_at path place (view v))
    → IsReady path (items_view events) (record { place = place; set = set })
set_is_ready path events place v set there gives = rw (item_at-view events place ∙ ap (option_map view) there) gives

-- the set that was taken is that of the event at its place
ready_there : (path : List ℕ) (events : List Value) (r : Option ReadySet) (place : ℕ) (v : Value)
    → IfSome r (IsReady path (items_view events)) → IfSome r (λ s. s.place ≡ place) → slice_get events place ≡ Some v
    → IfSome r (λ s. Gives (λ x. x) s.set (validators_at path place (view v)))
ready_there path events None place v ready at there = tt
ready_there path events (Some s) place v ready at there =
    let here = item_at-view events s.place ∙ ap (λ p. option_map view (slice_get events p)) at ∙ ap (option_map view) there in
    let gives : Data → Type 0 = λ d. Gives (λ x. x) s.set (validators_at path s.place d) in
    let found = moved (λ o. IsSomeAnd o gives) (item_at (items_view events) s.place) (Some (view v)) here ready in
    moved (λ p. Gives (λ x. x) s.set (validators_at path p (view v))) s.place place at found

pub ready_at : (path : List ℕ) (events : List Value) (sets rest : List ReadySet) (r : Option ReadySet) (place : ℕ) (v : Value)
    → sets ≡ rest ++ option_to_list r → AreReady path (items_view events) sets → IfSome r (λ s. s.place ≡ place) → slice_get events place ≡ Some v
    → IfSome r (λ s. Gives (λ x. x) s.set (validators_at path place (view v)))
unfolding AreReady
ready_at path events sets rest r place v same ready at there =
    ready_there path events r place v (All-pop (IsReady path (items_view events)) sets rest r same ready).1 at there

-- the sets of the events that a turn lists are sets of the turn
pub ready_in : (s : Section) (events : Items) (sets : List ReadySet)
    → events_of s ≡ Ok events → AreReady (child s.path (codes "event")) events sets → AreReadyIn s sets
unfolding AreReadyIn
ready_in s events sets listed ready = λ others same.
    moved (λ es. AreReady (child s.path (codes "event")) es sets) events others (same_ok events others (sym listed ∙ same)) ready

pub ready_in_ok :
    {E : Type 0} (s : Section) (path : List ℕ) (events : Items) (r : Result (Vec ReadySet Global) E)
    → events_of s ≡ Ok events → path ≡ child s.path (codes "event") → IfOk r (λ sets. AreReady path events sets.items) → IfOk r (λ sets. AreReadyIn s sets.items)
ready_in_ok s path events (Ok sets) listed same ready =
    ready_in s events sets.items listed (moved (λ p. AreReady p events sets.items) path (child s.path (codes "event")) same ready)
ready_in_ok s path events (Err e) listed same ready = tt

pub ready_in_turn : (index : ℕ) (turn : Data) (s : Section) (sets : List ReadySet)
    → section_at (element (codes "turn") index) turn ≡ Ok s → AreReadyIn s sets → AreReadyAt index turn sets
unfolding AreReadyAt
ready_in_turn index turn s sets at ready = λ other same. moved (λ t. AreReadyIn t sets) s other (same_ok s other (sym at ∙ same)) ready

pub turn_ready_ok :
    {E : Type 0} (index : ℕ) (turn : Data) (s : Section) (r : Result (Vec ReadySet Global) E)
    → section_at (element (codes "turn") index) turn ≡ Ok s → IfOk r (λ sets. AreReadyIn s sets.items) → IfOk r (λ sets. AreReadyAt index turn sets.items)
turn_ready_ok index turn s (Ok sets) at ready = ready_in_turn index turn s sets.items at ready
turn_ready_ok index turn s (Err e) at ready = tt

pub ready_in-turn_at : (index : ℕ) (turn : Data) (s : Section) (sets : List ReadySet)
    → AreReadyAt index turn sets → section_at (element (codes "turn") index) turn ≡ Ok s → AreReadyIn s sets
unfolding AreReadyAt
ready_in-turn_at index turn s sets ready at = ready s at

pub ready_of-turn : (s : Section) (events : Items) (sets : List ReadySet)
    → AreReadyIn s sets → events_of s ≡ Ok events → AreReady (child s.path (codes "event")) events sets
unfolding AreReadyIn
ready_of-turn s events sets ready listed = ready events listed

pub ruleset readies = (none_ready, none_ready_in, none_ready_at, rest_is_ready, set_is_ready, ready_at, ready_in, ready_in_ok, ready_in_turn, turn_ready_ok, ready_in-turn_at, ready_of-turn, slice_get_read)
