-- What is left of a fleet has the answers that the whole one had.
use Rattle.std.proofs.Common.{◌≡◌, ℕ, ◌+◌, ◌==◌, suc, List, [], ◌∷◌, ◌++◌, Bool, true, false, cond, get_or, inl, inr, length, take, zero, ◌<◌, ◌≤◌, map, refl, sym, ap, subst, ◌∙◌, arith}
use Rattle.std.specs.Prelude.{filter, not, ◌&&◌, ◌||◌, Vec, slice_get, is_some, string_bytes, Option, Some, None, Result, Ok, Err, IfOk}
use Rattle.std.specs.Global.{Global}
use Rattle.std.specs.List.{AllZip, enumerate_from, items_where_true}
use Rattle.std.specs.Str.{bytes_eq}
use Rattle.std.proofs.lemmas.Bool.{true≢false, eqb-true}
use Rattle.std.proofs.lemmas.Slice.Eq.{bytes_eq-Decides}
use Rattle.std.proofs.lemmas.List.{map_push}
use Rattle.rb_import_check.specs.declared.saved.Saved.{Saved}
use Rattle.rb_import_setup.specs.Paths.{Path, path_view}
use Rattle.rb_import_setup.specs.Rests.{client_stays, moved_path, path_stays, tracks_chain}
use Rattle.rb_import_setup.specs.declared.setup.ClientSetup.{ClientSetup}
use Rattle.rb_import_setup.specs.declared.setup.PathSetup.{PathSetup}
use Rattle.rb_import_setup.specs.declared.setup.ImportSetup.{ImportSetup}
use Rattle.rb_messages.proofs.Zipped.{placed_more, zipped_all, zipped_more}
use Rattle.ibcplan_folders.specs.Fleets.{ChainHas, ChainsHave, ClientHas, ClientsHave, IsRestOf, IsSetupLeft, IsSince, PathsHave, is_tracked, path_ids, staying}
use Rattle.ibcplan_folders.specs.Leavings.{HasMore, IsAmong, IsFleetWithout, IsLeft, IsLeftOf, OrFailed, StaysTracked, failed}
use Rattle.ibcplan_folders.specs.declared.left_out.Failure.{Failure}
use Rattle.ibcplan_folders.specs.declared.left_out.Fleet.{Fleet}

-- ---- lists beside lists

pub zipped_imp : {A B : Type 0} (R S : A → B → Type 0) (xs : List A) (ys : List B) → ((x : A) (y : B) → R x y → S x y) → AllZip R xs ys → AllZip S xs ys
zipped_imp R S [] [] imp all = tt
zipped_imp R S [] (y ∷ ys) imp all = absurd all
zipped_imp R S (x ∷ xs) [] imp all = absurd all
zipped_imp R S (x ∷ xs) (y ∷ ys) imp all = (imp x y all.0, zipped_imp R S xs ys imp all.1)

where_one : {A B : Type 0} (S : A → B → Type 0) (b : Bool) (x : A) (y : B) (xs : List A) (bs : List Bool) (ys : List B) → (b ≡ true → S x y)
    → AllZip S xs (items_where_true bs ys) → AllZip S (cond b (x ∷ xs) xs) (items_where_true (b ∷ bs) (y ∷ ys))
where_one S true x y xs bs ys one rest = (one refl, rest)
where_one S false x y xs bs ys one rest = rest

zipped_where : {A B : Type 0} (R S : A → B → Type 0) (p : A → Bool) (xs : List A) (ys : List B) → ((x : A) (y : B) → p x ≡ true → R x y → S x y)
    → AllZip R xs ys → AllZip S (filter p xs) (items_where_true (map p xs) ys)
zipped_where R S p [] [] imp all = tt
zipped_where R S p [] (y ∷ ys) imp all = absurd all
zipped_where R S p (x ∷ xs) [] imp all = absurd all
zipped_where R S p (x ∷ xs) (y ∷ ys) imp all = where_one S (p x) x y (filter p xs) (map p xs) ys (λ holds. imp x y holds all.0) (zipped_where R S p xs ys imp all.1)

mapped : {A B C : Type 0} (f : A → B) (Q : B → C → Type 0) (xs : List A) (ys : List C) → AllZip (λ x. Q (f x)) xs ys → AllZip Q (map f xs) ys
mapped f Q [] [] all = tt
mapped f Q [] (y ∷ ys) all = absurd all
mapped f Q (x ∷ xs) [] all = absurd all
mapped f Q (x ∷ xs) (y ∷ ys) all = (all.0, mapped f Q xs ys all.1)

unmapped : {A B C : Type 0} (f : A → B) (Q : B → C → Type 0) (xs : List A) (ys : List C) → AllZip Q (map f xs) ys → AllZip (λ x. Q (f x)) xs ys
unmapped f Q [] [] all = tt
unmapped f Q [] (y ∷ ys) all = absurd all
unmapped f Q (x ∷ xs) [] all = absurd all
unmapped f Q (x ∷ xs) (y ∷ ys) all = (all.0, unmapped f Q xs ys all.1)

-- ---- who stays has another identifier

other_id : (name id : List ℕ) → bytes_eq name id ≡ false → name ≡ id → ⊥
other_id name id fails same = true≢false (sym ((bytes_eq-Decides name id).1 same) ∙ fails)

first_no : (x a b : Bool) → (not x && a && b) ≡ true → x ≡ false
first_no false a b holds = refl
first_no true a b holds = absurd (true≢false (sym holds))

two_no : (x y : Bool) → (not x && not y) ≡ true → (x ≡ false) × (y ≡ false)
two_no false false holds = (refl, refl)
two_no false true holds = absurd (true≢false (sym holds))
two_no true y holds = absurd (true≢false (sym holds))

-- what is said of the answers of one that isn't refused
abbrev Passes : (ℕ → List ℕ → Vec Saved Global → Type 0) → (ℕ → List ℕ → Vec Saved Global → Type 0) → List ℕ → Type 0
Passes T S x = (since : ℕ) (id : List ℕ) (saved : Vec Saved Global) → (id ≡ x → ⊥) → T since id saved → S since id saved

-- ---- clients

pub clients_step : (T S : ℕ → List ℕ → Vec Saved Global → Type 0) (x : List ℕ) (f g : Fleet) → Passes T S x → IsFleetWithout x f g → ClientsHave T f → ClientsHave S g
clients_step T S x f g pass left have =
    let chains = f.setup.chains.items in
    let before = λ (c : ClientSetup) (saved : Vec Saved Global). (since : ℕ) × IsSince chains c since × T since c.id saved in
    let after = λ (c : ClientSetup) (saved : Vec Saved Global). (since : ℕ) × IsSince chains c since × S since c.id saved in
    let one : (c : ClientSetup) (saved : Vec Saved Global) → client_stays chains x c ≡ true → before c saved → after c saved =
    λ c saved stays had. (had.0, had.1, pass had.0 c.id saved (other_id c.id x (two_no (bytes_eq c.id x) (tracks_chain chains x c) stays).0) had.2) in
    let some : AllZip after (filter (client_stays chains x) f.setup.clients.items) (items_where_true (map (client_stays chains x) f.setup.clients.items) f.answers.clients.items) =
    zipped_where before after (client_stays chains x) f.setup.clients.items f.answers.clients.items one have in
    subst (λ (ids : List (List ℕ)). AllZip (λ (c : ClientSetup) saved. (since : ℕ) × IsSince ids c since × S since c.id saved) g.setup.clients.items g.answers.clients.items) (sym left.setup.chains)
    (subst (λ (cs : List ClientSetup). AllZip after cs g.answers.clients.items) (sym left.setup.clients)
    (subst (λ (saved : List (Vec Saved Global)). AllZip after (filter (client_stays chains x) f.setup.clients.items) saved) (sym left.clients) some))

-- ---- paths

abbrev ids_of : List Path → List (List ℕ)
ids_of ps = map (λ p. p.config.id) ps

viewed : (ps : List PathSetup) → ids_of (map path_view ps) ≡ path_ids ps
viewed [] = refl
viewed (p ∷ ps) = ap (λ l. p.config.id ∷ l) (viewed ps)

moved : (clients : List Bool) (ps : List PathSetup) → ids_of (map (moved_path clients) ps) ≡ path_ids ps
moved clients [] = refl
moved clients (p ∷ ps) = ap (λ l. p.config.id ∷ l) (moved clients ps)

pub paths_step : (T S : ℕ → List ℕ → Vec Saved Global → Type 0) (x : List ℕ) (f g : Fleet) → Passes T S x → IsFleetWithout x f g → PathsHave T f → PathsHave S g
paths_step T S x f g pass left have =
    let stay = staying f.setup x in
    let id = λ (p : PathSetup). p.config.id in
    let one : (p : PathSetup) (saved : Vec Saved Global) → path_stays stay x p ≡ true → T 0 p.config.id saved → S 0 p.config.id saved =
    λ p saved stays had. pass 0 p.config.id saved (other_id p.config.id x (first_no (bytes_eq p.config.id x) _ _ stays)) had in
    let some = mapped id (S 0) (filter (path_stays stay x) f.setup.paths.items) (items_where_true (map (path_stays stay x) f.setup.paths.items) f.answers.paths.items)
    (zipped_where (λ p. T 0 (id p)) (λ p. S 0 (id p)) (path_stays stay x) f.setup.paths.items f.answers.paths.items one (unmapped id (T 0) f.setup.paths.items f.answers.paths.items have)) in
    let same : path_ids (filter (path_stays stay x) f.setup.paths.items) ≡ path_ids g.setup.paths.items =
    sym (moved stay (filter (path_stays stay x) f.setup.paths.items)) ∙ ap ids_of (sym left.setup.paths) ∙ viewed g.setup.paths.items in
    subst (λ (ids : List (List ℕ)). AllZip (S 0) ids g.answers.paths.items) same
    (subst (λ (saved : List (Vec Saved Global)). AllZip (S 0) (path_ids (filter (path_stays stay x) f.setup.paths.items)) saved) (sym left.paths) some)

-- ---- chains

abbrev some_of : Option (List ℕ) → List ℕ
some_of (Some id) = id
some_of None = []

-- who tracks the chain of an identifier, by the chain's place
tracked_at : (x : List ℕ) (c : ClientSetup) (chains : List (List ℕ)) (n : ℕ) (id : List ℕ) → slice_get chains n ≡ Some id
    → tracks_chain chains x (record c { tracks = n }) ≡ bytes_eq id x
tracked_at x c [] n id at = absurd (true≢false (ap is_some (sym at)))
tracked_at x c (d ∷ ds) zero id at = ap (λ (o : Option (List ℕ)). bytes_eq (some_of o) x) at
tracked_at x c (d ∷ ds) (suc n) id at = tracked_at x c ds n id at

or_later : (a b : Bool) → b ≡ true → (a || b) ≡ true
or_later true b holds = refl
or_later false b holds = holds

-- whether one of those that stay tracks a chain, the first of them or a later one
tracked_one : {P : Type 0} (b t rest : Bool) → (b ≡ true → t ≡ true → P) → (rest ≡ true → P) → (tracking : Bool) → tracking ≡ cond b (t || rest) rest → tracking ≡ true → P
tracked_one true true rest here there tracking is holds = here refl refl
tracked_one true false rest here there tracking is holds = there (sym is ∙ holds)
tracked_one false t rest here there tracking is holds = there (sym is ∙ holds)

stays_tracked : (b : Bool) (c : ClientSetup) (cs : List ClientSetup) (k : ℕ) → is_tracked (cond b (c ∷ cs) cs) k ≡ cond b ((c.tracks == k) || is_tracked cs k) (is_tracked cs k)
stays_tracked true c cs k = refl
stays_tracked false c cs k = refl

-- a chain that one of them tracks was tracked before
tracked_before : (p : ClientSetup → Bool) (cs : List ClientSetup) (k : ℕ) → is_tracked (filter p cs) k ≡ true → is_tracked cs k ≡ true
tracked_before p [] k holds = holds
tracked_before p (c ∷ cs) k holds =
    tracked_one (p c) (c.tracks == k) (is_tracked (filter p cs) k) (λ stays here. ap (λ b. b || is_tracked cs k) here) (λ there. or_later (c.tracks == k) (is_tracked cs k) (tracked_before p cs k there))
    (is_tracked (filter p (c ∷ cs)) k) (stays_tracked (p c) c (filter p cs) k) holds

-- and has another identifier
tracked_other : (x : List ℕ) (chains : List (List ℕ)) (cs : List ClientSetup) (k : ℕ) (id : List ℕ) → slice_get chains k ≡ Some id
    → is_tracked (filter (client_stays chains x) cs) k ≡ true → bytes_eq id x ≡ false
tracked_other x chains [] k id at holds = absurd (true≢false (sym holds))
tracked_other x chains (c ∷ cs) k id at holds =
    tracked_one (client_stays chains x c) (c.tracks == k) (is_tracked (filter (client_stays chains x) cs) k)
    (λ stays here. sym (tracked_at x c chains c.tracks id (ap (slice_get chains) (eqb-true c.tracks k here) ∙ at)) ∙ (two_no (bytes_eq c.id x) (tracks_chain chains x c) stays).1)
    (λ there. tracked_other x chains cs k id at there)
    (is_tracked (filter (client_stays chains x) (c ∷ cs)) k) (stays_tracked (client_stays chains x c) c (filter (client_stays chains x) cs) k) holds

chains_each : (full : List (List ℕ)) (n : ℕ) (ids : List (List ℕ)) (olds news : List (Vec Saved Global)) (P Q : ℕ × List ℕ → Vec Saved Global → Type 0)
    (R : ℕ × Vec Saved Global → Vec Saved Global → Type 0) → ((k : ℕ) → slice_get ids k ≡ slice_get full (n + k))
    → ((k : ℕ) (id : List ℕ) (old new : Vec Saved Global) → slice_get full k ≡ Some id → P (k, id) old → R (k, old) new → Q (k, id) new)
    → AllZip P (enumerate_from n ids) olds → AllZip R (enumerate_from n olds) news → AllZip Q (enumerate_from n ids) news
chains_each full n [] [] [] P Q R at one a b = tt
chains_each full n [] [] (new ∷ news) P Q R at one a b = absurd b
chains_each full n [] (old ∷ olds) news P Q R at one a b = absurd a
chains_each full n (id ∷ ids) [] news P Q R at one a b = absurd a
chains_each full n (id ∷ ids) (old ∷ olds) [] P Q R at one a b = absurd b
chains_each full n (id ∷ ids) (old ∷ olds) (new ∷ news) P Q R at one a b =
    let here : n + 0 ≡ n = omega arith in (
      one n id old new (ap (slice_get full) (sym here) ∙ sym (at 0)) a.0 b.0,
      chains_each full (n + 1) ids olds news P Q R (λ k. let there : n + suc k ≡ n + 1 + k = omega arith in at (suc k) ∙ ap (slice_get full) there) one a.1 b.1,
    )

pub chains_step : (T S : ℕ → List ℕ → Vec Saved Global → Type 0) (x : List ℕ) (f g : Fleet) → Passes T S x → IsFleetWithout x f g → ChainsHave T f → ChainsHave S g
chains_step T S x f g pass left have =
    let chains = f.setup.chains.items in
    let cs = f.setup.clients.items in
    let rest = filter (client_stays chains x) cs in
    let P = λ (p : ℕ × List ℕ) (saved : Vec Saved Global). is_tracked cs p.0 ≡ true → T 0 p.1 saved in
    let Q = λ (p : ℕ × List ℕ) (saved : Vec Saved Global). is_tracked rest p.0 ≡ true → S 0 p.1 saved in
    let one : (k : ℕ) (id : List ℕ) (old new : Vec Saved Global) → slice_get chains k ≡ Some id → P (k, id) old → StaysTracked rest (k, old) new → Q (k, id) new =
    λ k id old new at had stays holds. subst (λ (saved : Vec Saved Global). S 0 id saved) (sym (stays holds))
    (pass 0 id old (other_id id x (tracked_other x chains cs k id at holds)) (had (tracked_before (client_stays chains x) cs k holds))) in
    let kept : AllZip (StaysTracked rest) (enumerate_from 0 f.answers.chains.items) g.answers.chains.items =
    subst (λ (clients : List ClientSetup). AllZip (StaysTracked clients) (enumerate_from 0 f.answers.chains.items) g.answers.chains.items) left.setup.clients left.chains in
    let same : (k : ℕ) → slice_get chains k ≡ slice_get chains (0 + k) = λ k. let there : k ≡ 0 + k = omega arith in ap (slice_get chains) there in
    subst (λ (ids : List (List ℕ)). AllZip (λ (p : ℕ × List ℕ) (saved : Vec Saved Global). is_tracked g.setup.clients.items p.0 ≡ true → S 0 p.1 saved) (enumerate_from 0 ids) g.answers.chains.items) (sym left.setup.chains)
    (subst (λ (clients : List ClientSetup). AllZip (λ (p : ℕ × List ℕ) (saved : Vec Saved Global). is_tracked clients p.0 ≡ true → S 0 p.1 saved) (enumerate_from 0 chains) g.answers.chains.items) (sym left.setup.clients)
    (chains_each chains 0 chains f.answers.chains.items g.answers.chains.items P Q (StaysTracked rest) same one have kept))

-- ---- all that is left

later : (T : ℕ → List ℕ → Vec Saved Global → Type 0) (x : List ℕ) (ids : List (List ℕ)) → Passes (OrFailed T (x ∷ ids)) (OrFailed T ids) x
later T x ids since id saved other (inl told) = inl told
later T x ids since id saved other (inr (inl same)) = absurd (other (sym same))
later T x ids since id saved other (inr (inr among)) = inr among

last : (T : ℕ → List ℕ → Vec Saved Global → Type 0) (since : ℕ) (id : List ℕ) (saved : Vec Saved Global) → OrFailed T [] since id saved → T since id saved
last T since id saved (inl told) = told
last T since id saved (inr among) = absurd among

stay : (T : ℕ → List ℕ → Vec Saved Global → Type 0) (x : List ℕ) → Passes T T x
stay T x since id saved other told = told

-- where nothing is left that was refused
chains_last : (T : ℕ → List ℕ → Vec Saved Global → Type 0) (f : Fleet) → ChainsHave (OrFailed T []) f → ChainsHave T f
chains_last T f = zipped_imp _ _ (enumerate_from 0 f.setup.chains.items) f.answers.chains.items (λ p saved had holds. last T 0 p.1 saved (had holds))

clients_last : (T : ℕ → List ℕ → Vec Saved Global → Type 0) (f : Fleet) → ClientsHave (OrFailed T []) f → ClientsHave T f
clients_last T f = zipped_imp _ _ f.setup.clients.items f.answers.clients.items (λ c saved had. (had.0, had.1, last T had.0 c.id saved had.2))

paths_last : (T : ℕ → List ℕ → Vec Saved Global → Type 0) (f : Fleet) → PathsHave (OrFailed T []) f → PathsHave T f
paths_last T f = zipped_imp _ _ (path_ids f.setup.paths.items) f.answers.paths.items (λ id saved had. last T 0 id saved had)

pub chains_left : (T : ℕ → List ℕ → Vec Saved Global → Type 0) (ids : List (List ℕ)) (f g : Fleet) → IsLeftOf ids f g → ChainsHave (OrFailed T ids) f → ChainsHave T g
chains_left T [] f g left have = subst (ChainsHave T) left (chains_last T f have)
chains_left T (x ∷ ids) f g (next, without, left) have = chains_left T ids next g left (chains_step (OrFailed T (x ∷ ids)) (OrFailed T ids) x f next (later T x ids) without have)

pub clients_left : (T : ℕ → List ℕ → Vec Saved Global → Type 0) (ids : List (List ℕ)) (f g : Fleet) → IsLeftOf ids f g → ClientsHave (OrFailed T ids) f → ClientsHave T g
clients_left T [] f g left have = subst (ClientsHave T) left (clients_last T f have)
clients_left T (x ∷ ids) f g (next, without, left) have = clients_left T ids next g left (clients_step (OrFailed T (x ∷ ids)) (OrFailed T ids) x f next (later T x ids) without have)

pub paths_left : (T : ℕ → List ℕ → Vec Saved Global → Type 0) (ids : List (List ℕ)) (f g : Fleet) → IsLeftOf ids f g → PathsHave (OrFailed T ids) f → PathsHave T g
paths_left T [] f g left have = subst (PathsHave T) left (paths_last T f have)
paths_left T (x ∷ ids) f g (next, without, left) have = paths_left T ids next g left (paths_step (OrFailed T (x ∷ ids)) (OrFailed T ids) x f next (later T x ids) without have)

-- what a fleet has stays
pub chains_stay : (T : ℕ → List ℕ → Vec Saved Global → Type 0) (ids : List (List ℕ)) (f g : Fleet) → IsLeftOf ids f g → ChainsHave T f → ChainsHave T g
chains_stay T [] f g left have = subst (ChainsHave T) left have
chains_stay T (x ∷ ids) f g (next, without, left) have = chains_stay T ids next g left (chains_step T T x f next (stay T x) without have)

pub clients_stay : (T : ℕ → List ℕ → Vec Saved Global → Type 0) (ids : List (List ℕ)) (f g : Fleet) → IsLeftOf ids f g → ClientsHave T f → ClientsHave T g
clients_stay T [] f g left have = subst (ClientsHave T) left have
clients_stay T (x ∷ ids) f g (next, without, left) have = clients_stay T ids next g left (clients_step T T x f next (stay T x) without have)

pub paths_stay : (T : ℕ → List ℕ → Vec Saved Global → Type 0) (ids : List (List ℕ)) (f g : Fleet) → IsLeftOf ids f g → PathsHave T f → PathsHave T g
paths_stay T [] f g left have = subst (PathsHave T) left have
paths_stay T (x ∷ ids) f g (next, without, left) have = paths_stay T ids next g left (paths_step T T x f next (stay T x) without have)

-- ---- the setups of these

setups_left : (ids : List (List ℕ)) (f g : Fleet) → IsLeftOf ids f g → IsSetupLeft ids f.setup g.setup
setups_left [] f g left = ap (λ (h : Fleet). h.setup) left
setups_left (x ∷ ids) f g (next, without, left) = (next.setup, without.setup, setups_left ids next g left)

setup_after : (ids more : List (List ℕ)) (r s t : ImportSetup) → IsSetupLeft ids r s → IsSetupLeft more s t → IsSetupLeft (ids ++ more) r t
setup_after [] more r s t left after = subst (λ (q : ImportSetup). IsSetupLeft more q t) (sym left) after
setup_after (x ∷ ids) more r s t (next, without, left) after = (next, without, setup_after ids more next s t left after)

pub rest_of_left : (f g : Fleet) → IsLeft f g → IsRestOf f.setup g.setup
rest_of_left f g (ids, left) = (ids, setups_left ids f g left)

pub rest_after : (r s t : ImportSetup) → IsRestOf r s → IsRestOf s t → IsRestOf r t
rest_after r s t (ids, left) (more, after) = (ids ++ more, setup_after ids more r s t left after)

-- ---- one more that is refused

pub left_more : (ids : List (List ℕ)) (x : List ℕ) (f g h : Fleet) → IsLeftOf ids f g → IsFleetWithout x g h → IsLeftOf (ids ++ x ∷ []) f h
left_more [] x f g h left without = subst (λ (q : Fleet). IsLeftOf (x ∷ []) q h) (sym left) (h, without, refl)
left_more (y ∷ ids) x f g h (next, first, left) without = (next, first, left_more ids x next g h left without)

pub left_once : (x : List ℕ) (f g h : Fleet) → IsLeft f g → IsFleetWithout x g h → IsLeft f h
left_once x f g h (ids, left) without = (ids ++ x ∷ [], left_more ids x f g h left without)

pub left_none : (f : Fleet) → IsLeft f f
left_none f = ([], refl)

pub left_first : (x : List ℕ) (f g : Fleet) → IsFleetWithout x f g → IsLeft f g
left_first x f g without = (x ∷ [], (g, without, refl))

after_left : (ids more : List (List ℕ)) (f g h : Fleet) → IsLeftOf ids f g → IsLeftOf more g h → IsLeftOf (ids ++ more) f h
after_left [] more f g h left after = subst (λ (q : Fleet). IsLeftOf more q h) (sym left) after
after_left (x ∷ ids) more f g h (next, without, left) after = (next, without, after_left ids more next g h left after)

pub left_after : (f g h : Fleet) → IsLeft f g → IsLeft g h → IsLeft f h
left_after f g h (ids, left) (more, after) = (ids ++ more, after_left ids more f g h left after)

pub left_failed : (done : List Failure) (x : Failure) (f g h : Fleet) → IsLeftOf (failed done) f g → IsFleetWithout (string_bytes x.id) g h → IsLeftOf (failed (done ++ x ∷ [])) f h
left_failed done x f g h left without =
    subst (λ (ids : List (List ℕ)). IsLeftOf ids f h) (sym (map_push (λ (y : Failure). string_bytes y.id) done x)) (left_more (failed done) (string_bytes x.id) f g h left without)

pub ruleset once = (left_none, left_first, left_once)

pub ruleset more_failed = (left_failed)

-- ---- answers that are read, beside those that were refused

among_more : (old more : List (List ℕ)) (id : List ℕ) → IsAmong old id → IsAmong (old ++ more) id
among_more [] more id among = absurd among
among_more (x ∷ old) more id (inl same) = inl same
among_more (x ∷ old) more id (inr among) = inr (among_more old more id among)

still_failed : (T : ℕ → List ℕ → Vec Saved Global → Type 0) (old new : List (List ℕ)) (since : ℕ) (id : List ℕ) (saved : Vec Saved Global) → HasMore old new
    → OrFailed T old since id saved → OrFailed T new since id saved
still_failed T old new since id saved (more, is) (inl told) = inl told
still_failed T old new since id saved (more, is) (inr among) = inr (subst (λ (ids : List (List ℕ)). IsAmong ids id) (sym is) (among_more old more id among))

pub chains_more : (T : ℕ → List ℕ → Vec Saved Global → Type 0) (clients : List ClientSetup) (xs : List (List ℕ)) (i : ℕ) (x : List ℕ) (ys zs : List (Vec Saved Global)) (y : Vec Saved Global) (old new : List (List ℕ))
    → zs ≡ ys ++ y ∷ [] → i < length xs → x ≡ get_or xs i x → HasMore old new → ChainHas (OrFailed T new) clients (i, x) y
    → AllZip (ChainHas (OrFailed T old) clients) (take i (enumerate_from 0 xs)) ys → AllZip (ChainHas (OrFailed T new) clients) (take (i + 1) (enumerate_from 0 xs)) zs
chains_more T clients xs i x ys zs y old new more lt is grown one all =
    subst (AllZip (ChainHas (OrFailed T new) clients) (take (i + 1) (enumerate_from 0 xs))) (sym more)
    (placed_more (ChainHas (OrFailed T new) clients) xs i x ys y lt is one
    (zipped_imp (ChainHas (OrFailed T old) clients) (ChainHas (OrFailed T new) clients) (take i (enumerate_from 0 xs)) ys (λ p saved had holds. still_failed T old new 0 p.1 saved grown (had holds)) all))

pub clients_more : (T : ℕ → List ℕ → Vec Saved Global → Type 0) (chains : List (List ℕ)) (xs : List ClientSetup) (i : ℕ) (x : ClientSetup) (ys zs : List (Vec Saved Global)) (y : Vec Saved Global) (old new : List (List ℕ))
    → zs ≡ ys ++ y ∷ [] → i < length xs → x ≡ get_or xs i x → HasMore old new → ClientHas (OrFailed T new) chains x y
    → AllZip (ClientHas (OrFailed T old) chains) (take i xs) ys → AllZip (ClientHas (OrFailed T new) chains) (take (i + 1) xs) zs
clients_more T chains xs i x ys zs y old new more lt is grown one all =
    subst (AllZip (ClientHas (OrFailed T new) chains) (take (i + 1) xs)) (sym more)
    (zipped_more (ClientHas (OrFailed T new) chains) xs i x ys y lt is one
    (zipped_imp (ClientHas (OrFailed T old) chains) (ClientHas (OrFailed T new) chains) (take i xs) ys (λ c saved had. (had.0, had.1, still_failed T old new had.0 c.id saved grown had.2)) all))

abbrev PathHas : (ℕ → List ℕ → Vec Saved Global → Type 0) → PathSetup → Vec Saved Global → Type 0
PathHas Has p saved = Has 0 p.config.id saved

pub paths_more : (T : ℕ → List ℕ → Vec Saved Global → Type 0) (xs : List PathSetup) (i : ℕ) (x : PathSetup) (ys zs : List (Vec Saved Global)) (y : Vec Saved Global) (old new : List (List ℕ))
    → zs ≡ ys ++ y ∷ [] → i < length xs → x ≡ get_or xs i x → HasMore old new → OrFailed T new 0 x.config.id y
    → AllZip (λ (p : PathSetup). OrFailed T old 0 p.config.id) (take i xs) ys → AllZip (λ (p : PathSetup). OrFailed T new 0 p.config.id) (take (i + 1) xs) zs
paths_more T xs i x ys zs y old new more lt is grown one all =
    subst (AllZip (PathHas (OrFailed T new)) (take (i + 1) xs)) (sym more)
    (zipped_more (PathHas (OrFailed T new)) xs i x ys y lt is one
    (zipped_imp (PathHas (OrFailed T old)) (PathHas (OrFailed T new)) (take i xs) ys (λ p saved had. still_failed T old new 0 p.config.id saved grown had) all))

pub paths_all : (Has : ℕ → List ℕ → Vec Saved Global → Type 0) (xs : List PathSetup) (i : ℕ) (ys : List (Vec Saved Global)) → length xs ≤ i
    → AllZip (λ (p : PathSetup). Has 0 p.config.id) (take i xs) ys → AllZip (Has 0) (path_ids xs) ys
paths_all Has xs i ys le all = mapped (λ (p : PathSetup). p.config.id) (Has 0) xs ys (zipped_all (PathHas Has) xs i ys le all)

-- ---- stages

pub if_ok : {T E : Type 0} (P Q : T → Type 0) (r : Result T E) → ((x : T) → P x → Q x) → IfOk r P → IfOk r Q
if_ok P Q (Ok x) imp is = imp x is
if_ok P Q (Err e) imp is = tt

pub if_ok_two : {T E : Type 0} (P Q R : T → Type 0) (r : Result T E) → ((x : T) → P x → Q x → R x) → IfOk r P → IfOk r Q → IfOk r R
if_ok_two P Q R (Ok x) imp p q = imp x p q
if_ok_two P Q R (Err e) imp p q = tt

-- ---- a list and its places, an element more

length_more : {A : Type 0} (xs : List A) (x : A) → length (xs ++ x ∷ []) ≡ length xs + 1
length_more [] x = omega arith
length_more (y ∷ xs) x = let more = length_more xs x in omega (arith, more)

places_push : {A B : Type 0} (R : ℕ × A → B → Type 0) (n : ℕ) (xs : List A) (ys : List B) (x : A) (y : B) → AllZip R (enumerate_from n xs) ys → R (n + length xs, x) y
    → AllZip R (enumerate_from n (xs ++ x ∷ [])) (ys ++ y ∷ [])
places_push R n [] [] x y all one = let here : n + 0 ≡ n = omega arith in (subst (λ (k : ℕ). R (k, x) y) here one, tt)
places_push R n [] (z ∷ ys) x y all one = absurd all
places_push R n (w ∷ xs) [] x y all one = absurd all
places_push R n (w ∷ xs) (z ∷ ys) x y all one =
    let there : n + length (w ∷ xs) ≡ n + 1 + length xs = omega arith in
    (all.0, places_push R (n + 1) xs ys x y all.1 (subst (λ (k : ℕ). R (k, x) y) there one))

pub tracked_push : (clients : List ClientSetup) (place : ℕ) (xs ys zs : List (Vec Saved Global)) (x y : Vec Saved Global) → zs ≡ ys ++ y ∷ [] → place ≡ length xs
    → StaysTracked clients (place, x) y → AllZip (StaysTracked clients) (enumerate_from 0 xs) ys → AllZip (StaysTracked clients) (enumerate_from 0 (xs ++ x ∷ [])) zs
tracked_push clients place xs ys zs x y more at one all =
    let here : place ≡ 0 + length xs = omega (arith, at) in
    subst (AllZip (StaysTracked clients) (enumerate_from 0 (xs ++ x ∷ []))) (sym more)
    (places_push (StaysTracked clients) 0 xs ys x y all (subst (λ (k : ℕ). StaysTracked clients (k, x) y) here one))

pub untracked : (clients : List ClientSetup) (place : ℕ) (x y : Vec Saved Global) → is_tracked clients place ≡ false → StaysTracked clients (place, x) y
untracked clients place x y fails = λ holds. absurd (true≢false (sym holds ∙ fails))

-- ---- what is refused is among the failures

among_last : (ids : List (List ℕ)) (id : List ℕ) → IsAmong (ids ++ id ∷ []) id
among_last [] id = inl refl
among_last (x ∷ ids) id = inr (among_last ids id)

pub refused_last : (T : ℕ → List ℕ → Vec Saved Global → Type 0) (old new : List Failure) (x : Failure) (since : ℕ) (id : List ℕ) (saved : Vec Saved Global) → new ≡ old ++ x ∷ [] → string_bytes x.id ≡ id
    → OrFailed T (failed new) since id saved
refused_last T old new x since id saved more is =
    let ids : failed new ≡ failed old ++ id ∷ [] = ap failed more ∙ map_push (λ (y : Failure). string_bytes y.id) old x ∙ ap (λ (i : List ℕ). failed old ++ i ∷ []) is in
    inr (subst (λ (all : List (List ℕ)). IsAmong all id) (sym ids) (among_last (failed old) id))

pub refused_more : (old new : List Failure) (x : Failure) → new ≡ old ++ x ∷ [] → HasMore (failed old) (failed new)
refused_more old new x more = (string_bytes x.id ∷ [], ap failed more ∙ map_push (λ (y : Failure). string_bytes y.id) old x)

pub place_more : {A : Type 0} (place : ℕ) (xs : List A) (x : A) → place ≡ length xs → place + 1 ≡ length (xs ++ x ∷ [])
place_more place xs x at = let more = length_more xs x in omega (arith, at, more)
