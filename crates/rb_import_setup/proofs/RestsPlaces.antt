-- Where the clients of what is left of a setup stand.
use Rattle.std.proofs.Common.{◌≡◌, ℕ, zero, suc, ◌+◌, ◌<◌, List, [], ◌∷◌, map, filter, get_or, length, Bool, true, false, cond, not, ◌&&◌, All, refl, sym, ap, ◌∙◌, subst, arith}
use Rattle.std.specs.List.{count_by}
use Rattle.std.specs.Str.{bytes_eq}
use Rattle.std.proofs.lemmas.Bool.{and_parts, false≢true}
use Rattle.std.proofs.lemmas.List.Elements.{All-same, All-map, All-filter, filter_passes}
use Rattle.std.proofs.lemmas.List.Sums.{sum_by-cons, sum_by_more_le, length-filter}
use Rattle.rb_script_types.specs.declared.script.Asked.{Asked}
use Rattle.rb_script_types.specs.declared.script.Settlement.{Settlement}
use Rattle.rb_import_setup.specs.declared.setup.ClientSetup.{ClientSetup}
use Rattle.rb_import_setup.specs.declared.setup.PathSetup.{PathSetup}
use Rattle.rb_import_setup.specs.declared.setup.TurnSetup.{TurnSetup}
use Rattle.rb_import_setup.specs.Paths.{Path, path_view}
use Rattle.rb_import_setup.specs.Turns.{Turn, turn_view}
use Rattle.rb_import_setup.specs.Places.{IsClientOf, IsPathOf, IsTurnOf, ArePlaces}
use Rattle.rb_import_setup.specs.Rests.{client_stays, left_turn, moved_path, new_place, path_stays, stays_at}
use Rattle.rb_import_setup.proofs.PlacesLemmas.{IsPlacedTurn, all-views, turn-view}

abbrev one_if : Bool → ℕ
one_if b = cond b 1 0

-- how many stay
abbrev staying : List Bool → ℕ
staying stays = count_by (λ (b : Bool). b) stays

in_range : (stays : List Bool) (place : ℕ) → get_or stays place false ≡ true → place < length stays
in_range [] place there = absurd (false≢true there)
in_range (b ∷ stays) zero there = omega arith
in_range (b ∷ stays) (suc place) there = omega (arith, in_range stays place there)

-- a client that stays stands among those that stay
within : (stays : List Bool) (place : ℕ) → stays_at stays place ≡ true → new_place stays place < staying stays
within stays place there =
    let one : one_if (get_or stays place false) ≡ one_if true = ap one_if there in
    omega (arith, one, sum_by_more_le one_if stays place false (in_range stays place there))

count-map : {X : Type 0} (test : X → Bool) (xs : List X) → staying (map test xs) ≡ count_by test xs
count-map test [] = refl
count-map test (x ∷ xs) =
    sum_by-cons one_if (test x) (map test xs) ∙ ap (λ n. one_if (test x) + n) (count-map test xs) ∙ sym (sum_by-cons (λ y. one_if (test y)) x xs)

path-left : (chains clients : ℕ) (stays : List Bool) (id : List ℕ) (p : PathSetup) → path_stays stays id p ≡ true → IsPathOf chains clients p.config
    → IsPathOf chains (staying stays) (moved_path stays p).config
path-left chains clients stays id p stay placed =
    let parts = and_parts (not (bytes_eq p.config.id id) && stays_at stays p.config.forward) (stays_at stays p.config.back) stay in
    let first = and_parts (not (bytes_eq p.config.id id)) (stays_at stays p.config.forward) parts.0 in
    record {
      source = placed.source;
      destination = placed.destination;
      forward = within stays p.config.forward first.1;
      back = within stays p.config.back parts.1;
    }

turn-left : (chains clients : ℕ) (stays : List Bool) (t : TurnSetup) → IsTurnOf chains clients t → IsPlacedTurn chains (staying stays) (left_turn stays t)
turn-left chains clients stays t placed =
    let OfGoal : Asked → Bool = λ g. stays_at stays g.client in
    let OfSettlement : Settlement → Bool = λ s. stays_at stays s.client in
    record {
      windows = placed.windows;
      goals = All-map (λ (g : Asked). g.client < staying stays) (λ (g : Asked). record g { client = new_place stays g.client }) (filter OfGoal t.goals.items)
          (λ k d lt. within stays (get_or (filter OfGoal t.goals.items) k d).client (filter_passes OfGoal t.goals.items k d lt));
      settlements = All-map (λ (s : Settlement). s.client < staying stays) (λ (s : Settlement). record s { client = new_place stays s.client }) (filter OfSettlement t.settlements.items)
          (λ k d lt. within stays (get_or (filter OfSettlement t.settlements.items) k d).client (filter_passes OfSettlement t.settlements.items k d lt));
    }

pub left_places : (chains chains' : List (List ℕ)) (id : List ℕ) (clients clients' : List ClientSetup) (paths paths' : List PathSetup) (turns turns' : List TurnSetup) (stays : List Bool)
    → chains' ≡ chains → stays ≡ map (client_stays chains id) clients → clients' ≡ filter (client_stays chains id) clients
    → map path_view paths' ≡ map (moved_path stays) (filter (path_stays stays id) paths) → map turn_view turns' ≡ map (left_turn stays) turns
    → ArePlaces (length chains) clients paths turns → ArePlaces (length chains') clients' paths' turns'
left_places chains chains' id clients clients' paths paths' turns turns' stays same_chains which same_clients same_paths same_turns placed =
    let test = client_stays chains id in
    let OnPath : Path → Type 0 = λ p. IsPathOf (length chains) (staying stays) p.config in
    let InTurn : Turn → Type 0 = IsPlacedTurn (length chains) (staying stays) in
    let many : staying stays ≡ length clients' = ap staying which ∙ count-map test clients ∙ sym (length-filter test clients) ∙ sym (ap length same_clients) in
    let left = filter (path_stays stays id) paths in
    let on_paths : All OnPath (map path_view paths') =
    All-same OnPath (map path_view paths') (map (moved_path stays) left) same_paths (All-map OnPath (moved_path stays) left
    (λ k d lt. path-left (length chains) (length clients) stays id (get_or left k d) (filter_passes (path_stays stays id) paths k d lt)
    (All-filter (path_stays stays id) (λ p. IsPathOf (length chains) (length clients) p.config) paths placed.each_path k d lt))) in
    let in_turns : All InTurn (map turn_view turns') =
    All-same InTurn (map turn_view turns') (map (left_turn stays) turns) same_turns (All-map InTurn (left_turn stays) turns (λ k d lt. turn-left (length chains) (length clients) stays (get_or turns k d) (placed.each_turn k d lt))) in
    subst (λ n. ArePlaces n clients' paths' turns') (sym (ap length same_chains)) (record {
      each_client = All-same (IsClientOf (length chains)) clients' (filter test clients) same_clients (All-filter test (IsClientOf (length chains)) clients placed.each_client);
      each_path = subst (λ n. All (λ (p : PathSetup). IsPathOf (length chains) n p.config) paths') many (all-views OnPath path_view paths' on_paths);
      each_turn = subst (λ n. All (IsTurnOf (length chains) n) turns') many (λ k d lt. turn-view (length chains) (staying stays) (get_or turns' k d) (all-views InTurn turn_view turns' in_turns k d lt));
    })
