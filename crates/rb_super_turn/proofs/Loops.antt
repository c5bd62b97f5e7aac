-- Loops that take in one thing after another.
use Rattle.std.proofs.Common.{◌≡◌, ℕ, ◌+◌, ◌<◌, true, List, [], ◌∷◌, ◌++◌, is_some, length, map, take, get_or, refl, sym, ap, ◌∙◌, append_assoc, append-nil, arith}
use Rattle.std.specs.List.{fold}
use Rattle.std.proofs.lemmas.List.{take_more, map-append}
use Rattle.std.proofs.lemmas.List.Sums.{fold-append}
use Rattle.rb_base.specs.Window.{Span}
use Rattle.rb_core_model.specs.Event.{Event, Asked}
use Rattle.rb_core_model.specs.Standing.{Standing, standing_after}
use Rattle.rb_core_model.proofs.Accepted.{window_stays, window_entered}
use Rattle.rb_script_types.specs.declared.script.Asked.{Asked as Question}
use Rattle.rb_script_types.specs.declared.script.HostWindow.{HostWindow as WindowOf}
use Rattle.rb_script_types.specs.declared.script.Settlement.{Settlement}
use Rattle.rb_super_turn.specs.Report.{RefusedEvent}
use Rattle.rb_super_turn.specs.Turns.{after_window, after_host_window, after_question, refusal_at, refusals, after_settlement, settlement_report, settlement_reports}

-- the first elements of a list, seen through a view, with one more
pub seen_more : {X Y : Type 0} (view : X → Y) (xs : List X) (i : ℕ) (x : X) → i < length xs → x ≡ get_or xs i x → map view (take (i + 1) xs) ≡ map view (take i xs) ++ view x ∷ []
seen_more view xs i x lt at =
    ap (map view) (take_more xs i x lt) ∙ map-append view (take i xs) (get_or xs i x ∷ []) ∙ ap (λ y. map view (take i xs) ++ view y ∷ []) (sym at)

pub fold_seen : {X Y S : Type 0} (f : S → Y → S) (view : X → Y) (s : S) (xs : List X) (i : ℕ) (x : X) → i < length xs → x ≡ get_or xs i x
    → fold f s (map view (take (i + 1) xs)) ≡ f (fold f s (map view (take i xs))) (view x)
fold_seen f view s xs i x lt at = ap (fold f s) (seen_more view xs i x lt at) ∙ fold-append f s (map view (take i xs)) (view x ∷ [])

pub refusals_push : (es : List Event) (e : Event) (number n : ℕ) (s : Standing) → number + length es ≡ n → refusals number s (es ++ e ∷ []) ≡ refusals number s es ++ refusal_at n (fold standing_after s es) e
refusals_push [] e number n s is = let same : number ≡ n = omega arith in append-nil (refusal_at number s e) ∙ ap (λ k. refusal_at k s e) same
refusals_push (d ∷ es) e number n s is =
    ap (λ rs. refusal_at number s d ++ rs) (refusals_push es e (number + 1) n (standing_after s d) (omega arith))
    ∙ sym (append_assoc (refusal_at number s d) (refusals (number + 1) (standing_after s d) es) (refusal_at n (fold standing_after (standing_after s d) es) e))

pub reports_push : (xs : List Settlement) (x : Settlement) (s : Standing) → settlement_reports s (xs ++ x ∷ []) ≡ settlement_reports s xs ++ settlement_report (fold after_settlement s xs) x ∷ []
reports_push [] x s = refl
reports_push (y ∷ xs) x s = ap (λ rs. settlement_report s y ∷ rs) (reports_push xs x (after_settlement s y))

-- ---- a window stays entered

stays_entered : {X : Type 0} (f : Standing → X → Standing) → ((s : Standing) (x : X) → is_some s.window ≡ true → is_some (f s x).window ≡ true)
    → (xs : List X) (s : Standing) → is_some s.window ≡ true → is_some (fold f s xs).window ≡ true
stays_entered f one [] s is = is
stays_entered f one (x ∷ xs) s is = stays_entered f one xs (f s x) (one s x is)

pub entered : (s : Standing) (window : Span) (goals : List Question) (events : List Event) → is_some (fold standing_after (fold after_question (after_window s window) goals) events).window ≡ true
entered s window goals events =
    stays_entered standing_after window_stays events (fold after_question (after_window s window) goals)
    (stays_entered after_question (λ t q. window_stays t (Asked q.client q.goal)) goals (after_window s window) (window_entered s window))

-- ---- a turn up to its plans

pub prepared : (a h b d e f : Standing) (windows : List WindowOf) (window : Span) (goals : List Question) (events : List Event)
    → h ≡ fold after_host_window a windows → b ≡ after_window h window → d ≡ fold after_question b goals → e ≡ fold standing_after d events → f ≡ e
    → f ≡ fold standing_after (fold after_question (after_window (fold after_host_window a windows) window) goals) events
prepared a h b d e f windows window goals events zero one two three four =
    four ∙ three ∙ ap (λ s. fold standing_after s events) (two ∙ ap (λ s. fold after_question s goals) (one ∙ ap (λ s. after_window s window) zero))

pub refused_in : (a h b d : Standing) (windows : List WindowOf) (window : Span) (goals : List Question) (events : List Event) (refused : List RefusedEvent)
    → h ≡ fold after_host_window a windows → b ≡ after_window h window → d ≡ fold after_question b goals → refused ≡ refusals 0 d events
    → refused ≡ refusals 0 (fold after_question (after_window (fold after_host_window a windows) window) goals) events
refused_in a h b d windows window goals events refused zero one two is =
    is ∙ ap (λ s. refusals 0 s events) (two ∙ ap (λ s. fold after_question s goals) (one ∙ ap (λ s. after_window s window) zero))
