-- That the pages of searches are all there.
use Rattle.std.proofs.Common.{◌≡◌, ℕ, ◌+◌, ◌-◌, ◌^◌, ◌<◌, min, List, [], ◌∷◌, ◌++◌, All, length, get_or, map, take, true, refl, sym, subst, ap, ◌∙◌, arith}
use Rattle.std.specs.Prelude.{sum_by}
use Rattle.std.specs.List.{flat_map}
use Rattle.std.proofs.lemmas.List.Elements.{All-map}
use Rattle.std.proofs.lemmas.List.Sums.{sum_by-cons, sum_by_more}
use Rattle.rb_import_answers.specs.declared.answer.NodeAnswer.{NodeAnswer}
use Rattle.rb_import_answers.specs.declared.answer.NodeAnswer.TheVariants as answers
use Rattle.rb_import_answers.specs.declared.packets.PacketEvent.{PacketEvent}
use Rattle.rb_import_answers.specs.declared.packets.PacketPage.{PacketPage}
use Rattle.rb_import_check.specs.declared.saved.Saved.{Saved}
use Rattle.rb_import_merge.specs.declared.packets.Page.{Page}
use Rattle.rb_import_merge.specs.Packets.{events_in, events_of}
use Rattle.rb_import_merge.specs.Totals.{count_in, is_whole, pages_in, pages_of}

abbrev events_on : PacketPage → List PacketEvent
events_on p = p.events.items

-- ---- a page more

-- a sum up to a number, and one more
up_to : (s x m : ℕ) → min (min s m + x) m ≡ min (s + x) m
up_to s x m = omega arith

pub one_page_more : (total : ℕ) (pages : List Page) (i : ℕ) (p : Page) (before more after : ℕ) → i < length pages → p ≡ get_or pages i p
    → before ≡ min (sum_by (λ (q : Page). count_in total q.page.now) (take i pages)) (2 ^ 64 - 1) → more ≡ count_in total p.page.now → after ≡ min (before + more) (2 ^ 64 - 1)
    → after ≡ min (sum_by (λ (q : Page). count_in total q.page.now) (take (i + 1) pages)) (2 ^ 64 - 1)
one_page_more total pages i p before more after small is was this now =
    let count : Page → ℕ = λ q. count_in total q.page.now in
    let so_far : ℕ = sum_by count (take i pages) in
    now ∙ ap (λ n. min (n + more) (2 ^ 64 - 1)) was ∙ up_to so_far more (2 ^ 64 - 1)
    ∙ ap (λ n. min n (2 ^ 64 - 1)) (ap (λ n. so_far + n) (this ∙ ap count is) ∙ sym (sum_by_more count pages i p small))

pub sum_of_pages : (total : ℕ) (pages : List Page) → sum_by (λ (q : Page). count_in total q.page.now) pages ≡ sum_by (count_in total) (map (λ (q : Page). q.page.now) pages)
sum_of_pages total [] = refl
sum_of_pages total (p ∷ pages) =
    sum_by-cons (λ (q : Page). count_in total q.page.now) p pages ∙ ap (λ n. count_in total p.page.now + n) (sum_of_pages total pages)
    ∙ sym (sum_by-cons (count_in total) p.page.now (map (λ (q : Page). q.page.now) pages))

-- ---- the events of the pages

on_each : (pages : List Page) → flat_map (λ (p : Page). p.page.now.events.items) pages ≡ flat_map events_on (map (λ (p : Page). p.page.now) pages)
on_each [] = refl
on_each (p ∷ pages) = ap (λ l. p.page.now.events.items ++ l) (on_each pages)

append_nil : (xs : List PacketEvent) → xs ≡ xs ++ []
append_nil [] = refl
append_nil (x ∷ xs) = ap (λ l. x ∷ l) (append_nil xs)

assoc : (xs ys zs : List PacketEvent) → (xs ++ ys) ++ zs ≡ xs ++ (ys ++ zs)
assoc [] ys zs = refl
assoc (x ∷ xs) ys zs = ap (λ l. x ∷ l) (assoc xs ys zs)

of_both : (xs ys : List PacketPage) → flat_map events_on (xs ++ ys) ≡ flat_map events_on xs ++ flat_map events_on ys
of_both [] ys = refl
of_both (x ∷ xs) ys = ap (λ l. events_on x ++ l) (of_both xs ys) ∙ sym (assoc (events_on x) (flat_map events_on xs) (flat_map events_on ys))

in_answer : (a : NodeAnswer) → flat_map events_on (pages_in a) ≡ events_in a
in_answer (answers.Commit header) = refl
in_answer (answers.Validators page) = refl
in_answer (answers.ClientState state) = refl
in_answer (answers.ConsensusStates page) = refl
in_answer (answers.Transactions page) = sym (append_nil page.events.items)
in_answer (answers.Pending p) = refl
in_answer (answers.Verdicts v) = refl
in_answer (answers.Other query) = refl

in_answers : (saved : List Saved) → flat_map events_on (pages_of saved) ≡ events_of saved
in_answers [] = refl
in_answers (s ∷ saved) = of_both (pages_in s.answer) (pages_of saved) ∙ ap (λ l. l ++ flat_map events_on (pages_of saved)) (in_answer s.answer) ∙ ap (λ l. events_in s.answer ++ l) (in_answers saved)

-- the events of the pages of the answers are those of the answers
pub events_of_pages : (saved : List Saved) (pages : List Page) → map (λ (p : Page). p.page.now) pages ≡ pages_of saved → flat_map (λ (p : Page). p.page.now.events.items) pages ≡ events_of saved
events_of_pages saved pages are = on_each pages ∙ ap (flat_map events_on) are ∙ in_answers saved

-- what holds of the pages holds of those of the answers
pub all_whole : (saved : List Saved) (pages : List Page) → map (λ (p : Page). p.page.now) pages ≡ pages_of saved
    → All (λ (p : Page). is_whole p.page.now.total (map (λ (q : Page). q.page.now) pages) ≡ true) pages → All (λ (p : PacketPage). is_whole p.total (pages_of saved) ≡ true) (pages_of saved)
all_whole saved pages are all =
    let these : List PacketPage = map (λ (p : Page). p.page.now) pages in
    subst (λ (l : List PacketPage). All (λ (p : PacketPage). is_whole p.total l ≡ true) l) are (All-map (λ (p : PacketPage). is_whole p.total these ≡ true) (λ (p : Page). p.page.now) pages all)
