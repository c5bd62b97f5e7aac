-- What an error on a path's answers names.
use Rattle.std.proofs.Common.{◌≡◌, ◌≢◌, ℕ, zero, suc, List, [], ◌∷◌, ◌++◌, get_or, map, filter, Bool, true, false, cond, None, refl, sym, subst, ap, ◌∙◌, All, arith}
use Rattle.std.specs.Prelude.{Any, Contains, string_bytes}
use Rattle.std.specs.List.{flat_map}
use Rattle.std.specs.List.Sorted.{IsPermutation}
use Rattle.std.proofs.lemmas.List.Elements.{All-contains_itself, All-filter}
use Rattle.rb_import_answers.specs.declared.answer.NodeAnswer.{NodeAnswer}
use Rattle.rb_import_answers.specs.declared.answer.NodeAnswer.TheVariants as answers
use Rattle.rb_import_answers.specs.declared.packets.PacketEvent.{PacketEvent}
use Rattle.rb_import_answers.specs.declared.packets.PacketPage.{PacketPage}
use Rattle.rb_import_setup.specs.declared.setup.PathSetup.{PathSetup}
use Rattle.rb_import_check.specs.declared.error.CheckErrorName.{CheckErrorName}
use Rattle.rb_import_check.specs.declared.error.ImportError.{ImportError}
use Rattle.rb_import_check.specs.declared.error.ImportError.TheVariants as errors
use Rattle.rb_import_check.specs.declared.saved.Saved.{Saved}
use Rattle.rb_import_check.specs.Errors.{IsAt, IsBetween, IsIn, IsTold}
use Rattle.rb_import_check.proofs.ChainReasons.{any_map}
use Rattle.rb_import_merge.specs.declared.packets.Page.{Page}
use Rattle.rb_import_merge.specs.declared.packets.SeenPacket.{SeenPacket}
use Rattle.rb_import_merge.specs.Committed.{IsOfLastPage}
use Rattle.rb_import_merge.specs.Lowest.{AreTwoOf, NamesTwo}
use Rattle.rb_import_merge.specs.Named.{NamesByName, NamesOfPath, filed_wanted_of}
use Rattle.rb_import_merge.specs.Packets.{FiledEvent, IsOfFile, IsOfOtherFolder, counterparty, events_in, events_of, filed_event, filed_events_of, is_wanted}
use Rattle.rb_import_merge.specs.Refusals.{IsFromOther, TellOtherwise}
use Rattle.rb_import_merge.specs.Totals.{FiledPage, IsCutShort, filed_page, filed_pages_of, is_whole, pages_in, pages_of}
use Rattle.rb_import_merge.proofs.Refusing.{any_more}
use Rattle.rb_import_merge.proofs.Seeing.{carried}

-- ---- the events of pages, each with its file

abbrev events_on : FiledPage → List FiledEvent
events_on f = map (λ (e : PacketEvent). (e, f.1)) f.0.events.items

on_each : (pages : List Page) → flat_map (λ (p : Page). map (λ (e : PacketEvent). (e, p.file.now)) p.page.now.events.items) pages ≡ flat_map events_on (map filed_page pages)
on_each [] = refl
on_each (p ∷ pages) = ap (λ l. events_on (filed_page p) ++ l) (on_each pages)

append_nil : (xs : List FiledEvent) → xs ≡ xs ++ []
append_nil [] = refl
append_nil (x ∷ xs) = ap (λ l. x ∷ l) (append_nil xs)

assoc : (xs ys zs : List FiledEvent) → (xs ++ ys) ++ zs ≡ xs ++ (ys ++ zs)
assoc [] ys zs = refl
assoc (x ∷ xs) ys zs = ap (λ l. x ∷ l) (assoc xs ys zs)

of_both : (xs ys : List FiledPage) → flat_map events_on (xs ++ ys) ≡ flat_map events_on xs ++ flat_map events_on ys
of_both [] ys = refl
of_both (x ∷ xs) ys = ap (λ l. events_on x ++ l) (of_both xs ys) ∙ sym (assoc (events_on x) (flat_map events_on xs) (flat_map events_on ys))

abbrev pages_with : List ℕ → NodeAnswer → List FiledPage
pages_with file a = map (λ (p : PacketPage). (p, file)) (pages_in a)

abbrev events_with : List ℕ → NodeAnswer → List FiledEvent
events_with file a = map (λ (e : PacketEvent). (e, file)) (events_in a)

in_answer : (file : List ℕ) (a : NodeAnswer) → flat_map events_on (pages_with file a) ≡ events_with file a
in_answer file (answers.Commit header) = refl
in_answer file (answers.Validators page) = refl
in_answer file (answers.ClientState state) = refl
in_answer file (answers.ConsensusStates page) = refl
in_answer file (answers.Transactions page) = sym (append_nil (map (λ (e : PacketEvent). (e, file)) page.events.items))
in_answer file (answers.Pending p) = refl
in_answer file (answers.Verdicts v) = refl
in_answer file (answers.Other query) = refl

in_answers : (saved : List Saved) → flat_map events_on (filed_pages_of saved) ≡ filed_events_of saved
in_answers [] = refl
in_answers (s ∷ saved) =
    of_both (pages_with (string_bytes s.file) s.answer) (filed_pages_of saved) ∙ ap (λ l. l ++ flat_map events_on (filed_pages_of saved)) (in_answer (string_bytes s.file) s.answer)
    ∙ ap (λ l. events_with (string_bytes s.file) s.answer ++ l) (in_answers saved)

-- the events of the pages of the answers are those of the answers
pub filed_of_pages : (saved : List Saved) (pages : List Page) → map filed_page pages ≡ filed_pages_of saved
    → flat_map (λ (p : Page). map (λ (e : PacketEvent). (e, p.file.now)) p.page.now.events.items) pages ≡ filed_events_of saved
filed_of_pages saved pages are = on_each pages ∙ ap (flat_map events_on) are ∙ in_answers saved

-- ---- the files of packets

in_filed : (xs : List SeenPacket) (p : SeenPacket) → Contains xs p → Contains (map filed_event xs) (filed_event p)
in_filed [] p c = absurd (omega (arith, c.1))
in_filed (x ∷ xs) p (zero, small, is) = (0, omega arith, ap filed_event is)
in_filed (x ∷ xs) p (suc k, small, is) = let w = in_filed xs p (k, omega arith, is) in (suc w.0, omega (arith, w.1), w.2)

all_of_file : (saved : List Saved) (all : List SeenPacket) → map filed_event all ≡ filed_events_of saved → All (IsOfFile saved) all
all_of_file saved all these =
    λ k d small. subst (λ l. Contains l (filed_event (get_or all k d))) these (in_filed all (get_or all k d) (All-contains_itself all k d small))

-- of the wanted packets, too, the answer in the file tells of the event
pub are_of_files : (saved : List Saved) (p : SeenPacket → Bool) (all wanted lowest packets : List SeenPacket) → map filed_event all ≡ filed_events_of saved
    → wanted ≡ filter p all → All (Contains wanted) lowest → IsPermutation lowest packets → All (IsOfFile saved) packets
are_of_files saved p all wanted lowest packets these are among same =
    let each : All (IsOfFile saved) wanted = subst (All (IsOfFile saved)) (sym are) (All-filter p (IsOfFile saved) all (all_of_file saved all these)) in
    carried (IsOfFile saved) wanted lowest packets each among same

filter_at : (p : PacketEvent → Bool) (b : Bool) (x : SeenPacket) (xs : List SeenPacket) (fs : List FiledEvent) → map filed_event xs ≡ fs → map filed_event (cond b (x ∷ xs) xs) ≡ cond b (filed_event x ∷ fs) fs
filter_at p true x xs fs e = ap (λ l. filed_event x ∷ l) e
filter_at p false x xs fs e = e

filter_filed : (p : PacketEvent → Bool) (xs : List SeenPacket) → map filed_event (filter (λ s. p s.event.now) xs) ≡ filter (λ (f : FiledEvent). p f.0) (map filed_event xs)
filter_filed p [] = refl
filter_filed p (x ∷ xs) = filter_at p (p x.event.now) x (filter (λ s. p s.event.now) xs) (filter (λ (f : FiledEvent). p f.0) (map filed_event xs)) (filter_filed p xs)

-- ---- another folder, missing transactions

pub names_folder : (setup : PathSetup) (saved : List Saved) (e : ImportError) → IsOfOtherFolder saved e → NamesOfPath setup saved e
names_folder setup saved (errors.CheckError p) w = subst (λ name. NamesByName name setup saved (errors.CheckError p)) (sym w.0) w.1
names_folder setup saved errors.NoMemory w = absurd w

pub names_page : (setup : PathSetup) (saved : List Saved) (pages : List Page) (e : ImportError) → map (λ (p : Page). p.page.now) pages ≡ pages_of saved → map filed_page pages ≡ filed_pages_of saved
    → IsCutShort pages e → NamesOfPath setup saved e
names_page setup saved pages (errors.CheckError p) are filed w =
    let Short : List PacketPage → FiledPage → Type 0 = λ l f. (is_whole f.0.total l ≡ false) × IsAt f.0.total (errors.CheckError p) × IsIn f.1 (errors.CheckError p) in
    let some : Any (Short (map (λ (q : Page). q.page.now) pages)) (map filed_page pages) = any_map filed_page (Short (map (λ (q : Page). q.page.now) pages)) pages w.1 in
    subst (λ name. NamesByName name setup saved (errors.CheckError p)) (sym w.0)
    (subst (λ l. Any (Short (pages_of saved)) l) filed (subst (λ l. Any (Short l) (map filed_page pages)) are some))
names_page setup saved pages errors.NoMemory are filed w = absurd w

-- ---- two files

module _ (setup : PathSetup) (saved : List Saved) (all wanted : List SeenPacket) (these : map filed_event all ≡ filed_events_of saved)
    (are : wanted ≡ filter (λ s. is_wanted setup (counterparty setup (events_of saved)) saved s.event.now) all) where
  abbrev Wanted : SeenPacket → Bool
  Wanted s = is_wanted setup (counterparty setup (events_of saved)) saved s.event.now

  filed_are : map filed_event wanted ≡ filed_wanted_of setup saved
  filed_are =
      let p : PacketEvent → Bool = is_wanted setup (counterparty setup (events_of saved)) saved in
      ap (map filed_event) are ∙ filter_filed p all ∙ ap (filter (λ (f : FiledEvent). p f.0)) these

  pub names_sources : (e : ImportError) → IsTold CheckErrorName.TwoChannels ((setup.source_channel ≡ None) × Any (λ (q : SeenPacket). Any (IsFromOther e q) all) (filter Wanted all)) e → NamesOfPath setup saved e
  names_sources (errors.CheckError p) w =
      let e : ImportError = errors.CheckError p in
      let Two : FiledEvent → FiledEvent → Type 0 = λ f g. (string_bytes f.0.source ≢ string_bytes g.0.source) × IsAt g.0.sequence e × IsBetween f.1 g.1 e in
      let mine : Any (λ (q : SeenPacket). Any (λ (r : SeenPacket). Two (filed_event q) (filed_event r)) all) wanted =
      subst (Any (λ (q : SeenPacket). Any (λ (r : SeenPacket). Two (filed_event q) (filed_event r)) all)) (sym are) w.1.1 in
      let each : Any (λ (q : SeenPacket). Any (Two (filed_event q)) (filed_events_of saved)) wanted =
      any_more (λ (q : SeenPacket). Any (λ (r : SeenPacket). Two (filed_event q) (filed_event r)) all) _ wanted
      (λ q other. subst (Any (Two (filed_event q))) these (any_map filed_event (Two (filed_event q)) all other)) mine in
      subst (λ name. NamesByName name setup saved e) (sym w.0)
      (subst (Any (λ f. Any (Two f) (filed_events_of saved))) filed_are (any_map filed_event (λ f. Any (Two f) (filed_events_of saved)) wanted each))
  names_sources errors.NoMemory w = tt

  pub names_sendings : (e : ImportError) → AreTwoOf wanted e → NamesOfPath setup saved e
  names_sendings (errors.CheckError p) w =
      let e : ImportError = errors.CheckError p in
      let Two : FiledEvent → FiledEvent → Type 0 = λ f g. TellOtherwise f.0 g.0 × IsAt f.0.sequence e × IsBetween f.1 g.1 e in
      let Among : List FiledEvent → Type 0 = λ l. Any (λ f. Any (Two f) l) l in
      let each : Any (λ (q : SeenPacket). Any (Two (filed_event q)) (map filed_event wanted)) wanted =
      any_more (λ (q : SeenPacket). Any (NamesTwo e q) wanted) _ wanted (λ q other. any_map filed_event (Two (filed_event q)) wanted other) w.1 in
      let two : Among (map filed_event wanted) = any_map filed_event (λ f. Any (Two f) (map filed_event wanted)) wanted each in
      subst (λ name. NamesByName name setup saved e) (sym w.0) (subst Among filed_are two)
  names_sendings errors.NoMemory w = tt

-- ---- commitments

pub names_last_page : (setup : PathSetup) (saved : List Saved) (e : ImportError) → IsOfLastPage saved e → NamesOfPath setup saved e
names_last_page setup saved (errors.CheckError p) (lack, name, number, file, other) = subst (λ n. NamesByName n setup saved (errors.CheckError p)) (sym name) (number, file, other)
names_last_page setup saved errors.NoMemory w = absurd w
