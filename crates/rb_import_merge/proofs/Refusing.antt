-- Why a path's answers are refused.
use Rattle.std.proofs.Common.{◌≡◌, ◌≢◌, ℕ, ◌<◌, List, [], ◌∷◌, ◌++◌, get_or, length, map, filter, take, drop, Bool, false, Option, Some, None, refl, sym, subst, ap, ◌∙◌, Bor, arith}
use Rattle.std.specs.Prelude.{Any, IfSome, IsSomeAnd, option_map, slice_get, string_bytes}
use Rattle.std.proofs.lemmas.List.{take-append-drop}
use Rattle.std.proofs.lemmas.List.Elements.{All-nil, All-push, filter-append}
use Rattle.std.proofs.lemmas.Option.{none-some, same_Some}
use Rattle.rb_import_answers.specs.declared.packets.PacketEvent.{PacketEvent}
use Rattle.rb_import_answers.specs.declared.packets.PacketPage.{PacketPage}
use Rattle.rb_import_setup.specs.declared.setup.PathSetup.{PathSetup}
use Rattle.rb_import_check.specs.declared.error.CheckErrorName.{CheckErrorName}
use Rattle.rb_import_check.specs.declared.error.ImportError.{ImportError}
use Rattle.rb_import_check.specs.declared.error.ImportError.TheVariants as errors
use Rattle.rb_import_check.specs.declared.saved.Saved.{Saved}
use Rattle.rb_import_check.specs.Errors.{IsIn, IsOfNoHeight, IsTold}
use Rattle.rb_import_check.proofs.ChainReasons.{any_map}
use Rattle.rb_import_check.proofs.ReasonsLemmas.{any_left}
use Rattle.rb_import_merge.specs.declared.packets.Page.{Page}
use Rattle.rb_import_merge.specs.declared.packets.SeenPacket.{SeenPacket}
use Rattle.rb_import_merge.specs.Committed.{IsOfLastPage}
use Rattle.rb_import_merge.specs.Lowest.{AreTwoOf, NamesTwo}
use Rattle.rb_import_merge.specs.Packets.{AreFromOne, IsOfOtherFolder, counterparty, events_of, is_on_packets, is_wanted, seen_events, wanted_of}
use Rattle.rb_import_merge.specs.Refusals.{HasReasonOfPath, HaveTwoSendings, IsFromOther, RefusesPath, TellOtherwise}
use Rattle.rb_import_merge.specs.Totals.{IsCutShort, is_whole, pages_of}
use Rattle.rb_import_merge.proofs.Seeing.{filter_events}

abbrev pub event_of : SeenPacket → PacketEvent
event_of p = p.event.now

pub any_more : {A : Type 0} (P Q : A → Type 0) (xs : List A) → ((x : A) → P x → Q x) → Any P xs → Any Q xs
any_more P Q xs more (k, x, small, is, p) = (k, x, small, is, more x p)

-- ---- another folder, missing transactions

pub other_folder : (setup : PathSetup) (saved : List Saved) (e : ImportError) → IsOfOtherFolder saved e → HasReasonOfPath setup saved e
other_folder setup saved (errors.CheckError p) w =
    subst (λ name. RefusesPath name setup saved) (sym w.0)
    (any_more (λ (s : Saved). (is_on_packets s.answer ≡ false) × IsIn (string_bytes s.file) (errors.CheckError p) × IsOfNoHeight (errors.CheckError p)) (λ (s : Saved). is_on_packets s.answer ≡ false) saved (λ s both. both.0) w.1)
other_folder setup saved errors.NoMemory w = absurd w

pub cut_short : (setup : PathSetup) (saved : List Saved) (pages : List Page) (e : ImportError) → map (λ (p : Page). p.page.now) pages ≡ pages_of saved → IsCutShort pages e → HasReasonOfPath setup saved e
cut_short setup saved pages (errors.CheckError p) are w =
    let all : List PacketPage = map (λ (q : Page). q.page.now) pages in
    let Short : List PacketPage → PacketPage → Type 0 = λ l q. is_whole q.total l ≡ false in
    let some : Any (Short all) all = any_map (λ (q : Page). q.page.now) (Short all) pages (any_more _ (λ (q : Page). Short all q.page.now) pages (λ q both. both.0) w.1) in
    subst (λ name. RefusesPath name setup saved) (sym w.0) (subst (λ l. Any (Short l) l) are some)
cut_short setup saved pages errors.NoMemory are w = absurd w

-- ---- two sources

-- what holds of one of those so far that pass a test holds of one of all that do
pub any_so_far : (P : SeenPacket → Type 0) (p : SeenPacket → Bool) (xs : List SeenPacket) (i : ℕ) → Any P (filter p (take i xs)) → Any P (filter p xs)
any_so_far P p xs i w =
    let both : filter p xs ≡ filter p (take i xs) ++ filter p (drop i xs) = ap (filter p) (sym (take-append-drop i xs)) ∙ filter-append p (take i xs) (drop i xs) in
    subst (Any P) (sym both) (any_left P (filter p (take i xs)) (filter p (drop i xs)) w)

-- a packet is from another source than one of the wanted ones so far
pub two_sources : (setup : PathSetup) (p : SeenPacket → Bool) (all before : List SeenPacket) (i : ℕ) (x : SeenPacket) (e : ImportError) → i < length all → x ≡ get_or all i x → before ≡ filter p (take i all)
    → IsTold CheckErrorName.TwoChannels ((setup.source_channel ≡ None) × Any (λ (q : SeenPacket). IsFromOther e q x) before) e
    → IsTold CheckErrorName.TwoChannels ((setup.source_channel ≡ None) × Any (λ (q : SeenPacket). Any (IsFromOther e q) all) (filter p all)) e
two_sources setup p all before i x (errors.CheckError q) small is was w =
    let Other : SeenPacket → SeenPacket → Type 0 = IsFromOther (errors.CheckError q) in
    let some : Any (λ (y : SeenPacket). Other y x) (filter p all) = any_so_far (λ (y : SeenPacket). Other y x) p all i (subst (Any (λ (y : SeenPacket). Other y x)) was w.1.1) in
    (w.0, (w.1.0, any_more (λ (y : SeenPacket). Other y x) (λ (y : SeenPacket). Any (Other y) all) (filter p all) (λ y other. (i, x, small, sym is, other)) some))
two_sources setup p all before i x errors.NoMemory small is was w = tt

-- what holds of the first packet holds of some
any_first : (first : Option (Bor SeenPacket)) (xs : List SeenPacket) (P : SeenPacket → Type 0) → option_map (λ b. b.now) first ≡ slice_get xs 0 → IsSomeAnd first (λ b. P b.now) → Any P xs
any_first (Some b) [] P is p = absurd (none-some b.now (sym is))
any_first (Some b) (x ∷ xs) P is p = (0, x, omega arith, refl, subst P (same_Some b.now x is) p)
any_first None xs P is p = absurd p

pub other_first : (setup : PathSetup) (first : Option (Bor SeenPacket)) (xs : List SeenPacket) (x : SeenPacket) (e : ImportError) → option_map (λ b. b.now) first ≡ slice_get xs 0
    → IsTold CheckErrorName.TwoChannels ((setup.source_channel ≡ None) × IsSomeAnd first (λ b. IsFromOther e b.now x)) e
    → IsTold CheckErrorName.TwoChannels ((setup.source_channel ≡ None) × Any (λ (q : SeenPacket). IsFromOther e q x) xs) e
other_first setup first xs x (errors.CheckError p) is w = (w.0, (w.1.0, any_first first xs (λ (q : SeenPacket). IsFromOther (errors.CheckError p) q x) is w.1.1))
other_first setup first xs x errors.NoMemory is w = tt

-- a packet more is from the one source where it is from that of the first
pub from_one_more : (first : Option (Bor SeenPacket)) (xs : List SeenPacket) (x : SeenPacket) → option_map (λ b. b.now) first ≡ slice_get xs 0
    → IfSome first (λ b. string_bytes b.now.event.now.source ≡ string_bytes x.event.now.source) → AreFromOne xs → AreFromOne (xs ++ x ∷ [])
from_one_more (Some b) [] x is same one = absurd (none-some b.now (sym is))
from_one_more (Some b) (y ∷ ys) x is same (source, all) =
    let From : SeenPacket → Type 0 = λ p. string_bytes p.event.now.source ≡ source in
    let first : From b.now = subst From (sym (same_Some b.now y is)) (all 0 y (omega arith)) in
    (source, All-push From (y ∷ ys) x all (sym same ∙ first))
from_one_more None [] x is same one = (string_bytes x.event.now.source, All-push (λ (p : SeenPacket). string_bytes p.event.now.source ≡ string_bytes x.event.now.source) [] x (All-nil _) refl)
from_one_more None (y ∷ ys) x is same one = absurd (none-some y is)

module _ (setup : PathSetup) (saved : List Saved) (all wanted : List SeenPacket) (these : seen_events all ≡ events_of saved)
    (are : wanted ≡ filter (λ s. is_wanted setup (counterparty setup (events_of saved)) saved s.event.now) all) where
  abbrev Wanted : SeenPacket → Bool
  Wanted s = is_wanted setup (counterparty setup (events_of saved)) saved s.event.now

  events_are : map event_of wanted ≡ wanted_of setup saved
  events_are =
      let p : PacketEvent → Bool = is_wanted setup (counterparty setup (events_of saved)) saved in
      ap (map event_of) are ∙ filter_events p all ∙ ap (filter p) these

  pub of_two_sources : (e : ImportError) → IsTold CheckErrorName.TwoChannels ((setup.source_channel ≡ None) × Any (λ (q : SeenPacket). Any (IsFromOther e q) all) (filter Wanted all)) e → HasReasonOfPath setup saved e
  of_two_sources (errors.CheckError p) w =
      let Other : PacketEvent → PacketEvent → Type 0 = λ e f. string_bytes e.source ≢ string_bytes f.source in
      let From : SeenPacket → SeenPacket → Type 0 = IsFromOther (errors.CheckError p) in
      let mine : Any (λ (q : SeenPacket). Any (From q) all) wanted = subst (Any (λ (q : SeenPacket). Any (From q) all)) (sym are) w.1.1 in
      let each : Any (λ (q : SeenPacket). Any (Other (event_of q)) (events_of saved)) wanted =
      any_more (λ (q : SeenPacket). Any (From q) all) _ wanted
      (λ q other. subst (Any (Other (event_of q))) these (any_map event_of (Other (event_of q)) all (any_more (From q) (λ (r : SeenPacket). Other (event_of q) (event_of r)) all (λ r from. from.0) other))) mine in
      subst (λ name. RefusesPath name setup saved) (sym w.0)
      (w.1.0, subst (Any (λ e. Any (Other e) (events_of saved))) events_are (any_map event_of (λ e. Any (Other e) (events_of saved)) wanted each))
  of_two_sources errors.NoMemory w = tt

  pub of_two_sendings : (e : ImportError) → AreTwoOf wanted e → HasReasonOfPath setup saved e
  of_two_sendings (errors.CheckError p) w =
      let Two : SeenPacket → SeenPacket → Type 0 = NamesTwo (errors.CheckError p) in
      let each : Any (λ (q : SeenPacket). Any (TellOtherwise (event_of q)) (map event_of wanted)) wanted =
      any_more (λ (q : SeenPacket). Any (Two q) wanted) _ wanted
      (λ q other. any_map event_of (TellOtherwise (event_of q)) wanted (any_more (Two q) (λ (r : SeenPacket). TellOtherwise (event_of q) (event_of r)) wanted (λ r two. two.0) other)) w.1 in
      let two : HaveTwoSendings (map event_of wanted) = any_map event_of (λ e. Any (TellOtherwise e) (map event_of wanted)) wanted each in
      subst (λ name. RefusesPath name setup saved) (sym w.0) (subst HaveTwoSendings events_are two)
  of_two_sendings errors.NoMemory w = tt

-- ---- commitments

pub of_last_page : (setup : PathSetup) (saved : List Saved) (e : ImportError) → IsOfLastPage saved e → HasReasonOfPath setup saved e
of_last_page setup saved (errors.CheckError p) (lack, name, number, file, other) = subst (λ n. RefusesPath n setup saved) (sym name) lack
of_last_page setup saved errors.NoMemory w = absurd w
