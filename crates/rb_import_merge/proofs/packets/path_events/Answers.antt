use Rattle.std.proofs.Common.{◌≡◌, ℕ, true, List, Option, None, All, filter, map, refl, rules, subst, ap, ◌∙◌}
use Rattle.std.specs.Prelude.{Any, option_map, string_bytes}
use Rattle.std.specs.List.{flat_map}
use Rattle.std.proofs.lemmas.List.Sorted.{IsPermutation-refl}
use Rattle.rb_import_answers.specs.declared.packets.PacketEvent.{PacketEvent}
use Rattle.rb_import_answers.specs.Revisions.{IsRevision}
use Rattle.rb_import_check.specs.declared.error.CheckErrorName.{CheckErrorName}
use Rattle.rb_import_check.specs.Errors.{IsTold}
use Rattle.rb_import_merge.specs.declared.packets.Page.{Page}
use Rattle.rb_import_merge.specs.declared.packets.SeenPacket.{SeenPacket}
use Rattle.rb_import_merge.specs.Named.{NamesOfPath}
use Rattle.rb_import_merge.specs.Packets.{counterparty, events_of, filed_event, filed_events_of, is_wanted, seen_events}
use Rattle.rb_import_merge.specs.Totals.{IsCutShort, is_whole}
use Rattle.rb_import_merge.specs.Refusals.{HasReasonOfPath, IsFromOther}
use Rattle.rb_import_merge.proofs.Refusing.{cut_short, of_last_page, of_two_sendings, of_two_sources, other_folder}
use Rattle.rb_import_merge.proofs.PathNames.{are_of_files, filed_of_pages, names_folder, names_last_page, names_page, names_sendings, names_sources}
use Rattle.rb_import_merge.proofs.Lowering.{distinct}
use Rattle.rb_import_merge.proofs.Seeing.{are_of_path, carried, expire, have_events}
use Rattle.rb_import_merge.proofs.Totalling.{all_whole, events_of_pages}
use Rattle.rb_import_merge.proofs.packets.path_events.Goals as goal

pub returns-clause-path : goal.returns-clause-path
returns-clause-path c =
    let all : List SeenPacket = c.in_ok-all.all.items in
    let are : c.in_ok-wanted.wanted.items ≡ filter (λ (s : SeenPacket). is_wanted c.args.setup.now (counterparty c.args.setup.now (events_of c.args.answers.now)) c.args.answers.now s.event.now) all =
    c.in_ok-wanted.ensures.wanted ∙ ap (filter (λ (s : SeenPacket). is_wanted c.args.setup.now (option_map (λ e. e.now) c.counterparty-end.result) c.args.answers.now s.event.now)) c.as_slice-3.ensures.value
    ∙ ap (λ e. filter (λ (s : SeenPacket). is_wanted c.args.setup.now e c.args.answers.now s.event.now) all) c.counterparty-end.ensures in
    are_of_path c.args.setup.now c.args.answers.now all c.in_ok-wanted.wanted.items c.in_ok-lowest.lowest.items c.in_ok-lowest.lowest.items are c.in_ok-lowest.ensures.among (IsPermutation-refl c.in_ok-lowest.lowest.items)

pub returns-clause-events : goal.returns-clause-events
returns-clause-events c =
    let all : List SeenPacket = c.in_ok-all.all.items in
    let these : seen_events all ≡ events_of c.args.answers.now = c.in_ok-all.ensures.events ∙ ap (flat_map (λ (p : Page). p.page.now.events.items)) c.as_slice-2.ensures.value ∙ events_of_pages c.args.answers.now c.in_ok-pages.pages.items c.in_ok-pages.ensures.pages in
    let are : c.in_ok-wanted.wanted.items ≡ filter (λ (s : SeenPacket). is_wanted c.args.setup.now (counterparty c.args.setup.now (events_of c.args.answers.now)) c.args.answers.now s.event.now) all =
    c.in_ok-wanted.ensures.wanted ∙ ap (filter (λ (s : SeenPacket). is_wanted c.args.setup.now (option_map (λ e. e.now) c.counterparty-end.result) c.args.answers.now s.event.now)) c.as_slice-3.ensures.value
    ∙ ap (λ e. filter (λ (s : SeenPacket). is_wanted c.args.setup.now e c.args.answers.now s.event.now) all) c.counterparty-end.ensures in
    have_events c.args.setup.now c.args.answers.now all c.in_ok-wanted.wanted.items c.in_ok-lowest.lowest.items c.in_ok-lowest.lowest.items these are c.in_ok-lowest.ensures.among
    c.in_ok-lowest.ensures.standing (distinct c.in_ok-lowest.lowest.items c.in_ok-lowest.ensures.order) (IsPermutation-refl c.in_ok-lowest.lowest.items)

pub returns-clause-expiry : goal.returns-clause-expiry
returns-clause-expiry c =
    let is : IsRevision c.args.dest.now c.revision_of.result = search rules in
    let are : c.in_ok-wanted.wanted.items ≡ filter (λ (s : SeenPacket). is_wanted c.args.setup.now (option_map (λ e. e.now) c.counterparty-end.result) c.args.answers.now s.event.now) c.in_ok-all.all.items =
    c.in_ok-wanted.ensures.wanted ∙ ap (filter (λ (s : SeenPacket). is_wanted c.args.setup.now (option_map (λ e. e.now) c.counterparty-end.result) c.args.answers.now s.event.now)) c.as_slice-3.ensures.value in
    expire c.args.dest.now c.revision_of.result (λ (s : SeenPacket). is_wanted c.args.setup.now (option_map (λ e. e.now) c.counterparty-end.result) c.args.answers.now s.event.now) c.in_ok-all.all.items
    c.in_ok-wanted.wanted.items c.in_ok-lowest.lowest.items c.in_ok-lowest.lowest.items is c.in_ok-all.ensures.expiry are c.in_ok-lowest.ensures.among (IsPermutation-refl c.in_ok-lowest.lowest.items)

pub returns-clause-source : goal.returns-clause-source
returns-clause-source c = λ none.
    let (source, all) = c.in_ok-wanted.ensures.source none in
    let From : SeenPacket → Type 0 = λ p. string_bytes p.event.now.source ≡ source in
    (source, carried From c.in_ok-wanted.wanted.items c.in_ok-lowest.lowest.items c.in_ok-lowest.lowest.items all c.in_ok-lowest.ensures.among (IsPermutation-refl c.in_ok-lowest.lowest.items))

pub returns-clause-whole : goal.returns-clause-whole
returns-clause-whole c =
    let all = subst (λ (l : List Page). All (λ (p : Page). is_whole p.page.now.total (map (λ (q : Page). q.page.now) l) ≡ true) l) c.as_slice.ensures.value c.in_ok-judge_totals.ensures.accepted in
    all_whole c.args.answers.now c.in_ok-pages.pages.items c.in_ok-pages.ensures.pages all

pub returns-in_err-judge_kinds-clause-reason : goal.returns-in_err-judge_kinds-clause-reason
returns-in_err-judge_kinds-clause-reason c =
    let e = c.in_err-judge_kinds.field-0.0 in
    let reason : HasReasonOfPath c.args.setup.now c.args.answers.now e =
    other_folder c.args.setup.now c.args.answers.now e c.in_err-judge_kinds.ensures.refused in
    search rules

pub returns-in_err-judge_totals-clause-reason : goal.returns-in_err-judge_totals-clause-reason
returns-in_err-judge_totals-clause-reason c =
    let e = c.in_err-judge_totals.field-0.0 in
    let short : IsCutShort c.in_ok-pages.pages.items e = subst (λ (l : List Page). IsCutShort l e) c.as_slice.ensures.value c.in_err-judge_totals.ensures.refused in
    let reason : HasReasonOfPath c.args.setup.now c.args.answers.now e =
    cut_short c.args.setup.now c.args.answers.now c.in_ok-pages.pages.items e c.in_ok-pages.ensures.pages short in
    search rules

pub returns-in_err-wanted-clause-reason : goal.returns-in_err-wanted-clause-reason
returns-in_err-wanted-clause-reason c =
    let e = c.in_err-wanted.field-0.0 in
    let all : List SeenPacket = c.in_ok-all.all.items in
    let these : seen_events all ≡ events_of c.args.answers.now = c.in_ok-all.ensures.events ∙ ap (flat_map (λ (p : Page). p.page.now.events.items)) c.as_slice-2.ensures.value ∙ events_of_pages c.args.answers.now c.in_ok-pages.pages.items c.in_ok-pages.ensures.pages in
    let Told : List SeenPacket → Option (List ℕ) → Type 0 = λ l end.
    IsTold CheckErrorName.TwoChannels ((c.args.setup.now.source_channel ≡ None) × Any (λ (p : SeenPacket). Any (IsFromOther e p) l) (filter (λ (s : SeenPacket). is_wanted c.args.setup.now end c.args.answers.now s.event.now) l)) e in
    let told : Told all (counterparty c.args.setup.now (events_of c.args.answers.now)) =
    subst (Told all) c.counterparty-end.ensures (subst (λ l. Told l (option_map (λ x. x.now) c.counterparty-end.result)) c.as_slice-3.ensures.value c.in_err-wanted.ensures.other) in
    let reason : HasReasonOfPath c.args.setup.now c.args.answers.now e =
    of_two_sources c.args.setup.now c.args.answers.now all _ these refl e told in
    search rules

pub returns-in_err-lowest-clause-reason : goal.returns-in_err-lowest-clause-reason
returns-in_err-lowest-clause-reason c =
    let e = c.in_err-lowest.field-0.0 in
    let all : List SeenPacket = c.in_ok-all.all.items in
    let these : seen_events all ≡ events_of c.args.answers.now = c.in_ok-all.ensures.events ∙ ap (flat_map (λ (p : Page). p.page.now.events.items)) c.as_slice-2.ensures.value ∙ events_of_pages c.args.answers.now c.in_ok-pages.pages.items c.in_ok-pages.ensures.pages in
    let are : c.in_ok-wanted.wanted.items ≡ filter (λ (s : SeenPacket). is_wanted c.args.setup.now (counterparty c.args.setup.now (events_of c.args.answers.now)) c.args.answers.now s.event.now) all =
    c.in_ok-wanted.ensures.wanted ∙ ap (filter (λ (s : SeenPacket). is_wanted c.args.setup.now (option_map (λ x. x.now) c.counterparty-end.result) c.args.answers.now s.event.now)) c.as_slice-3.ensures.value
    ∙ ap (λ x. filter (λ (s : SeenPacket). is_wanted c.args.setup.now x c.args.answers.now s.event.now) all) c.counterparty-end.ensures in
    let reason : HasReasonOfPath c.args.setup.now c.args.answers.now e =
    of_two_sendings c.args.setup.now c.args.answers.now all c.in_ok-wanted.wanted.items these are e c.in_err-lowest.ensures.refused in
    search rules

pub returns-clause-files : goal.returns-clause-files
returns-clause-files c =
    let all : List SeenPacket = c.in_ok-all.all.items in
    let filed : map filed_event all ≡ filed_events_of c.args.answers.now =
    c.in_ok-all.ensures.files ∙ ap (flat_map (λ (p : Page). map (λ (e : PacketEvent). (e, p.file.now)) p.page.now.events.items)) c.as_slice-2.ensures.value
    ∙ filed_of_pages c.args.answers.now c.in_ok-pages.pages.items c.in_ok-pages.ensures.files in
    let are : c.in_ok-wanted.wanted.items ≡ filter (λ (s : SeenPacket). is_wanted c.args.setup.now (counterparty c.args.setup.now (events_of c.args.answers.now)) c.args.answers.now s.event.now) all =
    c.in_ok-wanted.ensures.wanted ∙ ap (filter (λ (s : SeenPacket). is_wanted c.args.setup.now (option_map (λ x. x.now) c.counterparty-end.result) c.args.answers.now s.event.now)) c.as_slice-3.ensures.value
    ∙ ap (λ x. filter (λ (s : SeenPacket). is_wanted c.args.setup.now x c.args.answers.now s.event.now) all) c.counterparty-end.ensures in
    are_of_files c.args.answers.now _ all c.in_ok-wanted.wanted.items c.in_ok-lowest.lowest.items c.in_ok-lowest.lowest.items filed are c.in_ok-lowest.ensures.among (IsPermutation-refl c.in_ok-lowest.lowest.items)

pub returns-in_err-judge_kinds-clause-named : goal.returns-in_err-judge_kinds-clause-named
returns-in_err-judge_kinds-clause-named c =
    let e = c.in_err-judge_kinds.field-0.0 in
    let named : NamesOfPath c.args.setup.now c.args.answers.now e =
    names_folder c.args.setup.now c.args.answers.now e c.in_err-judge_kinds.ensures.refused in
    search rules

pub returns-in_err-judge_totals-clause-named : goal.returns-in_err-judge_totals-clause-named
returns-in_err-judge_totals-clause-named c =
    let e = c.in_err-judge_totals.field-0.0 in
    let short : IsCutShort c.in_ok-pages.pages.items e = subst (λ (l : List Page). IsCutShort l e) c.as_slice.ensures.value c.in_err-judge_totals.ensures.refused in
    let named : NamesOfPath c.args.setup.now c.args.answers.now e =
    names_page c.args.setup.now c.args.answers.now c.in_ok-pages.pages.items e c.in_ok-pages.ensures.pages c.in_ok-pages.ensures.files short in
    search rules

pub returns-in_err-wanted-clause-named : goal.returns-in_err-wanted-clause-named
returns-in_err-wanted-clause-named c =
    let e = c.in_err-wanted.field-0.0 in
    let all : List SeenPacket = c.in_ok-all.all.items in
    let filed : map filed_event all ≡ filed_events_of c.args.answers.now =
    c.in_ok-all.ensures.files ∙ ap (flat_map (λ (p : Page). map (λ (e : PacketEvent). (e, p.file.now)) p.page.now.events.items)) c.as_slice-2.ensures.value
    ∙ filed_of_pages c.args.answers.now c.in_ok-pages.pages.items c.in_ok-pages.ensures.files in
    let Told : List SeenPacket → Option (List ℕ) → Type 0 = λ l end.
    IsTold CheckErrorName.TwoChannels ((c.args.setup.now.source_channel ≡ None) × Any (λ (p : SeenPacket). Any (IsFromOther e p) l) (filter (λ (s : SeenPacket). is_wanted c.args.setup.now end c.args.answers.now s.event.now) l)) e in
    let told : Told all (counterparty c.args.setup.now (events_of c.args.answers.now)) =
    subst (Told all) c.counterparty-end.ensures (subst (λ l. Told l (option_map (λ x. x.now) c.counterparty-end.result)) c.as_slice-3.ensures.value c.in_err-wanted.ensures.other) in
    let named : NamesOfPath c.args.setup.now c.args.answers.now e =
    names_sources c.args.setup.now c.args.answers.now all _ filed refl e told in
    search rules

pub returns-in_err-lowest-clause-named : goal.returns-in_err-lowest-clause-named
returns-in_err-lowest-clause-named c =
    let e = c.in_err-lowest.field-0.0 in
    let all : List SeenPacket = c.in_ok-all.all.items in
    let filed : map filed_event all ≡ filed_events_of c.args.answers.now =
    c.in_ok-all.ensures.files ∙ ap (flat_map (λ (p : Page). map (λ (e : PacketEvent). (e, p.file.now)) p.page.now.events.items)) c.as_slice-2.ensures.value
    ∙ filed_of_pages c.args.answers.now c.in_ok-pages.pages.items c.in_ok-pages.ensures.files in
    let are : c.in_ok-wanted.wanted.items ≡ filter (λ (s : SeenPacket). is_wanted c.args.setup.now (counterparty c.args.setup.now (events_of c.args.answers.now)) c.args.answers.now s.event.now) all =
    c.in_ok-wanted.ensures.wanted ∙ ap (filter (λ (s : SeenPacket). is_wanted c.args.setup.now (option_map (λ x. x.now) c.counterparty-end.result) c.args.answers.now s.event.now)) c.as_slice-3.ensures.value
    ∙ ap (λ x. filter (λ (s : SeenPacket). is_wanted c.args.setup.now x c.args.answers.now s.event.now) all) c.counterparty-end.ensures in
    let named : NamesOfPath c.args.setup.now c.args.answers.now e =
    names_sendings c.args.setup.now c.args.answers.now all c.in_ok-wanted.wanted.items filed are e c.in_err-lowest.ensures.refused in
    search rules

pub returns-in_err-judge_last_page-clause-reason : goal.returns-in_err-judge_last_page-clause-reason
returns-in_err-judge_last_page-clause-reason c =
    let e = c.in_err-judge_last_page.field-0.0 in
    let reason : HasReasonOfPath c.args.setup.now c.args.answers.now e =
    of_last_page c.args.setup.now c.args.answers.now e c.in_err-judge_last_page.ensures.refused in
    search rules

pub returns-in_err-judge_last_page-clause-named : goal.returns-in_err-judge_last_page-clause-named
returns-in_err-judge_last_page-clause-named c =
    let e = c.in_err-judge_last_page.field-0.0 in
    let named : NamesOfPath c.args.setup.now c.args.answers.now e =
    names_last_page c.args.setup.now c.args.answers.now e c.in_err-judge_last_page.ensures.refused in
    search rules
