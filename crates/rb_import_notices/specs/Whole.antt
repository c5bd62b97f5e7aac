-- All notices of a setup and of the answers that a script is made of.
use Rattle.std.specs.Prelude.{◌≡◌, ℕ, List, [], ◌∷◌, Option, Some, None, length, option_to_list}
use Rattle.std.specs.List.{flat_map, range_with_len}
use Rattle.rb_import_setup.specs.declared.setup.ImportSetup.{ImportSetup}
use Rattle.rb_import_check.specs.declared.saved.SavedAnswers.{SavedAnswers}
use Rattle.rb_import_merge.specs.declared.seen.SeenSetup.{SeenSetup}
use Rattle.rb_import_notices.specs.declared.notice.Kind.{Kind}
use Rattle.rb_import_notices.specs.declared.notice.Notice.{Notice}
use Rattle.rb_import_notices.specs.declared.notice.Notices.{Notices}
use Rattle.rb_import_notices.specs.declared.notice.Subject.{Subject}
use Rattle.rb_import_notices.specs.Canonical.{not_canonical}
use Rattle.rb_import_notices.specs.Channels.{other_channel}
use Rattle.rb_import_notices.specs.Counterparties.{sent_to_several}
use Rattle.rb_import_notices.specs.Excess.{too_many_headers, too_many_packets, too_many_records, too_many_sets}
use Rattle.rb_import_notices.specs.Headers.{missing_headers, missing_sets, unsigned_headers}
use Rattle.rb_import_notices.specs.Latest.{missing_latest}
use Rattle.rb_import_notices.specs.Missing.{missing_next_set}
use Rattle.rb_import_notices.specs.Packets.{more_packets, packets_left_out}
use Rattle.rb_import_notices.specs.Pages.{missing_states}
use Rattle.rb_import_notices.specs.Passed.{others_of_chain, others_of_client, others_of_path}
use Rattle.rb_import_notices.specs.Stale.{nothing_fresh}
use Rattle.rb_import_notices.specs.Unsearched.{missing_searches}
use Rattle.rb_import_notices.specs.Unusable.{future_headers, last_goals, nothing_trusted, unseen_goal}
use Rattle.rb_import_notices.specs.Verified.{not_verified, unverified_commits}

-- how many chains, clients or paths there are, or goals of the last turn
abbrev pub places : ImportSetup → Subject → ℕ
places setup Subject.Chain = length setup.chains.items
places setup Subject.Client = length setup.clients.items
places setup Subject.Path = length setup.paths.items
places setup Subject.Goal = length (last_goals setup)

-- the notices of a kind on the subject at a place that are due: one or none, and of the packets of a path that are left out one for each of the first
abbrev pub notices_at : ImportSetup → SavedAnswers → SeenSetup → Kind → ℕ → List Notice
notices_at setup answers seen Kind.MissingHeaders chain = option_to_list (missing_headers setup seen chain)
notices_at setup answers seen Kind.MissingSets chain = option_to_list (missing_sets seen chain)
notices_at setup answers seen Kind.UnsignedHeaders chain = option_to_list (unsigned_headers seen chain)
notices_at setup answers seen Kind.TooManyHeaders chain = option_to_list (too_many_headers seen chain)
notices_at setup answers seen Kind.TooManySets chain = option_to_list (too_many_sets seen chain)
notices_at setup answers seen Kind.TooManyRecords client = option_to_list (too_many_records seen client)
notices_at setup answers seen Kind.TooManyPackets path = option_to_list (too_many_packets seen path)
notices_at setup answers seen Kind.PacketLeftOut path = packets_left_out answers seen path
notices_at setup answers seen Kind.MorePackets path = option_to_list (more_packets seen path)
notices_at setup answers seen Kind.NothingTrusted client = option_to_list (nothing_trusted setup seen client)
notices_at setup answers seen Kind.FutureHeaders client = option_to_list (future_headers setup seen client)
notices_at setup answers seen Kind.UnseenGoal goal = option_to_list (unseen_goal setup seen goal)
notices_at setup answers seen Kind.NothingFresh client = option_to_list (nothing_fresh setup seen client)
notices_at setup answers seen Kind.MissingNextSet client = option_to_list (missing_next_set setup seen client)
notices_at setup answers seen Kind.MissingLatest client = option_to_list (missing_latest seen client)
notices_at setup answers seen Kind.MissingStates client = option_to_list (missing_states answers client)
notices_at setup answers seen Kind.MissingSearches path = option_to_list (missing_searches setup answers path)
notices_at setup answers seen Kind.SeveralCounterparties path = option_to_list (sent_to_several setup answers path)
notices_at setup answers seen Kind.OtherChannel path = option_to_list (other_channel setup answers path)
notices_at setup answers seen Kind.NotCanonical chain = option_to_list (not_canonical seen chain)
notices_at setup answers seen Kind.NotVerified chain = option_to_list (not_verified answers seen chain)
notices_at setup answers seen Kind.UnverifiedCommits chain = option_to_list (unverified_commits answers seen chain)
notices_at setup answers seen Kind.OthersOfChain chain = option_to_list (others_of_chain answers chain)
notices_at setup answers seen Kind.OthersOfClient client = option_to_list (others_of_client answers client)
notices_at setup answers seen Kind.OthersOfPath path = option_to_list (others_of_path answers path)

-- those of a kind, in the order of the setup
abbrev pub notices_of_kind : ImportSetup → SavedAnswers → SeenSetup → Subject × Kind → List Notice
notices_of_kind setup answers seen k = flat_map (notices_at setup answers seen k.1) (range_with_len 0 (places setup k.0))

-- those of these kinds, one kind behind the other
abbrev pub notices_of_kinds : ImportSetup → SavedAnswers → SeenSetup → List (Subject × Kind) → List Notice
notices_of_kinds setup answers seen kinds = flat_map (notices_of_kind setup answers seen) kinds

-- all kinds, in the order in which they are told, and what each is about
abbrev pub kinds : List (Subject × Kind)
kinds =
    (Subject.Chain, Kind.MissingHeaders)
    ∷ (Subject.Chain, Kind.MissingSets)
    ∷ (Subject.Chain, Kind.UnsignedHeaders)
    ∷ (Subject.Chain, Kind.TooManyHeaders)
    ∷ (Subject.Chain, Kind.TooManySets)
    ∷ (Subject.Client, Kind.TooManyRecords)
    ∷ (Subject.Path, Kind.TooManyPackets)
    ∷ (Subject.Path, Kind.PacketLeftOut)
    ∷ (Subject.Path, Kind.MorePackets)
    ∷ (Subject.Client, Kind.NothingTrusted)
    ∷ (Subject.Client, Kind.FutureHeaders)
    ∷ (Subject.Goal, Kind.UnseenGoal)
    ∷ (Subject.Client, Kind.NothingFresh)
    ∷ (Subject.Client, Kind.MissingNextSet)
    ∷ (Subject.Client, Kind.MissingLatest)
    ∷ (Subject.Client, Kind.MissingStates)
    ∷ (Subject.Path, Kind.MissingSearches)
    ∷ (Subject.Path, Kind.SeveralCounterparties)
    ∷ (Subject.Path, Kind.OtherChannel)
    ∷ (Subject.Chain, Kind.NotCanonical)
    ∷ (Subject.Chain, Kind.NotVerified)
    ∷ (Subject.Chain, Kind.UnverifiedCommits)
    ∷ (Subject.Chain, Kind.OthersOfChain)
    ∷ (Subject.Client, Kind.OthersOfClient)
    ∷ (Subject.Path, Kind.OthersOfPath)
    ∷ []

-- these are all notices of a setup, its answers and what was seen in them: each that is due, once, in order
abbrev pub AreNoticesOf : ImportSetup → SavedAnswers → SeenSetup → Notices → Type 0
AreNoticesOf setup answers seen n = n.list.items ≡ notices_of_kinds setup answers seen kinds
