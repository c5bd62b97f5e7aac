-- The text of a client message (ICS 7, `Header`; its JSON by protojson): the signed header, its set, the trusted height, and the set that the
-- consensus state of that height names.
use Rattle.std.specs.Prelude.{ℕ, List, [], ◌∷◌, ◌++◌, codes, map, Option, Some, None, slice_get}
use Rattle.std.specs.List.{find}
use Rattle.std.specs.Option.{option_or}
use Rattle.rb_valset.specs.Validator.{Member, address_of, has_address}
use Rattle.rb_valset.specs.ValidatorSet.{total_of}
use Rattle.rb_valset.specs.declared.key.PublicKey.{PublicKey}
use Rattle.rb_valset.specs.declared.key.PublicKey.TheVariants.{Ed25519, Secp256k1}
use Rattle.rb_step.specs.Sent.{SentVotes}
use Rattle.rb_import_answers.specs.Headers.{Signed}
use Rattle.rb_script_text.specs.Json.{Json, array, json_text, object, string, ◌is◌}
use Rattle.rb_messages.specs.SignedTexts.{bytes_json, quoted, signed_header_json}

unfoldable pub named_key : List ℕ → List ℕ → Json
named_key name bytes = object (name is bytes_json bytes ∷ [])

-- a key by the name of its kind (CometBFT, `crypto.PublicKey`)
abbrev pub key_json : PublicKey → Json
key_json (Ed25519 bytes) = named_key (codes "ed25519") bytes
key_json (Secp256k1 bytes) = named_key (codes "secp256k1") bytes

-- the key, the power, and the priority, which is in no hash
abbrev pub voter_members : Member → List (List ℕ × Json)
voter_members m = codes "pub_key" is key_json m.key ∷ codes "voting_power" is quoted m.power ∷ codes "proposer_priority" is string (codes "0") ∷ []

-- a validator (CometBFT, `Validator`)
unfoldable pub validator_json : Member → Json
validator_json m = object (codes "address" is bytes_json (address_of m.key) ∷ voter_members m)

-- the proposer of a set: its member of this address, or its first one
abbrev pub proposer_in : List Member → List ℕ → Option Member
proposer_in set address = option_or (find (has_address address) set) (slice_get set 0)

unfoldable pub total_members : ℕ → List (List ℕ × Json)
total_members total = codes "total_voting_power" is quoted total ∷ []

-- the proposer, if there is one, and the total power
abbrev pub set_members : Option Member → ℕ → List (List ℕ × Json)
set_members None total = total_members total
set_members (Some m) total = codes "proposer" is validator_json m ∷ total_members total

-- a set in its order (CometBFT, `ValidatorSet`)
unfoldable pub set_json : List ℕ → List Member → Json
set_json address set = object (codes "validators" is array (map validator_json set) ∷ set_members (proposer_in set address) (total_of set))

-- a height (ICS 2) with the revision of its chain
unfoldable pub height_json : ℕ → ℕ → Json
height_json revision height = object (codes "revision_number" is quoted revision ∷ codes "revision_height" is quoted height ∷ [])

-- a signed header, with the votes that the update carries; its set; the trusted height with the set that is trusted there. The proposers of both sets have
-- one address
unfoldable pub message_members : Option SentVotes → Signed → List Member → ℕ → ℕ → List Member → List (List ℕ × Json)
message_members votes s own revision height trusted =
    codes "signed_header" is signed_header_json votes s ∷ codes "validator_set" is set_json s.proposer own
    ∷ codes "trusted_height" is height_json revision height ∷ codes "trusted_validators" is set_json s.proposer trusted ∷ []

unfoldable pub message_json : Option SentVotes → Signed → List Member → ℕ → ℕ → List Member → Json
message_json votes s own revision height trusted =
    object (codes "@type" is string (codes "/ibc.lightclients.tendermint.v1.Header") ∷ message_members votes s own revision height trusted)

unfoldable pub message_text : Option SentVotes → Signed → List Member → ℕ → ℕ → List Member → List ℕ
message_text votes s own revision height trusted = json_text (message_json votes s own revision height trusted) ++ codes "\n"
