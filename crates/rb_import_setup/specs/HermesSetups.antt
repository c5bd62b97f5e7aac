-- The text of a setup (TOML), for clients whose chains a configuration has.
use Rattle.std.specs.Prelude.{◌≡◌, ℕ, Bool, ◌||◌, List, [], ◌++◌, codes, filter, find, Option, Some, None}
use Rattle.std.specs.Fmt.{decimal}
use Rattle.std.specs.List.{flat_map, list_any}
use Rattle.std.specs.Option.{option_map_or}
use Rattle.std.specs.Str.{bytes_eq}
use Rattle.rb_import_setup.specs.declared.hermes_client.NamedClient.{NamedClient}
use Rattle.rb_import_setup.specs.HermesChains.{HermesChain}
use Rattle.rb_import_setup.specs.HermesClients.{setup_id}
use Rattle.rb_import_setup.specs.HermesFees.{fees_of, gas, transaction_gas}

-- how it begins: comments on what is to be written
abbrev pub beginning : List ℕ
beginning =
    codes "# Made of Hermes' configuration. FROM and UNTIL are to be written. A fee is gas times the price of gas; the numbers of gas are\n"
    ++ codes "# guesses: put in those of your chains. What the answer on a client's state has is left out.\n"
    ++ codes "# The nodes: a chain, the address of its node, that of its gateway.\n"

-- how it ends: its turn, whose window is to be written
abbrev pub ending : List ℕ
ending = codes "[[turn]]\nfrom = \"FROM\"\nuntil = \"UNTIL\"\n"

abbrev pub EndsWithTurn : List ℕ → Type 0
EndsWithTurn text = (before : List ℕ) × (text ≡ before ++ ending)

-- ---- chains

-- whether a client is on the chain of an identifier or tracks it
abbrev pub needs : List ℕ → NamedClient → Bool
needs id c = bytes_eq c.host id || bytes_eq c.chain id

-- whether one of the clients is on a chain or tracks it
abbrev pub is_needed : List NamedClient → HermesChain → Bool
is_needed clients chain = list_any (needs chain.id) clients

-- the chains that the clients are on or track, in their order
abbrev pub needed : List NamedClient → List HermesChain → List HermesChain
needed clients chains = filter (is_needed clients) chains

-- the address of a chain's node, or a dash
abbrev pub address_text : Option (List ℕ) → List ℕ
address_text (Some address) = address
address_text None = codes "-"

-- a comment that names a chain and its node; no gateway is told by a configuration
abbrev pub node_line : HermesChain → List ℕ
node_line chain = codes "# " ++ chain.id ++ codes " " ++ address_text chain.address ++ codes " -\n"

-- a key with a text, of characters that stand for themselves in TOML
abbrev pub text_line : List ℕ → List ℕ → List ℕ
text_line key value = key ++ codes " = \"" ++ value ++ codes "\"\n"

abbrev pub chain_table : HermesChain → List ℕ
chain_table chain = codes "[[chain]]\n" ++ text_line (codes "id") chain.id ++ codes "\n"

-- ---- clients

-- a key with three numbers
abbrev pub three_line : List ℕ → ℕ × ℕ × ℕ → List ℕ
three_line key n = key ++ codes " = [" ++ decimal n.0 ++ codes ", " ++ decimal n.1 ++ codes ", " ++ decimal n.2 ++ codes "]\n"

-- which client it is, by an identifier, and of which chains
abbrev pub identity_lines : List ℕ → NamedClient → List ℕ
identity_lines id c = codes "[[client]]\n" ++ text_line (codes "id") id ++ text_line (codes "host") c.host ++ text_line (codes "of") c.chain

-- what a client's updates cost and take, and what a transaction may carry, by its host
abbrev pub terms_lines : HermesChain → List ℕ
terms_lines host =
    three_line (codes "fee") (fees_of host.price) ++ three_line (codes "gas") gas
    ++ three_line (codes "limits") (host.max_gas, host.max_messages, transaction_gas) ++ codes "\n"

-- the first of the chains with an identifier
abbrev pub chain_with : List ℕ → List HermesChain → Option HermesChain
chain_with id chains = find (λ chain. bytes_eq chain.id id) chains

abbrev pub client_table : NamedClient → HermesChain → List ℕ
client_table c host = identity_lines (setup_id c) c ++ terms_lines host

-- the table of a client whose host is one of the chains
abbrev pub table_of : List HermesChain → NamedClient → List ℕ
table_of chains c = option_map_or (client_table c) (chain_with c.host chains) []

-- ---- the whole

-- the nodes and the chains of the clients, in the order of the configuration; the clients, in theirs; and the turn
unfoldable pub setup_text : List HermesChain → List NamedClient → List ℕ
setup_text chains clients =
    beginning ++ flat_map node_line (needed clients chains) ++ codes "version = 1\n\n" ++ flat_map chain_table (needed clients chains)
    ++ flat_map (table_of chains) clients ++ ending
