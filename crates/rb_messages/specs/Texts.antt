-- The text of an update's message and of an unsigned transaction, as protojson writes them (ibc-go, `MsgUpdateClient`; Cosmos SDK, `Tx`).
use Rattle.std.specs.Prelude.{ℕ, false, true, List, [], ◌∷◌, ◌++◌, codes, nat_lt, if◌then◌else◌}
use Rattle.std.specs.List.{enumerate_from, flat_map}
use Rattle.std.specs.Fmt.{decimal}
use Rattle.rb_script_text.specs.Json.{members_of, members_text, more_text, name_text, string, ◌is◌}
use Rattle.rb_messages.specs.declared.transaction_text.Fee.{Fee as CodeFee}
use Rattle.rb_import_setup.specs.declared.sender.UpdateField.{UpdateField}
use Rattle.rb_import_setup.specs.declared.sender.UpdateField.TheVariants.{ClientMessage, Header}

-- ---- an update; the client message is JSON already

unfoldable pub client_text : List ℕ → List ℕ
client_text client =
    codes "{"
    ++ members_text false (members_of (codes "@type" is string (codes "/ibc.core.client.v1.MsgUpdateClient") ∷ codes "client_id" is string client ∷ []))

-- the field's name, which ibc-go changed in its version 7
abbrev pub field_name : UpdateField → List ℕ
field_name ClientMessage = codes "client_message"
field_name Header = codes "header"

unfoldable pub field_text : UpdateField → List ℕ → List ℕ
field_text field message = name_text true (field_name field) ++ message

unfoldable pub signer_text : List ℕ → List ℕ
signer_text signer = more_text (codes "signer" is string signer ∷ []) ++ codes "}"

unfoldable pub update_message_text : List ℕ → UpdateField → List ℕ → List ℕ → List ℕ
update_message_text client field message signer = client_text client ++ field_text field message ++ signer_text signer

-- ---- a transaction

-- what a transaction pays, and the most gas that it takes
pub record Fee : Type 0 where
  pub denom : List ℕ
  pub amount : ℕ
  pub gas_limit : ℕ

abbrev pub fee_view : CodeFee → Fee
fee_view f = record { denom = f.denom.now; amount = f.amount; gas_limit = f.gas_limit }

-- a message of a list, by its place: a comma stands before each but the first
abbrev pub listed_text : ℕ × List ℕ → List ℕ
listed_text (place, message) = if nat_lt 0 place then codes ", " ++ message else message

unfoldable pub body_text : List (List ℕ) → List ℕ
body_text messages =
    codes "{\"body\": {\"messages\": ["
    ++ flat_map listed_text (enumerate_from 0 messages)
    ++ codes "], \"memo\": \"\", \"timeout_height\": \"0\", \"extension_options\": [], \"non_critical_extension_options\": []}"

abbrev pub denom_text : List ℕ → List ℕ
denom_text denom = codes ", \"auth_info\": {\"signer_infos\": [], \"fee\": {\"amount\": [{\"denom\": \"" ++ denom ++ codes "\", "

abbrev pub amount_text : ℕ → List ℕ
amount_text amount = codes "\"amount\": \"" ++ decimal amount ++ codes "\"}], "

abbrev pub gas_text : ℕ → List ℕ
gas_text limit = codes "\"gas_limit\": \"" ++ decimal limit ++ codes "\", \"payer\": \"\", \"granter\": \"\""

unfoldable pub fee_text : Fee → List ℕ
fee_text f = denom_text f.denom ++ amount_text f.amount ++ gas_text f.gas_limit

-- no signatures stand in it
unfoldable pub transaction_text : List (List ℕ) → Fee → List ℕ
transaction_text messages f = body_text messages ++ fee_text f ++ codes "}}, \"signatures\": []}\n"
