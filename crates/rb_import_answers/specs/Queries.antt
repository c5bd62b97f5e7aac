-- Queries of CometBFT's RPC and of ibc-go's gateway whose answers aren't needed, known by a member of the answer.
use Rattle.std.specs.Prelude.{ℕ, List, codes, Option, Some, None, if◌then◌else◌}
use Rattle.rb_import_json.specs.declared.field_path.Key.{Key}
use Rattle.rb_import_json.specs.Fields.{Object, has}
use Rattle.rb_import_answers.specs.Statuses.{status_of}
use Rattle.rb_import_answers.specs.declared.query.OtherQuery.{OtherQuery}

abbrev pub query_path : OtherQuery → List ℕ
query_path (OtherQuery.Status s) = codes "/status"
query_path OtherQuery.BlockResults = codes "/block_results"
query_path OtherQuery.Blockchain = codes "/blockchain"
query_path OtherQuery.Block = codes "/block"
query_path OtherQuery.Header = codes "/header"
query_path OtherQuery.Transaction = codes "/tx"
query_path OtherQuery.ConsensusStateHeights = codes "consensus_states/ID/heights"
query_path OtherQuery.ConsensusState = codes "consensus_states/ID/revision/R/height/H"
query_path OtherQuery.ClientStatus = codes "client_status/ID"
query_path OtherQuery.Verdicts = codes "verdicts (they count only in verdicts.json)"

abbrev pub query_of_gateway : Object → Option OtherQuery
query_of_gateway o =
    if has Key.ConsensusStateHeights o then Some OtherQuery.ConsensusStateHeights
    else if has Key.ConsensusState o then Some OtherQuery.ConsensusState
    else if has Key.Status o then Some OtherQuery.ClientStatus
    else None

unfoldable pub query_of : Object → Option OtherQuery
query_of o =
    if has Key.SyncInfo o then Some (OtherQuery.Status (status_of o.value))
    else if has Key.TxsResults o then Some OtherQuery.BlockResults
    else if has Key.BlockMetas o then Some OtherQuery.Blockchain
    else if has Key.Block o then Some OtherQuery.Block
    else if has Key.Header o then Some OtherQuery.Header
    else if has Key.TxResult o then Some OtherQuery.Transaction
    else query_of_gateway o
