-- The names of what doesn't hold between answers.
use Rattle.std.specs.Prelude.{ℕ, List, codes}
use Rattle.rb_import_check.specs.declared.error.CheckErrorName.{CheckErrorName}

abbrev pub check_error_name : CheckErrorName → List ℕ
check_error_name CheckErrorName.WrongFolder = codes "WrongFolder"
check_error_name CheckErrorName.OtherChain = codes "OtherChain"
check_error_name CheckErrorName.OtherRevision = codes "OtherRevision"
check_error_name CheckErrorName.TwoAnswers = codes "TwoAnswers"
check_error_name CheckErrorName.OtherTotal = codes "OtherTotal"
check_error_name CheckErrorName.TooManyValidators = codes "TooManyValidators"
check_error_name CheckErrorName.BadSet = codes "BadSet"
check_error_name CheckErrorName.OtherSet = codes "OtherSet"
check_error_name CheckErrorName.OtherHeader = codes "OtherHeader"
check_error_name CheckErrorName.SignatureCount = codes "SignatureCount"
check_error_name CheckErrorName.OtherSigner = codes "OtherSigner"
check_error_name CheckErrorName.MissingClientState = codes "MissingClientState"
check_error_name CheckErrorName.MissingConsensusStates = codes "MissingConsensusStates"
check_error_name CheckErrorName.OtherRecord = codes "OtherRecord"
check_error_name CheckErrorName.MissingCommitments = codes "MissingCommitments"
check_error_name CheckErrorName.MissingTransactions = codes "MissingTransactions"
check_error_name CheckErrorName.TwoChannels = codes "TwoChannels"
check_error_name CheckErrorName.MissingSend = codes "MissingSend"
check_error_name CheckErrorName.MissingReceive = codes "MissingReceive"
check_error_name CheckErrorName.OtherVerdict = codes "OtherVerdict"
check_error_name CheckErrorName.ScriptTooBig = codes "ScriptTooBig"
