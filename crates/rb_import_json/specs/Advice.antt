-- What belongs in an answer where it has a flaw, or what to do.
use Rattle.std.specs.Prelude.{ℕ, List, codes}
use Rattle.rb_import_json.specs.declared.error.FieldErrorName.{FieldErrorName}

abbrev pub field_error_advice : FieldErrorName → List ℕ
field_error_advice FieldErrorName.TooBig = codes "an answer has at most 16,777,216 bytes; ask for fewer of them on a page (per_page=20)"
field_error_advice FieldErrorName.TooManyValues = codes "an answer has at most 400,000 of the byte { and 1,200,000 of { [ and , in all; ask for fewer on a page (per_page=20)"
field_error_advice FieldErrorName.NotJson = codes "this is no JSON in UTF-8; save the node's answer as it came"
field_error_advice FieldErrorName.Empty = codes "it is empty; ask the node again"
field_error_advice FieldErrorName.ErrorPage =
    codes "it begins with '<': an error page? what stands before the node may answer so; ask it again, or another node"
field_error_advice FieldErrorName.Compressed = codes "it is compressed with gzip; unpack it (gunzip), or save it as `curl --compressed` does"
field_error_advice FieldErrorName.CutShort = codes "it begins with '{' and doesn't end with '}': was it cut short? ask the node again"
field_error_advice FieldErrorName.UnknownShape =
    codes "import reads no answer of this shape (docs/IMPORT.md lists those it reads); ask the node again, or take the file away"
field_error_advice FieldErrorName.NodeError = codes "the node answered an error; ask it again, or another node"
field_error_advice FieldErrorName.MissingField = codes "this field has to be there; ask the node again"
field_error_advice FieldErrorName.WrongType = codes "a value of another type belongs here; ask the node again"
field_error_advice FieldErrorName.BadNumber = codes "a text of decimal digits belongs here, of a number in range"
field_error_advice FieldErrorName.BadHex = codes "hexadecimal digits belong here: 64 of a set's hash, 40 of an address, at most 128 of another hash"
field_error_advice FieldErrorName.BadBase64 = codes "base64 belongs here: of 32 bytes for a key, of 64 for a signature, of 1 to 64 for a root"
field_error_advice FieldErrorName.BadTime = codes "a time as 2026-11-22T10:00:00Z belongs here, from 1970 on"
field_error_advice FieldErrorName.BadDuration = codes "seconds as 806400s belong here, at most 2^63 - 1 ns"
field_error_advice FieldErrorName.BadIdentifier = codes "an identifier of 1 to 64 characters belongs here"
field_error_advice FieldErrorName.BadFlag = codes "a flag is 1 (absent), 2 (commit) or 3 (nil)"
field_error_advice FieldErrorName.ForeignKey = codes "only ed25519 and secp256k1 keys are supported"
field_error_advice FieldErrorName.BadPower = codes "a voting power is from 1 to 2^60 - 1"
field_error_advice FieldErrorName.BadTrust = codes "a trust level is from a third to one"
field_error_advice FieldErrorName.UnsupportedClient = codes "only Tendermint light clients are supported"
field_error_advice FieldErrorName.FrozenClient = codes "the client is frozen, so that no update helps it"
field_error_advice FieldErrorName.OtherHeight = codes "the commit has to be of the header's height"
field_error_advice FieldErrorName.BadVersion = codes "only verdicts of version 1 are read; make them again with this release's tools/verify_commits"
field_error_advice FieldErrorName.BadPlace =
    codes "places of votes rise from 0 on, and are below the number of votes; make the verdicts again with tools/verify_commits"
