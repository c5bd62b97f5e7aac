-- Answers to queries that aren't needed.
use Rattle.std.specs.Prelude.{ℕ, List, Bool, true, false, if◌then◌else◌, Option, Some, None}
use Rattle.std.specs.List.{list_any}
use Rattle.rb_import_answers.specs.declared.answer.NodeAnswer.{NodeAnswer}
use Rattle.rb_import_answers.specs.declared.answer.NodeAnswer.TheVariants as answers
use Rattle.rb_import_check.specs.declared.saved.Saved.{Saved}
use Rattle.rb_import_check.specs.declared.saved.SavedAnswers.{SavedAnswers}
use Rattle.rb_import_merge.specs.Seen.{answers_at}
use Rattle.rb_import_notices.specs.declared.notice.Notice.{Notice}
use Rattle.rb_import_notices.specs.declared.notice.Notice.TheVariants.{OthersOfChain, OthersOfClient, OthersOfPath}

-- whether an answer is to a query that isn't needed
abbrev pub is_other : NodeAnswer → Bool
is_other (answers.Commit header) = false
is_other (answers.Validators page) = false
is_other (answers.ClientState state) = false
is_other (answers.ConsensusStates page) = false
is_other (answers.Transactions page) = false
is_other (answers.Pending p) = false
is_other (answers.Verdicts v) = false
is_other (answers.Other query) = true

-- whether one of these answers is
abbrev pub has_others : List Saved → Bool
has_others saved = list_any (λ s. is_other s.answer) saved

-- a chain, a client and a path of whose answers some aren't needed
abbrev pub others_of_chain : SavedAnswers → ℕ → Option Notice
others_of_chain answers chain = if has_others (answers_at answers.chains.items chain) then Some (OthersOfChain chain) else None

abbrev pub others_of_client : SavedAnswers → ℕ → Option Notice
others_of_client answers client = if has_others (answers_at answers.clients.items client) then Some (OthersOfClient client) else None

abbrev pub others_of_path : SavedAnswers → ℕ → Option Notice
others_of_path answers path = if has_others (answers_at answers.paths.items path) then Some (OthersOfPath path) else None
