-- Where every open batch is taken, the updates that packets make keep every deadline (own choice).
use Rattle.std.specs.Prelude.{◌≡◌, ℕ, true, List, [], All, IsSomeAnd}
use Rattle.rb_super_turn.specs.Report.{SendingReport, nothing, too_big, batched, PlanReport, Outcome, held, idle, planned, Report}
use Rattle.rb_super_turn.specs.Script.{Turn, Script}
use Rattle.rb_super.specs.Fewest.{ClientTurn, IsRun, KeepsDeadlines, update_turns}

-- each turn takes all batches that are open after it, and asks for no goal
abbrev pub TakesAll : Script → Type 0
TakesAll script = All (λ (turn : Turn). (turn.taken ≡ true) × (turn.goals ≡ [])) script.turns

-- a message of a plan is over the gas limit alone
abbrev pub HasTooBig : SendingReport → Type 0
HasTooBig nothing = ⊥
HasTooBig (too_big index) = Unit {0}
HasTooBig (batched b) = ⊥

abbrev pub PlansTooBig : Outcome → Type 0
PlansTooBig (held number) = ⊥
PlansTooBig (idle next) = ⊥
PlansTooBig (planned a) = IsSomeAnd a.plan (λ (p : PlanReport). HasTooBig p.sending)

-- no plan of the client has such a message
abbrev pub NoneIsTooBig : List ClientTurn → Type 0
NoneIsTooBig ks = All (λ (k : ClientTurn). ¬ PlansTooBig k.report.outcome) ks

-- in a script that takes all batches and asks for no goal, the turns in which packets make a client update are themselves a choice that
-- keeps every deadline
abbrev pub UpdatesKeepDeadlines : Type 0
UpdatesKeepDeadlines =
    (script : Script) (report : Report) (place : ℕ) (ks : List ClientTurn) → IsRun script report place ks → TakesAll script → NoneIsTooBig ks
    → KeepsDeadlines ks (update_turns ks)
