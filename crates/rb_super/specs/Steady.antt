-- Where messages stay ready (own choice).
use Rattle.std.specs.Prelude.{◌≡◌, ℕ, ◌<◌, ◌≤◌, true, List, [], length, All, Some, IfSome, IsSomeAnd, slice_get}
use Rattle.rb_scan.specs.declared.path.Order.TheVariants.{Unordered}
use Rattle.rb_plan_client.specs.Task.{PathTask}
use Rattle.rb_super_turn.specs.Report.{Report}
use Rattle.rb_super_turn.specs.Script.{Turn, Script}
use Rattle.rb_super.specs.Fewest.{ClientTurn, IsRun, KeepsDeadlines, is_update, update_turns, StaysReady}

-- all paths of the client are UNORDERED
abbrev pub AreUnordered : List ClientTurn → Type 0
AreUnordered ks = All (λ (k : ClientTurn). All (λ (p : PathTask). p.order ≡ Unordered) k.task.paths) ks

-- in each turn in which packets make it update the client can be brought as high as in every turn before
abbrev pub ReachHolds : List ClientTurn → Type 0
ReachHolds ks =
    (before update : ℕ) (j k : ClientTurn) → before < update → slice_get ks before ≡ Some j → slice_get ks update ≡ Some k → is_update k ≡ true
    → IfSome j.reach (λ a. IsSomeAnd k.reach (λ b. a ≤ b))

-- there messages stay ready: a message of an UNORDERED path is owed until it is done with, and its floor never rises
abbrev pub MessagesStayReady : Type 0
MessagesStayReady =
    (script : Script) (report : Report) (place : ℕ) (ks : List ClientTurn) → IsRun script report place ks → AreUnordered ks → ReachHolds ks → StaysReady ks

-- no turn of the script has a settlement: batches stay open until turns take them
abbrev pub SettlesNothing : Script → Type 0
SettlesNothing script = All (λ (turn : Turn). turn.settlements ≡ []) script.turns

-- in such a script, of a client with UNORDERED paths whose reach holds, packets make the client update in the fewest turns
abbrev pub TakenUpdatesAreFewest : Type 0
TakenUpdatesAreFewest =
    (script : Script) (report : Report) (place : ℕ) (ks : List ClientTurn) (choice : List ℕ) → IsRun script report place ks
    → SettlesNothing script → AreUnordered ks → ReachHolds ks
    → KeepsDeadlines ks choice → length (update_turns ks) ≤ length choice
