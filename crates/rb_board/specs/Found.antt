-- What a worker finds for an order: it is of the job that was ordered, and right for what the worker's desk shows.
use Rattle.std.specs.Prelude.{◌≡◌, ◌≤◌, ℕ, length, max, Option, Some, None}
use Rattle.rb_base.specs.declared.gate.WorkItem.{WorkItem}
use Rattle.rb_base.specs.declared.gate.WorkItem.TheVariants as item
use Rattle.rb_plan_client.specs.Draft.{Draft, IsDraft}
use Rattle.rb_core_model.specs.Machine.{client_view, state_of}
use Rattle.rb_core_model.specs.Scan.{Scan}
use Rattle.rb_core_model.specs.Standing.{path_view}
use Rattle.rb_board.specs.Ends.{Desk}
use Rattle.rb_board.specs.declared.finding.Finding.{Finding}
use Rattle.rb_board.specs.declared.finding.Finding.TheVariants as found
use Rattle.rb_board.specs.declared.order.Order.{Order}
use Rattle.rb_board.specs.declared.order.Order.TheVariants as order

-- ---- the jobs by name

-- the job of an order, none where the worker is to end
abbrev pub ordered_item : {A : Type 0} → Order A → Option WorkItem
ordered_item (order.Scan path part note) = Some (item.Scan path part)
ordered_item (order.Plan client note graph) = Some (item.Plan client)
ordered_item order.Stop = None

-- the job that a finding is of
abbrev pub found_item : {A : Type 0} → Finding A → WorkItem
found_item (found.Scanned path scan) = item.Scan path scan.part
found_item (found.Planned draft) = item.Plan draft.job.client
found_item (found.Short work) = work
found_item (found.Unseen work) = work

-- how many events a desk was told of, with an order's note
abbrev pub told_after : {A : Type 0} → Order A → ℕ → ℕ
told_after (order.Scan path part note) told = max told note.front
told_after (order.Plan client note graph) told = max told note.front
told_after order.Stop told = told

-- ---- what is right

-- the desk has seen all that it was told of, and what it has seen shows the path so as it was scanned
pub record IsScanOf (desk : Desk) (path : ℕ) (scan : Scan) : Type 0 where
  pub enough : desk.told ≤ length desk.seen.events
  pub view : path_view (state_of desk.config desk.seen).standing path ≡ Some scan.view

-- the desk has seen all that it was told of, what it has seen shows the client so as it was planned for, and the plan is
-- right for that
pub record IsDraftOf (desk : Desk) (client : ℕ) (draft : Draft) : Type 0 where
  pub enough : desk.told ≤ length desk.seen.events
  pub view : client_view (state_of desk.config desk.seen) client ≡ Some draft.job
  pub right : IsDraft draft

-- a scan and a draft are right for what the desk shows
abbrev pub IsFoundOn : {A : Type 0} → Desk → Finding A → Type 0
IsFoundOn desk (found.Scanned path scan) = IsScanOf desk path scan
IsFoundOn desk (found.Planned draft) = IsDraftOf desk draft.job.client draft
IsFoundOn desk (found.Short place) = Unit {0}
IsFoundOn desk (found.Unseen place) = Unit {0}
