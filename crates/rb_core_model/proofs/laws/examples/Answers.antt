use Rattle.std.proofs.Common.{refl}
use Rattle.rb_core_model.proofs.laws.examples.Goals as goal

pub returns : goal.returns
returns c = record {
  unknown = refl;
  log_full = refl;
  unknown_first = refl;
  no_view = refl;
  no_window = refl;
  no_client = refl;
  no_path = refl;
  conflict = refl;
  window_back = refl;
  below = refl;
  sent_again = refl;
  not_sent = refl;
  in_turn = refl;
  any_turn = refl;
  received_again = refl;
  not_received = refl;
  written_below = refl;
  written_again = refl;
  cleared_again = refl;
  closed_again = refl;
  older_scan = refl;
  scan_again = refl;
  not_scanned = refl;
  forward = refl;
  back = refl;
  no_longer = refl;
  unscanned = refl;
  number_above = refl;
  older_view = refl;
  plan_accepted = refl;
  plan_opens = refl;
  plan_again = refl;
  held = refl;
  too_many = refl;
  other_batch = refl;
  settled_again = refl;
  all_settled = refl;
  first_only = refl;
  receive_left = refl;
  both_done = refl;
  no_update = refl;
  timeout_closes = refl;
  timeout_leaves = refl;
  none_settled = refl;
}
