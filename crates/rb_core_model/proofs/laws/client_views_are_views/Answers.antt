use Rattle.rb_core_model.proofs.EveryLog.{client_views}
use Rattle.rb_core_model.proofs.laws.client_views_are_views.Goals as goal

pub returns : goal.returns
returns c = client_views c.finds_what_was_added.ensures c.stays_a_book.ensures c.views_are_orderly.ensures
