use Rattle.std.proofs.Common.{All, AllPairs, IsSome, subst}
use Rattle.rb_book.specs.Book.{record_at}
use Rattle.rb_step.specs.LightClient.{Update}
use Rattle.rb_core.specs.State.{standing_view}
use Rattle.rb_core_model.specs.Fits.{AreApart, FitsMessage}
use Rattle.rb_core.proofs.fitting.fits_batch.Goals as goal

pub returns : goal.returns
returns g c h = record {
  updates = subst (All (λ (u : Update). IsSome (record_at c.args.book.now u.height))) c.updates.ensures (c.are_recorded.ensures.0 c.if-not-are_recorded.false);
  apart = subst (AllPairs AreApart) c.messages.ensures (c.are_rising.ensures c.if-not-are_rising.false);
  messages = subst (All (FitsMessage (standing_view c.args.state.now).paths c.args.client)) c.messages-2.ensures (c.fit_messages.ensures.0 h);
}
