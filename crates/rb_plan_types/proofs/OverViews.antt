-- The laws, from what holds of every client.
use Rattle.rb_book.specs.Book.{heights_of}
use Rattle.rb_step.specs.Laws.{SuccessIsAcceptance, ViewsAreOrderly}
use Rattle.rb_step.specs.View.{client_of}
use Rattle.rb_plan_types.specs.Laws.{SoundBounds, OrderIsTotal, AnswersAreOne, ExactIsUpward, ExactExists}
use Rattle.rb_plan_types.proofs.Orders.{precedes_cases, PrecedesList-irrefl, PrecedesList-trans}
use Rattle.rb_plan_types.proofs.Bounds.{bound}
use Rattle.rb_plan_types.proofs.Least.{least_is_one}
use Rattle.rb_plan_types.proofs.Exact.{exact_is_one, exact_is_upward}
use Rattle.rb_plan_types.proofs.Existence.{exact_exists}
use Rattle.rb_plan_types.proofs.Views.{known_of_view, decided_of_view}

pub sound_bounds : ViewsAreOrderly → SoundBounds
sound_bounds orderly v label is sound us h a leaves = bound (client_of v) label (orderly v is) sound us h a leaves

pub order_is_total : OrderIsTotal
order_is_total = record {
  cases = λ v us vs. precedes_cases (client_of v) us vs;
  itself = λ v us p. PrecedesList-irrefl (client_of v) us p;
  chain = λ v us vs ws p q. PrecedesList-trans (client_of v) us vs ws p q;
}

pub answers_are_one : AnswersAreOne
answers_are_one = record {
  least = λ v goal us vs p q. least_is_one (client_of v) goal us vs p q;
  exact = λ v label label' p q h c is. exact_is_one (client_of v) label label' p q h c is;
}

pub upward : ViewsAreOrderly → ExactIsUpward
upward orderly v label is = exact_is_upward (client_of v) (orderly v is) label

pub exists : ViewsAreOrderly → SuccessIsAcceptance → ExactExists
exists orderly success v is = exact_exists (client_of v) (orderly v is) (decided_of_view success v is) (heights_of v.book) (known_of_view v is)
