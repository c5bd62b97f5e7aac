use Rattle.std.proofs.Common.{ap, ◌∙◌, nat_le, find, slice_get}
use Rattle.rb_book.specs.Book.{Book, height_of}
use Rattle.rb_plan_client.proofs.Lowest.{lowest_from, lent_at}
use Rattle.rb_plan_client.proofs.waiting.first_from.Goals as goal

pub returns : goal.returns
returns g c =
    lent_at c.records.result.now c.lower_count.result c.get.result c.get.ensures.lookup
    ∙ ap (λ rs. slice_get rs c.lower_count.result) c.records.ensures.value
    ∙ ap (slice_get c.book-book.result.now.records) c.lower_count.ensures.value
    ∙ lowest_from c.book-book.result.now c.args.floor c.lower_count.ensures.book
    ∙ ap (λ (b : Book). find (λ k. nat_le c.args.floor (height_of k)) b.records) c.book-book.ensures
