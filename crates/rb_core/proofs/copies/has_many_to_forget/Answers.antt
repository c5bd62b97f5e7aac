use Rattle.std.proofs.Common.{sym, ◌∙◌}
use Rattle.rb_core_model.specs.Forgetting.{has_many_to_forget}
use Rattle.rb_core_state.specs.Room.{books_of, clients_of, paths_of}
use Rattle.rb_core.proofs.copies.has_many_to_forget.Goals as goal

pub returns-in-Some : goal.returns-in-Some
returns-in-Some g c =
    c.has_many_to_forget.ensures
    ∙ (λ i. has_many_to_forget c.args.least (record {
      window = sym c.in-Some.is i;
      books = books_of (c.as_slice.ensures.value i);
      clients = clients_of (c.as_slice-in-Some.ensures.value i);
      paths = paths_of (c.as_slice-in-Some-2.ensures.value i);
    }))
