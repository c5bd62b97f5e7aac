use Rattle.std.proofs.Common.{◌≡◌, true}
use Rattle.std.proofs.lemmas.Result.{on_ok_weaker}
use Rattle.rb_book.specs.Shared.{Shared}
use Rattle.rb_core_state.proofs.Places.{for_found, kept_at, seen_same}
use Rattle.rb_core_state.proofs.books.set_apart.Goals as goal

pub returns-clause-same : goal.returns-clause-same
returns-clause-same g c =
    seen_same (λ (s : Shared). s.book) c.args.books.now.items c.args.chain c.index_mut.result.now c.set_apart.new.self c.requires c.index_mut.ensures.value c.set_apart.ensures.book

pub returns-clause-apart : goal.returns-clause-apart
returns-clause-apart g c =
    on_ok_weaker c.set_apart.result (for_found (λ (s : Shared). s.apart ≡ true) c.args.books.now.items c.args.chain c.set_apart.new.self c.requires) c.set_apart.ensures.apart

pub returns-clause-kept : goal.returns-clause-kept
returns-clause-kept g c =
    kept_at (λ (s : Shared). s.apart ≡ true) c.args.books.now.items c.args.chain c.index_mut.result.now c.set_apart.new.self c.index_mut.ensures.value c.set_apart.ensures.kept
